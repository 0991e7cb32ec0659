use native.Mathlib.Omega.{arith}
use Rattle.packed_lists.proofs.Writing.{left_fits, left_turn, left_none}
use Rattle.deck_writer.proofs.Tests.{sum_drop}
use Rattle.deck_writer.proofs.Writing.{paths_turn, paths_done}
use Rattle.deck_writer.proofs.writer.put_paths.Goals as goal

pub put_counted-at-requires-clause-s_in_bounds : goal.put_counted-at-requires-clause-s_in_bounds
put_counted-at-requires-clause-s_in_bounds c =
    let a = c.args in
    let l = c.loop-count in
    left_fits _ _ _ _ _ (rw (paths_turn a.listed.now a.lengths.now l.from l.count-index (omega arith)) at l.invariant.1)

pub loop-count-preserved : goal.loop-count-preserved
loop-count-preserved c =
    let a = c.args in
    let l = c.loop-count in
    (omega (arith, l.invariant.0, sum_drop a.lengths.now l.count-index (omega arith)), left_turn _ _ _ _ _ (rw (paths_turn a.listed.now a.lengths.now l.from l.count-index (omega arith)) at l.invariant.1) c.put_counted-at.ensures)

pub returns : goal.returns
returns c =
    let a = c.args in
    left_none _ _ _ (rw (paths_done a.listed.now a.lengths.now c.loop-count.from c.loop-count.count-index (omega arith)) at c.loop-count.invariant.1)
