use native.Mathlib.Omega.{arith}
use Rattle.packed_lists.proofs.Writing.{left_fits, left_turn, left_none}
use Rattle.deck_writer.proofs.Writing.{edges_turn, edges_done}
use Rattle.deck_writer.proofs.writer.put_edges.Goals as goal

pub put_row-at-requires : goal.put_row-at-requires
put_row-at-requires c =
    let a = c.args in
    rw (c.delay_number.ensures, c.delay_number-in-loop-k.ensures)
    (left_fits _ _ _ _ _ (rw (edges_turn a.starts.now a.ends.now a.early.now a.late.now c.loop-k.k (omega arith) (omega arith) (omega arith) (omega arith)) at c.loop-k.invariant))

pub loop-k-preserved : goal.loop-k-preserved
loop-k-preserved c =
    let a = c.args in
    left_turn _ _ _ _ _ (rw (edges_turn a.starts.now a.ends.now a.early.now a.late.now c.loop-k.k (omega arith) (omega arith) (omega arith) (omega arith)) at c.loop-k.invariant)
    (rw (c.delay_number.ensures, c.delay_number-in-loop-k.ensures) at c.put_row-at.ensures)

pub returns : goal.returns
returns c =
    let a = c.args in
    left_none _ _ _ (rw (edges_done a.starts.now a.ends.now a.early.now a.late.now c.loop-k.k (omega arith)) at c.loop-k.invariant)
