use native.Mathlib.Omega.{arith}
use Rattle.packed_lists.proofs.Writing.{left_fits, left_turn, left_none}
use Rattle.graph_writer.proofs.Writing.{rows_turn, rows_done}
use Rattle.graph_writer.proofs.writer.put_rows.Goals as goal

pub put_row-at-requires : goal.put_row-at-requires
put_row-at-requires c =
    let a = c.args in
    left_fits _ _ _ _ _ (rw (rows_turn a.from.now a.to.now a.via.now c.loop-k.k (omega arith) (omega arith) (omega arith)) at c.loop-k.invariant)

pub loop-k-preserved : goal.loop-k-preserved
loop-k-preserved c =
    let a = c.args in
    left_turn _ _ _ _ _ (rw (rows_turn a.from.now a.to.now a.via.now c.loop-k.k (omega arith) (omega arith) (omega arith)) at c.loop-k.invariant) c.put_row-at.ensures

pub returns : goal.returns
returns c =
    let a = c.args in
    left_none _ _ _ (rw (rows_done a.from.now a.to.now a.via.now c.loop-k.k (omega arith)) at c.loop-k.invariant)
