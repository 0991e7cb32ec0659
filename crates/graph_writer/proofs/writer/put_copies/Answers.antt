use native.Mathlib.Omega.{arith}
use Rattle.packed_lists.proofs.Writing.{left_fits, left_turn, left_none}
use Rattle.graph_writer.proofs.Writing.{copies_turn, copies_done}
use Rattle.graph_writer.proofs.writer.put_copies.Goals as goal

pub put_copy-at-requires : goal.put_copy-at-requires
put_copy-at-requires c =
    let a = c.args in
    left_fits _ _ _ _ _ (rw (copies_turn a.nodes.now a.endpoint.now c.loop-k.k (omega arith) (omega arith)) at c.loop-k.invariant)

pub loop-k-preserved : goal.loop-k-preserved
loop-k-preserved c =
    let a = c.args in
    left_turn _ _ _ _ _ (rw (copies_turn a.nodes.now a.endpoint.now c.loop-k.k (omega arith) (omega arith)) at c.loop-k.invariant) c.put_copy-at.ensures

pub returns : goal.returns
returns c =
    let a = c.args in
    left_none _ _ _ (rw (copies_done a.nodes.now a.endpoint.now c.loop-k.k (omega arith)) at c.loop-k.invariant)
