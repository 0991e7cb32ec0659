-- The four parts, one after the other.
use Rattle.packed_lists.proofs.Writing.{wrote_both}
use Rattle.graph_writer.proofs.Writing.{graph_numbers_lem}
use Rattle.graph_writer.proofs.writer.put_graph.Goals as goal

pub returns : goal.returns
returns c =
    let a = c.args in
    let f = c.requires.0 in
    rw (graph_numbers_lem a.nodes.now a.endpoint.now a.from.now a.to.now a.via.now f.ends f.names)
    (wrote_both _ _ (wrote_both _ _ (wrote_both _ _ c.put-at.ensures c.put_copies-at.ensures) c.put-at-2.ensures) c.put_rows.ensures)
