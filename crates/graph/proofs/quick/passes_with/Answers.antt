-- The edges pass, and the copies end where they may; the flags hold what the lists say.
use Rattle.graph.proofs.Found.{found}
use Rattle.graph.proofs.quick.passes_with.Goals as goal

pub returns : goal.returns
returns c =
    let a = c.args in
    let p = c.requires in
    let f = c.set_node_flags.ensures in
    λ e.
    let q = c.copies_end.ensures e in
    found a.n a.starts.now a.ends.now a.marked.now a.nodes.now a.endpoint.now a.from.now a.to.now a.via.now _ _ _ a.cout.now
    a.nin.now a.nout.now a.nmarked.now a.entered p.0 p.4 p.1 f.0 p.2 f.1 p.3 f.2 q.0 q.1
