-- The edges are tested, and then the copies, by flags that hold what the lists say.
use Prim.Native.Nat.{min}
use mathlib.Core.Path.{sym, ◌∙◌}
use mathlib.Core.Bool.{true, false}
use lib.ListN.{length}
use Rattle.theorems.proofs.Lists.{holds}
use Rattle.graph.specs.Passes.{edge_count, stands}
use Rattle.graph.proofs.Flags.{flags_clear, copies_agree}
use Rattle.graph.proofs.WellFormed.{formed_by}
use Rattle.graph.proofs.formed_with.Goals as goal

pub returns-then-not-edges_pass : goal.returns-then-not-edges_pass
returns-then-not-edges_pass c =
    let a = c.args in
    formed_by a.n a.starts.now a.ends.now a.marked.now a.nodes.now a.endpoint.now a.from.now a.to.now a.via.now c.requires.0 false (sym c.if-not-edges_pass.true ∙ c.edges_pass.ensures.0)

pub returns : goal.returns
returns c =
    let f = c.set_node_flags.ensures in
    let a = c.args in
    let p = c.requires in
    let d = min (length a.starts.now) (length a.ends.now) in
    let m = edge_count a.from.now a.to.now a.via.now in
    let marks = length a.marked.now in
    let copies = length a.nodes.now in
    let e = c.if-not-edges_pass.false in
    let set = c.edges_pass.ensures in
    c.copies_pass.ensures
    ∙ copies_agree a.n a.nodes.now a.endpoint.now _ _ _ _ _
    (stands a.ends.now d) (stands a.starts.now d) (stands a.marked.now marks) (stands a.to.now m) (stands a.from.now m)
    (flags_clear a.n a.nin.now a.ends.now d _ p.1 f.0)
    (flags_clear a.n a.nout.now a.starts.now d _ p.2 f.1)
    (flags_clear a.n a.nmarked.now a.marked.now marks _ p.3 f.2)
    (flags_clear copies a.cin.now a.to.now m _ p.4 (set.1 (holds _ e)))
    (flags_clear copies a.cout.now a.from.now m _ p.5 (set.2 (holds _ e)))
    ∙ formed_by a.n a.starts.now a.ends.now a.marked.now a.nodes.now a.endpoint.now a.from.now a.to.now a.via.now p.0 true (sym e ∙ set.0)
