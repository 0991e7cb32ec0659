use mathlib.Core.List.{[]}
use mir.Syntax.{w32}
use mir.Val.{SFits}
use mir.Facts.{to_z-of_z}
use borrow.Author.Count.{below_more}
use Rattle.timing.specs.Graphs.{design, edge_early, edge_late}
use Rattle.timing.proofs.Verdicts.{both_true}
use Rattle.design.proofs.quick.edges_pass.Invariants.{Fine}
use Rattle.design.proofs.quick.edges_pass.Goals as goal

pub loop-k-preserved : goal.loop-k-preserved
loop-k-preserved c =
    let a = c.args in
    let k = c.loop-k.k in
    let D = design a.n a.starts.now a.ends.now a.early.now a.late.now [] in
    let early : SFits w32 (edge_early D k) = record { sfits = c.edge_passes-arg-1.given } in
    let late : SFits w32 (edge_late D k) = record { sfits = c.edge_passes-arg-in-loop-k-1.given } in
    λ e.
    let both = both_true c.loop-k.pass c.edge_passes-pass.result e in
    below_more (Fine D) k (c.loop-k.invariant both.0)
    (rw (to_z-of_z early, to_z-of_z late) at (c.edge_passes-pass.ensures both.1))
