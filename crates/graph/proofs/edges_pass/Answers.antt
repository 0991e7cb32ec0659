use native.Mathlib.Omega.{arith}
use mathlib.Core.Path.{sym, ◌∙◌}
use Rattle.graph.proofs.Walk.{bad_here, good_here}
use Rattle.graph.proofs.Flags.{flags_next}
use Rattle.graph.proofs.Keys.{lowest_next, passes_is}
use Rattle.graph.proofs.edges_pass.Goals as goal

pub returns-then-not-edge_passes : goal.returns-then-not-edge_passes
returns-then-not-edge_passes c =
    let a = c.args in
    let is = passes_is a.starts.now a.ends.now a.nodes.now a.from.now a.to.now a.via.now (λ j. omega (arith, c.type_inv.via j)) c.loop-i.i c.loop-i.lowest c.loop-i.invariant.0 in
    let no = sym (c.edge_passes.ensures ∙ is) ∙ c.if-not-edge_passes.true in
    let all = sym c.loop-i.invariant.1 ∙ bad_here _ c.loop-i.i _ c.loop-i-test.true no in
    (rw (← c.edge_count-m.ensures) (sym all), λ f. absurd f, λ f. absurd f)

pub loop-i-preserved : goal.loop-i-preserved
loop-i-preserved c =
    let a = c.args in
    let is = passes_is a.starts.now a.ends.now a.nodes.now a.from.now a.to.now a.via.now (λ j. omega (arith, c.type_inv.via j)) c.loop-i.i c.loop-i.lowest c.loop-i.invariant.0 in
    let yes = sym (c.edge_passes.ensures ∙ is) ∙ c.if-not-edge_passes.false in (
      c.key_after-lowest.ensures ∙ sym (lowest_next a.to.now a.via.now c.loop-i.i),
      good_here _ c.loop-i.i _ c.loop-i-test.true yes ∙ c.loop-i.invariant.1,
      rw c.set_joined.ensures.0 (flags_next a.cin.now c.loop-i.cin a.to.now c.loop-i.i c.loop-i.invariant.2),
      rw c.set_joined.ensures.1 (flags_next a.cout.now c.loop-i.cout a.from.now c.loop-i.i c.loop-i.invariant.3),
    )
