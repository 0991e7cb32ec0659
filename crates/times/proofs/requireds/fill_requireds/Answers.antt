use Prim.Native.Nat.{ℕ, ◌+◌, ◌-◌}
use native.Mathlib.Omega.{arith}
use mathlib.Core.Path.{◌≡◌, ◌∙◌, ap}
use mathlib.Core.List.{map}
use lib.IntN.{pos}
use lib.ListN.{length, get_or}
use Rattle.timing.specs.Lists.{upto}
use Rattle.timing.specs.Calls.{graph_slices}
use Rattle.timing.proofs.Ints.{read_back}
use Rattle.times.specs.Passes.{first_required}
use Rattle.times.proofs.Passes.{lowers_in, lowered_next, left_none, requireds_settled}
use Rattle.times.proofs.requireds.fill_requireds.Goals as goal

pub loop-k-init : goal.loop-k-init
loop-k-init c =
    let s = c.signed in
    let a = c.args in
    let S = graph_slices a.nodes.now a.endpoint.now a.from.now a.to.now a.via.now in
    c.first_requireds.ensures
    ∙ rw (read_back s.result s.type_inv, s.ensures)
    (ap (λ (n : ℕ). map (λ (i : ℕ). first_required (get_or a.endpoint.now i 0) (pos a.allowed)) (upto n 0)) c.requires.as_long.1
    ∙ left_none a.delays.now S c.requires.fit.0 c.requires.fit.1 a.allowed c.requires.as_long.0 (length a.from.now) (omega arith))

pub lower_edge-requires : goal.lower_edge-requires
lower_edge-requires c =
    let a = c.args in
    let S = graph_slices a.nodes.now a.endpoint.now a.from.now a.to.now a.via.now in
    let e : c.loop-k.k ≡ c.loop-k.k - 1 + 1 = omega arith in
    rw (rw e at c.loop-k.invariant) (lowers_in a.delays.now S c.requires.fit.0 c.requires.fit.1 a.allowed c.requires.as_long.0 (c.loop-k.k - 1) (omega arith))

pub loop-k-preserved : goal.loop-k-preserved
loop-k-preserved c =
    let a = c.args in
    let S = graph_slices a.nodes.now a.endpoint.now a.from.now a.to.now a.via.now in
    let e : c.loop-k.k ≡ c.loop-k.k - 1 + 1 = omega arith in
    c.lower_edge.ensures
    ∙ rw (rw e at c.loop-k.invariant) (lowered_next a.delays.now S c.requires.fit.0 c.requires.fit.1 a.allowed c.requires.as_long.0 (c.loop-k.k - 1) (omega arith))

pub returns : goal.returns
returns c =
    let a = c.args in
    let S = graph_slices a.nodes.now a.endpoint.now a.from.now a.to.now a.via.now in
    let e : c.loop-k.k ≡ 0 = omega arith in
    rw e at c.loop-k.invariant ∙ requireds_settled a.delays.now S c.requires.fit.0 c.requires.fit.1 a.allowed c.requires.as_long.0
