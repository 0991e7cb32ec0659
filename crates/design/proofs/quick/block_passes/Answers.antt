use native.Mathlib.Omega.{arith}
use mathlib.Core.Path.{◌≡◌}
use mathlib.Core.Bool.{false}
use mathlib.Core.List.{[]}
use Prim.Native.Nat.{ℕ, ◌≤◌}
use borrow.Author.Count.{below_more}
use Rattle.timing.specs.Graphs.{design}
use Rattle.timing.specs.Tests.{wrong_marked}
use Rattle.timing.proofs.Verdicts.{both_true}
use Rattle.design.proofs.Passes.{next_fine}
use Rattle.design.proofs.quick.block_passes.Goals as goal

pub loop-k-preserved : goal.loop-k-preserved
loop-k-preserved c =
    let a = c.args in
    let k = c.loop-k.k in
    λ e j g l.
    let both = both_true c.loop-k.pass c.node_passes-pass.result e in
    let fine = c.node_passes-pass.ensures both.1 in
    below_more (λ (i : ℕ). a.from ≤ i → wrong_marked (design a.n [] [] [] [] a.marked.now) i ≡ false) k
    (λ i m h. c.loop-k.invariant both.0 i h m)
    (λ h. next_fine a.n a.marked.now k (omega arith) fine.0 fine.1)
    j l g
