-- Where all marked nodes up to k pass, each one from the first of the block to before k passes.
use Prim.Native.Nat.{ℕ, ◌≤◌, ◌<◌}
use mathlib.Core.Path.{◌≡◌}
use mathlib.Core.Bool.{true, false}
use mathlib.Core.List.{[]}
use Rattle.timing.specs.Graphs.{design}
use Rattle.timing.specs.Tests.{wrong_marked}
use Rattle.design.proofs.quick.block_passes.Given as goal

abbrev pub invariant-loop-k : goal.invariant-loop-k
invariant-loop-k l =
    let D = design l.n [] [] [] [] l.marked in
    l.pass ≡ true → (j : ℕ) → l.from ≤ j → j < l.k → wrong_marked D j ≡ false
