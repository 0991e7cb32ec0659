-- The marked nodes before the one at `passed` pass, and there is one of them at least.
use Prim.Native.Nat.{ℕ, ◌-◌, ◌≤◌, ◌<◌}
use mathlib.Core.Path.{◌≡◌}
use mathlib.Core.Bool.{false}
use mathlib.Core.List.{[]}
use lib.ListN.{length}
use Rattle.timing.specs.Graphs.{design}
use Rattle.timing.specs.Tests.{wrong_marked}
use Rattle.design.proofs.quick.marked_passed.Given as goal

abbrev pub invariant-loop-passed : goal.invariant-loop-passed
invariant-loop-passed l =
    let D = design l.n [] [] [] [] l.marked in
    (1 ≤ l.passed) × (l.passed ≤ length l.marked) × ((k : ℕ) → k < l.passed → wrong_marked D k ≡ false)

abbrev pub decreases-loop-passed : goal.decreases-loop-passed
decreases-loop-passed l = length l.marked - l.passed
