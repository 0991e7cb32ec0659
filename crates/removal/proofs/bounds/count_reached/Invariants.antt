-- The invariant: of the slots before this one, so many are reached.
use Prim.Native.Nat.{ℕ, ◌+◌, ◌≤◌}
use mathlib.Core.Path.{◌≡◌}
use mathlib.Core.List.{List}
use lib.Dec.{ltb}
use lib.ListN.{get_or}
use Rattle.timing.specs.Lists.{count_of, upto}
use Rattle.removal.proofs.bounds.count_reached.Given as goal

abbrev pub reachedFrom : List ℕ → ℕ → ℕ → ℕ
reachedFrom s from j = count_of (λ i. ltb 0 (get_or s (from + i) 0)) (upto j 0)

abbrev pub invariant-loop-flag : goal.invariant-loop-flag
invariant-loop-flag l = (l.count ≤ l.flag-index) × (l.count ≡ reachedFrom l.scratch l.from l.flag-index)
