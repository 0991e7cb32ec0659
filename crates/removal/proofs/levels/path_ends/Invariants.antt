-- The invariant: `at` is where the paths before k end, and these have their words.
use Prim.Native.Nat.{ℕ}
use mathlib.Core.Path.{◌≡◌}
use lib.ListN.{take}
use Rattle.timing.specs.Lists.{sum}
use Rattle.theorems.proofs.Elements.{Done}
use Rattle.removal.specs.Levels.{end_of}
use Rattle.removal.proofs.levels.path_ends.Given as goal

abbrev pub invariant-loop-k : goal.invariant-loop-k
invariant-loop-k l =
    (l.at ≡ sum (take l.k l.lengths))
    × Done 0 (end_of l.lengths) l.k l.initial.ends l.ends
    × Done 0 (λ (j : ℕ). j) l.k l.initial.who l.who
