-- The outer loop: the first broken path of all is the first of the paths from p on, which are what is left of the flat list. The inner
-- one: the edges of the path before i join. The verdict is a refusal only where the search stops.
use Prim.Native.Nat.{ℕ}
use mathlib.Core.Path.{◌≡◌}
use mathlib.Core.Bool.{Bool}
use mathlib.Core.List.{List, []}
use Rattle.std.specs.Prelude.{None}
use lib.ListN.{take, drop}
use Rattle.timing.specs.Answers.{Passed}
use Rattle.timing.specs.Refusals.{first_fault}
use Rattle.timing.specs.Graphs.{design}
use Rattle.timing.specs.Marks.{cut}
use Rattle.timing.specs.Tests.{meets, first_break}
use Rattle.path_list.proofs.paths.joined.Given as goal

-- whether two edges join, by as much of the design as is read
abbrev pub meet : List ℕ → List ℕ → ℕ → ℕ → Bool
meet starts ends = meets (design 0 starts ends [] [] [])

abbrev pub invariant-loop-i : goal.invariant-loop-i
invariant-loop-i l = (l.verdict ≡ Passed) × (first_break (meet l.starts l.ends) 0 (take l.i l.path) ≡ None)

abbrev pub invariant-paths : goal.invariant-paths
invariant-paths l =
    (l.verdict ≡ Passed)
    × (first_fault 24 (first_break (meet l.starts l.ends) 0) l.p (cut l.rest (drop l.p l.lengths)) ≡ first_fault 24 (first_break (meet l.starts l.ends) 0) 0 (cut l.listed l.lengths))
