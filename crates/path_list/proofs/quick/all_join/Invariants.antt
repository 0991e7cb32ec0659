-- What is left of the flat list starts where path k does, and the edges of each path before it join.
use Prim.Native.Nat.{ℕ, ◌<◌}
use mathlib.Core.Path.{◌≡◌}
use mathlib.Core.List.{List, []}
use Rattle.std.specs.Prelude.{None}
use lib.ListN.{get_or, take, drop}
use Rattle.timing.specs.Graphs.{design}
use Rattle.timing.specs.Tests.{meets, first_break}
use Rattle.path_list.proofs.Laws.{offset}
use Rattle.path_list.proofs.quick.all_join.Given as goal

-- the edges of path p join
abbrev pub Joined : List ℕ → List ℕ → List ℕ → List ℕ → ℕ → Type 0
Joined starts ends listed lengths p =
    first_break (meets (design 0 starts ends [] [] [])) 0 (take (get_or lengths p 0) (drop (offset lengths p) listed)) ≡ None

abbrev pub invariant-loop-k : goal.invariant-loop-k
invariant-loop-k l =
    (l.rest ≡ drop (offset l.lengths l.k-index) l.listed) × ((q : ℕ) → q < l.k-index → Joined l.starts l.ends l.listed l.lengths q)
