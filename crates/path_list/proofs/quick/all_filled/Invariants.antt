-- The total is the offset of path k, and where no length is 0 so far each path before it has edges. A total of at most 1,024 numbers fits.
use Prim.Native.Nat.{ℕ, ◌*◌, ◌≤◌, ◌<◌}
use mathlib.Core.Path.{◌≡◌}
use mathlib.Core.Bool.{true}
use lib.ListN.{get_or}
use Rattle.path_list.proofs.Laws.{offset}
use Rattle.path_list.proofs.quick.all_filled.Given as goal

abbrev pub invariant-loop-k : goal.invariant-loop-k
invariant-loop-k l =
    (l.total ≡ offset l.lengths l.k-index)
    × (l.total ≤ 4294967295 * l.k-index)
    × (l.filled ≡ true → (q : ℕ) → q < l.k-index → 0 < get_or l.lengths q 0)
