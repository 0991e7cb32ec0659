-- The total and what is left add up to the size of all; it is at most five for each number passed, so that no sum wraps.
use Prim.Native.Nat.{◌+◌, ◌*◌, ◌≤◌}
use mathlib.Core.Path.{◌≡◌}
use mathlib.Core.List.{flat_map}
use lib.ListN.{length, drop}
use Rattle.timing.specs.Numbers.{packed}
use Rattle.packed_lists.proofs.block_size.Given as goal

abbrev pub invariant-loop-x : goal.invariant-loop-x
invariant-loop-x l = (l.total ≤ 5 * l.x-index) × (l.total + length (flat_map packed (drop l.x-index l.s)) ≡ length (flat_map packed l.s))
