-- The total and what is left add up to the size of all; it is at most five for each number passed, so that no sum wraps.
use Prim.Native.Nat.{◌+◌, ◌*◌, ◌≤◌}
use mathlib.Core.Path.{◌≡◌}
use mathlib.Core.List.{flat_map}
use lib.ListN.{length}
use Rattle.timing.specs.Numbers.{packed}
use Rattle.packed_lists.proofs.numbers_size.Given as goal

abbrev pub invariant-loop-block : goal.invariant-loop-block
invariant-loop-block l = (l.block-iterator.size ≡ 4096) × (l.total + 5 * length l.block-iterator.rest.now ≤ 5 * length l.s)
    × (l.total + length (flat_map packed l.block-iterator.rest.now) ≡ length (flat_map packed l.s))
