-- The total so far and the size of the delays from k on are the size of all; it is at most five for each delay passed.
use Prim.Native.Nat.{◌+◌, ◌*◌, ◌≤◌}
use mathlib.Core.Path.{◌≡◌}
use mathlib.Core.List.{map}
use lib.ListN.{drop}
use Rattle.timing.specs.Delays.{packed_delay}
use Rattle.packed_lists.specs.Writing.{size}
use Rattle.deck_writer.proofs.writer.delays_size.Given as goal

abbrev pub invariant-loop-k : goal.invariant-loop-k
invariant-loop-k l =
    (l.total ≤ 5 * l.k) × (l.total + size (map packed_delay (drop l.k l.s)) ≡ size (map packed_delay l.s))
