-- The numbers of the paths that are left, whose edges begin at `from`, are left to be written.
use Prim.Native.Nat.{◌+◌}
use mathlib.Core.Path.{◌≡◌}
use mathlib.Core.List.{flat_map}
use lib.ListN.{length, drop}
use Rattle.timing.specs.Lists.{sum}
use Rattle.timing.specs.Marks.{cut}
use Rattle.timing.specs.Decks.{path_numbers}
use Rattle.packed_lists.specs.Writing.{Left}
use Rattle.deck_writer.proofs.writer.put_paths.Given as goal

abbrev pub invariant-loop-count : goal.invariant-loop-count
invariant-loop-count l =
    (l.from + sum (drop l.count-index l.lengths) ≡ length l.listed)
    × Left l.initial.room l.initial.at (flat_map path_numbers (cut l.listed l.lengths)) l.room l.at (flat_map path_numbers (cut (drop l.from l.listed) (drop l.count-index l.lengths)))
