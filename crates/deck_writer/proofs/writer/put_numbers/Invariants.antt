-- The numbers that are left are left to be written.
use lib.ListN.{drop}
use Rattle.packed_lists.specs.Writing.{Left}
use Rattle.deck_writer.proofs.writer.put_numbers.Given as goal

abbrev pub invariant-loop-x : goal.invariant-loop-x
invariant-loop-x l = Left l.initial.room l.initial.at l.s l.room l.at (drop l.x-index l.s)
