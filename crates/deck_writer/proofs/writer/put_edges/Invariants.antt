-- The numbers of the edges from k on are left to be written.
use lib.ListN.{drop}
use Rattle.timing.specs.Decks.{edge_numbers}
use Rattle.packed_lists.specs.Writing.{Left}
use Rattle.deck_writer.proofs.writer.put_edges.Given as goal

abbrev pub invariant-loop-k : goal.invariant-loop-k
invariant-loop-k l =
    Left l.initial.room l.initial.at (edge_numbers l.starts l.ends l.early l.late) l.room l.at (edge_numbers (drop l.k l.starts) (drop l.k l.ends) (drop l.k l.early) (drop l.k l.late))
