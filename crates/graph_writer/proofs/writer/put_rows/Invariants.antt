-- The numbers of the edges from k on are left to be written.
use Rattle.packed_lists.specs.Writing.{Left}
use Rattle.graph_writer.specs.Writing.{rows_of, rows_from}
use Rattle.graph_writer.proofs.writer.put_rows.Given as goal

abbrev pub invariant-loop-k : goal.invariant-loop-k
invariant-loop-k l = Left l.initial.room l.initial.at (rows_of l.from l.to l.via) l.room l.at (rows_from l.k l.from l.to l.via)
