-- The numbers of the copies from k on are left to be written.
use lib.ListN.{drop}
use Rattle.timing.specs.GraphBytes.{copy_numbers}
use Rattle.packed_lists.specs.Writing.{Left}
use Rattle.graph_writer.proofs.writer.put_copies.Given as goal

abbrev pub invariant-loop-k : goal.invariant-loop-k
invariant-loop-k l = Left l.initial.room l.initial.at (copy_numbers l.nodes l.endpoint) l.room l.at (copy_numbers (drop l.k l.nodes) (drop l.k l.endpoint))
