-- `write_row` meets its contract. The invariant: the edges of the row before q are written.
use Rattle.removal.proofs.Filling.FlagRows.{RowSoFar}
use Rattle.removal.proofs.fill.write_row.Given as goal

abbrev pub invariant-loop-q : goal.invariant-loop-q
invariant-loop-q l = RowSoFar l.l l.scratch l.p0 l.number l.initial.room_from l.initial.room_to l.initial.room_via l.room_from l.room_to l.room_via l.k l.at l.q
