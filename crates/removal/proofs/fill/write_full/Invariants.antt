-- `write_full` meets its contract. The invariant: the first i edges of the row are written.
use Prim.Native.Nat.{◌+◌}
use Rattle.removal.proofs.Filling.FlagRows.{RowSoFar}
use Rattle.removal.proofs.fill.write_full.Given as goal

abbrev pub invariant-loop-i : goal.invariant-loop-i
invariant-loop-i l =
    RowSoFar l.l l.scratch l.p0 l.number l.initial.room_from l.initial.room_to l.initial.room_via l.room_from l.room_to l.room_via l.k (l.k + l.i) (l.p0 + l.i)
