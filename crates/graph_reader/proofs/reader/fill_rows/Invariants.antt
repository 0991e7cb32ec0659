-- Each slice is filled below i, and what is left comes from here on.
use Rattle.timing.specs.Looks.{row_at, row_end}
use Rattle.graph_reader.proofs.Filling.{Column}
use Rattle.graph_reader.proofs.reader.fill_rows.Given as goal

abbrev pub invariant-loop-i : goal.invariant-loop-i
invariant-loop-i l =
    Column (row_at l.s) (row_end l.s) (λ q. q.first) l.m l.at l.initial.room_from l.here l.i l.room_from × Column (row_at l.s) (row_end l.s) (λ q. q.second) l.m l.at l.initial.room_to l.here l.i l.room_to × Column (row_at l.s) (row_end l.s) (λ q. q.third) l.m l.at l.initial.room_via l.here l.i l.room_via
