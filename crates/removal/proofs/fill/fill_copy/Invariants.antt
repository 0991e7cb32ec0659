-- `fill_copy` meets its contract. The invariant: the shown slots of the copy before j are written, and the row of slot 0 is at hand.
use Rattle.removal.specs.Fill.{Filled, RowHeld, slots_to}
use Rattle.removal.proofs.fill.fill_copy.Given as goal

abbrev pub invariant-loop-j : goal.invariant-loop-j
invariant-loop-j l =
    Filled l.l l.nodes l.endpoint l.initial.scratch l.scratch l.c 0 l.initial.so_far.copies l.initial.so_far.edges l.c l.j l.so_far.copies l.so_far.edges (slots_to l.c l.j) l.initial.room_nodes l.initial.room_endpoint l.initial.room_from l.initial.room_to l.initial.room_via l.room_nodes l.room_endpoint l.room_from l.room_to l.room_via
    × RowHeld l.l l.scratch l.pos l.c l.p0 l.p1 l.defaults
