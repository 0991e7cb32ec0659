-- `fill_all` meets its contract. The invariant: the shown slots of the copies before c are written.
use Rattle.removal.specs.Fill.{Filled, slots_below}
use Rattle.removal.proofs.fill.fill_all.Given as goal

abbrev pub invariant-loop-c : goal.invariant-loop-c
invariant-loop-c l =
    Filled l.l l.nodes l.endpoint l.initial.scratch l.scratch 0 0 0 0 l.c 0 l.counts.copies l.counts.edges (slots_below l.l l.initial.scratch l.c) l.initial.room_nodes l.initial.room_endpoint l.initial.room_from l.initial.room_to l.initial.room_via l.room_nodes l.room_endpoint l.room_from l.room_to l.room_via
