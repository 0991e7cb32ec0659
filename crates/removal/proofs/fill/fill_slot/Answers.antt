-- A slot that is not reached or not shown leaves the room as it is; any other is written with the edges into it.
use Prim.Native.Nat.{◌<◌}
use native.Mathlib.Omega.{arith}
use mathlib.Core.Path.{refl}
use lib.ListN.{length}
use Rattle.removal.proofs.Showing.RowSteps.{flag_inside}
use Rattle.removal.proofs.Filling.SlotSteps.{few_numbers, slot_none, row_lent, show_asks, slot_hidden, room_left, edges_room, meets_after, slot_filled}
use Rattle.removal.proofs.fill.fill_slot.Goals as goal
use Rattle.removal.proofs.fill.fill_slot.Goals.{Else-next-number}

pub row_of-row-requires : goal.row_of-row-requires
row_of-row-requires c = row_lent c.requires.filling c.requires.row_held.0 c.requires.row_held.1

pub overflow_add-at-2 : goal.overflow_add-at-2
overflow_add-at-2 c = omega (arith, flag_inside (row_lent c.requires.filling c.requires.row_held.0 c.requires.row_held.1))

pub offset_bounds-scratch-at : goal.offset_bounds-scratch-at
offset_bounds-scratch-at c = omega (arith, flag_inside (row_lent c.requires.filling c.requires.row_held.0 c.requires.row_held.1))

pub bounds-scratch-at : goal.bounds-scratch-at
bounds-scratch-at c = flag_inside (row_lent c.requires.filling c.requires.row_held.0 c.requires.row_held.1)

pub returns-then-scratch-at-eq0 : goal.returns-then-scratch-at-eq0
returns-then-scratch-at-eq0 c = slot_none c.requires.filling c.requires.row_held.0 c.requires.row_held.1 c.if-scratch-at-eq0.true

pub show_slot-next-requires : goal.show_slot-next-requires
show_slot-next-requires c = show_asks c.requires.filling c.requires.row_held.0 c.requires.row_held.1 c.row_of-row.ensures c.if-scratch-at-eq0.false

pub returns-then-next-number : goal.returns-then-next-number
returns-then-next-number c =
    slot_hidden c.requires.filling c.requires.row_held.0 c.requires.row_held.1 c.row_of-row.ensures c.show_slot-next.ensures c.if-next-number.true

-- the next place of both rooms of copies is free
free : (c : Else-next-number) → (c.args.counts.copies < length c.args.room_nodes.now) × (c.args.counts.copies < length c.args.room_endpoint.now)
free c = room_left c.requires.filling c.requires.row_held.0 c.requires.row_held.1 c.row_of-row.ensures c.show_slot-next.ensures c.if-next-number.false

pub offset_bounds-room_nodes-number : goal.offset_bounds-room_nodes-number
offset_bounds-room_nodes-number c = omega (arith, (free (goal.at.offset_bounds-room_nodes-number c).Else-next-number).0)

pub bounds-room_nodes-number : goal.bounds-room_nodes-number
bounds-room_nodes-number c = (free (goal.at.bounds-room_nodes-number c).Else-next-number).0

pub offset_bounds-room_endpoint-number : goal.offset_bounds-room_endpoint-number
offset_bounds-room_endpoint-number c = omega (arith, (free (goal.at.offset_bounds-room_endpoint-number c).Else-next-number).1)

pub bounds-room_endpoint-number : goal.bounds-room_endpoint-number
bounds-room_endpoint-number c = (free (goal.at.bounds-room_endpoint-number c).Else-next-number).1

pub overflow_cast-number : goal.overflow_cast-number
overflow_cast-number c = omega (arith, few_numbers c.requires.filling c.requires.row_held.0 c.requires.row_held.1)

pub fill_edges-requires-clause-edges_room : goal.fill_edges-requires-clause-edges_room
fill_edges-requires-clause-edges_room c =
    edges_room c.requires.filling c.requires.row_held.0 c.requires.row_held.1 c.row_of-row.ensures c.show_slot-next.ensures c.if-next-number.false

pub fill_edges-requires-clause-edges_meet : goal.fill_edges-requires-clause-edges_meet
fill_edges-requires-clause-edges_meet c =
    meets_after c.requires.filling c.requires.row_held.0 c.requires.row_held.1 c.row_of-row.ensures c.show_slot-next.ensures

pub returns : goal.returns
returns c =
    slot_filled c.requires.filling c.requires.row_held.0 c.requires.row_held.1 c.row_of-row.ensures c.show_slot-next.ensures c.if-next-number.false
    c.fill_edges.ensures refl c.slot_endpoint.ensures
