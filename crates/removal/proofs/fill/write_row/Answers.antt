use Prim.Native.Nat.{◌<◌}
use native.Mathlib.Omega.{arith}
use lib.ListN.{length}
use Rattle.removal.proofs.Filling.FlagRows.{edge_skip, edge_room, edge_write}
use Rattle.removal.proofs.fill.write_row.Goals as goal
use Rattle.removal.proofs.fill.write_row.Goals.{Then-v-ne0, then-v-ne0, else-v-ne0}

-- the next place of each room is free
free : (c : Then-v-ne0) → (c.loop-q.at < length c.loop-q.room_from) × (c.loop-q.at < length c.loop-q.room_to) × (c.loop-q.at < length c.loop-q.room_via)
free c = edge_room c.requires c.loop-q.invariant (omega arith) c.loop-q-test.true c.if-v-ne0.true

pub offset_bounds-room_from-at : goal.offset_bounds-room_from-at
offset_bounds-room_from-at c = omega (arith, (free (goal.at.offset_bounds-room_from-at c).Then-v-ne0).0)

pub bounds-room_from-at : goal.bounds-room_from-at
bounds-room_from-at c = (free (goal.at.bounds-room_from-at c).Then-v-ne0).0

pub offset_bounds-room_to-at : goal.offset_bounds-room_to-at
offset_bounds-room_to-at c = omega (arith, (free (goal.at.offset_bounds-room_to-at c).Then-v-ne0).1)

pub bounds-room_to-at : goal.bounds-room_to-at
bounds-room_to-at c = (free (goal.at.bounds-room_to-at c).Then-v-ne0).1

pub offset_bounds-room_via-at : goal.offset_bounds-room_via-at
offset_bounds-room_via-at c = omega (arith, (free (goal.at.offset_bounds-room_via-at c).Then-v-ne0).2)

pub bounds-room_via-at : goal.bounds-room_via-at
bounds-room_via-at c = (free (goal.at.bounds-room_via-at c).Then-v-ne0).2

pub overflow_add-at : goal.overflow_add-at
overflow_add-at c = omega (arith, (free (goal.at.overflow_add-at c).Then-v-ne0).0)

pub loop-q-preserved : goal.loop-q-preserved
loop-q-preserved c =
    elim c.if-v-ne0.branch [
      | then-v-ne0 w ↦
          edge_write c.requires c.loop-q.invariant (omega arith) c.loop-q-test.true w.if-v-ne0.true w.room_from-is w.room_to-is w.room_via-is w.at-is
      | else-v-ne0 w ↦
          edge_skip c.requires c.loop-q.invariant (omega arith) c.loop-q-test.true w.if-v-ne0.false w.room_from-is w.room_to-is w.room_via-is w.at-is
    ]
