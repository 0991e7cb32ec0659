use Prim.Native.Nat.{◌+◌, ◌<◌}
use native.Mathlib.Omega.{arith}
use mathlib.Core.Path.{◌≡◌, refl}
use lib.ListN.{length}
use Rattle.removal.specs.Fill.{comes_at}
use Rattle.removal.proofs.Filling.FlagRows.{edge_room, edge_write}
use Rattle.removal.proofs.fill.write_full.Goals as goal
use Rattle.removal.proofs.fill.write_full.Goals.{In-loop-i}

-- the edge of this turn comes from a shown slot
some : (c : In-loop-i) → comes_at c.args.l c.args.scratch.now (c.args.p0 + c.loop-i.i) ≡ 0 → ⊥
some c = c.requires.row_full (c.args.p0 + c.loop-i.i) (omega arith) (omega arith)

-- and the next place of each room is free
free : (c : In-loop-i) → (c.args.k + c.loop-i.i < length c.loop-i.room_from) × (c.args.k + c.loop-i.i < length c.loop-i.room_to) × (c.args.k + c.loop-i.i < length c.loop-i.room_via)
free c = edge_room c.requires.row_read c.loop-i.invariant (omega arith) (omega arith) (some c)

pub overflow_sub-room_from : goal.overflow_sub-room_from
overflow_sub-room_from c =
    let e : c.args.l.comes + c.args.p0 + c.loop-i.i ≡ c.args.l.comes + (c.args.p0 + c.loop-i.i) = omega arith in
    rw e (c.requires.row_read.two (c.args.p0 + c.loop-i.i) (omega arith) (omega arith) (some (goal.at.overflow_sub-room_from c).In-loop-i))

pub bounds-room_from-k : goal.bounds-room_from-k
bounds-room_from-k c = (free (goal.at.bounds-room_from-k c).In-loop-i).0

pub bounds-room_to-k : goal.bounds-room_to-k
bounds-room_to-k c = (free (goal.at.bounds-room_to-k c).In-loop-i).1

pub bounds-room_via-k : goal.bounds-room_via-k
bounds-room_via-k c = (free (goal.at.bounds-room_via-k c).In-loop-i).2

pub loop-i-preserved : goal.loop-i-preserved
loop-i-preserved c =
    let a = c.args in
    let i = c.loop-i.i in
    let next : a.p0 + (i + 1) ≡ a.p0 + i + 1 = omega arith in
    let comes : a.l.comes + a.p0 + i ≡ a.l.comes + (a.p0 + i) = omega arith in
    let name : a.l.name + a.p0 + i ≡ a.l.name + (a.p0 + i) = omega arith in
    rw (next, comes, name)
    (edge_write c.requires.row_read c.loop-i.invariant (omega arith) (omega arith) (some (goal.at.loop-i-preserved c).In-loop-i) refl refl refl (omega arith))
