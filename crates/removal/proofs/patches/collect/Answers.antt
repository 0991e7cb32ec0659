-- The class of the mark is read, the patches are gathered along its chain, and what is seen is forgotten.
use Prim.Native.Nat.{◌+◌, ◌<◌}
use native.Mathlib.Omega.{arith}
use lib.ListN.{length, get_or}
use Rattle.removal.proofs.Patching.GatherLaws.{row_searching, row_room, row_mark, row_forgettable, row_collected}
use Rattle.removal.proofs.patches.collect.Goals as goal
use Rattle.removal.proofs.patches.collect.Goals.{Start}

-- the class of the mark is in the tables
room : (c : Start) → c.args.l.lists.marks + (get_or c.args.scratch.now (c.args.l.first + c.args.c) 0 + c.args.j) < length c.args.scratch.now
room c = let a = c.args in (row_room a.l a.scratch.now a.pos.now a.c a.j a.p0 a.p1 c.requires.0 c.requires.1).1

pub overflow_add-f : goal.overflow_add-f
overflow_add-f c = omega (arith, room (goal.at.overflow_add-f c).Start)

pub offset_bounds-scratch-l-2 : goal.offset_bounds-scratch-l-2
offset_bounds-scratch-l-2 c = omega (arith, room (goal.at.offset_bounds-scratch-l-2 c).Start)

pub bounds-scratch-l-2 : goal.bounds-scratch-l-2
bounds-scratch-l-2 c = room (goal.at.bounds-scratch-l-2 c).Start

pub gather-k-requires : goal.gather-k-requires
gather-k-requires c =
    let a = c.args in (
      row_searching a.l a.scratch.now a.pos.now a.c a.j a.p0 a.p1 c.requires.0 c.requires.1,
      row_mark a.l a.scratch.now a.pos.now a.c a.j a.p0 a.p1 c.requires.0 c.requires.1,
    )

pub forget-requires : goal.forget-requires
forget-requires c =
    let a = c.args in
    row_forgettable a.l a.scratch.now a.pos.now a.c a.j a.p0 a.p1 c.requires.0 c.requires.1 c.gather-k.new.scratch c.gather-k.result c.gather-k.ensures

pub returns : goal.returns
returns c =
    let a = c.args in
    row_collected a.l a.scratch.now a.pos.now a.c a.j a.p0 a.p1 c.requires.0 c.requires.1 c.gather-k.new.scratch c.gather-k.result c.gather-k.ensures
    c.forget.new.scratch c.forget.ensures
