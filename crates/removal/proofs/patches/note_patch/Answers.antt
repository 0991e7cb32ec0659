-- A child is no patch where no edge into the copy has its name, or where that edge is seen; else its edge is one more patch, for which there is room.
use Prim.Native.Nat.{◌+◌, ◌/◌, ◌<◌}
use native.Mathlib.Omega.{arith}
use mathlib.Core.Path.{refl, sym, ◌∙◌, ap}
use lib.ListN.{length, get_or, take, length-set}
use Rattle.removal.specs.Rows.{InRun, name_in}
use Rattle.removal.proofs.Patching.NoteLaws.{name_there, missed, placed, store_room, found}
use Rattle.removal.proofs.patches.note_patch.Goals as goal
use Rattle.removal.proofs.patches.note_patch.Goals.{Else-p1-q, Else-scratch-l-ne0}

-- the edge at the place comes into the copy
within : (c : Else-p1-q) → InRun c.args.l (take c.args.l.slots c.args.scratch.now) c.args.c (get_or c.args.pos.now (c.args.w / 32768) 0)
within c = record { from = omega (arith, c.requires.0.from); to = omega (arith, c.requires.0.to) }

pub returns-then-scratch-l : goal.returns-then-scratch-l
returns-then-scratch-l c =
    let a = c.args in
    let run = within (goal.at.returns-then-scratch-l c).Else-p1-q in
    let name = name_there a.l a.scratch.now a.pos.now a.c a.j a.p0 a.p1 a.so_far a.w c.requires.0 _ run in
    missed a.l a.scratch.now a.pos.now a.c a.j a.p0 a.p1 a.so_far a.w c.requires.0
    (λ h q e r n u. c.if-scratch-l.true (name ∙ ap (name_in a.l (take a.l.slots a.scratch.now)) (sym e) ∙ n))

pub returns-then-scratch-l-ne0 : goal.returns-then-scratch-l-ne0
returns-then-scratch-l-ne0 c =
    let a = c.args in
    missed a.l a.scratch.now a.pos.now a.c a.j a.p0 a.p1 a.so_far a.w c.requires.0
    (λ h q e r n u. c.if-scratch-l-ne0.true (ap (λ x. get_or a.scratch.now (a.l.seen + x) 0) (sym e) ∙ u))

pub child_place-place-requires : goal.child_place-place-requires
child_place-place-requires c =
    let a = c.args in
    let run = within (goal.at.child_place-place-requires c).Else-p1-q in
    let name = name_there a.l a.scratch.now a.pos.now a.c a.j a.p0 a.p1 a.so_far a.w c.requires.0 _ run in
    placed a.l a.scratch.now a.pos.now a.c a.j a.p0 a.p1 a.so_far a.w c.requires.0 _ run c.if-scratch-l-ne0.false refl (sym name ∙ c.if-scratch-l.false) c.requires.1

-- there is room for one more patch
room : (c : Else-scratch-l-ne0)
    → (c.args.l.seen + get_or c.args.pos.now (c.args.w / 32768) 0 < length c.args.scratch.now)
    × (c.args.l.patch + c.args.so_far < length c.args.scratch.now)
    × (c.args.l.lead + c.args.so_far < length c.args.scratch.now)
room c =
    let a = c.args in
    let q = get_or a.pos.now (a.w / 32768) 0 in
    let run : InRun a.l (take a.l.slots a.scratch.now) a.c q = record { from = omega (arith, c.requires.0.from); to = omega (arith, c.requires.0.to) } in
    let name = name_there a.l a.scratch.now a.pos.now a.c a.j a.p0 a.p1 a.so_far a.w c.requires.0 q run in
    store_room a.l a.scratch.now a.pos.now a.c a.j a.p0 a.p1 a.so_far a.w c.requires.0 q run c.if-scratch-l-ne0.false refl (sym name ∙ c.if-scratch-l.false)

pub overflow_add-scratch-2 : goal.overflow_add-scratch-2
overflow_add-scratch-2 c = omega (arith, room (goal.at.overflow_add-scratch-2 c).Else-scratch-l-ne0)

pub offset_bounds-scratch-l-4 : goal.offset_bounds-scratch-l-4
offset_bounds-scratch-l-4 c = omega (arith, room (goal.at.offset_bounds-scratch-l-4 c).Else-scratch-l-ne0)

pub bounds-scratch-l-4 : goal.bounds-scratch-l-4
bounds-scratch-l-4 c = simp length-set (omega (arith, room (goal.at.bounds-scratch-l-4 c).Else-scratch-l-ne0))

pub overflow_add-scratch-3 : goal.overflow_add-scratch-3
overflow_add-scratch-3 c = omega (arith, room (goal.at.overflow_add-scratch-3 c).Else-scratch-l-ne0)

pub offset_bounds-scratch-l-5 : goal.offset_bounds-scratch-l-5
offset_bounds-scratch-l-5 c = omega (arith, room (goal.at.offset_bounds-scratch-l-5 c).Else-scratch-l-ne0)

pub bounds-scratch-l-5 : goal.bounds-scratch-l-5
bounds-scratch-l-5 c = simp length-set (omega (arith, room (goal.at.bounds-scratch-l-5 c).Else-scratch-l-ne0))

pub overflow_add-result : goal.overflow_add-result
overflow_add-result c = omega (arith, room (goal.at.overflow_add-result c).Else-scratch-l-ne0)

pub returns : goal.returns
returns c =
    let a = c.args in
    let q = get_or a.pos.now (a.w / 32768) 0 in
    let run = within (goal.at.returns c).Else-p1-q in
    let name = sym (name_there a.l a.scratch.now a.pos.now a.c a.j a.p0 a.p1 a.so_far a.w c.requires.0 q run) ∙ c.if-scratch-l.false in
    let unseen = c.if-scratch-l-ne0.false in
    found a.l a.scratch.now a.pos.now a.c a.j a.p0 a.p1 a.so_far a.w c.requires.0 q run unseen refl name
    c.child_place-place.result (λ D L G x. c.child_place-place.ensures ∙ c.requires.1.leads q run unseen name D L G x)
