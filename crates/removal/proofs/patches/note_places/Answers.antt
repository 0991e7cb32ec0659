use native.Mathlib.Omega.{arith}
use Rattle.removal.proofs.Patching.NoteLaws.{noted_room, noted_next}
use Rattle.removal.proofs.patches.note_places.Goals as goal

pub bounds-pos-e : goal.bounds-pos-e
bounds-pos-e c =
    let a = c.args in
    let r = c.requires in
    let w = c.loop-q in
    noted_room a.l a.scratch.now a.pos.now a.c r.0 r.1 r.2 w.pos w.q w.invariant (omega (arith, r.4))

pub loop-q-preserved : goal.loop-q-preserved
loop-q-preserved c =
    let a = c.args in
    let r = c.requires in
    let w = c.loop-q in
    noted_next a.l a.scratch.now a.pos.now a.c r.0 r.1 r.2 w.pos w.q w.invariant (omega (arith, r.4))
