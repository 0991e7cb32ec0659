use Prim.Native.Nat.{◌<◌, ◌≤◌}
use native.Mathlib.Omega.{arith}
use lib.ListN.{take}
use Rattle.removal.specs.Patches.{kids_from, kids_to}
use Rattle.removal.proofs.Patching.NoteLaws.{searching_next}
use Rattle.removal.proofs.Patching.KidLaws.{from_read, to_read, kid_tells, kids_next, kids_all}
use Rattle.removal.proofs.patches.collect_kids.Goals as goal
use Rattle.removal.proofs.patches.collect_kids.Goals.{In-loop-i}

-- the child is one of the class's
past : (c : In-loop-i) → kids_from c.args.l (take c.args.l.slots c.args.scratch.now) c.args.u ≤ c.loop-i.i
past c =
    let a = c.args in
    omega (arith, from_read a.l a.scratch.now a.pos.now a.c a.j a.p0 a.p1 a.so_far a.u c.requires.0 c.requires.1)

more : (c : In-loop-i) → c.loop-i.i < kids_to c.args.l (take c.args.l.slots c.args.scratch.now) c.args.u
more c =
    let a = c.args in
    omega (arith, to_read a.l a.scratch.now a.pos.now a.c a.j a.p0 a.p1 a.so_far a.u c.requires.0 c.requires.1)

pub note_patch-k-requires : goal.note_patch-k-requires
note_patch-k-requires c =
    let a = c.args in
    let w = c.loop-i in
    let i = (goal.at.note_patch-k-requires c).In-loop-i in (
      searching_next a.l a.scratch.now w.scratch a.pos.now a.c a.j a.p0 a.p1 a.so_far w.k c.requires.0 w.invariant.kept w.invariant.gathered,
      kid_tells a.l a.scratch.now a.pos.now a.c a.j a.p0 a.p1 a.so_far a.u c.requires.0 c.requires.1 w.scratch w.i w.k w.invariant (past i) (more i),
    )

pub loop-i-preserved : goal.loop-i-preserved
loop-i-preserved c =
    let a = c.args in
    let w = c.loop-i in
    let n = c.note_patch-k in
    let i = (goal.at.loop-i-preserved c).In-loop-i in
    kids_next a.l a.scratch.now a.pos.now a.c a.j a.p0 a.p1 a.so_far a.u c.requires.0 c.requires.1 w.scratch w.i w.k w.invariant (past i) (more i) n.new.scratch n.result n.ensures

pub returns : goal.returns
returns c =
    let a = c.args in
    let w = c.loop-i in
    kids_all a.l a.scratch.now a.pos.now a.c a.j a.p0 a.p1 a.so_far a.u c.requires.0 c.requires.1 w.scratch w.i w.k w.invariant (omega arith)
