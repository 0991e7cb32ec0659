use Prim.Native.Nat.{ℕ, suc, ◌+◌}
use native.Mathlib.Omega.{arith}
use mathlib.Core.Path.{◌≡◌, refl, sym, ◌∙◌, subst}
use mathlib.Core.List.{List}
use lib.ListN.{get_or, take}
use Rattle.removal.specs.Push.{MarkPushed, MarksPushed}
use Rattle.removal.proofs.Reaching.CopyLaws.{slot_first, slot_low}
use Rattle.removal.proofs.Reaching.CoverLaws.{marks_start, marks_skip, marks_turn, marks_rowed, reached_fits, marks_fits, marks_read}
use Rattle.removal.proofs.reach.push_marks.Goals as goal
use Rattle.removal.proofs.reach.push_marks.Goals.{else-scratch-at-ne0, then-scratch-at-ne0}

pub bounds-scratch-at : goal.bounds-scratch-at
bounds-scratch-at c =
    let a = c.args in
    omega (arith, slot_low a.l a.scratch.now c.requires.ready a.c c.requires.copy 0 (omega arith))

pub loop-j-init : goal.loop-j-init
loop-j-init c =
    let a = c.args in
    let s = a.scratch.now in
    let r = c.requires in
    let base = get_or s (a.l.base + a.c) 0 in
    marks_start a.l s a.c r.ready r.copy r.none r.small (get_or s base 0) 1 (rw (slot_first a.l s r.ready a.c r.copy) refl) refl

pub bounds-scratch-at-in-loop-j : goal.bounds-scratch-at-in-loop-j
bounds-scratch-at-in-loop-j c =
    let a = c.args in
    let w = c.loop-j in
    omega (arith, w.invariant.size, slot_low a.l a.scratch.now c.requires.ready a.c c.requires.copy w.j (omega (arith, c.requires.all)))

pub push_mark-requires : goal.push_mark-requires
push_mark-requires c =
    let a = c.args in
    let w = c.loop-j in (
      marks_rowed a.l a.scratch.now a.pos.now w.scratch a.c a.count a.p0 a.p1 w.j w.reached c.requires w.invariant c.loop-j-test.true,
      omega arith,
      marks_fits a.l a.scratch.now a.pos.now w.scratch a.c a.count a.p0 a.p1 w.j w.reached c.requires w.invariant c.loop-j-test.true,
    )

pub overflow_add-reached : goal.overflow_add-reached
overflow_add-reached c =
    let a = c.args in
    let w = c.loop-j in
    omega (arith, reached_fits a.l a.scratch.now a.pos.now w.scratch a.c a.count a.p0 a.p1 w.j w.reached c.requires w.invariant c.loop-j-test.true)

pub loop-j-preserved : goal.loop-j-preserved
loop-j-preserved c =
    let a = c.args in
    let s = a.scratch.now in
    let w = c.loop-j in
    let r = c.requires in
    let n : w.j + 1 ≡ suc w.j = omega arith in
    let read = marks_read a.l s a.pos.now w.scratch a.c a.count a.p0 a.p1 w.j w.reached r w.invariant c.loop-j-test.true in
    elim c.if-scratch-at-ne0.branch [
      | then-scratch-at-ne0 z ↦ let v : c.if-scratch-at-ne0.reached ≡ suc w.reached = omega (arith, z.reached-is) in
          rw z.scratch-is
          (marks_turn a.l s a.c r.ready r.copy w.scratch w.j w.reached w.invariant z.push_mark.new.scratch
          (omega (arith, read, z.if-scratch-at-ne0.true))
          (subst (λ (y : List ℕ). MarkPushed a.l y w.scratch z.push_mark.new.scratch a.c w.j) w.invariant.tables z.push_mark.ensures)
          (w.j + 1) c.if-scratch-at-ne0.reached n v)
      | else-scratch-at-ne0 z ↦ rw (z.reached-is, z.scratch-is)
          (marks_skip a.l s a.c r.ready r.copy w.scratch w.j w.reached w.invariant (sym read ∙ z.if-scratch-at-ne0.false) (w.j + 1) n)
    ]

pub returns : goal.returns
returns c =
    let a = c.args in
    let s = a.scratch.now in
    let w = c.loop-j in
    let e : w.j ≡ a.count = omega (arith, c.requires.all) in
    subst (λ (y : ℕ). MarksPushed a.l (take a.l.slots s) s w.scratch a.c y w.reached) e w.invariant
