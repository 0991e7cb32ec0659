-- The patches of the reached slots are flagged first, of which there are none where the copy has one slot; then the defaults.
use Prim.Native.Nat.{ℕ, ◌+◌, ◌-◌}
use native.Mathlib.Omega.{arith}
use mathlib.Core.Path.{refl, sym, subst}
use lib.ListN.{get_or, take}
use Rattle.removal.specs.Patches.{NamesIn}
use Rattle.removal.specs.Push.{MarksPushed}
use Rattle.removal.proofs.Reaching.CopyLaws.{slot_first, slot_low, count_at, run_at}
use Rattle.removal.proofs.Reaching.CoverLaws.{marks_start, marks_defaulting, copy_pushed}
use Rattle.removal.proofs.reach.push_copy.Goals as goal
use Rattle.removal.proofs.reach.push_copy.Goals.{Start}

pub overflow_sub-count : goal.overflow_sub-count
overflow_sub-count c = omega (arith, count_at c.args.l c.args.scratch.now c.requires.0 c.args.c c.requires.3)

pub bounds-scratch-at : goal.bounds-scratch-at
bounds-scratch-at c = omega (arith, slot_low c.args.l c.args.scratch.now c.requires.0 c.args.c c.requires.3 0 (omega arith))

-- nothing is to be done for the first slot alone
first : (c : Start) → let l = c.args.l in let s = c.args.scratch.now in MarksPushed l (take l.slots s) s s c.args.c 1 (get_or s (get_or s (l.base + c.args.c) 0) 0)
first c =
    let a = c.args in
    let s = a.scratch.now in
    let base = get_or s (a.l.base + a.c) 0 in
    marks_start a.l s a.c c.requires.0 c.requires.3 c.requires.4 c.requires.5 (get_or s base 0) 1 (rw (slot_first a.l s c.requires.0 a.c c.requires.3) refl) refl

pub push_defaults-requires : goal.push_defaults-requires
push_defaults-requires c =
    let a = c.args in
    let s = a.scratch.now in
    let r = c.requires in
    let count = count_at a.l s r.0 a.c r.3 in
    marks_defaulting a.l s a.c r.0 r.3 s 1 (get_or s (get_or s (a.l.base + a.c) 0) 0) (first (goal.at.push_defaults-requires c).Start) c.run_from-p0.result (get_or s (a.l.into + a.c) 0)
    (omega (arith, count)) c.run_from-p0.ensures (run_at a.l s r.0 a.c r.3)

pub returns-then-count-eq1 : goal.returns-then-count-eq1
returns-then-count-eq1 c =
    let a = c.args in
    let s = a.scratch.now in
    let r = c.requires in
    let count = count_at a.l s r.0 a.c r.3 in (
      copy_pushed a.l s a.c r.0 r.3 s 1 (get_or s (get_or s (a.l.base + a.c) 0) 0) (first (goal.at.returns-then-count-eq1 c).Start) c.run_from-p0.result (get_or s (a.l.into + a.c) 0)
          (omega (arith, count)) c.run_from-p0.ensures (run_at a.l s r.0 a.c r.3) r.1 r.4 c.push_defaults.new.scratch c.push_defaults.ensures,
      refl,
    )

pub push_marks-reached-requires : goal.push_marks-reached-requires
push_marks-reached-requires c =
    let a = c.args in
    let s = a.scratch.now in
    let r = c.requires in
    record {
      ready = r.0;
      idle = r.1;
      names = subst (λ (k : ℕ). NamesIn a.l s k) (sym c.note_places.ensures.0) r.2;
      noted = c.note_places.ensures.1;
      copy = r.3;
      all = omega (arith, count_at a.l s r.0 a.c r.3);
      from = c.run_from-p0.ensures;
      to = run_at a.l s r.0 a.c r.3;
      none = r.4;
      small = r.5;
    }

pub push_defaults-requires-2 : goal.push_defaults-requires-2
push_defaults-requires-2 c =
    let a = c.args in
    let s = a.scratch.now in
    let r = c.requires in
    let m = c.push_marks-reached in
    marks_defaulting a.l s a.c r.0 r.3 m.new.scratch (get_or s (a.l.base + a.c + 1) 0 - get_or s (a.l.base + a.c) 0) m.result m.ensures c.run_from-p0.result (get_or s (a.l.into + a.c) 0)
    (omega (arith, count_at a.l s r.0 a.c r.3)) c.run_from-p0.ensures (run_at a.l s r.0 a.c r.3)

pub returns : goal.returns
returns c =
    let a = c.args in
    let s = a.scratch.now in
    let r = c.requires in
    let m = c.push_marks-reached in (
      copy_pushed a.l s a.c r.0 r.3 m.new.scratch (get_or s (a.l.base + a.c + 1) 0 - get_or s (a.l.base + a.c) 0) m.result m.ensures c.run_from-p0.result (get_or s (a.l.into + a.c) 0)
          (omega (arith, count_at a.l s r.0 a.c r.3)) c.run_from-p0.ensures (run_at a.l s r.0 a.c r.3) r.1 r.4 c.push_defaults-2.new.scratch c.push_defaults-2.ensures,
      c.note_places.ensures.0,
    )
