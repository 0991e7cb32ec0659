-- A reached slot is one whose word is not 0, and the words of the copy's slots stand one after the other.
use Prim.Native.Nat.{ℕ, suc, ◌+◌, ◌-◌}
use native.Mathlib.Omega.{arith}
use mathlib.Core.Path.{◌≡◌, ◌∙◌, ap}
use lib.Dec.{ltb}
use lib.ListN.{get_or, take, drop}
use borrow.Author.Tests.{lt-ltb, le-ltb}
use Rattle.std.proofs.lemmas.List.{get_or-take, get_or-drop}
use Rattle.timing.specs.Lists.{one_if}
use Rattle.removal.specs.Rows.{slots_in}
use Rattle.removal.specs.Bounds.{reached_to}
use Rattle.removal.proofs.Reaching.CopyLaws.{slot_low, count_at}
use Rattle.removal.proofs.Whole.BoundLaws.{reached_next, reached_at}
use Rattle.removal.proofs.bounds.count_reached.Invariants.{reachedFrom}
use Rattle.removal.proofs.bounds.count_reached.Goals as goal
use Rattle.removal.proofs.bounds.count_reached.Goals.{then-flag-ne0, else-flag-ne0}

pub slice_bounds-flag-items-count : goal.slice_bounds-flag-items-count
slice_bounds-flag-items-count c = omega (arith, count_at c.args.l c.args.scratch.now c.requires.0 c.args.c c.requires.1)

pub slice_bounds-flag-items-start : goal.slice_bounds-flag-items-start
slice_bounds-flag-items-start c = omega (arith, count_at c.args.l c.args.scratch.now c.requires.0 c.args.c c.requires.1)

pub slice_bounds-flag-items-end : goal.slice_bounds-flag-items-end
slice_bounds-flag-items-end c =
    let a = c.args in
    let s = a.scratch.now in
    omega (arith, count_at a.l s c.requires.0 a.c c.requires.1, slot_low a.l s c.requires.0 a.c c.requires.1 (slots_in a.l (take a.l.slots s) a.c - 1) (omega arith))

pub loop-flag-preserved : goal.loop-flag-preserved
loop-flag-preserved c =
    let s = c.args.scratch.now in
    let j = c.loop-flag.flag-index in
    let from = get_or s (c.args.l.base + c.args.c) 0 in
    let n = get_or s (c.args.l.base + c.args.c + 1) 0 - from in
    let read = get_or-take n (drop from s) j 0 (omega arith) ∙ get_or-drop from s j 0 in
    let more = reached_next (λ d k. ltb 0 (get_or s (from + k) 0)) 0 j in
    let e : suc j ≡ j + 1 = omega arith in
    let m = ap (λ (k : ℕ). reachedFrom s from k) e in
    elim c.if-flag-ne0.branch [
      | then-flag-ne0 z ↦ (omega arith, omega (arith, more, m, ap one_if (lt-ltb 0 (get_or s (from + j) 0) (omega (arith, read)))))
      | else-flag-ne0 z ↦ (omega arith, omega (arith, more, m, ap one_if (le-ltb 0 (get_or s (from + j) 0) (omega (arith, read)))))
    ]

pub returns : goal.returns
returns c =
    let a = c.args in
    let s = a.scratch.now in
    let w = c.loop-flag in
    let e : w.flag-index ≡ slots_in a.l (take a.l.slots s) a.c = omega (arith, count_at a.l s c.requires.0 a.c c.requires.1) in
    w.invariant.1 ∙ reached_at a.l s c.requires.0 a.c c.requires.1 w.flag-index ∙ ap (λ (k : ℕ). reached_to a.l s a.c k) e
