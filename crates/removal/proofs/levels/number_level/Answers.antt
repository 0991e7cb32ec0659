use Prim.Native.Nat.{◌+◌}
use native.Mathlib.Omega.{arith}
use native.Mathlib.Numerals.{add-one}
use mathlib.Core.Path.{◌≡◌, sym, ◌∙◌}
use lib.ListN.{length, get_or}
use Rattle.removal.specs.Levels.{key_of, Passed}
use Rattle.removal.proofs.Listing.NumberLaws.{key_first, key_next, Opened, pass_start, open_old, open_new, close_end, close_on}
use Rattle.removal.proofs.levels.number_level.Goals as goal
use Rattle.removal.proofs.levels.number_level.Goals.{else-key-last, else-lengths-k, then-key-last, then-lengths-k}

pub loop-x-init : goal.loop-x-init
loop-x-init c =
    let a = c.args in
    (sym (key_first a.from a.items.now), pass_start a.lengths.now a.items.now a.who.now a.s.now a.l a.d a.from c.requires)

pub loop-x-preserved : goal.loop-x-preserved
loop-x-preserved c =
    let a = c.args in
    let l = c.loop-x in
    let i = l.x-index in
    let key = c.if-key-last in
    let opened : (key.last ≡ key_of (get_or a.items.now i 0)) × Opened a.lengths.now a.items.now a.who.now a.s.now a.l a.d a.from c.requires key.s l.who i l.left key.id =
    elim key.branch [
      | then-key-last w ↦ (
        w.last-is,
        rw (w.s-is, w.id-is) (open_new a.lengths.now a.items.now a.who.now a.s.now a.l a.d a.from c.requires l.s l.who i l.left l.id c.loop-x-test.true (λ e. w.if-key-last.true (e ∙ sym l.invariant.0)) l.invariant.1),
      )
      | else-key-last w ↦ (
        w.last-is ∙ sym w.if-key-last.false,
        rw (w.s-is, w.id-is) (open_old a.lengths.now a.items.now a.who.now a.s.now a.l a.d a.from c.requires l.s l.who i l.left l.id c.loop-x-test.true (w.if-key-last.false ∙ l.invariant.0) l.invariant.1),
      )
    ] in
    let end = c.if-lengths-k in
    let passed : Passed a.lengths.now a.items.now a.s.now end.s end.who a.l a.d a.from (i + 1) end.left key.id =
    elim end.branch [
      | then-lengths-k w ↦ rw (w.s-is, w.who-is, w.left-is, add-one i)
          (close_end a.lengths.now a.items.now a.who.now a.s.now a.l a.d a.from c.requires key.s l.who i l.left key.id c.loop-x-test.true w.if-lengths-k.true opened.1)
      | else-lengths-k w ↦ rw (w.s-is, w.who-is, w.left-is, add-one i)
          (close_on a.lengths.now a.items.now a.who.now a.s.now a.l a.d a.from c.requires key.s l.who i l.left key.id c.loop-x-test.true w.if-lengths-k.false l.auto.who opened.1)
    ] in
    (rw (add-one i, key_next a.from a.items.now i) opened.0, passed)

pub returns : goal.returns
returns c =
    let a = c.args in
    let l = c.loop-x in
    let e : l.x-index ≡ length a.items.now = omega arith in
    rw e at l.invariant.1
