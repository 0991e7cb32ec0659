use Prim.Native.Nat.{ℕ, ◌<◌}
use native.Mathlib.Omega.{arith}
use mathlib.Core.Path.{sym, subst}
use mathlib.Core.List.{List}
use lib.ListN.{take}
use Rattle.removal.specs.Slots.{slots}
use Rattle.removal.specs.Rows.{slots_in}
use Rattle.removal.specs.Patches.{Noted, NamesIn}
use Rattle.removal.proofs.Showing.ShowSteps.{to_slot, to_copy}
use Rattle.removal.proofs.Showing.RowSteps.{copy_words, row_next}
use Rattle.removal.proofs.show.show_copy.Goals as goal
use Rattle.removal.proofs.show.show_copy.Goals.{In-loop-j, else-count-gt1, then-count-gt1}

-- the slot of this turn is one of the copy's
slot : (c : In-loop-j) → c.loop-j.j < slots (slots_in c.args.l (take c.args.l.slots c.args.scratch.now)) c.args.c
slot c = omega (arith, (copy_words c.requires.0 c.requires.3).next_is, c.loop-j-test.true)

pub overflow_sub-count : goal.overflow_sub-count
overflow_sub-count c = omega (arith, (copy_words c.requires.0 c.requires.3).next_is)

-- where there is a second slot, it is noted where names stand
pub show_row-so_far-requires : goal.show_row-so_far-requires
show_row-so_far-requires c =
    let a = c.args in
    let names = subst (NamesIn a.l a.scratch.now) (sym c.if-count-gt1.auto.pos) c.requires.2 in
    let noted : 0 < c.loop-j.j → Noted a.l a.scratch.now c.if-count-gt1.pos a.c = λ some.
    elim c.if-count-gt1.branch [
      | then-count-gt1 w ↦ subst (λ (pos : List ℕ). Noted a.l a.scratch.now pos a.c) (sym w.pos-is) w.note_places.ensures.1
      | else-count-gt1 w ↦ absurd (omega (arith, w.if-count-gt1.false, c.loop-j-test.true))
    ] in
    row_next c.requires.0 names noted c.requires.3 (slot (goal.at.show_row-so_far-requires c).In-loop-j)
    c.run_from-p0.ensures (copy_words c.requires.0 c.requires.3).into_is c.loop-j.invariant.0 c.loop-j.invariant.1 c.loop-j.invariant.2

pub loop-j-preserved : goal.loop-j-preserved
loop-j-preserved c =
    let row = c.show_row-so_far.ensures in
    (to_slot c.requires.0 c.requires.3 (slot (goal.at.loop-j-preserved c).In-loop-j) c.loop-j.invariant.0 row.shown, row.idle, row.meets)

pub returns : goal.returns
returns c =
    (to_copy (omega (arith, (copy_words c.requires.0 c.requires.3).next_is)) c.loop-j.invariant.0, c.loop-j.invariant.1, c.if-count-gt1.auto.pos)
