use Prim.Native.Nat.{ℕ, ◌<◌}
use native.Mathlib.Omega.{arith}
use mathlib.Core.Path.{sym, ◌∙◌, subst}
use mathlib.Core.List.{List}
use lib.ListN.{take}
use Rattle.removal.specs.Slots.{slots}
use Rattle.removal.specs.Rows.{slots_in}
use Rattle.removal.specs.Patches.{Noted}
use Rattle.removal.proofs.Reaching.RowLaws.{ready_same}
use Rattle.removal.proofs.Filling.StepLaws.{filling_next}
use Rattle.removal.proofs.Filling.SlotSteps.{row_next}
use Rattle.removal.proofs.Filling.CopySteps.{into_read, count_up, count_is, load_room, load_held, load_filled, load_filling, copy_start, copy_turn, copy_whole}
use Rattle.removal.proofs.fill.fill_copy.Goals as goal
use Rattle.removal.proofs.fill.fill_copy.Goals.{else-count-gt1, then-count-gt1}

pub overflow_sub-count : goal.overflow_sub-count
overflow_sub-count c = count_up c.requires.filling.ready c.requires.c_lt_copies

pub load_row-requires : goal.load_row-requires
load_row-requires c =
    let ready = c.requires.filling.ready in
    load_room ready c.requires.c_lt_copies c.run_from-p0.ensures (into_read ready c.requires.c_lt_copies)

pub loop-j-init : goal.loop-j-init
loop-j-init c =
    let a = c.args in
    let ready = c.requires.filling.ready in
    let inside = c.requires.c_lt_copies in
    let to = into_read ready inside in
    let filling = load_filling ready inside c.run_from-p0.ensures to c.load_row.ensures c.if-count-gt1.auto.pos c.requires.filling in
    let noted : 1 < slots (slots_in a.l (take a.l.slots a.scratch.now)) a.c → Noted a.l a.scratch.now c.if-count-gt1.pos a.c = λ more.
    elim c.if-count-gt1.branch [
      | then-count-gt1 w ↦ subst (λ (pos : List ℕ). Noted a.l a.scratch.now pos a.c) (sym w.pos-is) w.note_places.ensures.1
      | else-count-gt1 w ↦ absurd (omega (arith, w.if-count-gt1.false, count_is ready inside))
    ] in
    (copy_start filling, load_held ready inside c.run_from-p0.ensures to c.load_row.ensures noted c.shown_defaults-defaults.ensures)

pub fill_slot-so_far-requires-clause-filling : goal.fill_slot-so_far-requires-clause-filling
fill_slot-so_far-requires-clause-filling c =
    let ready = c.requires.filling.ready in
    let to = into_read ready c.requires.c_lt_copies in
    let filling = load_filling ready c.requires.c_lt_copies c.run_from-p0.ensures to c.load_row.ensures c.if-count-gt1.auto.pos c.requires.filling in
    filling_next _ _ _ _ _ _ _ _ _ _ _ _ _ _ _ _ _ _ _ _ _ _ _ _ c.loop-j.invariant.0 _ filling

pub loop-j-preserved : goal.loop-j-preserved
loop-j-preserved c =
    let so_far = c.loop-j.invariant.0 in
    let filled = c.fill_slot-so_far.ensures in
    let ready = ready_same _ _ _ (so_far.size ∙ c.load_row.ensures.size) (so_far.tables ∙ c.load_row.ensures.tables) c.requires.filling.ready in
    (copy_turn so_far filled.0, row_next ready filled.0.tables filled.1 c.loop-j.invariant.1)

pub returns : goal.returns
returns c =
    let ready = c.requires.filling.ready in
    let inside = c.requires.c_lt_copies in
    let loaded = load_filled ready inside c.run_from-p0.ensures (into_read ready inside) c.load_row.ensures c.requires.filling in
    (copy_whole loaded c.loop-j.invariant.0 (count_is ready inside) (omega arith), c.if-count-gt1.auto.pos)
