-- A slot that is not reached stays; any other is shown as its row says.
use native.Mathlib.Omega.{arith}
use Rattle.removal.proofs.Showing.RowSteps.{flag_inside, row_off, row_room, row_shown}
use Rattle.removal.proofs.show.show_row.Goals as goal

pub overflow_add-at-2 : goal.overflow_add-at-2
overflow_add-at-2 c = omega (arith, flag_inside c.requires.0)

pub offset_bounds-scratch-at : goal.offset_bounds-scratch-at
offset_bounds-scratch-at c = omega (arith, flag_inside c.requires.0)

pub bounds-scratch-at : goal.bounds-scratch-at
bounds-scratch-at c = flag_inside c.requires.0

pub returns-then-scratch-at-eq0 : goal.returns-then-scratch-at-eq0
returns-then-scratch-at-eq0 c = row_off c.requires.0 c.requires.2 c.if-scratch-at-eq0.true

pub show_slot-requires : goal.show_slot-requires
show_slot-requires c = row_room c.requires.0 c.row_of-row.ensures c.if-scratch-at-eq0.false c.requires.1 c.requires.2

pub returns : goal.returns
returns c = row_shown c.requires.0 c.row_of-row.ensures c.show_slot.ensures
