-- The answer follows from what the groups gave, case by case.
use native.Mathlib.Omega.{arith}
use mathlib.Core.Path.{◌≡◌, sym, ◌∙◌, ap}
use Rattle.std.specs.Prelude.{Result, Ok, Err}
use Rattle.timing.specs.declared.Groups.{Groups}
use Rattle.timing.specs.declared.NoNumber.{NoNumber}
use Rattle.timing.specs.declared.NoNumber.TheVariants.{Ended, Unfit}
use lib.ListN.{length, drop, length-drop}
use Rattle.timing.specs.Numbers.{number_answer, read_number}
use Rattle.packed.proofs.Numbers.{Inside, number_inside}
use Rattle.packed.proofs.read_groups.Goals as goal

pub overflow_add-result : goal.overflow_add-result
overflow_add-result c =
    let a = c.args in
    let h : Inside (drop a.at a.s.now) (Ok c.in-Ok.found) =
    rw (sym c.groups.ensures ∙ c.in-Ok.is) at (number_inside 15 4 (drop a.at a.s.now)) in
    omega (arith, h.0, h.1, length-drop a.at a.s.now)

pub returns-in-Ok : goal.returns-in-Ok
unfolding read_number
returns-in-Ok c =
    ap (number_answer (length c.args.s.now) c.args.at) (sym c.in-Ok.is ∙ c.groups.ensures)

pub returns-in-Err-Ended : goal.returns-in-Err-Ended
unfolding read_number
returns-in-Err-Ended c =
    let found : ◌≡◌ {A = Result Groups NoNumber} (Err Ended) c.groups.result = ap Err (sym c.in-Err-Ended.field-0-is) ∙ sym c.in-Err-Ended.is in
    ap Err c.refuse.ensures ∙ ap (number_answer (length c.args.s.now) c.args.at) (found ∙ c.groups.ensures)

pub returns-in-Err-Unfit : goal.returns-in-Err-Unfit
unfolding read_number
returns-in-Err-Unfit c =
    let found : ◌≡◌ {A = Result Groups NoNumber} (Err Unfit) c.groups.result = ap Err (sym c.in-Err-Unfit.field-0-is) ∙ sym c.in-Err-Unfit.is in
    ap Err c.refuse-in-Err-Unfit.ensures ∙ ap (number_answer (length c.args.s.now) c.args.at) (found ∙ c.groups.ensures)
