-- A number is found, or nothing is.
use mathlib.Core.Path.{refl, sym, ◌∙◌}
use Rattle.timing.specs.Looks.{value_at, next_at}
use Rattle.packed_lists.proofs.take_number.Goals as goal

pub returns-in-Ok : goal.returns-in-Ok
unfolding value_at next_at
returns-in-Ok c =
    let e = sym c.read_number.ensures ∙ c.in-Ok.is in
    rw e (refl, refl)

pub returns-in-Err : goal.returns-in-Err
unfolding value_at next_at
returns-in-Err c =
    let e = sym c.read_number.ensures ∙ c.in-Err.is in
    rw e (refl, refl)
