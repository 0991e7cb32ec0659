-- A slot that no path comes to stays; any other gets the next number.
use native.Mathlib.Omega.{arith}
use mathlib.Core.Path.{refl}
use Rattle.removal.proofs.Showing.ShowSteps.{few_numbers, not_shown, flag_set}
use Rattle.removal.proofs.show.show_slot.Goals as goal

pub returns-then-p0-p1 : goal.returns-then-p0-p1
returns-then-p0-p1 c = (not_shown c.requires.0 c.requires.1 c.if-edges-eq0.true c.if-p0-p1.true, λ i h. refl)

pub overflow_cast-scratch : goal.overflow_cast-scratch
overflow_cast-scratch c = omega (arith, few_numbers c.requires.0)

pub overflow_add-result-2 : goal.overflow_add-result-2
overflow_add-result-2 c = omega (arith, few_numbers c.requires.0, c.requires.0.few_edges, c.requires.1.few, c.requires.0.ready.tabled.few_edges)

pub returns : goal.returns
returns c = flag_set c.requires.0 c.requires.1 c.else-edges-eq0.either
