-- Invariant: the stores that are left make of the places now what all stores make of them at the start.
use mathlib.Core.Path.{◌≡◌}
use lib.ListN.{drop}
use Rattle.removal.specs.Endpoints.{stored_at}
use Rattle.removal.proofs.numbers.store_at.Given as goal

abbrev pub invariant-loop-at : goal.invariant-loop-at
invariant-loop-at l = stored_at (drop l.at-index l.places) l.v l.t ≡ stored_at l.places l.v l.initial.t
