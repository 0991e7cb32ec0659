-- The invariant: the items before the index are passed, and `last` is the key before the item there.
use mathlib.Core.Path.{◌≡◌}
use Rattle.removal.specs.Levels.{key_before, Passed}
use Rattle.removal.proofs.levels.number_level.Given as goal

abbrev pub invariant-loop-x : goal.invariant-loop-x
invariant-loop-x l = (l.last ≡ key_before l.items l.x-index) × Passed l.lengths l.items l.initial.s l.s l.who l.l l.d l.from l.x-index l.left l.id
