-- The invariant: the copies below c are done, and `total` is how many slots they have.
use Rattle.removal.proofs.Building.BaseLaws.{Basing}
use Rattle.removal.proofs.build.fill_bases.Given as goal

abbrev pub invariant-loop-c : goal.invariant-loop-c
invariant-loop-c l = Basing l.l l.nodes l.firsts l.initial.scratch l.scratch l.total l.c
