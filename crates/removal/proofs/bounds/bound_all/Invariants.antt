-- The invariant: what is summed up bounds the slots of the copies before c that will be shown, and the edges that will come to them.
use Rattle.removal.proofs.Whole.BoundLaws.{BoundedTo}
use Rattle.removal.proofs.bounds.bound_all.Given as goal

abbrev pub invariant-loop-c : goal.invariant-loop-c
invariant-loop-c l = BoundedTo l.l l.scratch l.c l.from l.copies l.edges
