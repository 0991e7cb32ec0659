-- The invariant: the patches of the reached ones of the slots before j are flagged and counted.
use lib.ListN.{take}
use Rattle.removal.specs.Push.{MarksPushed}
use Rattle.removal.proofs.reach.push_marks.Given as goal

abbrev pub invariant-loop-j : goal.invariant-loop-j
invariant-loop-j l = MarksPushed l.l (take l.l.slots l.initial.scratch) l.initial.scratch l.scratch l.c l.j l.reached
