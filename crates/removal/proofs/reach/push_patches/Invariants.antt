-- The invariant: the patches before i are flagged and counted.
use Rattle.removal.specs.Push.{PatchesPushed}
use Rattle.removal.proofs.reach.push_patches.Given as goal

abbrev pub invariant-loop-i : goal.invariant-loop-i
invariant-loop-i l = PatchesPushed l.l l.initial.scratch l.scratch l.i
