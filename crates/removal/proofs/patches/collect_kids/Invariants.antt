-- The children before child i are tried: no edge that is not seen is theirs.
use Rattle.removal.specs.Patches.{TriedKids}
use Rattle.removal.proofs.patches.collect_kids.Given as goal

abbrev pub invariant-loop-i : goal.invariant-loop-i
invariant-loop-i l = TriedKids l.l l.initial.scratch l.scratch l.c l.j l.u l.i l.k
