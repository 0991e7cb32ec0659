-- The classes on the chain that are longer than class u are tried. An edge that is not seen at the end leads to its default.
use Rattle.removal.proofs.Patching.GatherLaws.{Walked}
use Rattle.removal.proofs.patches.gather.Given as goal

abbrev pub invariant-loop-u : goal.invariant-loop-u
invariant-loop-u l = Walked l.l l.initial.scratch l.scratch l.c l.j l.f l.u l.k

abbrev pub decreases-loop-u : goal.decreases-loop-u
decreases-loop-u l = l.u
