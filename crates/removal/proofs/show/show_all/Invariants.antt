-- The invariant: the pass has come to copy c, and no row is at hand.
use Rattle.removal.specs.Rows.{Idle}
use Rattle.removal.specs.Show.{PassedTo}
use Rattle.removal.proofs.show.show_all.Given as goal

abbrev pub invariant-loop-c : goal.invariant-loop-c
invariant-loop-c l = PassedTo l.l l.initial.scratch l.scratch 0 0 0 l.c 0 l.counts.copies l.counts.edges × Idle l.l l.scratch
