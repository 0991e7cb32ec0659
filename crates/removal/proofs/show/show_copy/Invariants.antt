-- The invariant: the pass has come to slot j, no row is at hand, and what comes to slot 0 is what was counted. Only rows with patches ask where names
-- stand: where there is one slot, none is.
use Rattle.removal.specs.Rows.{Idle}
use Rattle.removal.specs.Show.{EdgesMeet, PassedTo}
use Rattle.removal.proofs.show.show_copy.Given as goal

abbrev pub invariant-loop-j : goal.invariant-loop-j
invariant-loop-j l =
    PassedTo l.l l.initial.scratch l.scratch l.c l.initial.so_far.copies l.initial.so_far.edges l.c l.j l.so_far.copies l.so_far.edges
    × Idle l.l l.scratch × EdgesMeet l.l l.scratch l.c 0 l.defaults
