-- The names of the edges before q are noted; those of one copy differ, so that none is written twice.
use Rattle.removal.proofs.Patching.NoteLaws.{NotedTo}
use Rattle.removal.proofs.patches.note_places.Given as goal

abbrev pub invariant-loop-q : goal.invariant-loop-q
invariant-loop-q l = NotedTo l.l l.scratch l.initial.pos l.pos l.c l.q
