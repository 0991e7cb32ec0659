-- Invariant: `Searched` (late/proofs/Found). At the first late copy, and behind the last one, it says what is answered.
use lib.IntN.{pos}
use Rattle.timing.specs.Calls.{graph_slices}
use Rattle.late.proofs.Found.{Searched}
use Rattle.late.proofs.search.find_late.Given as goal

abbrev pub invariant-loop-c : goal.invariant-loop-c
invariant-loop-c l =
    Searched l.late (graph_slices l.nodes l.endpoint l.from l.to l.via) (pos l.allowed) l.initial.arrivals l.arrivals l.c l.first
