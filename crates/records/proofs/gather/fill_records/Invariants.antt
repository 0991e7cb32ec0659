-- Invariant: each node's place tells its times over the copies below c.
use lib.ListN.{length}
use Rattle.records.proofs.Records.{Gathered}
use Rattle.records.proofs.gather.fill_records.Given as goal

abbrev pub invariant-loop-c : goal.invariant-loop-c
invariant-loop-c l = Gathered l.nodes l.arrivals l.requireds l.slacks l.earliests (length l.fn.known) l.c l.known l.na l.nr l.ns l.ne
