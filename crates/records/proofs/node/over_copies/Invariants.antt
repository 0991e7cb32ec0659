-- Invariant: the times over the copies of v below c.
use mathlib.Core.Path.{◌≡◌}
use Rattle.records.specs.Records.{node_so_far}
use Rattle.records.proofs.node.over_copies.Given as goal

abbrev pub invariant-loop-c : goal.invariant-loop-c
invariant-loop-c l = l.t ≡ node_so_far l.nodes l.arrivals l.requireds l.slacks l.earliests l.c l.v
