-- Invariant: each copy holds the smallest time over the edges out of it from edge k on and, where paths end, T.
use mathlib.Core.Path.{◌≡◌}
use mathlib.Core.List.{map}
use lib.ListN.{length}
use Rattle.timing.specs.Lists.{upto}
use Rattle.timing.specs.Calls.{graph_slices}
use Rattle.times.proofs.Passes.{required_from}
use Rattle.times.proofs.requireds.fill_requireds.Given as goal

abbrev pub invariant-loop-k : goal.invariant-loop-k
invariant-loop-k l =
    l.requireds ≡ map (required_from l.delays (graph_slices l.nodes l.endpoint l.from l.to l.via) l.allowed l.k) (upto (length l.nodes) 0)
