-- The edges from i on pass where all do; the flags of those before it are set.
use Prim.Native.Nat.{◌-◌}
use mathlib.Core.Path.{◌≡◌}
use Rattle.timing.specs.Lists.{all_of, upto}
use Rattle.graph.specs.Passes.{FlagsSet, edge_passes}
use Rattle.graph.proofs.Keys.{lowest_key}
use Rattle.graph.proofs.edges_pass.Given as goal

abbrev pub invariant-loop-i : goal.invariant-loop-i
invariant-loop-i l =
    let passes = edge_passes l.starts l.ends l.nodes l.from l.to l.via in
    (l.lowest ≡ lowest_key l.to l.via l.i)
    × (all_of passes (upto (l.m - l.i) l.i) ≡ all_of passes (upto l.m 0))
    × FlagsSet l.initial.cin l.to l.i l.cin
    × FlagsSet l.initial.cout l.from l.i l.cout
