-- The invariant: the total, and what the copies from this one on add to it, are together the sum over all copies.
use Prim.Native.Nat.{◌+◌, ◌*◌, ◌≤◌}
use mathlib.Core.Path.{◌≡◌}
use lib.ListN.{drop}
use Rattle.removal.specs.Counts.{shares}
use Rattle.removal.proofs.build.count_copies.Given as goal

abbrev pub invariant-loop-v : goal.invariant-loop-v
invariant-loop-v l = (l.total + shares l.counts (drop l.v-index l.nodes) ≡ shares l.counts l.nodes) × (l.total ≤ 8193 * l.v-index)
