-- What is left of the flat list is its length less the lengths before k: the lengths add up to it if, at the end, nothing is left.
use Prim.Native.Nat.{◌+◌}
use mathlib.Core.Path.{◌≡◌}
use lib.ListN.{length, drop}
use Rattle.timing.specs.Lists.{sum}
use Rattle.sizes.proofs.and_list_sizes.Given as goal

abbrev pub invariant-loop-k : goal.invariant-loop-k
invariant-loop-k l = sum l.lengths + l.left ≡ length l.listed + sum (drop l.k-index l.lengths)
