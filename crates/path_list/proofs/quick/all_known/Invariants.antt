-- Where all is known so far, each edge before k is below m.
use Prim.Native.Nat.{ℕ, ◌<◌}
use mathlib.Core.Path.{◌≡◌}
use mathlib.Core.Bool.{true}
use lib.ListN.{get_or}
use Rattle.path_list.proofs.quick.all_known.Given as goal

abbrev pub invariant-loop-k : goal.invariant-loop-k
invariant-loop-k l = l.known ≡ true → (j : ℕ) → j < l.k-index → get_or l.listed j 0 < l.m
