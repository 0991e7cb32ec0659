-- The edges before i join what their design edges join, and the flags of the copies that they leave are set.
use Prim.Native.Nat.{ℕ, ◌<◌}
use Rattle.graph.specs.Passes.{FlagsSet, Matches}
use Rattle.graph.proofs.quick.edges_match.Given as goal

abbrev pub invariant-loop-i : goal.invariant-loop-i
invariant-loop-i l =
    ((j : ℕ) → j < l.i → Matches l.starts l.ends l.nodes l.from l.to l.via j) × FlagsSet l.initial.cout l.from l.i l.cout
