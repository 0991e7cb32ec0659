-- The copies from c on pass, with the lowest node that is left for them, where all do; those of sources before c are counted.
use Prim.Native.Nat.{◌-◌, ◌≤◌}
use mathlib.Core.Path.{◌≡◌}
use mathlib.Core.Bool.{not}
use lib.ListN.{length, get_or}
use Rattle.timing.specs.Lists.{count_of, upto}
use Rattle.graph.specs.Passes.{flag, copy_ends, lowest_after, walked}
use Rattle.graph.proofs.quick.copies_end.Given as goal

abbrev pub invariant-loop-c : goal.invariant-loop-c
invariant-loop-c l =
    let passes = copy_ends l.n l.nodes l.endpoint (flag l.nout) (flag l.nmarked) (flag l.cout) in
    (walked passes (lowest_after l.nodes l.endpoint) (length l.nodes - l.c) l.c l.lowest ≡ walked passes (lowest_after l.nodes l.endpoint) (length l.nodes) 0 0)
    × (l.sources ≤ l.c)
    × (l.sources ≡ count_of (λ k. not (flag l.nin (get_or l.nodes k 0))) (upto l.c 0))
