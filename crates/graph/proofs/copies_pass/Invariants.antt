-- The copies from c on pass, with the lowest node that is left for them, where all do.
use Prim.Native.Nat.{◌-◌}
use mathlib.Core.Path.{◌≡◌}
use lib.ListN.{length}
use Rattle.graph.specs.Passes.{flag, copy_passes, lowest_after, walked}
use Rattle.graph.proofs.copies_pass.Given as goal

abbrev pub invariant-loop-c : goal.invariant-loop-c
invariant-loop-c l =
    let passes = copy_passes l.n l.nodes l.endpoint (flag l.nin) (flag l.nout) (flag l.nmarked) (flag l.cin) (flag l.cout) in
    walked passes (lowest_after l.nodes l.endpoint) (length l.nodes - l.c) l.c l.lowest ≡ walked passes (lowest_after l.nodes l.endpoint) (length l.nodes) 0 0
