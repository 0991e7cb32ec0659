use Prim.Native.Nat.{ℕ}
use native.Mathlib.Omega.{arith}
use mathlib.Core.Path.{sym, ◌∙◌, ap}
use mathlib.Core.Bool.{not}
use lib.ListN.{get_or}
use borrow.Author.Tests.{not-false}
use Rattle.timing.specs.Lists.{one_if}
use Rattle.graph.specs.Passes.{flag}
use Rattle.graph.proofs.Walk.{walk_good}
use Rattle.graph.proofs.Turns.{count_next}
use Rattle.graph.proofs.quick.copies_end.Goals as goal

pub loop-c-preserved : goal.loop-c-preserved
loop-c-preserved c =
    let a = c.args in
    let k = c.loop-c.c in
    let one = c.one_unless-sources.ensures.0 ∙ ap (λ (v : ℕ). one_if (not (flag a.nin.now v))) c.wide-v.ensures in (
      rw c.lowest_after-lowest.ensures (walk_good _ _ k _ c.loop-c.lowest c.loop-c-test.true (sym c.copy_ends.ensures ∙ not-false _ (ap not c.if-not-copy_ends.false)) ∙ c.loop-c.invariant.0),
      omega arith,
      omega (arith, c.loop-c.invariant.2, one, count_next (λ j. not (flag a.nin.now (get_or a.nodes.now j 0))) k),
    )
