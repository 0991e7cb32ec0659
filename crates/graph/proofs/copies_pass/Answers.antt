use mathlib.Core.Path.{◌∙◌}
use Rattle.graph.proofs.Walk.{walk_good}
use Rattle.graph.proofs.copies_pass.Goals as goal
use mathlib.Core.Path.{sym}

pub loop-c-preserved : goal.loop-c-preserved
loop-c-preserved c =
    rw c.lowest_after-lowest.ensures (walk_good _ _ c.loop-c.c _ c.loop-c.lowest c.loop-c-test.true (sym c.copy_passes.ensures ∙ c.if-not-copy_passes.false) ∙ c.loop-c.invariant)
