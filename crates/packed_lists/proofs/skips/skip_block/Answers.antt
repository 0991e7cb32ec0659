use native.Mathlib.Omega.{arith}
use mathlib.Core.Path.{sym, ◌∙◌}
use Rattle.packed_lists.proofs.Skipping.{scanned_step}
use Rattle.packed_lists.proofs.skips.skip_block.Goals as goal

pub loop-i-preserved : goal.loop-i-preserved
loop-i-preserved c =
    let v = c.loop-i.invariant in (
      omega (arith, c.ending_byte-count.ensures.1),
      omega (arith, c.unended_byte-unended.ensures.1),
      λ z. rw c.ending_byte-count.ensures.0
          (scanned_step _ _ _ _ (omega arith) (sym c.unended_byte-unended.ensures.0 ∙ omega arith) (v.2 (omega arith))),
    )
