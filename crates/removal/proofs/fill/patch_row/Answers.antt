use native.Mathlib.Omega.{arith}
use Rattle.removal.proofs.Filling.FlagRows.{patch_next}
use Rattle.removal.proofs.fill.patch_row.Goals as goal

pub loop-i-preserved : goal.loop-i-preserved
loop-i-preserved c = patch_next c.requires c.loop-i.invariant (omega arith) c.shown_flag.ensures
