use native.Mathlib.Omega.{arith}
use Rattle.removal.proofs.Filling.FlagRows.{unpatch_next}
use Rattle.removal.proofs.fill.unpatch_row.Goals as goal

pub loop-i-preserved : goal.loop-i-preserved
loop-i-preserved c = unpatch_next c.requires c.loop-i.invariant (omega arith) c.shown_flag.ensures
