use native.Mathlib.Omega.{arith}
use Rattle.removal.proofs.Showing.ShowSteps.{to_all}
use Rattle.removal.proofs.show.show_all.Goals as goal

pub returns : goal.returns
returns c = (to_all (omega arith) c.loop-c.invariant.0, c.loop-c.invariant.1, c.loop-c.auto.pos)
