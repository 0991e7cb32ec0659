use native.Mathlib.Omega.{arith}
use lib.IntN.{pos}
use mir.Facts.{to_z-of_z}
use Rattle.theorems.proofs.Elements.{done_all}
use Rattle.times.proofs.requireds.first_requireds.Goals as goal

pub returns : goal.returns
returns c = rw (to_z-of_z c.ranges.allowed) at (done_all (pos 0) _ _ _ _ (omega (arith, c.loop-i.invariant.size)) c.loop-i.invariant)
