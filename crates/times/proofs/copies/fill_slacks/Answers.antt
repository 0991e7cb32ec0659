use native.Mathlib.Omega.{arith}
use lib.IntN.{pos}
use Rattle.std.proofs.Common.{rules}
use Rattle.theorems.proofs.Elements.{done_next, done_all}
use Rattle.times.proofs.copies.fill_slacks.Goals as goal

pub loop-i-preserved : goal.loop-i-preserved
loop-i-preserved c = done_next (pos 0) _ _ _ _ _ (omega arith) (search rules) c.loop-i.invariant

pub returns : goal.returns
returns c = done_all (pos 0) _ _ _ _ (omega (arith, c.loop-i.invariant.size)) c.loop-i.invariant
