use native.Mathlib.Omega.{arith}
use Rattle.removal.proofs.Whole.TestLaws.{front_upto}
use Rattle.removal.proofs.numbers.number_places.Goals as goal

pub returns : goal.returns
returns c = let l = c.loop-i in front_upto c.args.n 0 l.t (omega arith) (λ k h. omega (arith, l.invariant k (omega arith)))
