-- The invariant: the counts, and what the paths from this one on add to them, are together what is to be counted.
use Rattle.removal.proofs.Building.CountLaws.{TallyAt}
use Rattle.removal.proofs.build.count_inner.Given as goal

abbrev pub invariant-loop-length : goal.invariant-loop-length
invariant-loop-length l = TallyAt l.starts l.listed l.lengths l.counts l.at l.length-index
