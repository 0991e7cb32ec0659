-- The invariant: the counts, and what the places from i on add to them, are together what is to be counted.
use Rattle.removal.proofs.Building.CountLaws.{CountingAt}
use Rattle.removal.proofs.build.count_path.Given as goal

abbrev pub invariant-loop-i : goal.invariant-loop-i
invariant-loop-i l = CountingAt l.starts l.listed l.initial.counts l.counts l.first l.end l.i
