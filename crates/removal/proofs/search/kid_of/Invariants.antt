-- The edges before lo are below e, and those from hi on are not.
use Prim.Native.Nat.{◌-◌}
use Rattle.removal.proofs.Listing.SearchLaws.{Sought}
use Rattle.removal.proofs.search.kid_of.Given as goal

abbrev pub invariant-loop-lo : goal.invariant-loop-lo
invariant-loop-lo l = Sought l.s l.l.kids l.initial.lo l.end l.e l.lo l.hi

abbrev pub decreases-loop-lo : goal.decreases-loop-lo
decreases-loop-lo l = l.hi - l.lo
