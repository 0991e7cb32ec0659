-- The invariant: the suffixes of fewer than d edges are numbered, and n paths with at least d edges wait. The measure: while a path waits, d is at
-- most the number of listed edges.
use Prim.Native.Nat.{◌+◌, ◌-◌, ◌≤◌}
use lib.ListN.{length}
use Rattle.removal.proofs.Listing.LevelLaws.{Leveled}
use Rattle.removal.proofs.levels.number_classes.Given as goal

abbrev pub invariant-loop-n : goal.invariant-loop-n
invariant-loop-n l = (1 ≤ l.d) × (l.n ≤ length l.lengths) × Leveled l.listed l.lengths l.who l.initial.s l.s l.l l.n (l.d - 1) l.id

abbrev pub decreases-loop-n : goal.decreases-loop-n
decreases-loop-n l = length l.listed + 1 - l.d
