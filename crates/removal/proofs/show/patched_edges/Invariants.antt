-- The invariant: count is how many edges come from shown slots where the first i patches lead, and the other edges go to their defaults. Each
-- patch changes the test at one edge.
use mathlib.Core.Path.{◌≡◌}
use lib.ListN.{take}
use Rattle.timing.specs.Lists.{count_of}
use Rattle.removal.specs.Rows.{run}
use Rattle.removal.proofs.Showing.ShowTables.{patched_test}
use Rattle.removal.proofs.show.patched_edges.Given as goal

abbrev pub invariant-loop-i : goal.invariant-loop-i
invariant-loop-i l = l.count ≡ count_of (patched_test l.l l.scratch l.i) (run l.l (take l.l.slots l.scratch) l.c)
