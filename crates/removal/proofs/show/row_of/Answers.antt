-- The row of the empty mark has no patches; those of any other are collected, and change how many edges come to it.
use Rattle.removal.proofs.Showing.RowSteps.{row_empty, row_patched, row_met}
use Rattle.removal.proofs.show.row_of.Goals as goal

pub returns-then-j-eq0 : goal.returns-then-j-eq0
returns-then-j-eq0 c = row_empty c.requires c.if-j-eq0.true

pub patched_edges-edges-requires : goal.patched_edges-edges-requires
patched_edges-edges-requires c = row_patched c.requires c.collect-patches.ensures

pub returns : goal.returns
returns c = row_met c.requires c.collect-patches.ensures c.patched_edges-edges.ensures
