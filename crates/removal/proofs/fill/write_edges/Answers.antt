-- A row in which as many edges come from shown slots as it has edges is full.
use Rattle.removal.proofs.Filling.FlagRows.{row_full}
use Rattle.removal.proofs.fill.write_edges.Goals as goal

pub write_full-requires-clause-row_full : goal.write_full-requires-clause-row_full
write_full-requires-clause-row_full c = row_full c.requires.row_read c.requires.p0_len c.if-edges-p1.true
