-- The row is patched, its edges are written, and it is as before.
use Rattle.removal.proofs.Filling.EdgeLaws.{patch_room, read_room, row_meets, unpatch_room, edges_filled}
use Rattle.removal.proofs.fill.fill_edges.Goals as goal

pub patch_row-requires : goal.patch_row-requires
patch_row-requires c = patch_room c.requires.edges_room

pub write_edges-requires-clause-row_read : goal.write_edges-requires-clause-row_read
write_edges-requires-clause-row_read c = read_room c.requires.edges_room c.patch_row.ensures

pub write_edges-requires-clause-p0_len : goal.write_edges-requires-clause-p0_len
write_edges-requires-clause-p0_len c = row_meets c.requires.edges_room c.patch_row.ensures c.args.number c.requires.edges_meet

pub unpatch_row-requires : goal.unpatch_row-requires
unpatch_row-requires c = unpatch_room c.requires.edges_room c.patch_row.ensures

pub returns : goal.returns
returns c = edges_filled c.requires.edges_room c.patch_row.ensures c.unpatch_row.ensures c.write_edges.ensures
