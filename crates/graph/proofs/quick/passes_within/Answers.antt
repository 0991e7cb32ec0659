-- The arrays are large enough.
use Prim.Native.Nat.{◌<◌}
use native.Mathlib.Omega.{arith}
use lib.ListN.{length}
use Rattle.graph.proofs.Flags.{clear_array}
use Rattle.graph.proofs.quick.passes_within.Goals as goal

pub edges_found-entered-requires : goal.edges_found-entered-requires
edges_found-entered-requires g c =
    let l = c.requires.4 in
    (l.counted.copies, l.few, l.design, l.some, omega (arith, l.counted.edges, l.ends_lent, l.names_lent), l.ends_lent, l.names_lent, clear_array (length c.args.nodes.now) g.row.COPIES c.requires.2)

pub passes_with-requires : goal.passes_with-requires
passes_with-requires g c =
    let node = clear_array c.args.n g.row.NODES c.requires.0 in
    let some : 0 < c.edges_found-entered.result = omega (arith, c.if-entered-eq0.false) in
    (c.requires.4, node, node, node, c.edges_found-entered.ensures some)
