-- The arrays are large enough.
use lib.ListN.{length}
use Rattle.graph.proofs.Flags.{clear_array}
use Rattle.graph.proofs.each_formed.Goals as goal

pub formed_with-requires : goal.formed_with-requires
formed_with-requires c =
    let a = c.args in
    let node = clear_array a.n 4096 c.requires.0 in
    let copy = clear_array (length a.nodes.now) 16384 c.requires.1.copies in
    (c.requires.1, node, node, node, copy, copy)
