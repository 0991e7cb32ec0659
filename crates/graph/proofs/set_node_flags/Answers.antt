-- Each array holds the flags of one list.
use Rattle.graph.proofs.set_node_flags.Goals as goal

pub returns : goal.returns
returns c =
    let d = c.least-d.ensures.0 in
    (rw (← d) c.set_flags.ensures, rw (← d) c.set_flags-2.ensures, c.set_flags-3.ensures)
