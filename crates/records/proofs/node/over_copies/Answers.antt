use mathlib.Core.Path.{◌∙◌}
use Rattle.records.proofs.Records.{copy_next}
use Rattle.records.proofs.node.over_copies.Goals as goal

pub loop-c-preserved : goal.loop-c-preserved
loop-c-preserved c = let a = c.args in c.next_copy-t.ensures ∙ rw c.loop-c.invariant (copy_next a.nodes.now a.arrivals.now a.requireds.now a.slacks.now a.earliests.now a.v c.loop-c.c)
