-- A node below n has the times over its copies; any other has none.
use native.Mathlib.Omega.{arith}
use mathlib.Core.Path.{◌∙◌}
use Rattle.records.proofs.Records.{node_is, node_past}
use Rattle.records.proofs.node.node_times.Goals as goal

pub returns-then-v-n : goal.returns-then-v-n
returns-then-v-n c = let a = c.args in c.over_copies.ensures ∙ node_is a.nodes.now a.arrivals.now a.requireds.now a.slacks.now a.earliests.now a.v a.n (omega arith)

pub returns-else-v-n : goal.returns-else-v-n
returns-else-v-n c = let a = c.args in node_past a.nodes.now a.arrivals.now a.requireds.now a.slacks.now a.earliests.now a.v a.n (omega arith)
