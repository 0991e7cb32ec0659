-- A refusal is passed on; where there is none, the test decides.
use Rattle.graph.proofs.and_graph_test.Goals as goal

pub returns : goal.returns
returns c = rw c.in_ok-before.was c.graph_test.ensures
