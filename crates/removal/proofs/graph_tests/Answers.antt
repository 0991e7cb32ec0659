-- Each verdict is handed on to the next test; 10 has passed where 32 is tested.
use Rattle.timing.specs.Marks.{path_list}
use Rattle.timing.specs.Calls.{graph_slices, graph_of, graph_sizes}
use Rattle.removal.proofs.Whole.TestLaws.{graph_called}
use Rattle.removal.proofs.graph_tests.Goals as goal

pub returns : goal.returns
returns c =
    let a = c.args in
    let S = graph_slices a.nodes.now a.endpoint.now a.from.now a.to.now a.via.now in
    rw (c.and_graph_test.ensures, c.list_tests-fit.ensures, c.then-others.ensures, c.graph_sizes-earlier.ensures)
    (graph_called a.n a.starts.now a.ends.now a.early.now a.late.now a.marked.now (path_list a.listed.now a.lengths.now) (graph_sizes S) a.room (graph_of S))
