-- As of the removal in the largest room; there is none for 30 to test.
use mathlib.Core.Path.{◌≡◌, sym}
use Rattle.std.specs.Prelude.{Result, Err}
use Rattle.std.proofs.Common.{rules}
use lib.ListN.{length}
use Rattle.timing.specs.Answers.{Passed}
use Rattle.timing.specs.declared.GraphCounts.{GraphCounts}
use Rattle.timing.specs.declared.Refusal.{Refusal}
use Rattle.timing.specs.Graphs.{design, Graph}
use Rattle.timing.specs.Marks.{path_list}
use Rattle.timing.specs.Calls.{Outcome, graph_slices, largest_room}
use Rattle.removal.specs.Remove.{Sized}
use Rattle.removal.proofs.Whole.TestLaws.{graph_refused, graph_passed, graph_workable, graph_sized, no_room, size_graph, sized_kept}
use Rattle.removal.proofs.size_from_graph.Goals as goal

pub returns-in_err-graph_tests : goal.returns-in_err-graph_tests
returns-in_err-graph_tests c =
    let a = c.args in
    let r = c.in_err-graph_tests.field-0.0 in
    let same : ◌≡◌ {A = Result GraphCounts Refusal} c.from_residual.result (Err r) = search rules in
    let P = λ (o : Outcome Graph). Sized o (Err r) a.scratch.now a.scratch.now in
    rw same
    (size_graph P (design a.n a.starts.now a.ends.now a.early.now a.late.now a.marked.now) (path_list a.listed.now a.lengths.now) (length a.scratch.now) (graph_slices a.nodes.now a.endpoint.now a.from.now a.to.now a.via.now)
    (graph_refused a.n a.starts.now a.ends.now a.early.now a.late.now a.marked.now a.listed.now a.lengths.now Passed a.nodes.now a.endpoint.now a.from.now a.to.now a.via.now largest_room no_room (length a.scratch.now) P r (sym c.in_err-graph_tests.ensures) (sized_kept r _)))

pub size-requires : goal.size-requires
size-requires c =
    let a = c.args in
    graph_workable a.n a.starts.now a.ends.now a.early.now a.late.now a.marked.now a.listed.now a.lengths.now Passed a.nodes.now a.endpoint.now a.from.now a.to.now a.via.now (sym c.in_ok-graph_tests.ensures)

pub returns : goal.returns
returns c =
    let a = c.args in
    let r = c.size in
    let passed = sym c.in_ok-graph_tests.ensures in
    let P = λ (o : Outcome Graph). Sized o r.result a.scratch.now r.new.scratch in
    size_graph P (design a.n a.starts.now a.ends.now a.early.now a.late.now a.marked.now) (path_list a.listed.now a.lengths.now) (length a.scratch.now) (graph_slices a.nodes.now a.endpoint.now a.from.now a.to.now a.via.now)
    (graph_passed a.n a.starts.now a.ends.now a.early.now a.late.now a.marked.now a.listed.now a.lengths.now Passed a.nodes.now a.endpoint.now a.from.now a.to.now a.via.now largest_room no_room (length a.scratch.now) P passed
    (graph_sized a.n a.starts.now a.ends.now a.early.now a.late.now a.marked.now a.listed.now a.lengths.now Passed a.nodes.now a.endpoint.now a.from.now a.to.now a.via.now passed r.result a.scratch.now _ r.ensures))
