-- The room's slices differ; or the look refuses; or it passes and the fill puts the graph into the room.
use mathlib.Core.Path.{◌≡◌, sym, ◌∙◌}
use Rattle.std.specs.Prelude.{Result, Err}
use Rattle.std.proofs.Common.{rules}
use lib.ListN.{length}
use Rattle.timing.specs.declared.GraphCounts.{GraphCounts}
use Rattle.timing.specs.declared.Refusal.{Refusal}
use Rattle.timing.specs.Calls.{graph_slices}
use Rattle.graph_reader.proofs.Made.{graph_read_lem, rooms_fit, answers_refused, answers_made, sizes_passed, sizes_refused, read_stopped}
use Rattle.graph_reader.proofs.read_graph.Goals as goal

pub returns-in_err-graph_sizes : goal.returns-in_err-graph_sizes
returns-in_err-graph_sizes c =
    let a = c.args in
    let S = graph_slices a.room_nodes.now a.room_endpoint.now a.room_from.now a.room_to.now a.room_via.now in
    let same : ◌≡◌ {A = Result GraphCounts Refusal} c.from_residual.result (Err c.in_err-graph_sizes.field-0.0) = search rules in
    rw same (answers_refused _ _ S (sizes_refused a.s.now S _ (sym c.in_err-graph_sizes.ensures)))

pub returns-in_err-counts : goal.returns-in_err-counts
returns-in_err-counts c =
    let a = c.args in
    let S = graph_slices a.room_nodes.now a.room_endpoint.now a.room_from.now a.room_to.now a.room_via.now in
    let same : ◌≡◌ {A = Result GraphCounts Refusal} c.from_residual-in_err-counts.result (Err c.in_err-counts.field-0.0) = search rules in
    rw same (answers_refused _ _ S (sizes_passed a.s.now S (sym c.in_ok-graph_sizes.ensures) ∙ read_stopped _ _ (sym c.in_err-counts.ensures)))

pub fill-requires : goal.fill-requires
fill-requires c =
    let a = c.args in
    let S = graph_slices a.room_nodes.now a.room_endpoint.now a.room_from.now a.room_to.now a.room_via.now in
    let g = graph_read_lem a.s.now (length S.nodes) (length S.starts) _ _ (sym c.in_ok-counts.ensures) in
    rooms_fit S _ _ (sym c.in_ok-graph_sizes.ensures) g.few g.few_edges

pub returns : goal.returns
returns c =
    let a = c.args in
    let s = a.s.now in
    let S = graph_slices a.room_nodes.now a.room_endpoint.now a.room_from.now a.room_to.now a.room_via.now in
    let z = sym c.in_ok-graph_sizes.ensures in
    let g = graph_read_lem s (length S.nodes) (length S.starts) _ _ (sym c.in_ok-counts.ensures) in
    answers_made s _ _ _ S (graph_slices _ _ _ _ _) (sizes_passed s S z ∙ g.is) z g.few g.few_edges c.fill.ensures
