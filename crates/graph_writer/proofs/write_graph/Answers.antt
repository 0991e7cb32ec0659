-- The tests refuse; or the graph is too long; or it is written whole.
use mathlib.Core.Path.{◌≡◌, sym, ◌∙◌}
use borrow.Author.Tests.{leb-true, leb-false}
use Rattle.std.proofs.Common.{rules}
use Rattle.std.specs.Prelude.{ℕ, Result, Err}
use Rattle.timing.specs.declared.Refusal.{Refusal}
use Rattle.timing.specs.Calls.{graph_slices, graph_of}
use Rattle.packed_lists.proofs.Rooms.{write_refused, write_long}
use Rattle.graph_writer.proofs.Writing.{tests_are, write_done}
use Rattle.graph_writer.proofs.write_graph.Goals as goal

pub returns-in_err-write_tests : goal.returns-in_err-write_tests
returns-in_err-write_tests c =
    let a = c.args in
    let r = c.in_err-write_tests.field-0.0 in
    let same : ◌≡◌ {A = Result ℕ Refusal} c.from_residual.result (Err r) = search rules in
    rw same (write_refused _ r _ _ (tests_are a.nodes.now a.endpoint.now a.from.now a.to.now a.via.now ∙ sym c.in_err-write_tests.ensures))

pub returns-then-not-graph_fits : goal.returns-then-not-graph_fits
returns-then-not-graph_fits c =
    let a = c.args in
    write_long _ _ _ _ (tests_are a.nodes.now a.endpoint.now a.from.now a.to.now a.via.now ∙ sym c.in_ok-write_tests.ensures) c.refuse.ensures (leb-false _ _ (sym c.if-not-graph_fits.ensures))

pub returns : goal.returns
returns c =
    let a = c.args in
    write_done _ (graph_of (graph_slices a.nodes.now a.endpoint.now a.from.now a.to.now a.via.now)) _ _ _
    (tests_are a.nodes.now a.endpoint.now a.from.now a.to.now a.via.now ∙ sym c.in_ok-write_tests.ensures)
    (leb-true _ _ (sym c.if-not-graph_fits.ensures))
    c.put_graph.ensures
