-- One return for each way in which the copies end.
use mathlib.Core.Path.{◌≡◌, sym, ◌∙◌}
use Rattle.std.specs.Prelude.{Result, Err}
use Rattle.std.proofs.Common.{rules}
use Rattle.timing.specs.declared.GraphCounts.{GraphCounts}
use Rattle.timing.specs.declared.Refusal.{Refusal}
use Rattle.graph_reader.proofs.Looking.{graph_rest, graph_stop, graph_none}
use Rattle.graph_reader.proofs.reader.look.Goals as goal

pub returns-in_err-count : goal.returns-in_err-count
returns-in_err-count c =
    let a = c.args in
    let same : ◌≡◌ {A = Result GraphCounts Refusal} c.from_residual.result (Err c.in_err-count.field-0.0) = search rules in
    same ∙ graph_none a.s.now a.copies a.edges _ (sym c.in_err-count.ensures)

pub returns-in_err-after : goal.returns-in_err-after
returns-in_err-after c =
    let a = c.args in
    let same : ◌≡◌ {A = Result GraphCounts Refusal} c.from_residual-in_err-after.result (Err c.in_err-after.field-0.0) = search rules in
    let l = rw c.wide.ensures at c.in_err-after.ensures in
    same ∙ graph_stop a.s.now a.copies a.edges _ _ (sym c.in_ok-count.ensures) _ (sym l)

pub returns : goal.returns
returns c =
    let a = c.args in
    let l = rw c.wide.ensures at c.in_ok-after.ensures in
    c.look_edges.ensures ∙ graph_rest a.s.now a.copies a.edges _ _ (sym c.in_ok-count.ensures) _ (sym l)
