-- One return for each way in which the edges end, behind a count that passed.
use mathlib.Core.Path.{◌≡◌, sym, ◌∙◌}
use Rattle.std.specs.Prelude.{Result, Err}
use Rattle.std.proofs.Common.{rules}
use Rattle.timing.specs.declared.GraphCounts.{GraphCounts}
use Rattle.timing.specs.declared.Refusal.{Refusal}
use Rattle.graph_reader.proofs.Looking.{edges_end, edges_more, edges_stop}
use Rattle.graph_reader.proofs.reader.look_edges.Goals as goal

pub returns-in_err-after : goal.returns-in_err-after
returns-in_err-after c =
    let a = c.args in
    let same : ◌≡◌ {A = Result GraphCounts Refusal} c.from_residual-in_err-after.result (Err c.in_err-after.field-0.0) = search rules in
    same ∙ edges_stop a.s.now a.edges a.at _ _ (sym c.in_ok-count.ensures) a.copies _ (sym c.in_err-after.ensures)

pub returns-then-after-s : goal.returns-then-after-s
returns-then-after-s c =
    let a = c.args in
    rw c.refuse.ensures (edges_more a.s.now a.edges a.at _ _ (sym c.in_ok-count.ensures) a.copies _ (sym c.in_ok-after.ensures) c.if-after-s.true)

pub returns : goal.returns
returns c =
    let a = c.args in
    rw (c.wide.ensures, c.wide-2.ensures) (edges_end a.s.now a.edges a.at _ _ (sym c.in_ok-count.ensures) a.copies _ (sym c.in_ok-after.ensures) c.if-after-s.false)
