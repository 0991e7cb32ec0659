-- The reader stands at the front, behind the design, and behind the lists: what each part answers there is what the deck's reader answers.
use mathlib.Core.Path.{◌≡◌, sym, ◌∙◌}
use Rattle.std.specs.Prelude.{Err}
use Rattle.std.proofs.Common.{rules}
use Rattle.timing.specs.Answers.{Verdict}
use Rattle.deck_reader.proofs.Looking.{look_stop, look_stop_lists, look_rest}
use Rattle.deck_reader.proofs.reader.look_deck.Goals as goal

pub returns-in_err-behind_design : goal.returns-in_err-behind_design
returns-in_err-behind_design c =
    let a = c.args in
    let same : ◌≡◌ {A = Verdict} c.from_residual.result (Err c.in_err-behind_design.field-0.0) = search rules in
    let d = rw (c.at_front-r.ensures.0, c.at_front-r.ensures.1) at c.in_err-behind_design.ensures in
    same ∙ look_stop a.s.now (record { edges = a.edges; listed = a.listed; paths = a.paths; marked = a.marked }) _ (sym d)

pub returns-in_err-behind_lists : goal.returns-in_err-behind_lists
returns-in_err-behind_lists c =
    let a = c.args in
    let same : ◌≡◌ {A = Verdict} c.from_residual-in_err-behind_lists.result (Err c.in_err-behind_lists.field-0.0) = search rules in
    let d = rw (c.at_front-r.ensures.0, c.at_front-r.ensures.1) at c.in_ok-behind_design.ensures in
    let l = rw (c.onward-r.ensures.0, c.onward-r.ensures.1, c.at_front-r.ensures.0) at c.in_err-behind_lists.ensures in
    same ∙ look_stop_lists a.s.now (record { edges = a.edges; listed = a.listed; paths = a.paths; marked = a.marked }) _ (sym d) _ (sym l)

pub returns : goal.returns
returns c =
    let a = c.args in
    let d = rw (c.at_front-r.ensures.0, c.at_front-r.ensures.1) at c.in_ok-behind_design.ensures in
    let l = rw (c.onward-r.ensures.0, c.onward-r.ensures.1, c.at_front-r.ensures.0) at c.in_ok-behind_lists.ensures in
    let t = rw (c.onward-r-2.ensures.0, c.onward-r-2.ensures.1, c.onward-r.ensures.0, c.at_front-r.ensures.0) at c.look_tail.ensures in
    t ∙ look_rest a.s.now (record { edges = a.edges; listed = a.listed; paths = a.paths; marked = a.marked }) _ (sym d) _ (sym l)
