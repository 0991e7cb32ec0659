-- The tests refuse; or they pass, and removal from the design makes what the deck asks for.
use mathlib.Core.Path.{◌≡◌, sym, ap, ◌∙◌}
use Prim.Native.Nat.{ℕ}
use Rattle.std.specs.Prelude.{Result, Err}
use Rattle.std.proofs.Common.{rules}
use Rattle.timing.specs.declared.Refusal.{Refusal}
use Rattle.timing.specs.Graphs.{design, Graph}
use Rattle.timing.specs.Marks.{path_list}
use Rattle.timing.specs.Calls.{Outcome, c_written, room_after_c}
use Rattle.true_graph.proofs.DeckLaws.{deck_refused, deck_tested, deck_passed}
use Rattle.true_graph.proofs.pack_tested.Goals as goal

pub returns-in_err-test_deck : goal.returns-in_err-test_deck
returns-in_err-test_deck c =
    let a = c.args in
    let D = design a.n a.starts.now a.ends.now a.early.now a.late.now a.marked.now in
    let why = c.in_err-test_deck.field-0.0 in
    let same : ◌≡◌ {A = Result ℕ Refusal} c.from_residual.result (Err why) = search rules in
    let e = deck_refused D (path_list a.listed.now a.lengths.now) a.allowed why (sym c.in_err-test_deck.ensures) in
    (same ∙ ap (λ (o : Outcome Graph). c_written o a.room.now) (sym e), ap (λ (o : Outcome Graph). room_after_c o a.room.now) (sym e))

pub pack_graph-requires : goal.pack_graph-requires
pack_graph-requires c =
    let a = c.args in
    let D = design a.n a.starts.now a.ends.now a.early.now a.late.now a.marked.now in
    deck_tested D (path_list a.listed.now a.lengths.now) a.allowed (sym c.in_ok-test_deck.ensures)

pub returns : goal.returns
returns c =
    let a = c.args in
    let D = design a.n a.starts.now a.ends.now a.early.now a.late.now a.marked.now in
    let e = deck_passed D (path_list a.listed.now a.lengths.now) a.allowed (sym c.in_ok-test_deck.ensures) in
    (c.pack_graph.ensures.0 ∙ ap (λ (o : Outcome Graph). c_written o a.room.now) e, c.pack_graph.ensures.1 ∙ ap (λ (o : Outcome Graph). room_after_c o a.room.now) e)
