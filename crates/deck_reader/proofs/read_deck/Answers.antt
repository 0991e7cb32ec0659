-- 30, then the look, then the fill: a refusal by the first two leaves every table.
use mathlib.Core.Path.{◌≡◌, sym}
use Rattle.std.specs.Prelude.{Result, Err}
use Rattle.std.proofs.Common.{rules}
use lib.ListN.{length}
use Rattle.timing.specs.declared.DeckCounts.{DeckCounts}
use Rattle.timing.specs.declared.Refusal.{Refusal}
use Rattle.timing.proofs.Verdicts.{edges_passed}
use Rattle.deck_reader.specs.Reading.{deck_from}
use Rattle.deck_reader.proofs.Reading.{read_sizes, read_stopped, read_made, read_passed, tables_kept, tables_filled}
use Rattle.deck_reader.proofs.read_deck.Goals as goal

pub returns-in_err-edge_sizes : goal.returns-in_err-edge_sizes
returns-in_err-edge_sizes c =
    let a = c.args in
    let same : ◌≡◌ {A = Result DeckCounts Refusal} c.from_residual.result (Err c.in_err-edge_sizes.field-0.0) = search rules in
    rw same
    (tables_kept a.starts.now a.ends.now a.early.now a.late.now a.listed.now a.lengths.now a.marked.now _ _
    (read_sizes a.s.now (length a.starts.now) (length a.ends.now) (length a.early.now) (length a.late.now) (length a.listed.now) (length a.lengths.now) (length a.marked.now) _ (sym c.in_err-edge_sizes.ensures)))

pub returns-in_err-look_deck : goal.returns-in_err-look_deck
returns-in_err-look_deck c =
    let a = c.args in
    let same : ◌≡◌ {A = Result DeckCounts Refusal} c.from_residual-in_err-look_deck.result (Err c.in_err-look_deck.field-0.0) = search rules in
    rw same
    (tables_kept a.starts.now a.ends.now a.early.now a.late.now a.listed.now a.lengths.now a.marked.now _ _
    (read_stopped a.s.now (length a.starts.now) (length a.ends.now) (length a.early.now) (length a.late.now) (length a.listed.now) (length a.lengths.now) (length a.marked.now) _
    (sym c.in_ok-edge_sizes.ensures) (sym c.in_err-look_deck.ensures)))

pub fill_deck-requires : goal.fill_deck-requires
fill_deck-requires c =
    let a = c.args in
    let q = edges_passed (length a.starts.now) (length a.ends.now) (length a.early.now) (length a.late.now) (sym c.in_ok-edge_sizes.ensures) in
    ((read_passed a.s.now _ (sym c.in_ok-look_deck.ensures)).1, q.0, q.1, q.2)

pub returns : goal.returns
returns c =
    let a = c.args in
    tables_filled a.starts.now a.ends.now a.early.now a.late.now a.listed.now a.lengths.now a.marked.now _ (deck_from a.s.now 0) _ _ _ _ _ _ _ _
    (read_made a.s.now (length a.starts.now) (length a.ends.now) (length a.early.now) (length a.late.now) (length a.listed.now) (length a.lengths.now) (length a.marked.now)
    (sym c.in_ok-edge_sizes.ensures) (sym c.in_ok-look_deck.ensures)) c.fill_deck.ensures
