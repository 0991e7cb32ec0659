-- The tests, then the size, then the bytes: each way out is one of three laws.
use native.Mathlib.Omega.{arith}
use mathlib.Core.Path.{◌≡◌, sym, ◌∙◌}
use Rattle.std.proofs.Common.{rules}
use Rattle.std.specs.Prelude.{ℕ, Result, Err}
use Rattle.timing.specs.declared.Refusal.{Refusal}
use Rattle.deck_writer.specs.Writing.{deck_of}
use Rattle.deck_writer.proofs.Tests.{fit_of, tests_untimed}
use Rattle.packed_lists.proofs.Rooms.{write_refused, write_long}
use Rattle.deck_writer.proofs.Writing.{write_done}
use Rattle.deck_writer.proofs.write_deck.Goals as goal

pub returns-in_err-write_tests : goal.returns-in_err-write_tests
returns-in_err-write_tests c =
    let a = c.args in
    let d = deck_of a.n a.starts.now a.ends.now a.early.now a.late.now a.marked.now a.listed.now a.lengths.now a.allowed in
    let r = c.in_err-write_tests.field-0.0 in
    let same : ◌≡◌ {A = Result ℕ Refusal} c.from_residual.result (Err r) = search rules in
    rw same (write_refused _ r _ _ (sym (tests_untimed d) ∙ sym c.in_err-write_tests.ensures))

pub deck_size-size-requires : goal.deck_size-size-requires
deck_size-size-requires c =
    let a = c.args in
    let d = deck_of a.n a.starts.now a.ends.now a.early.now a.late.now a.marked.now a.listed.now a.lengths.now a.allowed in
    fit_of d (sym (tests_untimed d) ∙ sym c.in_ok-write_tests.ensures)

pub returns-then-room-size : goal.returns-then-room-size
returns-then-room-size c =
    let a = c.args in
    let d = deck_of a.n a.starts.now a.ends.now a.early.now a.late.now a.marked.now a.listed.now a.lengths.now a.allowed in
    write_long _ _ _ _ (sym (tests_untimed d) ∙ sym c.in_ok-write_tests.ensures) c.refuse.ensures (omega (arith, c.deck_size-size.ensures))

pub put_deck-requires : goal.put_deck-requires
put_deck-requires c =
    let a = c.args in
    let d = deck_of a.n a.starts.now a.ends.now a.early.now a.late.now a.marked.now a.listed.now a.lengths.now a.allowed in
    (fit_of d (sym (tests_untimed d) ∙ sym c.in_ok-write_tests.ensures), omega (arith, c.deck_size-size.ensures))

pub returns : goal.returns
returns c =
    let a = c.args in
    let d = deck_of a.n a.starts.now a.ends.now a.early.now a.late.now a.marked.now a.listed.now a.lengths.now a.allowed in
    write_done _ d _ _ _ (sym (tests_untimed d) ∙ sym c.in_ok-write_tests.ensures) (omega (arith, c.deck_size-size.ensures)) c.put_deck.ensures
