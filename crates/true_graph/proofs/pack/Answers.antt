-- Too many bytes; or what the reader answers fits the tables, and its graph is packed.
use native.Mathlib.Omega.{arith}
use mathlib.Core.Path.{◌≡◌, sym, ap, ◌∙◌}
use Rattle.std.specs.Prelude.{Err}
use Rattle.timing.specs.Graphs.{Graph}
use Rattle.timing.specs.Calls.{Outcome, c_written, room_after_c}
use Rattle.true_graph.proofs.ProgramLaws.{program_long, lent, lent_after, tables, tables_read, read_program}
use Rattle.true_graph.proofs.pack.Goals as goal

pub returns-then-deck-gt-MAX_DECK_BYTES : goal.returns-then-deck-gt-MAX_DECK_BYTES
returns-then-deck-gt-MAX_DECK_BYTES c =
    let a = c.args in
    let e = program_long a.deck.now (omega (arith, c.if-deck-gt-MAX_DECK_BYTES.true)) in
    (ap Err c.refuse.ensures ∙ ap (λ (o : Outcome Graph). c_written o a.room.now) (sym e), ap (λ (o : Outcome Graph). room_after_c o a.room.now) (sym e))

pub returns : goal.returns
returns c =
    let a = c.args in
    let l = c.read_deck-read.new in
    let q = c.read_deck-read.ensures in
    let K = lent l.starts l.ends l.early l.late l.marked l.listed l.lengths in
    let left : K ≡ lent_after (tables_read a.deck.now) tables = λ i. lent (q.1 i) (q.2 i) (q.3 i) (q.4 i) (q.7 i) (q.5 i) (q.6 i) in
    let e = read_program a.deck.now c.read_deck-read.result K q.0 left (omega (arith, c.if-deck-gt-MAX_DECK_BYTES.false)) in
    (c.pack_read.ensures.0 ∙ ap (λ (o : Outcome Graph). c_written o a.room.now) e, c.pack_read.ensures.1 ∙ ap (λ (o : Outcome Graph). room_after_c o a.room.now) e)
