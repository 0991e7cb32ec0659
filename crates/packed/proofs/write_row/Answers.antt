-- Where all three fit they are put; where they do not, nothing is.
use Prim.Native.Nat.{ℕ, ◌+◌, ◌≤◌, ◌<◌}
use mathlib.Core.Path.{sym, ◌∙◌, ap}
use mathlib.Core.List.{List, [], ◌∷◌, flat_map}
use Rattle.std.specs.Prelude.{Ok, Err}
use lib.ListN.{length}
use borrow.Author.Tests.{leb-true, leb-false}
use Rattle.timing.specs.Numbers.{packed}
use Rattle.packed.proofs.Rooms.{answer_fits, too_long}
use Rattle.packed.proofs.write_row.Goals as goal

abbrev row : ℕ → ℕ → ℕ → List ℕ
row a b c = flat_map packed (a ∷ b ∷ c ∷ [])

pub put_row-requires : goal.put_row-requires
put_row-requires c = (let by : let a = c.args in a.at + length (row a.a a.b a.c) ≤ length a.room.now = let a = c.args in leb-true _ _ (sym c.holds_row.ensures ∙ c.if-holds_row.true) in by)

pub returns-then-holds_row : goal.returns-then-holds_row
returns-then-holds_row c =
    let a = c.args in
    (ap Ok c.put_row.ensures.0 ∙ sym (answer_fits a.room.now a.at (row a.a a.b a.c) ((let by : let a = c.args in a.at + length (row a.a a.b a.c) ≤ length a.room.now = let a = c.args in leb-true _ _ (sym c.holds_row.ensures ∙ c.if-holds_row.true) in by))), c.put_row.ensures.1)

pub returns-else-holds_row : goal.returns-else-holds_row
returns-else-holds_row c =
    let a = c.args in
    let t = too_long a.room.now (row a.a a.b a.c) a.at ((let by : let a = c.args in length a.room.now < a.at + length (row a.a a.b a.c) = let a = c.args in leb-false _ _ (sym c.holds_row.ensures ∙ c.if-holds_row.false) in by)) in
    (ap Err c.refuse.ensures ∙ sym t.0, sym t.1)
