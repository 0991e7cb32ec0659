-- Where the packed form fits it is put; where it does not, nothing is.
-- the two outcomes of the test
use Prim.Native.Nat.{◌+◌, ◌≤◌, ◌<◌}
use mathlib.Core.Path.{sym, ◌∙◌, ap}
use Rattle.std.specs.Prelude.{Ok, Err}
use lib.ListN.{length}
use borrow.Author.Tests.{leb-true, leb-false}
use Rattle.timing.specs.Numbers.{packed}
use Rattle.packed.proofs.Rooms.{answer_fits, too_long}
use Rattle.packed.proofs.write_number.Goals as goal

pub put_number-requires : goal.put_number-requires
put_number-requires c = (let by : let a = c.args in a.at + length (packed a.x) ≤ length a.room.now = let a = c.args in leb-true _ _ (sym c.holds.ensures ∙ c.if-holds.true) in by)

pub returns-then-holds : goal.returns-then-holds
returns-then-holds c =
    let a = c.args in
    (ap Ok c.put_number.ensures.0 ∙ sym (answer_fits a.room.now a.at (packed a.x) ((let by : let a = c.args in a.at + length (packed a.x) ≤ length a.room.now = let a = c.args in leb-true _ _ (sym c.holds.ensures ∙ c.if-holds.true) in by))), c.put_number.ensures.1)

pub returns-else-holds : goal.returns-else-holds
returns-else-holds c =
    let a = c.args in
    let t = too_long a.room.now (packed a.x) a.at ((let by : let a = c.args in length a.room.now < a.at + length (packed a.x) = let a = c.args in leb-false _ _ (sym c.holds.ensures ∙ c.if-holds.false) in by)) in
    (ap Err c.refuse.ensures ∙ sym t.0, sym t.1)
