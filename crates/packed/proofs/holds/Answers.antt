-- A packed form has at most five bytes.
use Prim.Native.Nat.{ℕ, ◌+◌}
use native.Mathlib.Omega.{arith}
use mathlib.Core.Path.{sym, ◌∙◌, ap}
use lib.Dec.{leb}
use lib.ListN.{length}
use Rattle.timing.specs.Numbers.{packed}
use Rattle.packed.proofs.Numbers.{packed_size}
use Rattle.packed.proofs.Rooms.{left_fewer}
use Rattle.packed.proofs.holds.Goals as goal

pub returns-then-has_left : goal.returns-then-has_left
returns-then-has_left c =
    let a = c.args in
    sym (left_fewer a.len a.at _ (length (packed a.x)) (sym c.has_left.ensures ∙ c.if-has_left.true) (omega (arith, (packed_size 4 a.x).1)))

pub returns : goal.returns
returns c =
    let a = c.args in
    c.has_left-2.ensures ∙ ap (λ (n : ℕ). leb (a.at + n) a.len) c.number_size.ensures
