-- Each of the three packed forms has at most five bytes.
use Prim.Native.Nat.{ℕ, ◌+◌}
use native.Mathlib.Omega.{arith}
use mathlib.Core.Path.{◌≡◌, sym, ◌∙◌, ap}
use mathlib.Core.List.{[], ◌∷◌, flat_map}
use lib.Dec.{leb}
use lib.ListN.{length}
use Rattle.timing.specs.Numbers.{packed}
use Rattle.packed.proofs.Numbers.{packed_size}
use Rattle.packed.proofs.Rooms.{left_fewer, row_size}
use Rattle.packed.proofs.holds_row.Goals as goal

pub returns-then-has_left : goal.returns-then-has_left
returns-then-has_left c =
    let a = c.args in
    sym (left_fewer a.len a.at _ (length (flat_map packed (a.a ∷ a.b ∷ a.c ∷ []))) (sym c.has_left.ensures ∙ c.if-has_left.true) (omega (
      arith,
      row_size a.a a.b a.c,
      (packed_size 4 a.a).1,
      (packed_size 4 a.b).1,
      (packed_size 4 a.c).1,
    )))

pub overflow_add-number_size : goal.overflow_add-number_size
overflow_add-number_size c =
    let a = c.args in
    omega (arith, c.number_size.ensures, c.number_size-2.ensures, (packed_size 4 a.a).1, (packed_size 4 a.b).1)

pub overflow_add-number_size-2 : goal.overflow_add-number_size-2
overflow_add-number_size-2 c =
    let a = c.args in
    omega (
      arith,
      c.number_size.ensures,
      c.number_size-2.ensures,
      c.number_size-3.ensures,
      (packed_size 4 a.a).1,
      (packed_size 4 a.b).1,
      (packed_size 4 a.c).1,
    )

pub returns : goal.returns
returns c =
    let a = c.args in
    let n : c.number_size.result + c.number_size-2.result + c.number_size-3.result ≡ length (flat_map packed (a.a ∷ a.b ∷ a.c ∷ [])) =
    omega (arith, row_size a.a a.b a.c, c.number_size.ensures, c.number_size-2.ensures, c.number_size-3.ensures) in
    c.has_left-2.ensures ∙ ap (λ (m : ℕ). leb (a.at + m) a.len) n
