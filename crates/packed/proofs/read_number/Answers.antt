-- One or two bytes as they stand, and any other number by its groups.
use Prim.Native.Nat.{◌+◌}
use native.Mathlib.Omega.{arith}
use mathlib.Core.Path.{sym}
use Rattle.packed.proofs.Numbers.{read_one, read_two}
use Rattle.packed.proofs.read_number.Goals as goal

pub overflow_cast-low : goal.overflow_cast-low
overflow_cast-low c = omega (arith, c.shared_slice_known-then-at-s-1.given c.args.at)

pub returns-then-low-lt128 : goal.returns-then-low-lt128
returns-then-low-lt128 c =
    let a = c.args in
    sym (read_one a.s.now a.at c.if-at-s.true c.if-low-lt128.true)

pub overflow_cast-high : goal.overflow_cast-high
overflow_cast-high c = omega (arith, c.shared_slice_known-then-at-s-2-1.given (c.args.at + 1))

pub overflow_add-result-then-high-lt128 : goal.overflow_add-result-then-high-lt128
overflow_add-result-then-high-lt128 c =
    omega (arith, c.shared_slice_known-then-at-s-1.given c.args.at)

pub returns-then-high-lt128 : goal.returns-then-high-lt128
returns-then-high-lt128 c =
    let a = c.args in
    sym (read_two a.s.now a.at c.if-at-s-2.true c.if-low-lt128.false c.if-high-gt0.true c.if-high-lt128.true)
