-- Each bound is a power of 128.
use native.Mathlib.Omega.{arith}
use Rattle.packed.proofs.Numbers.{reached, packed_reached}
use Rattle.packed.proofs.number_size.Goals as goal

pub overflow_add-result : goal.overflow_add-result
overflow_add-result c = omega arith

pub overflow_add-result-2 : goal.overflow_add-result-2
overflow_add-result-2 c = omega arith

pub overflow_add-result-3 : goal.overflow_add-result-3
overflow_add-result-3 c = omega arith

pub overflow_add-result-4 : goal.overflow_add-result-4
overflow_add-result-4 c = omega arith

pub returns : goal.returns
unfolding reached
returns c =
    let q₁ = c.reaches.ensures.0 in
    let q₂ = c.reaches-2.ensures.0 in
    let q₃ = c.reaches-3.ensures.0 in
    let q₄ = c.reaches-4.ensures.0 in
    omega (arith, q₁, q₂, q₃, q₄, packed_reached 4 c.args.x)
