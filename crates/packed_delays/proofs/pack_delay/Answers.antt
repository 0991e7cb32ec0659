-- A negative delay d = -(n + 1) goes by way of -(d + 1) = n, which fits for every i32.
use native.Mathlib.Omega.{arith}
use mir.Syntax.{w32}
use mir.Facts.{to_z-of_z}
use Rattle.timing.proofs.Ints.{Negative, negative, Positive, positive, minus_next, next_fits, minus_next_fits}
use Rattle.packed_delays.proofs.pack_delay.Goals as goal

pub overflow_add-m : goal.overflow_add-m
overflow_add-m c = let b = (let by : Negative w32 c.args.d = negative w32 c.args.d c.ranges.d c.if-d-lt0.true in by) in rw (to_z-of_z c.ranges.d, b.is) (next_fits w32 b.n b.small)

pub overflow_sub-m : goal.overflow_sub-m
overflow_sub-m c = let b = (let by : Negative w32 c.args.d = negative w32 c.args.d c.ranges.d c.if-d-lt0.true in by) in rw (to_z-of_z c.ranges.d, b.is, to_z-of_z (next_fits w32 b.n b.small)) (minus_next_fits w32 b.n b.small)

pub overflow_cast-n : goal.overflow_cast-n
overflow_cast-n c = let b = (let by : Negative w32 c.args.d = negative w32 c.args.d c.ranges.d c.if-d-lt0.true in by) in rw (to_z-of_z c.ranges.d, b.is, to_z-of_z (next_fits w32 b.n b.small), to_z-of_z (minus_next_fits w32 b.n b.small), minus_next) (tt, record { fits = omega arith })

pub overflow_mul-result : goal.overflow_mul-result
overflow_mul-result c = let b = (let by : Negative w32 c.args.d = negative w32 c.args.d c.ranges.d c.if-d-lt0.true in by) in rw (to_z-of_z c.ranges.d, b.is, to_z-of_z (next_fits w32 b.n b.small), to_z-of_z (minus_next_fits w32 b.n b.small), minus_next) (record { fits = omega arith })

pub overflow_add-result : goal.overflow_add-result
overflow_add-result c = let b = (let by : Negative w32 c.args.d = negative w32 c.args.d c.ranges.d c.if-d-lt0.true in by) in rw (to_z-of_z c.ranges.d, b.is, to_z-of_z (next_fits w32 b.n b.small), to_z-of_z (minus_next_fits w32 b.n b.small), minus_next) (record { fits = omega arith })

pub overflow_cast-n-else-d-lt0 : goal.overflow_cast-n-else-d-lt0
overflow_cast-n-else-d-lt0 c = let b = (let by : Positive w32 c.args.d = positive w32 c.args.d c.ranges.d c.if-d-lt0.false in by) in rw (to_z-of_z c.ranges.d, b.is) (tt, record { fits = omega arith })

pub overflow_mul-result-else-d-lt0 : goal.overflow_mul-result-else-d-lt0
overflow_mul-result-else-d-lt0 c = let b = (let by : Positive w32 c.args.d = positive w32 c.args.d c.ranges.d c.if-d-lt0.false in by) in rw (to_z-of_z c.ranges.d, b.is) (record { fits = omega arith })

pub returns-then-d-lt0 : goal.returns-then-d-lt0
returns-then-d-lt0 c = let b = (let by : Negative w32 c.args.d = negative w32 c.args.d c.ranges.d c.if-d-lt0.true in by) in rw (to_z-of_z c.ranges.d, b.is, to_z-of_z (next_fits w32 b.n b.small), to_z-of_z (minus_next_fits w32 b.n b.small), minus_next)

pub returns-else-d-lt0 : goal.returns-else-d-lt0
returns-else-d-lt0 c = let b = (let by : Positive w32 c.args.d = positive w32 c.args.d c.ranges.d c.if-d-lt0.false in by) in rw (to_z-of_z c.ranges.d, b.is)
