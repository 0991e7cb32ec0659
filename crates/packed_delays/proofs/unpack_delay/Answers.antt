-- h = x / 2 is below 2^31, so that h, -h and -h - 1 fit.
use Prim.Native.Nat.{ℕ, ◌/◌, ◌<◌}
use native.Mathlib.Omega.{arith}
use mathlib.Core.Path.{◌≡◌}
use lib.IntN.{pos, negsuc, ◌-ℤ◌}
use borrow.Author.Tests.{eq-eqb, ne_eqb}
use mir.Syntax.{w32}
use mir.Val.{SFits, to_z}
use mir.Facts.{to_z-of_z, to_z_pos}
use Rattle.timing.proofs.Ints.{sub_parts, eq_parts, neg_nat}
use Rattle.packed_delays.proofs.unpack_delay.Goals as goal

half : (x : ℕ) → x < 4294967296 → to_z w32 (x / 2) ≡ pos (x / 2)
half x l = to_z_pos w32 (omega arith)

neg-fits : (x : ℕ) → x < 4294967296 → SFits w32 (pos 0 -ℤ pos (x / 2))
neg-fits x l = neg_nat w32 (x / 2) (omega arith)

neg-one : (h : ℕ) → pos 0 -ℤ pos h -ℤ pos 1 ≡ negsuc h
neg-one h = eq_parts _ _ (omega (arith, sub_parts (pos 0 -ℤ pos h) (pos 1), sub_parts (pos 0) (pos h)))

pub overflow_sub-result : goal.overflow_sub-result
overflow_sub-result c = rw (half c.args.x ((let by : c.args.x < 4294967296 = omega arith in by))) (neg-fits c.args.x ((let by : c.args.x < 4294967296 = omega arith in by)))

pub overflow_sub-result-else-x-eq0 : goal.overflow_sub-result-else-x-eq0
overflow_sub-result-else-x-eq0 c = rw (half c.args.x ((let by : c.args.x < 4294967296 = omega arith in by)), to_z-of_z (neg-fits c.args.x ((let by : c.args.x < 4294967296 = omega arith in by))), neg-one) (record { sfits = omega arith })

pub returns-then-x-eq0 : goal.returns-then-x-eq0
returns-then-x-eq0 c = rw (half c.args.x (omega arith), eq-eqb _ _ c.if-x-eq0.true)

pub returns-else-x-eq0 : goal.returns-else-x-eq0
returns-else-x-eq0 c =
    rw (half c.args.x ((let by : c.args.x < 4294967296 = omega arith in by)), to_z-of_z (neg-fits c.args.x ((let by : c.args.x < 4294967296 = omega arith in by))), neg-one, ne_eqb _ _ c.if-x-eq0.false)
    (to_z-of_z {w = w32} {z = negsuc (c.args.x / 2)} (record { sfits = omega arith }))
