-- Laws of packed delays: every whole number there and back, and every packed number back and there.
use Prim.Native.Nat.{ℕ, ◌+◌, ◌*◌, ◌%◌}
use native.Mathlib.Omega.{arith}
use mathlib.Core.Path.{◌≡◌, ap}
use lib.Dec.{eqb}
use lib.IntN.{ℤ, pos, negsuc}
use borrow.Author.Tests.{eq-eqb, ne_eqb, eqb-true, eqb-false}
use Rattle.timing.specs.Delays.{packed_delay, delay_of}
use Rattle.timing.proofs.Choice.{cond_elim}

pub delay_packed : (d : ℤ) → delay_of (packed_delay d) ≡ d
delay_packed (pos n) = rw (eq-eqb (2 * n % 2) 0 (omega arith)) (ap pos (omega arith))
delay_packed (negsuc n) = rw (ne_eqb ((2 * n + 1) % 2) 0 (λ e. omega arith)) (ap negsuc (omega arith))

pub packed_delay_lem : (x : ℕ) → packed_delay (delay_of x) ≡ x
packed_delay_lem x =
    cond_elim (λ (d : ℤ). packed_delay d ≡ x) (eqb (x % 2) 0)
    (λ e. omega (arith, eqb-true (x % 2) 0 e))
    (λ e. omega (arith, eqb-false (x % 2) 0 e))
