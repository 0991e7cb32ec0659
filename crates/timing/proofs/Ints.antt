-- Signed numbers for `omega`, which reads ℕ alone: a number z is `up z` less `dn z`, one of which is 0.
-- Each operation on ℤ has a law that is linear in these two.
use Prim.Native.Nat.{ℕ, zero, suc, ◌+◌, ◌-◌, ◌≤◌, ◌<◌, ◌^◌}
use native.Mathlib.Omega.{arith}
use mathlib.Core.Path.{◌≡◌, refl, sym, ap, subst}
use mathlib.Core.Bool.{Bool, true, false, cond}
use lib.Dec.{T, ltb}
use lib.IntN.{ℤ, pos, negsuc, neg_ℤ, nat_abs, sub_ℕ, ◌+ℤ◌, ◌-ℤ◌}
use lib.Signed.{mag, lt_z, non_neg}
use borrow.Author.Tests.{ltb-true, ltb-false}
use mir.Syntax.{Width, w32, w64}
use mir.Val.{SFits, hbits, to_z, of_z}
use mir.Facts.{to_z-of_z, sfits_widen}

abbrev pub up : ℤ → ℕ
up (pos n) = n
up (negsuc n) = 0

abbrev pub dn : ℤ → ℕ
dn (pos n) = 0
dn (negsuc n) = suc n

-- a − b
sub_by : (a b : ℕ) (t : Bool) → ltb a b ≡ t → up (cond t (negsuc (b - suc a)) (pos (a - b))) + b ≡ a + dn (cond t (negsuc (b - suc a)) (pos (a - b)))
sub_by a b true e = omega (arith, ltb-true a b e)
sub_by a b false e = omega (arith, ltb-false a b e)

sub_is : (a b : ℕ) → up (sub_ℕ a b) + b ≡ a + dn (sub_ℕ a b)
sub_is a b = sub_by a b (ltb a b) refl

pub add_is : (a b : ℤ) → up (a +ℤ b) + (dn a + dn b) ≡ up a + up b + dn (a +ℤ b)
add_is (pos a) (pos b) = omega arith
add_is (pos a) (negsuc b) = omega (arith, sub_is a (suc b))
add_is (negsuc a) (pos b) = omega (arith, sub_is b (suc a))
add_is (negsuc a) (negsuc b) = omega arith

pub neg_up : (a : ℤ) → up (neg_ℤ a) ≡ dn a
neg_up (pos zero) = refl
neg_up (pos (suc n)) = refl
neg_up (negsuc n) = refl

pub neg_dn : (a : ℤ) → dn (neg_ℤ a) ≡ up a
neg_dn (pos zero) = refl
neg_dn (pos (suc n)) = refl
neg_dn (negsuc n) = refl

-- a - b, by the two above
pub sub_parts : (a b : ℤ) → up (a -ℤ b) + (dn a + up b) ≡ up a + dn b + dn (a -ℤ b)
sub_parts a b = omega (arith, add_is a (neg_ℤ b), neg_up b, neg_dn b)

-- one of the two is 0: the size is their sum
pub abs_is : (a : ℤ) → nat_abs a ≡ up a + dn a
abs_is (pos n) = omega arith
abs_is (negsuc n) = omega arith

-- the size of a sum
pub abs_add : (a b : ℤ) → nat_abs (a +ℤ b) ≤ nat_abs a + nat_abs b
abs_add (pos a) (pos b) = omega arith
abs_add (pos a) (negsuc b) = one (sub_ℕ a (suc b)) (omega (arith, sub_is a (suc b)))
  where
    one : (z : ℤ) → up z + suc b ≡ a + dn z → nat_abs z ≤ a + suc b
    one (pos n) e = omega arith
    one (negsuc n) e = omega arith
abs_add (negsuc a) (pos b) = one (sub_ℕ b (suc a)) (omega (arith, sub_is b (suc a)))
  where
    one : (z : ℤ) → up z + suc a ≡ b + dn z → nat_abs z ≤ suc a + b
    one (pos n) e = omega arith
    one (negsuc n) e = omega arith
abs_add (negsuc a) (negsuc b) = omega arith

pub abs_neg : (a : ℤ) → nat_abs (neg_ℤ a) ≡ nat_abs a
abs_neg a = omega (arith, abs_is a, abs_is (neg_ℤ a), neg_up a, neg_dn a)

-- equal and ordered by the two parts
pub eq_parts : (a b : ℤ) → up a + dn b ≡ up b + dn a → a ≡ b
eq_parts (pos a) (pos b) e = ap pos (omega arith)
eq_parts (pos a) (negsuc b) e = absurd (omega arith)
eq_parts (negsuc a) (pos b) e = absurd (omega arith)
eq_parts (negsuc a) (negsuc b) e = ap negsuc (omega arith)

pub lt_z_true : (a b : ℤ) → lt_z a b ≡ true → up a + dn b < up b + dn a
lt_z_true (pos a) (pos b) e = omega (arith, ltb-true a b e)
lt_z_true (pos a) (negsuc b) e = absurd (subst T (sym e) tt)
lt_z_true (negsuc a) (pos b) e = omega arith
lt_z_true (negsuc a) (negsuc b) e = omega (arith, ltb-true b a e)

pub lt_z_false : (a b : ℤ) → lt_z a b ≡ false → up b + dn a ≤ up a + dn b
lt_z_false (pos a) (pos b) e = omega (arith, ltb-false a b e)
lt_z_false (pos a) (negsuc b) e = omega arith
lt_z_false (negsuc a) (pos b) e = absurd (subst T e tt)
lt_z_false (negsuc a) (negsuc b) e = omega (arith, ltb-false b a e)

-- what a signed width holds
pub sfits_parts : (w : Width) (z : ℤ) → up z + dn z < 2 ^ hbits w → SFits w z
sfits_parts w (pos n) h = record { sfits = omega arith }
sfits_parts w (negsuc n) h = record { sfits = omega arith }

-- what the machine reads back is the number, at its own width and at a wider one
-- a time that the machine reads back
pub read_back : (z : ℤ) → mag z < 2 ^ hbits w64 → to_z w64 (of_z w64 z) ≡ z
read_back z h = to_z-of_z {w = w64} {z = z} (record { sfits = h })

pub back64 : {d : ℤ} → SFits w32 d → to_z w64 (of_z w64 (to_z w32 (of_z w32 d))) ≡ d
back64 f = rw (to_z-of_z f, to_z-of_z (sfits_widen {w = w32} {w' = w64} tt f))

-- a test of two signed numbers, as a branch leaves it
pub test_back : (w : Width) {t : Bool} (a b : ℤ) → SFits w a → SFits w b → lt_z (to_z w (of_z w a)) (to_z w (of_z w b)) ≡ t → lt_z a b ≡ t
test_back w a b f g e = rw (to_z-of_z f, to_z-of_z g) at e

-- a negative number, and one that is not
pub size_neg : (d : ℤ) → lt_z d (pos 0) ≡ true → (nat_abs (pos 0 -ℤ d) ≡ nat_abs d) × (T (non_neg (pos 0 -ℤ d)))
size_neg (pos n) e = absurd (omega (arith, ltb-true n 0 e))
size_neg (negsuc n) e = (omega arith, tt)

pub size_pos : (d : ℤ) → lt_z d (pos 0) ≡ false → T (non_neg d)
size_pos (pos n) e = tt
size_pos (negsuc n) e = absurd (subst T e tt)

-- a natural number negated, in one step: what `-(n as i64)` computes
pub neg_nat : (w : Width) (n : ℕ) → n < 2 ^ hbits w → SFits w (pos 0 -ℤ pos n)
neg_nat w n l = sfits_parts w (pos 0 -ℤ pos n) (omega (arith, abs_add (pos 0) (neg_ℤ (pos n)), abs_neg (pos n), abs_is (pos 0 -ℤ pos n)))

-- A negative number -(n + 1) is taken apart by way of -(z + 1) = n, which fits at every width.
pub minus_next : (n : ℕ) → pos 0 -ℤ (negsuc n +ℤ pos 1) ≡ pos n
minus_next n = eq_parts _ _ (omega (arith, add_is (negsuc n) (pos 1), sub_parts (pos 0) (negsuc n +ℤ pos 1)))

next_up : (n : ℕ) → negsuc (suc n) +ℤ pos 1 ≡ negsuc n
next_up n = eq_parts _ _ (omega (arith, add_is (negsuc (suc n)) (pos 1)))

pub next_fits : (w : Width) (n : ℕ) → n < 2 ^ hbits w → SFits w (negsuc n +ℤ pos 1)
next_fits w zero h = record { sfits = omega arith }
next_fits w (suc n) h = rw (next_up n) (record { sfits = omega arith })

pub minus_next_fits : (w : Width) (n : ℕ) → n < 2 ^ hbits w → SFits w (pos 0 -ℤ (negsuc n +ℤ pos 1))
minus_next_fits w n h = rw (minus_next n) (record { sfits = omega arith })

-- a test for a negative number says which it is, and how large
pub record Negative (w : Width) (z : ℤ) : Type 0 where
  pub n : ℕ
  pub is : z ≡ negsuc n
  pub small : n < 2 ^ hbits w

pub negative : (w : Width) (z : ℤ) → SFits w z → lt_z (to_z w (of_z w z)) (pos 0) ≡ true → Negative w z
negative w z f e = by z f (rw (to_z-of_z f) at e)
  where
    by : (z : ℤ) → SFits w z → lt_z z (pos 0) ≡ true → Negative w z
    by (pos n) f e = absurd (omega (arith, lt_z_true (pos n) (pos 0) e))
    by (negsuc n) f e = record { n = n; is = refl; small = omega (arith, f.sfits) }

pub record Positive (w : Width) (z : ℤ) : Type 0 where
  pub n : ℕ
  pub is : z ≡ pos n
  pub small : n < 2 ^ hbits w

pub positive : (w : Width) (z : ℤ) → SFits w z → lt_z (to_z w (of_z w z)) (pos 0) ≡ false → Positive w z
positive w z f e = by z f (rw (to_z-of_z f) at e)
  where
    by : (z : ℤ) → SFits w z → lt_z z (pos 0) ≡ false → Positive w z
    by (pos n) f e = record { n = n; is = refl; small = omega (arith, f.sfits) }
    by (negsuc n) f e = absurd (omega (arith, lt_z_false (negsuc n) (pos 0) e))
