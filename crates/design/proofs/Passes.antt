-- What one pass over the edges tells of the tests 12 to 15, and one over the marked nodes of 16.
use Prim.Native.Nat.{ℕ, zero, suc, ◌+◌, ◌-◌, ◌≤◌, ◌<◌}
use native.Mathlib.Omega.{arith}
use native.Mathlib.Numerals.{unary_clauses}
use mathlib.Core.Path.{◌≡◌, refl, sym, subst}
use mathlib.Core.Bool.{Bool, true, false, ◌&&◌}
use mathlib.Core.List.{List, [], ◌∷◌}
use Rattle.timing.specs.Answers.{Passed}
use lib.Dec.{T, ltb, leb}
use lib.IntN.{ℤ, pos, negsuc, nat_abs}
use lib.ListN.{get_or}
use lib.Signed.{lt_z, le_z}
use borrow.Author.Tests.{ltb-true, leb-true, lt-ltb, lt-leb, le-ltb, le-leb}
use Rattle.timing.specs.Lists.{upto}
use Rattle.timing.specs.Refusals.{◌then◌, first_bad}
use Rattle.timing.specs.Graphs.{design}
use Rattle.timing.specs.Tests.{strays, falls, out_of_range, early_above_late, wrong_marked}
use Rattle.timing.proofs.Verdicts.{both_true}
use Rattle.timing.proofs.Ints.{up, dn}

-- two signed numbers that are in order
le_z_true : (a b : ℤ) → le_z a b ≡ true → (up a + dn b ≤ up b + dn a) × (lt_z b a ≡ false)
le_z_true (pos a) (pos b) e = let h = leb-true a b e in (omega arith, le-ltb b a h)
le_z_true (pos a) (negsuc b) e = absurd (subst T (sym e) tt)
le_z_true (negsuc a) (pos b) e = (omega arith, refl)
le_z_true (negsuc a) (negsuc b) e = let h = leb-true b a e in (omega arith, le-ltb a b h)

-- a number of at most `most` in size, by its two parts, of which one is 0
in_range : (most : ℕ) (z : ℤ) → up z ≤ most + dn z → dn z ≤ most + up z → leb (nat_abs z) most ≡ true
in_range most (pos n) h l = le-leb n most (omega arith)
in_range most (negsuc n) h l = le-leb (suc n) most (omega arith)

-- 12 to 15 of one edge, from the five tests that the pass makes
pub edge_fine : (n start end : ℕ) (early late : ℤ)
    → (ltb start end && ltb end n && le_z (negsuc 999999) early && le_z late (pos 1000000) && le_z early late) ≡ true
    → let D = design n (start ∷ []) (end ∷ []) (early ∷ []) (late ∷ []) [] in
    (strays D 0 ≡ false) × (falls D 0 ≡ false) × (out_of_range D 0 ≡ false) × (early_above_late D 0 ≡ false)
edge_fine n start end early late e =
    let ordered = both_true (ltb start end && ltb end n && le_z (negsuc 999999) early && le_z late (pos 1000000)) (le_z early late) e in
    let high = both_true (ltb start end && ltb end n && le_z (negsuc 999999) early) (le_z late (pos 1000000)) ordered.0 in
    let low = both_true (ltb start end && ltb end n) (le_z (negsuc 999999) early) high.0 in
    let nodes = both_true (ltb start end) (ltb end n) low.0 in
    let rises = ltb-true start end nodes.0 in
    let known = ltb-true end n nodes.1 in
    let o = le_z_true early late ordered.1 in
    let h = le_z_true late (pos 1000000) high.1 in
    let l = le_z_true (negsuc 999999) early low.1 in (
      rw (lt-ltb start n (omega arith), nodes.1),
      rw nodes.0,
      rw (in_range 1000000 early (omega arith) (omega arith), in_range 1000000 late (omega arith) (omega arith)),
      o.1,
    )

-- 16 of a marked node that has one before it
pub next_fine : (n : ℕ) (marked : List ℕ) (k : ℕ) → 1 ≤ k
    → get_or marked (k - 1) 0 < get_or marked k 0 → get_or marked k 0 < n
    → wrong_marked (design n [] [] [] [] marked) k ≡ false
next_fine n marked zero l rises known = absurd (omega arith)
next_fine n marked (suc k) l rises known =
    let node = get_or marked (suc k) 0 in
    rw (lt-ltb node n known) (lt-leb node (get_or marked k 0) (simp unary_clauses at rises))

-- a test that no place from k on fails passes
none_bad : (number : ℕ) (bad : ℕ → Bool) (m k : ℕ) → ((j : ℕ) → j < k + m → bad j ≡ false) → first_bad number bad k (upto m k) ≡ Passed
none_bad number bad zero k h = refl
none_bad number bad (suc m) k h = rw (h k (omega arith)) (none_bad number bad m (suc k) (λ j l. h j (omega arith)))

-- four tests over everything, of which no place fails any
pub four_pass : (t u v w : ℕ) (p q r s : ℕ → Bool) (m : ℕ)
    → ((k : ℕ) → k < m → (p k ≡ false) × (q k ≡ false) × (r k ≡ false) × (s k ≡ false))
    → (first_bad t p 0 (upto m 0) then first_bad u q 0 (upto m 0) then first_bad v r 0 (upto m 0) then first_bad w s 0 (upto m 0)) ≡ Passed
four_pass t u v w p q r s m h =
    rw (
      none_bad t p m 0 (λ k l. (h k (omega arith)).0),
      none_bad u q m 0 (λ k l. (h k (omega arith)).1),
      none_bad v r m 0 (λ k l. (h k (omega arith)).2),
      none_bad w s m 0 (λ k l. (h k (omega arith)).3),
    )
