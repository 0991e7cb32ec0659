-- Numbers of one or two bytes that are gone over at once.
use Prim.Native.Nat.{ℕ, ◌+◌, ◌-◌, ◌*◌, ◌≤◌, ◌<◌}
use native.Mathlib.Omega.{arith}
use mathlib.Core.Path.{◌≡◌, refl, sym, ◌∙◌}
use mathlib.Core.Bool.{Bool, true, false, cond}
use mathlib.Core.Logic.{inl, inr}
use mathlib.Core.List.{List}
use Rattle.timing.specs.Answers.{Value}
use lib.Dec.{ltb, eqb}
use lib.ListN.{length, get_or}
use borrow.Author.Tests.{ltb-true, ltb-false, eqb-false, le-ltb, lt-ltb}
use Rattle.timing.specs.Numbers.{read_number}
use Rattle.timing.specs.Parsing.{number, repeated}
use Rattle.timing.specs.Looks.{looked}
use Rattle.packed.proofs.Numbers.{read_one, read_two}
use Rattle.packed_lists.proofs.Looking.{looks_turn, number_found}
use Rattle.packed_lists.specs.Skips.{Skips, Scanned, ending, unended}

-- some behind others
pub skips_then : (s : List ℕ) (at m mid n next : ℕ) → Skips s at m mid → Skips s mid n next → Skips s at (m + n) next
skips_then s at m mid n next f g k =
    let d : m + n + k ≡ m + (n + k) = omega arith in
    rw d (f (n + k) ∙ g k)

-- all that are to be gone over, where some were
pub skips_rest : (s : List ℕ) (at m next k : ℕ) → m ≤ k → Skips s at m next → looked (repeated (k - m) (number s) next) ≡ looked (repeated k (number s) at)
skips_rest s at m next k h f =
    let d : m + (k - m) ≡ k = omega arith in
    sym (rw d at (f (k - m)))

-- a number, of one byte or two
skips_number : (s : List ℕ) (at v next : ℕ) → read_number s at ≡ Value v next → Skips s at 1 next
skips_number s at v next e k =
    let d : 1 + k - (0 + 1) ≡ k = omega arith in
    let f : 1 + k - 0 ≡ 1 + k = omega arith in
    sym (rw (d, f) at (looks_turn (number s) (1 + k) 0 at next (omega arith) (number_found s at v next e)))

skips_one : (s : List ℕ) (at next : ℕ) → next ≡ at + 1 → at < length s → get_or s at 0 < 128 → Skips s at 1 next
skips_one s at next e h l = rw e (skips_number s at (get_or s at 0) (at + 1) (read_one s at h l))

skips_two : (s : List ℕ) (at last next : ℕ) → last ≡ at + 1 → next ≡ at + 2 → last < length s → 128 ≤ get_or s at 0 → 0 < get_or s last 0 → get_or s last 0 < 128
    → Skips s at 1 next
skips_two s at last next e f h m p l =
    rw f (skips_number s at (get_or s at 0 - 128 + 128 * get_or s (at + 1) 0) (at + 2) (read_two s at (omega arith) m (rw e at p) (rw e at l)))

unended_fits : (b c : ℕ) → 128 ≤ b → unended b c ≡ 0 → (0 < c) × (c < 128)
unended_fits b c h e = go (eqb c 0) (ltb c 128) refl refl (rw (le-ltb b 128 h) at e)
  where
    go : (x y : Bool) → eqb c 0 ≡ x → ltb c 128 ≡ y → ◌≡◌ {A = ℕ} (cond x 1 (cond y 0 1)) 0 → (0 < c) × (c < 128)
    go true y p q z = absurd (omega arith)
    go false true p q z = (omega (arith, eqb-false c 0 p), ltb-true c 128 q)
    go false false p q z = absurd (omega arith)

-- one byte more
pub scanned_step : (s : List ℕ) (at i count : ℕ) → at + i + 1 < length s → unended (get_or s (at + i) 0) (get_or s (at + i + 1) 0) ≡ 0
    → Scanned s at i count → Scanned s at (i + 1) (count + ending (get_or s (at + i) 0))
scanned_step s at i count h e w = go (ltb (get_or s (at + i) 0) 128) refl w
  where
    back : at + (i + 1) - 1 ≡ at + i
    back = omega arith

    ahead : at + (i + 1) ≡ at + i + 1
    ahead = omega arith

    go : (t : Bool) → ltb (get_or s (at + i) 0) 128 ≡ t → Scanned s at i count → Scanned s at (i + 1) (count + cond t 1 0)
    go true p (inl (last, f)) =
        let l = ltb-true (get_or s (at + i) 0) 128 p in
        inl ((λ g. rw back l), skips_then s at count (at + i) 1 (at + (i + 1)) f (skips_one s (at + i) (at + (i + 1)) (omega arith) (omega arith) l))
    go true p (inr (one, m, q, l, f)) =
        inl ((λ g. rw back l), skips_then s at count (at + i - 1) 1 (at + (i + 1)) f (skips_two s (at + i - 1) (at + i) (at + (i + 1)) (omega arith) (omega arith) (omega arith) m q l))
    go false p (inl (last, f)) =
        let m = ltb-false (get_or s (at + i) 0) 128 p in
        let u = unended_fits (get_or s (at + i) 0) (get_or s (at + i + 1) 0) m e in
        let z : count + 0 ≡ count = omega arith in
        inr (omega arith, rw back m, rw ahead u.0, rw ahead u.1, rw (z, back) f)
    go false p (inr (one, m, q, l, f)) = absurd (omega (arith, ltb-false (get_or s (at + i) 0) 128 p))

-- where a scan of at least one byte got to, by its last byte
pub scanned_end : (s : List ℕ) (at i count : ℕ) → 1 ≤ i → Scanned s at i count → Skips s at count (at + i - 1 + ending (get_or s (at + i - 1) 0))
scanned_end s at i count h (inl (last, f)) =
    let d : at + i - 1 + 1 ≡ at + i = omega arith in
    rw (lt-ltb (get_or s (at + i - 1) 0) 128 (last h), d) f
scanned_end s at i count h (inr (one, m, q, l, f)) =
    let d : at + i - 1 + 0 ≡ at + i - 1 = omega arith in
    rw (le-ltb (get_or s (at + i - 1) 0) 128 m, d) f
