-- Tests over the places below n: how a loop that looks at each goes, and what it says that all or one of them passes.
use Prim.Native.Nat.{ℕ, zero, suc, ◌+◌, ◌-◌, ◌<◌}
use native.Mathlib.Omega.{arith}
use native.Mathlib.Numerals.{add-one}
use mathlib.Core.Path.{◌≡◌, refl, sym, ◌∙◌, ap}
use mathlib.Core.Bool.{Bool, true, false, ◌&&◌, ◌||◌}
use lib.Dec.{T}
use Rattle.timing.specs.Lists.{any_of, all_of, upto}
use Rattle.graph.specs.Passes.{walked}
use Rattle.theorems.proofs.Lists.{any_of_intro, any_of_elim, mem_upto, of_upto, all_of_elim, all_of_intro}

module _ (ok : ℕ → Bool) (k m : ℕ) where
  pub bad_here : k < m → ok k ≡ false → all_of ok (upto (m - k) k) ≡ false
  bad_here h e =
      let d : m - k ≡ suc (m - suc k) = omega arith in
      rw (d, e)

  pub good_here : k < m → ok k ≡ true → all_of ok (upto (m - (k + 1)) (k + 1)) ≡ all_of ok (upto (m - k) k)
  good_here h e =
      let d : m - k ≡ suc (m - suc k) = omega arith in
      rw (d, e, add-one k)

-- the same with a number that goes along
module _ (ok : ℕ → ℕ → Bool) (next : ℕ → ℕ → ℕ) (k m x : ℕ) where
  pub walk_good : k < m → ok x k ≡ true → walked ok next (m - (k + 1)) (k + 1) (next x k) ≡ walked ok next (m - k) k x
  walk_good h e =
      let d : m - k ≡ suc (m - suc k) = omega arith in
      rw (d, e, add-one k)

-- tests that agree below n
pub walk_same : (p q : ℕ → ℕ → Bool) (next : ℕ → ℕ → ℕ) (n : ℕ) → ((x i : ℕ) → i < n → p x i ≡ q x i) → walked p next n 0 0 ≡ walked q next n 0 0
walk_same p q next n f = go n 0 0 (λ x i h. f x i (omega arith))
  where
    go : (m i x : ℕ) → ((y j : ℕ) → j < i + m → p y j ≡ q y j) → walked p next m i x ≡ walked q next m i x
    go zero i x f = refl
    go (suc m) i x f = rw (f x i (omega arith)) (ap (λ (b : Bool). q x i && b) (go m (suc i) (next x i) (λ y j h. f y j (omega arith))))

-- one more place
or_assoc : (a b c : Bool) → (a || (b || c)) ≡ ((a || b) || c)
or_assoc true b c = refl
or_assoc false b c = refl

pub or_false : (a : Bool) → (a || false) ≡ a
or_false true = refl
or_false false = refl

any_next : (p : ℕ → Bool) (n i : ℕ) → any_of p (upto (suc n) i) ≡ (any_of p (upto n i) || p (i + n))
any_next p zero i =
    let z : i + 0 ≡ i = omega arith in
    or_false (p i) ∙ ap p (sym z)
any_next p (suc n) i =
    let z : suc i + n ≡ i + suc n = omega arith in
    ap (λ (b : Bool). p i || b) (any_next p n (suc i) ∙ ap (λ (j : ℕ). any_of p (upto n (suc i)) || p j) z)
    ∙ or_assoc (p i) (any_of p (upto n (suc i))) (p (i + suc n))

pub any_more : (p : ℕ → Bool) (n : ℕ) → any_of p (upto (n + 1) 0) ≡ (any_of p (upto n 0) || p n)
any_more p n =
    let z : 0 + n ≡ n = omega arith in
    rw (add-one n) (any_next p n 0 ∙ ap (λ (j : ℕ). any_of p (upto n 0) || p j) z)

-- all, and one
module _ (p : ℕ → Bool) (n : ℕ) where
  pub all_at : T (all_of p (upto n 0)) → (i : ℕ) → i < n → T (p i)
  all_at t i h = all_of_elim p (upto n 0) t (mem_upto n 0 i (omega arith) (omega arith))

  pub at_all : ((i : ℕ) → i < n → T (p i)) → T (all_of p (upto n 0))
  at_all f = all_of_intro p (upto n 0) (λ i m. f i (omega (arith, (of_upto n 0 i m).1)))

  pub any_at : T (any_of p (upto n 0)) → (i : ℕ) × (i < n) × T (p i)
  any_at t = let r = any_of_elim p (upto n 0) t in (r.0, omega (arith, (of_upto n 0 r.0 r.1).1), r.2)

  pub at_any : (i : ℕ) → i < n → T (p i) → T (any_of p (upto n 0))
  at_any i h t = any_of_intro p (mem_upto n 0 i (omega arith) (omega arith)) t
