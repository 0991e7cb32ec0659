-- Tests as statements, and membership in what the plain list functions make.
use Prim.Native.Nat.{ℕ, zero, suc, ◌+◌, ◌≤◌, ◌<◌, min}
use mathlib.Core.Path.{◌≡◌, refl, ap, subst}
use mathlib.Core.Logic.{◌⊎◌, inl, inr, ⊎_elim}
use mathlib.Core.Bool.{Bool, true, false, not, cond, ◌&&◌, ◌||◌}
use mathlib.Core.List.Memᴰ
use mathlib.Core.List.{List, [], ◌∷◌, map, flat_map, Memᴰ}
use native.Mathlib.Omega.{arith}
use native.Mathlib.Decide.{ℕ_discrete}
use lib.Dec.{T}
use lib.ListN.{length, get_or}
use Rattle.timing.specs.Lists.{is_nil, any_of, all_of, keep, upto}
use Rattle.timing.specs.Graphs.{edges_of}

pub and_intro : (a b : Bool) → T a → T b → T (a && b)
and_intro true b p q = q
and_intro false b p q = p

pub and_left : (a b : Bool) → T (a && b) → T a
and_left true b p = tt
and_left false b p = p

pub and_right : (a b : Bool) → T (a && b) → T b
and_right true b p = p
and_right false b p = absurd p

pub or_cases : (a b : Bool) → T (a || b) → T a ⊎ T b
or_cases true b t = inl tt
or_cases false b t = inr t

pub or_left : (a b : Bool) → T a → T (a || b)
or_left true b t = tt
or_left false b t = absurd t

pub or_right : (a b : Bool) → T b → T (a || b)
or_right true b t = tt
or_right false b t = t

pub holds : (b : Bool) → b ≡ true → T b
holds b e = rw e tt

pub fails : (b : Bool) → b ≡ false → T b → ⊥
fails b e t = rw e at t

pub not_false : (b : Bool) → not b ≡ false → T b
not_false true e = tt
not_false false e = absurd (subst T e tt)

pub neither_true : (a b : Bool) → (a || b) ≡ false → (a ≡ false) × (b ≡ false)
neither_true true b e = absurd (subst T e tt)
neither_true false b e = (refl, e)

-- two tests that hold together are one
pub same_test : (a b : Bool) → (T a → T b) → (T b → T a) → a ≡ b
same_test true true f g = refl
same_test true false f g = absurd (f tt)
same_test false true f g = absurd (g tt)
same_test false false f g = refl

module _ {A : Type 0} (p : A → Bool) where
  pub any_of_intro : {x : A} {l : List A} → Memᴰ x l → T (p x) → T (any_of p l)
  any_of_intro (Memᴰ.head {x = y} {xs = l} e) t = go (p y) (subst (λ v. T (p v)) e t)
    where
      go : (b : Bool) → T b → T (b || any_of p l)
      go true h = tt
      go false h = absurd h
  any_of_intro (Memᴰ.tail {x = y} {xs = l} m) t = go (p y) (any_of_intro m t)
    where
      go : (b : Bool) → T (any_of p l) → T (b || any_of p l)
      go true h = tt
      go false h = h

  pub any_of_elim : (l : List A) → T (any_of p l) → (x : A) × Memᴰ x l × T (p x)
  any_of_elim [] t = absurd t
  any_of_elim (y ∷ l) t = go (p y) refl t (λ h. any_of_elim l h)
    where
      go : (b : Bool) → p y ≡ b → T (b || any_of p l) → (T (any_of p l) → (x : A) × Memᴰ x l × T (p x)) → (x : A) × Memᴰ x (y ∷ l) × T (p x)
      go true e h below = (y, Memᴰ.head refl, rw e tt)
      go false e h below = let r = below h in (r.0, Memᴰ.tail r.1, r.2)

-- membership in what `flat_map` and `keep` make
module _ {A B : Type 0} where
  pub mem_flat_map : (f : A → List B) {x : A} {y : B} {l : List A} → Memᴰ x l → Memᴰ y (f x) → Memᴰ y (flat_map f l)
  unfolding flat_map
  mem_flat_map f {y = y} (Memᴰ.head {x = z} {xs = l} e) m = Memᴰ.append_left (flat_map f l) (subst (λ v. Memᴰ y (f v)) e m)
  mem_flat_map f (Memᴰ.tail {x = z} h) m = Memᴰ.append_right (f z) (mem_flat_map f h m)

  pub of_flat_map : (f : A → List B) {y : B} (l : List A) → Memᴰ y (flat_map f l) → (x : A) × Memᴰ x l × Memᴰ y (f x)
  unfolding flat_map
  of_flat_map f [] m = absurd (Memᴰ.not-nil m)
  of_flat_map f {y} (x ∷ l) m =
      let rest : Memᴰ y (flat_map f l) → (z : A) × Memᴰ z (x ∷ l) × Memᴰ y (f z)
      = λ h. let r = of_flat_map f l h in (r.0, Memᴰ.tail r.1, r.2) in
      ⊎_elim (λ h. (x, Memᴰ.head refl, h)) rest (Memᴰ.append_cases (f x) m)

module _ {A : Type 0} (p : A → Bool) where
  pub mem_keep : {x : A} {l : List A} → Memᴰ x l → T (p x) → Memᴰ x (keep p l)
  mem_keep {x} (Memᴰ.head {x = y} {xs = l} e) t = go (p y) (subst (λ v. T (p v)) e t)
    where
      go : (b : Bool) → T b → Memᴰ x (cond b (y ∷ keep p l) (keep p l))
      go true h = Memᴰ.head e
      go false h = absurd h
  mem_keep {x} (Memᴰ.tail {x = y} {xs = l} m) t = go (p y) (mem_keep m t)
    where
      go : (b : Bool) → Memᴰ x (keep p l) → Memᴰ x (cond b (y ∷ keep p l) (keep p l))
      go true h = Memᴰ.tail h
      go false h = h

  pub of_keep : {x : A} (l : List A) → Memᴰ x (keep p l) → Memᴰ x l × T (p x)
  of_keep [] m = absurd (Memᴰ.not-nil m)
  of_keep {x} (y ∷ l) m = go (p y) refl m (λ h. of_keep l h)
    where
      go : (b : Bool) → p y ≡ b → Memᴰ x (cond b (y ∷ keep p l) (keep p l)) → (Memᴰ x (keep p l) → Memᴰ x l × T (p x)) → Memᴰ x (y ∷ l) × T (p x)
      go true e h below =
          let below' : Memᴰ x (keep p l) → Memᴰ x (y ∷ l) × T (p x)
          = λ h'. (Memᴰ.tail (below h').0, (below h').1) in
          ⊎_elim (λ q. (Memᴰ.head q, rw (q, e) tt)) below' (Memᴰ.cases_cons h)
      go false e h below = (Memᴰ.tail (below h).0, (below h).1)

-- the numbers from i on
pub mem_upto : (n i x : ℕ) → i ≤ x → x < i + n → Memᴰ x (upto n i)
mem_upto zero i x h k = absurd (omega arith)
mem_upto (suc n) i x h k =
    elim (ℕ_discrete x i) [
      | yes e ↦ Memᴰ.head e
      | no f ↦ Memᴰ.tail (mem_upto n (suc i) x (omega arith) (omega arith))
    ]

pub of_upto : (n i x : ℕ) → Memᴰ x (upto n i) → (i ≤ x) × (x < i + n)
of_upto zero i x m = absurd (Memᴰ.not-nil m)
of_upto (suc n) i x m = go (Memᴰ.cases_cons m) (λ h. of_upto n (suc i) x h)
  where
    go : (x ≡ i) ⊎ Memᴰ x (upto n (suc i)) → (Memᴰ x (upto n (suc i)) → (suc i ≤ x) × (x < suc i + n)) → (i ≤ x) × (x < i + suc n)
    go (inl e) below = (omega arith, omega arith)
    go (inr h) below = let r = below h in (omega (arith, r.0), omega (arith, r.1))

-- a test of all members
module _ {A : Type 0} (p : A → Bool) where
  pub all_of_elim : {x : A} (l : List A) → T (all_of p l) → Memᴰ x l → T (p x)
  all_of_elim [] t m = absurd (Memᴰ.not-nil m)
  all_of_elim {x} (y ∷ l) t m =
      ⊎_elim
      (λ (e : x ≡ y). rw e (and_left (p y) (all_of p l) t))
      (λ h. all_of_elim l (and_right (p y) (all_of p l) t) h)
      (Memᴰ.cases_cons m)

  pub all_of_intro : (l : List A) → ((x : A) → Memᴰ x l → T (p x)) → T (all_of p l)
  all_of_intro [] f = tt
  all_of_intro (y ∷ l) f = and_intro (p y) (all_of p l) (f y (Memᴰ.head refl)) (all_of_intro l (λ x m. f x (Memᴰ.tail m)))

-- a place of a list
pub get_d_mem : {A : Type 0} (l : List A) (i : ℕ) (d : A) → i < length l → Memᴰ (get_or l i d) l
get_d_mem [] i d h = absurd (omega arith)
get_d_mem (x ∷ l) zero d h = Memᴰ.head refl
get_d_mem (x ∷ l) (suc i) d h = Memᴰ.tail (get_d_mem l i d (omega arith))

pub get_d_map : {A B : Type 0} (f : A → B) (l : List A) (a : A) (b : B) (i : ℕ) → i < length l → get_or (map f l) i b ≡ f (get_or l i a)
get_d_map f [] a b i h = absurd (omega arith)
get_d_map f (x ∷ l) a b zero h = refl
get_d_map f (x ∷ l) a b (suc i) h = get_d_map f l a b i (omega arith)

-- the numbers from i on
pub length_upto : (n i : ℕ) → length (upto n i) ≡ n
length_upto zero i = refl
length_upto (suc n) i = ap suc (length_upto n (suc i))

pub get_d_upto : (n i c d : ℕ) → c < n → get_or (upto n i) c d ≡ i + c
get_d_upto zero i c d h = absurd (omega arith)
get_d_upto (suc n) i zero d h = omega arith
get_d_upto (suc n) i (suc c) d h = omega (arith, get_d_upto n (suc i) c d (omega arith))

-- an empty list has no member
pub nil_is : {A : Type 0} (l : List A) → T (is_nil l) → l ≡ []
nil_is [] t = refl
nil_is (x ∷ l) t = absurd t

pub none_of_nil : {A : Type 0} (l : List A) (x : A) → T (is_nil l) → Memᴰ x l → ⊥
none_of_nil [] x t m = Memᴰ.not-nil m
none_of_nil (y ∷ l) x t m = t

-- three lists make as many edges as the shortest of them has numbers
pub length_edges : (s t k : List ℕ) → length (edges_of s t k) ≡ min (length s) (min (length t) (length k))
length_edges [] t k = omega arith
length_edges (x ∷ s) [] k = omega arith
length_edges (x ∷ s) (y ∷ t) [] = omega arith
length_edges (x ∷ s) (y ∷ t) (z ∷ k) = omega (arith, length_edges s t k)
