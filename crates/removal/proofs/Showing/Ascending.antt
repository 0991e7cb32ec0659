-- Lists whose elements stand in a relation to all later ones, and places in lists that are made piece by piece.
use Prim.Native.Nat.{ℕ, zero, suc, ◌+◌, ◌<◌}
use native.Mathlib.Omega.{arith}
use mathlib.Core.Path.{◌≡◌, refl, sym, ap, ◌∙◌, subst}
use mathlib.Core.Logic.{⊎_elim}
use mathlib.Core.Bool.{Bool, true, false, cond}
use mathlib.Core.List.Memᴰ
use mathlib.Core.List.{List, [], ◌∷◌, ◌++◌, map, flat_map, Memᴰ}
use lib.Dec.{T}
use lib.ListN.{length, get_or, length-append}
use Rattle.timing.specs.Lists.{keep, count_of, upto}
use Rattle.theorems.proofs.Lists.{of_keep, of_flat_map, of_upto}
use Rattle.theorems.proofs.Sorting.{Sorted}
pub use Rattle.removal.specs.Edges.{Ascending}

module _ {A : Type 0} (R : A → A → Type 0) where
  pub ascending_append : (k l : List A) → Ascending R k → Ascending R l → ((x y : A) → Memᴰ x k → Memᴰ y l → R x y) → Ascending R (k ++ l)
  ascending_append [] l a b h = b
  ascending_append (x ∷ k) l a b h = (
    λ y m. ⊎_elim (λ n. a.0 y n) (λ n. h x y (Memᴰ.head refl) n) (Memᴰ.append_cases k m),
    ascending_append k l a.1 b (λ u v m n. h u v (Memᴰ.tail m) n),
  )

  pub ascending_keep : (p : A → Bool) (l : List A) → Ascending R l → Ascending R (keep p l)
  ascending_keep p [] a = tt
  ascending_keep p (x ∷ l) a = go (p x) (ascending_keep p l a.1)
    where
      go : (b : Bool) → Ascending R (keep p l) → Ascending R (cond b (x ∷ keep p l) (keep p l))
      go true k = (λ y m. a.0 y (of_keep p l m).0, k)
      go false k = k

pub ascending_by : {A : Type 0} (R Q : A → A → Type 0) (l : List A) → Ascending R l → ((x y : A) → Memᴰ x l → Memᴰ y l → R x y → Q x y) → Ascending Q l
ascending_by R Q [] a h = tt
ascending_by R Q (x ∷ l) a h =
    (λ y m. h x y (Memᴰ.head refl) (Memᴰ.tail m) (a.0 y m), ascending_by R Q l a.1 (λ u v m n. h u v (Memᴰ.tail m) (Memᴰ.tail n)))

module _ {A B : Type 0} (R : A → A → Type 0) (Q : B → B → Type 0) where
  pub ascending_map : (f : A → B) (l : List A) → Ascending R l → ((x y : A) → Memᴰ x l → Memᴰ y l → R x y → Q (f x) (f y)) → Ascending Q (map f l)
  ascending_map f [] a h = tt
  ascending_map f (x ∷ l) a h = (
    λ y m.
        let r = Memᴰ.of_map f l m in
        subst (λ (z : B). Q (f x) z) r.2 (h x r.0 (Memᴰ.head refl) (Memᴰ.tail r.1) (a.0 r.0 r.1)),
    ascending_map f l a.1 (λ u v m n. h u v (Memᴰ.tail m) (Memᴰ.tail n)),
  )

  pub ascending_flat_map : (f : A → List B) (l : List A) → Ascending R l → ((x : A) → Memᴰ x l → Ascending Q (f x))
      → ((x y : A) → Memᴰ x l → Memᴰ y l → R x y → (u v : B) → Memᴰ u (f x) → Memᴰ v (f y) → Q u v) → Ascending Q (flat_map f l)
  unfolding flat_map
  ascending_flat_map f [] a i h = tt
  ascending_flat_map f (x ∷ l) a i h =
      ascending_append Q (f x) (flat_map f l) (i x (Memᴰ.head refl))
      (ascending_flat_map f l a.1 (λ y m. i y (Memᴰ.tail m)) (λ y z m n. h y z (Memᴰ.tail m) (Memᴰ.tail n)))
      (λ u v m n.
      let r = of_flat_map f {y = v} l n in
      h x r.0 (Memᴰ.head refl) (Memᴰ.tail r.1) (a.0 r.0 r.1) u v m r.2)

pub ascending_sorted : {A : Type 0} (lt : A → A → Bool) (l : List A) → Ascending (λ (x y : A). T (lt x y)) l → Sorted lt l
ascending_sorted lt [] a = tt
ascending_sorted lt (x ∷ l) a = (a.0, ascending_sorted lt l a.1)

pub ascending_upto : (n i : ℕ) → Ascending (λ (a b : ℕ). a < b) (upto n i)
ascending_upto zero i = tt
ascending_upto (suc n) i = (λ y m. omega (arith, (of_upto n (suc i) y m).0), ascending_upto n (suc i))

-- x stands at place n
module _ {A : Type 0} where
  abbrev pub Stand : A → ℕ → List A → Type 0
  Stand x n [] = ⊥
  Stand x zero (y ∷ l) = x ≡ y
  Stand x (suc n) (y ∷ l) = Stand x n l

  pub stand_left : (x : A) (n : ℕ) (k l : List A) → Stand x n k → Stand x n (k ++ l)
  stand_left x n [] l s = absurd s
  stand_left x zero (y ∷ k) l s = s
  stand_left x (suc n) (y ∷ k) l s = stand_left x n k l s

  pub stand_right : (x : A) (n : ℕ) (k l : List A) → Stand x n l → Stand x (length k + n) (k ++ l)
  stand_right x n [] l s = let z : n ≡ 0 + n = omega arith in subst (λ (i : ℕ). Stand x i l) z s
  stand_right x n (y ∷ k) l s =
      let z : suc (length k + n) ≡ suc (length k) + n = omega arith in
      subst (λ (i : ℕ). Stand x i (y ∷ (k ++ l))) z (stand_right x n k l s)

  pub stand_get_d : (x d : A) (n : ℕ) (l : List A) → Stand x n l → (n < length l) × (get_or l n d ≡ x)
  stand_get_d x d n [] s = absurd s
  stand_get_d x d zero (y ∷ l) s = (omega arith, sym s)
  stand_get_d x d (suc n) (y ∷ l) s = let r = stand_get_d x d n l s in (omega (arith, r.0), r.1)

  -- in the rows from i on, one after the other
  pub stand_rows : (f : ℕ → List A) (x : A) (k n i c : ℕ) → c < n → Stand x k (f (i + c)) → Stand x (length (flat_map f (upto c i)) + k) (flat_map f (upto n i))
  unfolding flat_map
  stand_rows f x k zero i c h s = absurd (omega arith)
  stand_rows f x k (suc n) i zero h s =
      let z : i + 0 ≡ i = omega arith in
      let y : k ≡ 0 + k = omega arith in
      subst (λ (j : ℕ). Stand x j (f i ++ flat_map f (upto n (suc i)))) y
      (stand_left x k (f i) (flat_map f (upto n (suc i))) (subst (λ (j : ℕ). Stand x k (f j)) z s))
  stand_rows f x k (suc n) i (suc c) h s =
      let z : i + suc c ≡ suc i + c = omega arith in
      let r = stand_rows f x k n (suc i) c (omega arith) (subst (λ (j : ℕ). Stand x k (f j)) z s) in
      let y : length (f i) + (length (flat_map f (upto c (suc i))) + k) ≡ length (f i ++ flat_map f (upto c (suc i))) + k =
      omega (arith, length-append (f i) (flat_map f (upto c (suc i)))) in
      subst (λ (j : ℕ). Stand x j (f i ++ flat_map f (upto n (suc i)))) y
      (stand_right x (length (flat_map f (upto c (suc i))) + k) (f i) (flat_map f (upto n (suc i))) r)

pub stand_map : {A B : Type 0} (f : A → B) (x : A) (n : ℕ) (l : List A) → Stand x n l → Stand (f x) n (map f l)
stand_map f x n [] s = absurd s
stand_map f x zero (y ∷ l) s = ap f s
stand_map f x (suc n) (y ∷ l) s = stand_map f x n l s

-- among the numbers from i on that pass a test
pub stand_upto : (p : ℕ → Bool) (n i j : ℕ) → j < n → p (i + j) ≡ true → Stand (i + j) (count_of p (upto j i)) (keep p (upto n i))
stand_upto p zero i j h e = absurd (omega arith)
stand_upto p (suc n) i zero h e =
    let z : i + 0 ≡ i = omega arith in
    go (p i) (ap p (sym z) ∙ e) z
  where
    go : (b : Bool) → b ≡ true → i + 0 ≡ i → Stand (i + 0) 0 (cond b (i ∷ keep p (upto n (suc i))) (keep p (upto n (suc i))))
    go b q z = rw q z
stand_upto p (suc n) i (suc j) h e =
    let z : i + suc j ≡ suc i + j = omega arith in
    subst (λ (x : ℕ). Stand x (count_of p (upto (suc j) i)) (keep p (upto (suc n) i))) (sym z)
    (go (p i) (stand_upto p n (suc i) j (omega arith) (ap p (sym z) ∙ e)))
  where
    go : (b : Bool) → Stand (suc i + j) (count_of p (upto j (suc i))) (keep p (upto n (suc i)))
        → Stand (suc i + j) (length (cond b (i ∷ keep p (upto j (suc i))) (keep p (upto j (suc i))))) (cond b (i ∷ keep p (upto n (suc i))) (keep p (upto n (suc i))))
    go true s = s
    go false s = s
