-- What a test keeps of a list that is split, and the best value with one more number.
use Prim.Native.Nat.{ℕ, zero, suc, ◌+◌, ◌<◌}
use native.Mathlib.Omega.{arith}
use mathlib.Core.Path.{◌≡◌, refl, sym, ◌∙◌, ap, ap₂, subst}
use mathlib.Core.Logic.{⊎_elim}
use mathlib.Core.Bool.{Bool, true, false, cond}
use mathlib.Core.List.Memᴰ
use mathlib.Core.List.{List, [], ◌∷◌, ◌++◌, map, map-append, Memᴰ}
use lib.Dec.{T}
use lib.IntN.{ℤ}
use lib.ListN.{length, get_or, take, drop}
use Rattle.timing.specs.Lists.{keep, upto}
use Rattle.timing.specs.Graphs.{Edge, edge, edges_of}
use Rattle.theorems.proofs.Sorting.{Sorted}
use Rattle.theorems.proofs.Lists.{get_d_mem}
use Rattle.theorems.proofs.Extremes.{Some, Picks, best_append}

pub upto_next : (n i : ℕ) → upto (suc n) i ≡ upto n i ++ ((i + n) ∷ [])
upto_next zero i = let z : i ≡ i + 0 = omega arith in ap (λ (x : ℕ). x ∷ []) z
upto_next (suc n) i =
    let z : suc i + n ≡ i + suc n = omega arith in
    ap (λ (l : List ℕ). i ∷ l) (upto_next n (suc i)) ∙ ap (λ (x : ℕ). i ∷ (upto n (suc i) ++ (x ∷ []))) z

-- some places, and those behind them
pub upto_split : (a b i : ℕ) → upto (a + b) i ≡ upto a i ++ upto b (i + a)
upto_split zero b i = let p : zero + b ≡ b = omega arith in let q : i + zero ≡ i = omega arith in ap₂ upto p (sym q)
upto_split (suc a) b i =
    let p : suc a + b ≡ suc (a + b) = omega arith in
    let q : suc i + a ≡ i + suc a = omega arith in
    ap (λ (n : ℕ). upto n i) p ∙ ap (λ (l : List ℕ). i ∷ l) (upto_split a b (suc i) ∙ ap (λ (j : ℕ). upto a (suc i) ++ upto b j) q)

pub keep_map : {A B : Type 0} (p : B → Bool) (f : A → B) (l : List A) → keep p (map f l) ≡ map f (keep (λ x. p (f x)) l)
keep_map p f [] = refl
keep_map p f (x ∷ l) = go (p (f x)) (keep_map p f l)
  where
    go : (b : Bool) → keep p (map f l) ≡ map f (keep (λ x. p (f x)) l)
        → cond b (f x ∷ keep p (map f l)) (keep p (map f l)) ≡ map f (cond b (x ∷ keep (λ x. p (f x)) l) (keep (λ x. p (f x)) l))
    go true e = ap (λ (k : List _). f x ∷ k) e
    go false e = e

module _ {A : Type 0} (p : A → Bool) where
  pub keep_append : (k l : List A) → keep p (k ++ l) ≡ keep p k ++ keep p l
  keep_append [] l = refl
  keep_append (x ∷ k) l = go (p x) (keep_append k l)
    where
      go : (b : Bool) → keep p (k ++ l) ≡ keep p k ++ keep p l
          → cond b (x ∷ keep p (k ++ l)) (keep p (k ++ l)) ≡ cond b (x ∷ keep p k) (keep p k) ++ keep p l
      go true e = ap (λ (u : List A). x ∷ u) e
      go false e = e

  keep_none : (l : List A) → ((x : A) → Memᴰ x l → p x ≡ false) → keep p l ≡ []
  keep_none [] f = refl
  keep_none (x ∷ l) f = rw (f x (Memᴰ.head refl)) (keep_none l (λ y m. f y (Memᴰ.tail m)))

  pub keep_all : (l : List A) → ((x : A) → Memᴰ x l → p x ≡ true) → keep p l ≡ l
  keep_all [] f = refl
  keep_all (x ∷ l) f = rw (f x (Memᴰ.head refl)) (ap (λ (k : List A). x ∷ k) (keep_all l (λ y m. f y (Memᴰ.tail m))))

  -- where none of one part passes, the other part says what is kept
  pub keep_front : (k l : List A) → ((x : A) → Memᴰ x l → p x ≡ false) → keep p (k ++ l) ≡ keep p k
  keep_front [] l f = keep_none l f
  keep_front (x ∷ k) l f = go (p x) (keep_front k l f)
    where
      go : (b : Bool) → keep p (k ++ l) ≡ keep p k → cond b (x ∷ keep p (k ++ l)) (keep p (k ++ l)) ≡ cond b (x ∷ keep p k) (keep p k)
      go true e = ap (λ (u : List A). x ∷ u) e
      go false e = e

  pub keep_back : (k l : List A) → ((x : A) → Memᴰ x k → p x ≡ false) → keep p (k ++ l) ≡ keep p l
  keep_back [] l f = refl
  keep_back (x ∷ k) l f = rw (f x (Memᴰ.head refl)) (keep_back k l (λ y m. f y (Memᴰ.tail m)))

  -- one more element at the end
  pub keep_yes : (l : List A) (x : A) → p x ≡ true → keep p (l ++ (x ∷ [])) ≡ keep p l ++ (x ∷ [])
  keep_yes l x e = keep_append l (x ∷ []) ∙ ap (λ (b : Bool). keep p l ++ cond b (x ∷ []) []) e

  pub keep_no : (l : List A) (x : A) → p x ≡ false → keep p (l ++ (x ∷ [])) ≡ keep p l
  keep_no l x e = keep_front l (x ∷ []) (λ y m. ⊎_elim (λ (q : y ≡ x). rw q e) (λ h. absurd (Memᴰ.not-nil h)) (Memᴰ.cases_cons m))

-- order between an element and what is later and earlier
module _ {A : Type 0} (lt : A → A → Bool) where
  pub later : (l : List A) (k : ℕ) (d : A) → Sorted lt l → k < length l → (y : A) → Memᴰ y (drop (suc k) l) → T (lt (get_or l k d) y)
  later [] k d s h y m = absurd (omega arith)
  later (x ∷ l) zero d s h y m = s.0 y m
  later (x ∷ l) (suc k) d s h y m = later l k d s.1 (omega arith) y m

  pub earlier : (l : List A) (k : ℕ) (d : A) → Sorted lt l → k < length l → (y : A) → Memᴰ y (take k l) → T (lt y (get_or l k d))
  earlier [] k d s h y m = absurd (omega arith)
  earlier (x ∷ l) zero d s h y m = absurd (Memᴰ.not-nil m)
  earlier (x ∷ l) (suc k) d s h y m =
      ⊎_elim
      (λ (q : y ≡ x). rw q (s.0 (get_or l k d) (get_d_mem l k d (omega arith))))
      (λ r. earlier l k d s.1 (omega arith) y r)
      (Memᴰ.cases_cons m)

  pub sorted_at : (l : List A) (j k : ℕ) (d : A) → Sorted lt l → j < k → k < length l → T (lt (get_or l j d) (get_or l k d))
  sorted_at [] j k d s h i = absurd (omega arith)
  sorted_at (x ∷ l) zero zero d s h i = absurd (omega arith)
  sorted_at (x ∷ l) zero (suc k) d s h i = s.0 (get_or l k d) (get_d_mem l k d (omega arith))
  sorted_at (x ∷ l) (suc j) zero d s h i = absurd (omega arith)
  sorted_at (x ∷ l) (suc j) (suc k) d s h i = sorted_at l j k d s.1 (omega arith) (omega arith)

-- edges that are given as three lists
pub length_edges : (ss ts ks : List ℕ) → length ts ≡ length ss → length ks ≡ length ss → length (edges_of ss ts ks) ≡ length ss
length_edges [] ts ks p q = refl
length_edges (s ∷ ss) [] ks p q = absurd (omega arith)
length_edges (s ∷ ss) (t ∷ ts) [] p q = absurd (omega arith)
length_edges (s ∷ ss) (t ∷ ts) (k ∷ ks) p q = ap suc (length_edges ss ts ks (omega arith) (omega arith))

pub get_d_edges : (ss ts ks : List ℕ) (i : ℕ) (e : Edge) → length ts ≡ length ss → length ks ≡ length ss → i < length ss
    → get_or (edges_of ss ts ks) i e ≡ edge (get_or ss i 0) (get_or ts i 0) (get_or ks i 0)
get_d_edges [] ts ks i e p q h = absurd (omega arith)
get_d_edges (s ∷ ss) [] ks i e p q h = absurd (omega arith)
get_d_edges (s ∷ ss) (t ∷ ts) [] i e p q h = absurd (omega arith)
get_d_edges (s ∷ ss) (t ∷ ts) (k ∷ ks) zero e p q h = refl
get_d_edges (s ∷ ss) (t ∷ ts) (k ∷ ks) (suc i) e p q h = get_d_edges ss ts ks i e (omega arith) (omega arith) (omega arith)

-- the best value, with one more number
module _ {le : ℤ → ℤ → Type 0} {pick : ℤ → ℤ → ℤ} {best : List ℤ → ℤ} (K : Picks le pick best) where
  pick_right : (x y : ℤ) → le x y → pick x y ≡ y
  pick_right x y h =
      ⊎_elim (λ (e : pick x y ≡ x). e ∙ K.anti x y h (subst (λ (z : ℤ). le y z) e (K.right x y))) (λ (e : pick x y ≡ y). e) (K.from x y)

  pick_left : (x y : ℤ) → le y x → pick x y ≡ x
  pick_left x y h =
      ⊎_elim (λ (e : pick x y ≡ x). e) (λ (e : pick x y ≡ y). e ∙ K.anti y x h (subst (λ (z : ℤ). le x z) e (K.left x y))) (K.from x y)

  -- at the end, and in front
  pub best_snoc : {A : Type 0} (f : A → ℤ) (low : ℤ) (xs : List A) (x : A) → best (low ∷ map f (xs ++ (x ∷ []))) ≡ pick (best (low ∷ map f xs)) (f x)
  best_snoc f low xs x =
      ap (λ (l : List ℤ). best (low ∷ l)) (map-append f xs (x ∷ []))
      ∙ best_append K (low ∷ map f xs) (f x ∷ []) (low, Memᴰ.head refl) (f x, Memᴰ.head refl)
      ∙ ap (pick (best (low ∷ map f xs))) (K.one (f x))

  pub best_cons : (x : ℤ) (xs : List ℤ) (high : ℤ) → best (x ∷ (xs ++ (high ∷ []))) ≡ pick x (best (xs ++ (high ∷ [])))
  best_cons x xs high =
      best_append K (x ∷ []) (xs ++ (high ∷ [])) (x, Memᴰ.head refl) (high, Memᴰ.append_right xs (Memᴰ.head refl))
      ∙ ap (λ (z : ℤ). pick z (best (xs ++ (high ∷ [])))) (K.one x)

  -- a number that no other is worse than adds nothing
  pub best_low : (low : ℤ) (xs : List ℤ) → Some xs → le low (best xs) → best (low ∷ xs) ≡ best xs
  best_low low xs s h =
      best_append K (low ∷ []) xs (low, Memᴰ.head refl) s ∙ ap (λ (z : ℤ). pick z (best xs)) (K.one low) ∙ pick_right low (best xs) h

  pub best_high : (high : ℤ) (xs : List ℤ) → Some xs → le high (best xs) → best (xs ++ (high ∷ [])) ≡ best xs
  best_high high xs s h =
      best_append K xs (high ∷ []) s (high, Memᴰ.head refl) ∙ ap (pick (best xs)) (K.one high) ∙ pick_left (best xs) high h
