-- Counting in lists: a list with no repeats is no longer than a list that holds its members, and lists that never fall
-- are one where each number stands as often in one as in the other.
use Prim.Native.Nat.{ℕ, zero, suc, ◌+◌, ◌≤◌, ◌<◌}
use mathlib.Core.Path.{◌≡◌, refl, sym, ap, ap₂, ◌∙◌, subst}
use mathlib.Core.Logic.{◌⊎◌, inl, inr, ⊎_elim, ◌↔◌}
use mathlib.Core.Bool.{Bool, true, false, cond}
use mathlib.Core.List.Memᴰ
use mathlib.Core.List.{List, [], ◌∷◌, ◌++◌, map, flat_map, Memᴰ}
use native.Mathlib.Omega.{arith}
use lib.Dec.{T, eqb, leb, eqb→eq, eqb_refl, leb→le, le→leb}
use lib.ListN.{length}
use Rattle.timing.specs.Lists.{one_if, keep, count_of, each_next, upto}
use Rattle.theorems.proofs.Lists.{and_intro, and_left, and_right, mem_keep, of_keep, of_flat_map, of_upto}
use Rattle.theorems.proofs.Sorting.{Linear, Sorted}

-- a list has a first element where it has a member
pub mem_positive : {A : Type 0} {x : A} (l : List A) → Memᴰ x l → 0 < length l
mem_positive [] m = absurd (Memᴰ.not-nil m)
mem_positive (y ∷ l) m = omega arith

module _ {A : Type 0} (p : A → Bool) where
  pub count_cons : (x : A) (l : List A) → count_of p (x ∷ l) ≡ one_if (p x) + count_of p l
  count_cons x l = go (p x)
    where
      go : (b : Bool) → length (cond b (x ∷ keep p l) (keep p l)) ≡ one_if b + length (keep p l)
      go true = omega arith
      go false = omega arith

  pub count_append : (k l : List A) → count_of p (k ++ l) ≡ count_of p k + count_of p l
  count_append [] l = omega arith
  count_append (x ∷ k) l = omega (arith, count_cons x (k ++ l), count_cons x k, count_append k l)

  -- a count is positive where a member passes, and only there
  pub count_positive : {x : A} (l : List A) → Memᴰ x l → T (p x) → 0 < count_of p l
  count_positive l m t = mem_positive (keep p l) (mem_keep p m t)

  pub of_count : (l : List A) → 0 < count_of p l → (x : A) × Memᴰ x l × T (p x)
  of_count l h = go (keep p l) h (λ x m. of_keep p l m)
    where
      go : (k : List A) → 0 < length k → ((x : A) → Memᴰ x k → Memᴰ x l × T (p x)) → (x : A) × Memᴰ x l × T (p x)
      go [] h f = absurd (omega arith)
      go (x ∷ k) h f = let r = f x (Memᴰ.head refl) in (x, r.0, r.1)

pub count_all : {A : Type 0} (l : List A) → count_of (λ (x : A). true) l ≡ length l
count_all [] = refl
count_all (x ∷ l) = ap suc (count_all l)

pub count_map : {A B : Type 0} (p : B → Bool) (f : A → B) (l : List A) → count_of p (map f l) ≡ count_of (λ x. p (f x)) l
count_map p f [] = refl
count_map p f (x ∷ l) = omega (arith, count_cons p (f x) (map f l), count_cons (λ y. p (f y)) x l, count_map p f l)

-- no element stands twice
abbrev pub Nodup : {A : Type 0} → List A → Type 0
Nodup [] = Unit {0}
Nodup (x ∷ l) = (Memᴰ x l → ⊥) × Nodup l

module _ {A : Type 0} where
  -- a list cut at a member
  pub split_mem : {x : A} {l : List A} → Memᴰ x l → (a : List A) × (b : List A) × (l ≡ a ++ (x ∷ b))
  split_mem (Memᴰ.head {x = y} {xs = l} e) = ([], l, ap (λ (v : A). v ∷ l) (sym e))
  split_mem (Memᴰ.tail {x = y} m) = let r = split_mem m in (y ∷ r.0, r.1, ap (λ (u : List A). y ∷ u) r.2)

  -- a member of a list that is not the element in its middle
  mem_around : {y : A} (a : List A) (x : A) (b : List A) → Memᴰ y (a ++ (x ∷ b)) → (y ≡ x → ⊥) → Memᴰ y (a ++ b)
  mem_around a x b m f =
      ⊎_elim
      (λ h. Memᴰ.append_left b h)
      (λ h. ⊎_elim (λ e. absurd (f e)) (λ k. Memᴰ.append_right a k) (Memᴰ.cases_cons h))
      (Memᴰ.append_cases a m)

  -- take the first element out of both lists
  pub count_le : (p : A → Bool) (xs ys : List A) → Nodup xs → ((x : A) → Memᴰ x xs → Memᴰ x ys) → count_of p xs ≤ count_of p ys
  count_le p [] ys d f = omega arith
  count_le p (x ∷ xs) ys d f =
      let r = split_mem (f x (Memᴰ.head refl)) in
      let a : List A = r.0 in
      let b : List A = r.1 in
      let within : (y : A) → Memᴰ y xs → Memᴰ y (a ++ b)
      = λ y m.
      mem_around a x b
      (subst (λ (l : List A). Memᴰ y l) r.2 (f y (Memᴰ.tail m)))
      (λ e. d.0 (subst (λ (v : A). Memᴰ v xs) e m)) in
      let below = count_le p xs (a ++ b) d.1 within in
      omega (arith, below, count_cons p x xs, ap (count_of p) r.2, count_append p a (x ∷ b), count_cons p x b, count_append p a b)

  pub count_same : (p : A → Bool) (xs ys : List A) → Nodup xs → Nodup ys → ((x : A) → Memᴰ x xs ↔ Memᴰ x ys) → count_of p xs ≡ count_of p ys
  count_same p xs ys d d' f = omega (arith, count_le p xs ys d (λ x. (f x).0), count_le p ys xs d' (λ x. (f x).1))

  pub length_le : (xs ys : List A) → Nodup xs → ((x : A) → Memᴰ x xs → Memᴰ x ys) → length xs ≤ length ys
  length_le xs ys d f = omega (arith, count_le (λ x. true) xs ys d f, count_all xs, count_all ys)

  pub length_same : (xs ys : List A) → Nodup xs → Nodup ys → ((x : A) → Memᴰ x xs ↔ Memᴰ x ys) → length xs ≡ length ys
  length_same xs ys d d' f = omega (arith, length_le xs ys d (λ x. (f x).0), length_le ys xs d' (λ x. (f x).1))

-- in a list that repeats nothing a test that at most one element passes is passed at most once; and two elements that pass it are counted
pub count_single : {A : Type 0} (p : A → Bool) (l : List A) → Nodup l → ((x y : A) → Memᴰ x l → Memᴰ y l → T (p x) → T (p y) → x ≡ y) → count_of p l ≤ 1
count_single p [] d h = omega arith
count_single {A} p (x ∷ l) d h = go (p x) refl (count_single p l d.1 (λ y z m n. h y z (Memᴰ.tail m) (Memᴰ.tail n)))
  where
    none : (n : ℕ) → n ≡ count_of p l → T (p x) → n ≡ 0
    none zero e t = refl
    none (suc n) e t =
        let r = of_count p l (omega arith) in
        absurd (d.0 (subst (λ (y : A). Memᴰ y l) (h r.0 x (Memᴰ.tail r.1) (Memᴰ.head refl) r.2 t) r.1))

    go : (b : Bool) → p x ≡ b → count_of p l ≤ 1 → count_of p (x ∷ l) ≤ 1
    go true e below = omega (arith, count_cons p x l, ap one_if e, none (count_of p l) refl (rw e tt))
    go false e below = omega (arith, count_cons p x l, ap one_if e)

pub count_two : {A : Type 0} (p : A → Bool) {x y : A} (l : List A) → Memᴰ x l → Memᴰ y l → T (p x) → T (p y) → (x ≡ y → ⊥) → 1 < count_of p l
count_two p [] m n s t d = absurd (Memᴰ.not-nil m)
count_two {A} p {x} {y} (z ∷ l) m n s t d = go (Memᴰ.cases_cons m) (Memᴰ.cases_cons n) (λ a b. count_two p l a b s t d)
  where
    passes : (u : A) → T (p u) → u ≡ z → one_if (p z) ≡ 1
    passes u h e = yes (p z) (subst (λ (v : A). T (p v)) e h)
      where
        yes : (b : Bool) → T b → one_if b ≡ 1
        yes true h = refl
        yes false h = absurd h

    go : (x ≡ z) ⊎ Memᴰ x l → (y ≡ z) ⊎ Memᴰ y l → (Memᴰ x l → Memᴰ y l → 1 < count_of p l) → 1 < count_of p (z ∷ l)
    go (inl e) (inl f) below = absurd (d (e ∙ sym f))
    go (inl e) (inr k) below = omega (arith, count_cons p z l, passes x s e, count_positive p l k t)
    go (inr h) (inl f) below = omega (arith, count_cons p z l, passes y t f, count_positive p l h s)
    go (inr h) (inr k) below = omega (arith, count_cons p z l, below h k)

pub nodup_map : {A B : Type 0} (f : A → B) (l : List A) → ((x y : A) → Memᴰ x l → Memᴰ y l → f x ≡ f y → x ≡ y) → Nodup l → Nodup (map f l)
nodup_map f [] inj d = tt
nodup_map {A} f (x ∷ l) inj d = (
  λ m.
      let r = Memᴰ.of_map f l m in
      d.0 (subst (λ (v : A). Memᴰ v l) (inj r.0 x (Memᴰ.tail r.1) (Memᴰ.head refl) r.2) r.1),
  nodup_map f l (λ y z m n. inj y z (Memᴰ.tail m) (Memᴰ.tail n)) d.1,
)

-- order between neighbours, and between each and all that are later
module _ {A : Type 0} (lt : A → A → Bool) where
  pub sorted_nodup : Linear lt → (l : List A) → Sorted lt l → Nodup l
  sorted_nodup O [] s = tt
  sorted_nodup O (x ∷ l) s = (λ m. O.irrefl x (s.0 x m), sorted_nodup O l s.1)

  pub next_sorted : ((x y z : A) → T (lt x y) → T (lt y z) → T (lt x z)) → (l : List A) → T (each_next lt l) → Sorted lt l
  next_sorted trans [] t = tt
  next_sorted trans (x ∷ []) t = (λ y m. absurd (Memᴰ.not-nil m), tt)
  next_sorted trans (x ∷ y ∷ l) t =
      let first = and_left (lt x y) (each_next lt (y ∷ l)) t in
      let below = next_sorted trans (y ∷ l) (and_right (lt x y) (each_next lt (y ∷ l)) t) in (
        λ z m. ⊎_elim (λ (e : z ≡ y). rw e first) (λ h. trans x y z first (below.0 z h)) (Memᴰ.cases_cons m),
        below,
      )

  pub sorted_next : (l : List A) → Sorted lt l → T (each_next lt l)
  sorted_next [] s = tt
  sorted_next (x ∷ []) s = tt
  sorted_next (x ∷ y ∷ l) s = and_intro (lt x y) (each_next lt (y ∷ l)) (s.0 y (Memᴰ.head refl)) (sorted_next (y ∷ l) s.1)

-- numbers that never fall
abbrev pub Rises : List ℕ → Type 0
Rises [] = Unit {0}
Rises (x ∷ l) = ((y : ℕ) → Memᴰ y l → x ≤ y) × Rises l

rises_sorted : (l : List ℕ) → Rises l → Sorted leb l
rises_sorted [] r = tt
rises_sorted (x ∷ l) r = (λ y m. le→leb x y (r.0 y m), rises_sorted l r.1)

sorted_rises : (l : List ℕ) → Sorted leb l → Rises l
sorted_rises [] r = tt
sorted_rises (x ∷ l) r = (λ y m. leb→le x y (r.0 y m), sorted_rises l r.1)

pub rises_next : (l : List ℕ) → Rises l ↔ T (each_next leb l)
rises_next l = (
  λ r. sorted_next leb l (rises_sorted l r),
  λ t. sorted_rises l (next_sorted leb (λ x y z p q. le→leb x z (omega (arith, leb→le x y p, leb→le y z q))) l t),
)

-- the first element of one such list stands in the other, so that it is no lower than the first there
first_least : (x y : ℕ) (xs ys : List ℕ) → Rises (y ∷ ys) → count_of (eqb x) (x ∷ xs) ≡ count_of (eqb x) (y ∷ ys) → y ≤ x
first_least x y xs ys r e =
    let here : 0 < count_of (eqb x) (x ∷ xs) = count_positive (eqb x) (x ∷ xs) (Memᴰ.head refl) (eqb_refl x) in
    let o = of_count (eqb x) (y ∷ ys) (omega arith) in
    let q : x ≡ o.0 = eqb→eq x o.0 o.2 in
    ⊎_elim (λ (h : o.0 ≡ y). omega arith) (λ h. omega (arith, r.0 o.0 h)) (Memᴰ.cases_cons o.1)

no_more : (v : ℕ) (l : List ℕ) → count_of (eqb v) (v ∷ l) ≡ 0 → ⊥
no_more v l e =
    let here : 0 < count_of (eqb v) (v ∷ l) = count_positive (eqb v) (v ∷ l) (Memᴰ.head refl) (eqb_refl v) in
    omega arith

pub rises_same : (xs ys : List ℕ) → Rises xs → Rises ys → ((v : ℕ) → count_of (eqb v) xs ≡ count_of (eqb v) ys) → xs ≡ ys
rises_same [] [] r s f = refl
rises_same [] (y ∷ ys) r s f = absurd (no_more y ys (sym (f y)))
rises_same (x ∷ xs) [] r s f = absurd (no_more x xs (f x))
rises_same (x ∷ xs) (y ∷ ys) r s f =
    let e : x ≡ y = omega (arith, first_least x y xs ys s (f x), first_least y x ys xs r (sym (f y))) in
    let rest : (v : ℕ) → count_of (eqb v) xs ≡ count_of (eqb v) ys
    = λ v. omega (arith, f v, count_cons (eqb v) x xs, count_cons (eqb v) y ys, ap (λ (u : ℕ). one_if (eqb v u)) e) in
    ap₂ ◌∷◌ e (rises_same xs ys r.1 s.1 rest)

-- what keeps a list free of repeats
module _ {A : Type 0} where
  pub nodup_keep : (p : A → Bool) (l : List A) → Nodup l → Nodup (keep p l)
  nodup_keep p [] d = tt
  nodup_keep p (x ∷ l) d = go (p x) (nodup_keep p l d.1)
    where
      go : (b : Bool) → Nodup (keep p l) → Nodup (cond b (x ∷ keep p l) (keep p l))
      go true r = (λ m. d.0 (of_keep p l m).0, r)
      go false r = r

  pub nodup_append : (k l : List A) → Nodup k → Nodup l → ((x : A) → Memᴰ x k → Memᴰ x l → ⊥) → Nodup (k ++ l)
  nodup_append [] l d e f = e
  nodup_append (x ∷ k) l d e f = (
    λ m. ⊎_elim d.0 (f x (Memᴰ.head refl)) (Memᴰ.append_cases k m),
    nodup_append k l d.1 e (λ y m n. f y (Memᴰ.tail m) n),
  )

-- lists with no repeats, of which no two share a member, one after the other
pub nodup_flat_map : {A B : Type 0} (f : A → List B) (l : List A) → Nodup l → ((x : A) → Nodup (f x))
    → ((x y : A) (z : B) → Memᴰ z (f x) → Memᴰ z (f y) → x ≡ y) → Nodup (flat_map f l)
unfolding flat_map
nodup_flat_map f [] d each apart = tt
nodup_flat_map {A} f (x ∷ l) d each apart =
    nodup_append (f x) (flat_map f l) (each x) (nodup_flat_map f l d.1 each apart)
    (λ z m n. let r = of_flat_map f l n in d.0 (subst (λ (y : A). Memᴰ y l) (sym (apart x r.0 z m r.2)) r.1))

pub nodup_upto : (n i : ℕ) → Nodup (upto n i)
nodup_upto zero i = tt
nodup_upto (suc n) i = (λ m. omega (arith, (of_upto n (suc i) i m).0), nodup_upto n (suc i))
