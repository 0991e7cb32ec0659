-- How the shown slots, their numbers and their edges grow while a pass goes from slot to slot, and on what they depend.
use Prim.Native.Nat.{ℕ, suc, ◌+◌, ◌<◌}
use native.Mathlib.Omega.{arith}
use mathlib.Core.Path.{◌≡◌, refl, sym, ap, ap₂, ◌∙◌}
use mathlib.Core.Bool.{Bool, true, false, cond}
use mathlib.Core.List.{List, [], ◌∷◌, ◌++◌, map, flat_map, Memᴰ, append_assoc, append-nil}
use lib.ListN.{length, length-append, length-map}
use Rattle.timing.specs.Lists.{one_if, keep, count_of, upto}
use Rattle.theorems.proofs.Lists.{of_upto}
use Rattle.theorems.proofs.Counting.{count_cons, count_append}
use Rattle.theorems.proofs.Splits.{upto_next}
use Rattle.removal.specs.Slots.{slots}
use Rattle.removal.proofs.Showing.ResultLaws.{Slot, slot_at, shown_in, shown_below, number_of}

-- one element more
pub keep_last : {A : Type 0} (p : A → Bool) (l : List A) (x : A) → keep p (l ++ (x ∷ [])) ≡ keep p l ++ cond (p x) (x ∷ []) []
keep_last p [] x = refl
keep_last {A} p (y ∷ l) x = go (p y) (keep_last p l x)
  where
    go : (b : Bool) → keep p (l ++ (x ∷ [])) ≡ keep p l ++ cond (p x) (x ∷ []) []
        → cond b (y ∷ keep p (l ++ (x ∷ []))) (keep p (l ++ (x ∷ []))) ≡ cond b (y ∷ keep p l) (keep p l) ++ cond (p x) (x ∷ []) []
    go true e = ap (λ (k : List A). y ∷ k) e
    go false e = e

pub flat_map_append : {A B : Type 0} (f : A → List B) (k l : List A) → flat_map f (k ++ l) ≡ flat_map f k ++ flat_map f l
unfolding flat_map
flat_map_append f [] l = refl
flat_map_append {A} {B} f (x ∷ k) l =
    ap (λ (y : List B). f x ++ y) (flat_map_append f k l) ∙ sym (append_assoc (f x) (flat_map f k) (flat_map f l))

pub flat_map_last : {A B : Type 0} (f : A → List B) (l : List A) (x : A) → flat_map f (l ++ (x ∷ [])) ≡ flat_map f l ++ f x
unfolding flat_map
flat_map_last {A} {B} f l x = flat_map_append f l (x ∷ []) ∙ ap (λ (y : List B). flat_map f l ++ y) (append-nil (f x))

map_last : {A B : Type 0} (f : A → B) (k l : List A) → map f (k ++ l) ≡ map f k ++ map f l
map_last f [] l = refl
map_last {A} {B} f (x ∷ k) l = ap (λ (y : List B). f x ∷ y) (map_last f k l)

-- lists that are made alike
pub keep_same : {A : Type 0} (p q : A → Bool) (l : List A) → ((x : A) → Memᴰ x l → p x ≡ q x) → keep p l ≡ keep q l
keep_same p q [] h = refl
keep_same {A} p q (x ∷ l) h =
    ap₂ (λ (b : Bool) (k : List A). cond b (x ∷ k) k) (h x (Memᴰ.head refl)) (keep_same p q l (λ y m. h y (Memᴰ.tail m)))

pub flat_map_same : {A B : Type 0} (f g : A → List B) (l : List A) → ((x : A) → Memᴰ x l → f x ≡ g x) → flat_map f l ≡ flat_map g l
unfolding flat_map
flat_map_same f g [] h = refl
flat_map_same {A} {B} f g (x ∷ l) h =
    ap₂ (λ (j k : List B). j ++ k) (h x (Memᴰ.head refl)) (flat_map_same f g l (λ y m. h y (Memᴰ.tail m)))

module _ (B : ℕ → ℕ) (shown : ℕ → ℕ → Bool) where
  -- one slot more, one copy more
  pub shown_next : (c j : ℕ) → shown_in shown c (suc j) ≡ shown_in shown c j ++ cond (shown c j) (slot_at c j ∷ []) []
  shown_next c j =
      let z : 0 + j ≡ j = omega arith in
      ap (λ (l : List ℕ). map (slot_at c) (keep (shown c) l)) (upto_next j 0 ∙ ap (λ (x : ℕ). upto j 0 ++ (x ∷ [])) z)
      ∙ ap (map (slot_at c)) (keep_last (shown c) (upto j 0) j)
      ∙ map_last (slot_at c) (keep (shown c) (upto j 0)) (cond (shown c j) (j ∷ []) [])
      ∙ ap (λ (l : List Slot). shown_in shown c j ++ l) (go (shown c j))
    where
      go : (b : Bool) → map (slot_at c) (cond b (j ∷ []) []) ≡ cond b (slot_at c j ∷ []) []
      go true = refl
      go false = refl

  pub shown_next_copy : (c : ℕ) → shown_below B shown (suc c) ≡ shown_below B shown c ++ shown_in shown c (slots B c)
  shown_next_copy c =
      let z : 0 + c ≡ c = omega arith in
      ap (flat_map (λ c. shown_in shown c (slots B c))) (upto_next c 0 ∙ ap (λ (x : ℕ). upto c 0 ++ (x ∷ [])) z)
      ∙ flat_map_last (λ c. shown_in shown c (slots B c)) (upto c 0) c

  -- and their numbers
  pub number_next : (c j : ℕ) → number_of B shown c (suc j) ≡ number_of B shown c j + one_if (shown c j)
  number_next c j =
      let z : 0 + j ≡ j = omega arith in
      let u : upto (suc j) 0 ≡ upto j 0 ++ (j ∷ []) = upto_next j 0 ∙ ap (λ (x : ℕ). upto j 0 ++ (x ∷ [])) z in
      let a : count_of (shown c) (upto (suc j) 0) ≡ count_of (shown c) (upto j 0) + count_of (shown c) (j ∷ []) =
      ap (count_of (shown c)) u ∙ count_append (shown c) (upto j 0) (j ∷ []) in
      omega (arith, a, count_cons (shown c) j [])

  pub number_next_copy : (c : ℕ) → number_of B shown (suc c) 0 ≡ number_of B shown c (slots B c)
  number_next_copy c =
      let a : length (shown_below B shown (suc c)) ≡ length (shown_below B shown c) + length (shown_in shown c (slots B c)) =
      ap length (shown_next_copy c) ∙ length-append (shown_below B shown c) (shown_in shown c (slots B c)) in
      omega (arith, a, length-map (keep (shown c) (upto (slots B c) 0)) (slot_at c))

-- a number depends on the flags of the slots before it
module _ (B : ℕ → ℕ) (shown after : ℕ → ℕ → Bool) (c : ℕ) (below : (d k : ℕ) → d < c → k < slots B d → after d k ≡ shown d k) where
  pub below_same : shown_below B after c ≡ shown_below B shown c
  below_same =
      flat_map_same (λ d. shown_in after d (slots B d)) (λ d. shown_in shown d (slots B d)) (upto c 0)
      (λ d m. ap (map (slot_at d)) (keep_same (after d) (shown d) (upto (slots B d) 0)
      (λ k i. below d k (omega (arith, (of_upto c 0 d m).1)) (omega (arith, (of_upto (slots B d) 0 k i).1)))))

  pub number_same : (j : ℕ) → ((k : ℕ) → k < j → after c k ≡ shown c k) → number_of B after c j ≡ number_of B shown c j
  number_same j here =
      let a = ap length below_same in
      let b = ap length (keep_same (after c) (shown c) (upto j 0) (λ k i. here k (omega (arith, (of_upto j 0 k i).1)))) in
      omega (arith, a, b)
