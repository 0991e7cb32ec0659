-- What the largest and the smallest of some times are: the value of a member, and none goes beyond it. All else about
-- them follows, since only one number is that. The two directions are one: each law is shown for any order (`Picks`),
-- and `larges` and `smalls` are the two.
use Prim.Native.Nat.{◌+◌, ◌≤◌}
use mathlib.Core.Path.{◌≡◌, refl, sym, ap, ◌∙◌, subst}
use mathlib.Core.Logic.{◌⊎◌, inl, inr, ⊎_elim, ◌↔◌}
use mathlib.Core.Bool.{Bool, true, false, cond, not}
use mathlib.Core.List.Memᴰ
use mathlib.Core.List.{List, [], ◌∷◌, ◌++◌, map, Memᴰ}
use native.Mathlib.Omega.{arith}
use lib.Dec.{T}
use lib.IntN.{ℤ, ◌+ℤ◌, ◌-ℤ◌}
use lib.Signed.{lt_z, ◌≤ℤ◌, lt_z_no}
use Rattle.timing.specs.Lists.{is_nil}
use Rattle.timing.specs.Times.{larger, smaller, largest, smallest}
use Rattle.timing.specs.Paths.{Best, Largest, Smallest}
use Rattle.timing.proofs.Ints.{up, dn, add_is, sub_parts, eq_parts, lt_z_true, lt_z_false}

-- x is at most y, in the parts that `omega` reads; and the other way round
abbrev pub AtMost : ℤ → ℤ → Type 0
AtMost x y = up x + dn y ≤ up y + dn x

abbrev pub AtLeast : ℤ → ℤ → Type 0
AtLeast x y = AtMost y x

-- the order of the kit, in which the statements are
pub order : (x y : ℤ) → AtMost x y → x ≤ℤ y
order x y h = go (lt_z y x) refl
  where
    go : (b : Bool) → lt_z y x ≡ b → x ≤ℤ y
    go true e = absurd (omega (arith, lt_z_true y x e))
    go false e = lt_z_no (subst (λ (b : Bool). T (not b)) (sym e) tt)

-- a list that is not empty, by a member of it; a list is that or empty, and not both
abbrev pub Some : {A : Type 0} → List A → Type 0
Some {A} xs = (x : A) × Memᴰ x xs

pub nil_or_some : {A : Type 0} (l : List A) → T (is_nil l) ⊎ Some l
nil_or_some [] = inl tt
nil_or_some (x ∷ l) = inr (x, Memᴰ.head refl)

pub nil_none : {A : Type 0} (l : List A) → T (is_nil l) → Some l → ⊥
nil_none [] t s = Memᴰ.not-nil s.1
nil_none (x ∷ l) t s = t

pub not_nil : {A : Type 0} (l : List A) → T (not (is_nil l)) ↔ Some l
not_nil [] = (λ p. absurd p, λ s. Memᴰ.not-nil s.1)
not_nil (x ∷ l) = (λ p. (x, Memᴰ.head refl), λ s. tt)

-- an order, the choice between two numbers by it, and the choice from a list
pub record Picks (le : ℤ → ℤ → Type 0) (pick : ℤ → ℤ → ℤ) (best : List ℤ → ℤ) : Type 0 where
  pub same : (x : ℤ) → le x x
  pub trans : (x y z : ℤ) → le x y → le y z → le x z
  pub anti : (x y : ℤ) → le x y → le y x → x ≡ y
  pub from : (x y : ℤ) → (pick x y ≡ x) ⊎ (pick x y ≡ y)
  pub left : (x y : ℤ) → le x (pick x y)
  pub right : (x y : ℤ) → le y (pick x y)
  pub one : (x : ℤ) → best (x ∷ []) ≡ x
  pub more : (x y : ℤ) (xs : List ℤ) → best (x ∷ y ∷ xs) ≡ pick x (best (y ∷ xs))

-- the best value is the same where every value of the one is a value of the other, and conversely
pub best_moved : {A B : Type 0} {le : ℤ → ℤ → Type 0} {P : A → Type 0} {Q : B → Type 0} {f : A → ℤ} {g : B → ℤ} {m : ℤ} → Best le P f m
    → ((x : A) → P x → (y : B) × Q y × (f x ≡ g y)) → ((y : B) → Q y → (x : A) × P x × (f x ≡ g y)) → Best le Q g m
best_moved {le = le} {m = m} b there back =
    let y = there b.at b.there in record {
      at = y.0;
      there = y.1;
      is = sym y.2 ∙ b.is;
      most = λ v q. let x = back v q in subst (λ (z : ℤ). le z m) x.2 (b.most x.0 x.1);
    }

-- so it is, over the same set said in another way
pub best_on : {A : Type 0} {le : ℤ → ℤ → Type 0} {P Q : A → Type 0} {f : A → ℤ} {m : ℤ} → ((x : A) → P x ↔ Q x) → Best le P f m → Best le Q f m
best_on e b = best_moved b (λ x p. (x, (e x).0 p, refl)) (λ x q. (x, (e x).1 q, refl))

-- what keeps the order, or turns one order into another, keeps the best value
pub best_kept : {A : Type 0} {le lf : ℤ → ℤ → Type 0} {P : A → Type 0} {f : A → ℤ} {m : ℤ} (h : ℤ → ℤ)
    → ((x y : ℤ) → le x y → lf (h x) (h y)) → Best le P f m → Best lf P (λ x. h (f x)) (h m)
best_kept {f = f} {m} h keeps b = record { at = b.at; there = b.there; is = ap h b.is; most = λ x p. keeps (f x) m (b.most x p) }

-- in the order of the kit
pub largest_of : {A : Type 0} {P : A → Type 0} {f : A → ℤ} {m : ℤ} → Best AtMost P f m → Largest P f m
largest_of b = best_kept (λ z. z) order b

pub smallest_of : {A : Type 0} {P : A → Type 0} {f : A → ℤ} {m : ℤ} → Best AtLeast P f m → Smallest P f m
smallest_of b = best_kept (λ z. z) (λ x y. order y x) b

module _ {le : ℤ → ℤ → Type 0} {pick : ℤ → ℤ → ℤ} {best : List ℤ → ℤ} (K : Picks le pick best) where
  -- there is only one best value
  pub best_unique : {A : Type 0} {P : A → Type 0} {f : A → ℤ} {m k : ℤ} → Best le P f m → Best le P f k → m ≡ k
  best_unique {m = m} {k} b c =
      K.anti m k
      (subst (λ (v : ℤ). le v k) b.is (c.most b.at b.there))
      (subst (λ (v : ℤ). le v m) c.is (b.most c.at c.there))

  -- the best of either of two is the choice between their best values
  pub best_either : {A : Type 0} {P Q : A → Type 0} {f : A → ℤ} {m k : ℤ} → Best le P f m → Best le Q f k → Best le (λ x. P x ⊎ Q x) f (pick m k)
  best_either {P = P} {Q} {f} {m} {k} b c = go (K.from m k)
    where
      all : (x : _) → P x ⊎ Q x → le (f x) (pick m k)
      all x (inl p) = K.trans (f x) m (pick m k) (b.most x p) (K.left m k)
      all x (inr q) = K.trans (f x) k (pick m k) (c.most x q) (K.right m k)

      go : (pick m k ≡ m) ⊎ (pick m k ≡ k) → Best le (λ x. P x ⊎ Q x) f (pick m k)
      go (inl e) = record { at = b.at; there = inl b.there; is = b.is ∙ sym e; most = all }
      go (inr e) = record { at = c.at; there = inr c.there; is = c.is ∙ sym e; most = all }

  -- the best of the best values of several is the best of all
  pub best_nested : {A B : Type 0} {I : A → Type 0} {P : A → B → Type 0} {f : A → B → ℤ} {m : A → ℤ} {k : ℤ}
      → ((i : A) → I i → Best le (P i) (f i) (m i)) → Best le I m k
      → Best {A = (i : A) × B} le (λ q. I q.0 × P q.0 q.1) (λ q. f q.0 q.1) k
  best_nested {f = f} {m} {k} each b =
      let c = each b.at b.there in record {
        at = (b.at, c.at);
        there = (b.there, c.there);
        is = c.is ∙ b.is;
        most = λ q p. K.trans (f q.0 q.1) (m q.0) k ((each q.0 p.0).most q.1 p.1) (b.most q.0 p.0);
      }

  best_one : (x : ℤ) → Best le (λ y. y ≡ x) (λ y. y) x
  best_one x = record { at = x; there = refl; is = refl; most = λ y e. subst (λ (z : ℤ). le z x) (sym e) (K.same x) }

  -- the choice from a list that is not empty is the best of its members
  pub best_member : (xs : List ℤ) → Some xs → Best le (λ x. Memᴰ x xs) (λ x. x) (best xs)
  best_member [] s = absurd (Memᴰ.not-nil s.1)
  best_member (x ∷ []) s = rw (K.one x) (best_on (λ y. (Memᴰ.head, Memᴰ.eq_of_singleton)) (best_one x))
  best_member (x ∷ y ∷ xs) s =
      rw (K.more x y xs)
      (best_on (λ z. (⊎_elim Memᴰ.head Memᴰ.tail, Memᴰ.cases_cons))
      (best_either (best_one x) (best_member (y ∷ xs) (y, Memᴰ.head refl))))

  -- the choice from a list of values
  pub best_value : {A : Type 0} (f : A → ℤ) (xs : List A) → Some xs → Best le (λ x. Memᴰ x xs) f (best (map f xs))
  best_value {A} f xs s =
      best_moved (best_member (map f xs) (f s.0, Memᴰ.map f s.1))
      (λ z m. let r = Memᴰ.of_map f xs m in (r.0, r.1, sym r.2))
      (λ x m. (f x, Memᴰ.map f m, refl))

  -- the choice from two lists of values is one if every value of the first is one of the second, and conversely
  pub best_related : {A B : Type 0} (f : A → ℤ) (g : B → ℤ) (xs : List A) (ys : List B) → Some xs → Some ys
      → ((x : A) → Memᴰ x xs → (y : B) × Memᴰ y ys × (f x ≡ g y)) → ((y : B) → Memᴰ y ys → (x : A) × Memᴰ x xs × (f x ≡ g y))
      → best (map f xs) ≡ best (map g ys)
  best_related f g xs ys s t there back = best_unique (best_moved (best_value f xs s) there back) (best_value g ys t)

  -- so the choice from a list depends on the set of its members alone
  pub best_same : (xs ys : List ℤ) → Some xs → Some ys → ((z : ℤ) → Memᴰ z xs ↔ Memᴰ z ys) → best xs ≡ best ys
  best_same xs ys s t e = best_unique (best_on e (best_member xs s)) (best_member ys t)

  pub best_append : (xs ys : List ℤ) → Some xs → Some ys → best (xs ++ ys) ≡ pick (best xs) (best ys)
  best_append xs ys s t =
      best_unique (best_member (xs ++ ys) (s.0, Memᴰ.append_left ys s.1))
      (best_on (λ z. (⊎_elim (Memᴰ.append_left ys) (Memᴰ.append_right xs), Memᴰ.append_cases xs)) (best_either (best_member xs s) (best_member ys t)))

-- what keeps the order, or turns it into another, goes before the choice as well as after it
pub best_map : {le lf : ℤ → ℤ → Type 0} {pick qick : ℤ → ℤ → ℤ} {best besu : List ℤ → ℤ} → Picks le pick best → Picks lf qick besu
    → (h : ℤ → ℤ) → ((x y : ℤ) → le x y → lf (h x) (h y)) → (xs : List ℤ) → Some xs → besu (map h xs) ≡ h (best xs)
best_map K L h keeps xs s = best_unique L (best_value L h xs s) (best_kept h keeps (best_member K xs s))

-- the two directions
larger_is : (x y : ℤ) (b : Bool) → lt_z x y ≡ b → (AtMost x (cond b y x) × AtMost y (cond b y x)) × ((cond b y x ≡ x) ⊎ (cond b y x ≡ y))
larger_is x y true e = ((omega (arith, lt_z_true x y e), omega arith), inr refl)
larger_is x y false e = ((omega arith, omega (arith, lt_z_false x y e)), inl refl)

smaller_is : (x y : ℤ) (b : Bool) → lt_z y x ≡ b → (AtLeast x (cond b y x) × AtLeast y (cond b y x)) × ((cond b y x ≡ x) ⊎ (cond b y x ≡ y))
smaller_is x y true e = ((omega (arith, lt_z_true y x e), omega arith), inr refl)
smaller_is x y false e = ((omega arith, omega (arith, lt_z_false y x e)), inl refl)

pub larges : Picks AtMost larger largest
larges = record {
  same = λ x. omega arith;
  trans = λ x y z p q. omega arith;
  anti = λ x y p q. eq_parts x y (omega arith);
  from = λ x y. (larger_is x y (lt_z x y) refl).1;
  left = λ x y. (larger_is x y (lt_z x y) refl).0.0;
  right = λ x y. (larger_is x y (lt_z x y) refl).0.1;
  one = λ x. refl;
  more = λ x y xs. refl;
}

pub smalls : Picks AtLeast smaller smallest
smalls = record {
  same = λ x. omega arith;
  trans = λ x y z p q. omega arith;
  anti = λ x y p q. eq_parts x y (omega arith);
  from = λ x y. (smaller_is x y (lt_z y x) refl).1;
  left = λ x y. (smaller_is x y (lt_z y x) refl).0.0;
  right = λ x y. (smaller_is x y (lt_z y x) refl).0.1;
  one = λ x. refl;
  more = λ x y xs. refl;
}

-- a number added, and a number taken from another
pub add_keeps : (a x y : ℤ) → AtMost x y → AtMost (x +ℤ a) (y +ℤ a)
add_keeps a x y h = omega (arith, add_is x a, add_is y a)

pub sub_keeps : (a x y : ℤ) → AtMost x y → AtMost (x -ℤ a) (y -ℤ a)
sub_keeps a x y h = omega (arith, sub_parts x a, sub_parts y a)

pub from_turns : (a x y : ℤ) → AtMost x y → AtLeast (a -ℤ x) (a -ℤ y)
from_turns a x y h = omega (arith, sub_parts a x, sub_parts a y)

-- the laws by name
pub largest_unique : (xs : List ℤ) (m : ℤ) → Memᴰ m xs → ((x : ℤ) → Memᴰ x xs → AtMost x m) → m ≡ largest xs
largest_unique xs m p h = best_unique larges (record { at = m; there = p; is = refl; most = h }) (best_member larges xs (m, p))

pub smallest_unique : (xs : List ℤ) (m : ℤ) → Memᴰ m xs → ((x : ℤ) → Memᴰ x xs → AtMost m x) → m ≡ smallest xs
smallest_unique xs m p h = best_unique smalls (record { at = m; there = p; is = refl; most = h }) (best_member smalls xs (m, p))

pub largest_add : (a : ℤ) (xs : List ℤ) → Some xs → largest (map (λ z. z +ℤ a) xs) ≡ largest xs +ℤ a
largest_add a = best_map larges larges (λ z. z +ℤ a) (add_keeps a)

pub smallest_sub : (a : ℤ) (xs : List ℤ) → Some xs → smallest (map (λ z. z -ℤ a) xs) ≡ smallest xs -ℤ a
smallest_sub a = best_map smalls smalls (λ z. z -ℤ a) (λ x y. sub_keeps a y x)

pub smallest_from : (T : ℤ) (xs : List ℤ) → Some xs → smallest (map (λ z. T -ℤ z) xs) ≡ T -ℤ largest xs
smallest_from T = best_map larges smalls (λ z. T -ℤ z) (from_turns T)
