-- How far a reader of numbers gets, whatever it finds.
use Prim.Native.Nat.{ℕ, zero, suc, ◌+◌, ◌-◌, ◌*◌, ◌≤◌, ◌<◌}
use native.Mathlib.Nat.{mul-zero, mul-suc}
use native.Mathlib.Omega.{arith}
use mathlib.Core.Path.{◌≡◌, refl, sym, ◌∙◌}
use mathlib.Core.List.{List, [], ◌∷◌}
use Rattle.std.specs.Prelude.{Ok, Err}
use Rattle.timing.specs.Answers.{Value}
use Rattle.timing.specs.declared.Refusal.{Refusal}
use Rattle.timing.specs.declared.Taken.{Taken}
use Rattle.timing.specs.Numbers.{read_number}
use Rattle.timing.specs.Parsing.{Parsed, found, stopped, Reader, onward, ◌>>=◌, return, number, repeated, row}
use Rattle.timing.specs.Looks.{looked}

-- what is made of what was found does not move the place
pub looked_made : {A B : Type 0} (p : Parsed A) (f : A → B) → looked (onward p (λ x at. found (f x) at)) ≡ looked p
looked_made (found x at) f = refl
looked_made (stopped r) f = refl

-- Things one after the other: a turn of the loop, where it stops and where it ends.
module _ {A : Type 0} (p : Reader A) (k i at : ℕ) where
  pub looks_turn : (next : ℕ) → i < k → looked (p at) ≡ Ok next → looked (repeated (k - (i + 1)) p next) ≡ looked (repeated (k - i) p at)
  looks_turn next h e =
      let d : k - i ≡ suc (k - (i + 1)) = omega arith in
      rw d (one (p at) e)
    where
      one : (q : Parsed A) → looked q ≡ Ok next
          → looked (repeated (k - (i + 1)) p next) ≡ looked (onward q (λ x. repeated (k - (i + 1)) p >>= (λ xs. return (x ∷ xs))))
      one (found x b) f =
          let g : next ≡ b = cc in
          rw g (sym (looked_made (repeated (k - (i + 1)) p b) (λ (xs : List A). x ∷ xs)))
      one (stopped r) f = absurd (let z : ◌≡◌ {A = ℕ} 0 1 = cc in omega arith)

  pub looks_stop : (r : Refusal) → i < k → looked (p at) ≡ Err r → Err r ≡ looked (repeated (k - i) p at)
  looks_stop r h e =
      let d : k - i ≡ suc (k - (i + 1)) = omega arith in
      rw d (one (p at) e)
    where
      one : (q : Parsed A) → looked q ≡ Err r → Err r ≡ looked (onward q (λ x. repeated (k - (i + 1)) p >>= (λ xs. return (x ∷ xs))))
      one (found x b) f = absurd (let z : ◌≡◌ {A = ℕ} 0 1 = cc in omega arith)
      one (stopped r') f = sym f

  pub looks_end : k ≤ i → Ok at ≡ looked (repeated (k - i) p at)
  looks_end h =
      let d : k - i ≡ 0 = omega arith in
      rw d

pub looks_all : {A : Type 0} (p : Reader A) (k at : ℕ) → looked (repeated (k - 0) p at) ≡ looked (repeated k p at)
looks_all p k at =
    let d : k - 0 ≡ k = omega arith in
    rw d

-- a number, by what was read
pub number_found : (s : List ℕ) (at v next : ℕ) → read_number s at ≡ Value v next → looked (number s at) ≡ Ok next
number_found s at v next e = rw e

pub number_stopped : (s : List ℕ) (at : ℕ) (r : Refusal) → read_number s at ≡ Err r → looked (number s at) ≡ Err r
number_stopped s at r e = rw e

-- The same in one step, for a loop that reads one number after the other.
pub numbers_turn : (s : List ℕ) (k i at : ℕ) (taken : Taken) → i < k → read_number s at ≡ Ok taken
    → looked (repeated (k - i) (number s) at) ≡ looked (repeated (k - (i + 1)) (number s) taken.next)
numbers_turn s k i at taken h e = sym (looks_turn (number s) k i at taken.next h (number_found s at taken.value taken.next e))

pub numbers_stop : (s : List ℕ) (k i at : ℕ) (r : Refusal) → i < k → read_number s at ≡ Err r → looked (repeated (k - i) (number s) at) ≡ Err r
numbers_stop s k i at r h e = sym (looks_stop (number s) k i at r h (number_stopped s at r e))

-- Rows. A reader spans w numbers if it gets as far as a reader of w numbers, whatever it makes of them.
abbrev pub Spans : {A : Type 0} → List ℕ → ℕ → Reader A → Type 0
Spans s w p = (at : ℕ) → looked (p at) ≡ looked (repeated w (number s) at)

-- what follows goes on from the same place
looked_onward : {A B C D : Type 0} (p : Parsed A) (q : Parsed B) (f : A → Reader C) (g : B → Reader D) → looked p ≡ looked q
    → ((x : A) (y : B) (at : ℕ) → looked (f x at) ≡ looked (g y at)) → looked (onward p f) ≡ looked (onward q g)
looked_onward (found x a) (found y b) f g e h =
    let d : a ≡ b = cc in
    rw d (h x y b)
looked_onward (found x a) (stopped r) f g e h = absurd (let z : ◌≡◌ {A = ℕ} 0 1 = cc in omega arith)
looked_onward (stopped r) (found y b) f g e h = absurd (let z : ◌≡◌ {A = ℕ} 0 1 = cc in omega arith)
looked_onward (stopped r) (stopped q) f g e h = e

-- v numbers, and then w
numbers_more : (s : List ℕ) (v w at : ℕ) → looked (onward (repeated v (number s) at) (λ xs. repeated w (number s))) ≡ looked (repeated (v + w) (number s) at)
numbers_more s zero w at =
    let d : 0 + w ≡ w = omega arith in
    rw d
numbers_more s (suc v) w at =
    let d : suc v + w ≡ suc (v + w) = omega arith in
    rw d (by (number s at) (numbers_more s v w))
  where
    rest : (x : ℕ) (q : Parsed (List ℕ)) → looked (onward (onward q (λ xs. return (x ∷ xs))) (λ xs. repeated w (number s))) ≡ looked (onward q (λ xs. repeated w (number s)))
    rest x (found xs a) = refl
    rest x (stopped r) = refl

    by : (p : Parsed ℕ) → ((a : ℕ) → looked (onward (repeated v (number s) a) (λ xs. repeated w (number s))) ≡ looked (repeated (v + w) (number s) a))
        → looked (onward (onward p (λ x. repeated v (number s) >>= (λ xs. return (x ∷ xs)))) (λ xs. repeated w (number s))) ≡ looked (onward p (λ x. repeated (v + w) (number s) >>= (λ xs. return (x ∷ xs))))
    by (found x a) h = rest x (repeated v (number s) a) ∙ h a ∙ sym (looked_made (repeated (v + w) (number s) a) (λ (xs : List ℕ). x ∷ xs))
    by (stopped r) h = refl

module _ (s : List ℕ) where
  spans_then : {A B : Type 0} (v w : ℕ) (p : Reader A) (f : A → Reader B) → Spans s v p → ((x : A) → Spans s w (f x)) → Spans s (v + w) (p >>= f)
  spans_then v w p f h g at = looked_onward (p at) (repeated v (number s) at) f (λ xs. repeated w (number s)) (h at) (λ x xs. g x) ∙ numbers_more s v w at

  -- one number more, in front
  pub spans_number : {A : Type 0} (w : ℕ) (f : ℕ → Reader A) → ((x : ℕ) → Spans s w (f x)) → Spans s (1 + w) (number s >>= f)
  spans_number w f h = spans_then 1 w (number s) f (λ at. sym (looked_made (number s at) (λ (x : ℕ). x ∷ []))) h

  -- m rows of w numbers each are w * m numbers
  pub spans_rows : {A : Type 0} (w : ℕ) (p : Reader A) → Spans s w p → (m : ℕ) → Spans s (w * m) (repeated m p)
  spans_rows w p h zero at =
      let d : w * 0 ≡ 0 = mul-zero w in
      rw d
  spans_rows w p h (suc m) at =
      let d : w * suc m ≡ w + w * m = omega (arith, mul-suc w m) in
      rw d (spans_then w (w * m) p (λ r. repeated m p >>= (λ rs. return (r ∷ rs))) h (λ r a. looked_made (repeated m p a) (λ rs. r ∷ rs) ∙ spans_rows w p h m a) at)

pub rows_numbers : (s : List ℕ) (m at : ℕ) → looked (repeated (3 * m) (number s) at) ≡ looked (repeated m (row s) at)
rows_numbers s m at = sym (spans_rows s 3 (row s) (spans_number s 2 _ (λ a. spans_number s 1 _ (λ b. spans_number s 0 _ (λ c at. refl)))) m at)
