-- What it says that a test passed, and what is true of its refusals.
use Prim.Native.Nat.{ℕ, suc, ◌+◌, ◌≤◌, ◌<◌}
use native.Mathlib.Omega.{arith}
use mathlib.Core.Path.{◌≡◌, refl, sym, ◌∙◌, ap, subst}
use mathlib.Core.Bool.{Bool, true, false, cond, ◌&&◌}
use mathlib.Core.List.{List, [], ◌∷◌}
use Rattle.std.specs.Prelude.{Option, Err, Some, None}
use Rattle.timing.specs.Answers.{Verdict, Passed}
use lib.Dec.{T, eqb, leb, leb→le}
use lib.ListN.{length}
use borrow.Author.Tests.{eqb-true}
use Rattle.timing.specs.declared.Refusal.{Refusal}
use Rattle.timing.specs.Refusals.{refusal, refusal_within, ◌then◌, unless, first_bad, unless_fault, first_fault}
use Rattle.timing.specs.Tests.{same_sizes, edge_sizes, time_sizes, marked_count, Room, room_sizes}

abbrev Pass : Verdict → Type 0
Pass Passed = Unit {0}
Pass (Err r) = ⊥

-- a refusal is no pass
pub refused_passed : (r : Refusal) → Err r ≡ Passed → ⊥
refused_passed r e = subst Pass (sym e) tt

pub then_passed : (v w : Verdict) → (v then w) ≡ Passed → (v ≡ Passed) × (w ≡ Passed)
then_passed Passed w e = (refl, e)
then_passed (Err r) w e = absurd (refused_passed r e)

pub unless_passed : (number : ℕ) (fit : Bool) → unless number fit ≡ Passed → fit ≡ true
unless_passed number true e = refl
unless_passed number false e = absurd (refused_passed (refusal number 0) e)

pub unless_refused : (number : ℕ) (fit : Bool) (r : Refusal) → unless number fit ≡ Err r → refusal number 0 ≡ r
unless_refused number true r e = absurd (refused_passed r (sym e))
unless_refused number false r e = cc

-- The code passes a verdict on from test to test, the definitions group a chain to the right: it is the same chain.
pub then_assoc : (u v w : Verdict) → ((u then v) then w) ≡ (u then v then w)
then_assoc Passed v w = refl
then_assoc (Err r) v w = refl

pub chain_two : {q r : Verdict} (v a b : Verdict) → q ≡ (v then a) → r ≡ (q then b) → r ≡ (v then (a then b))
chain_two v a b e f = f ∙ ap (λ (x : Verdict). x then b) e ∙ then_assoc v a b

pub chain_three : {q₁ q₂ r : Verdict} (v a b c : Verdict) → q₁ ≡ (v then a) → q₂ ≡ (q₁ then b) → r ≡ (q₂ then c) → r ≡ (v then (a then (b then c)))
chain_three {q₁} v a b c e f g = chain_two v a (b then c) e (chain_two q₁ b c f g)

pub chain_four : {q₁ q₂ q₃ r : Verdict} (v a b c d : Verdict) → q₁ ≡ (v then a) → q₂ ≡ (q₁ then b) → q₃ ≡ (q₂ then c) → r ≡ (q₃ then d)
    → r ≡ (v then (a then (b then (c then d))))
chain_four {q₁} v a b c d e f g h = chain_two v a (b then (c then d)) e (chain_three q₁ b c d f g h)

pub chain_five : {q₁ q₂ q₃ q₄ r : Verdict} (v a b c d e : Verdict) → q₁ ≡ (v then a) → q₂ ≡ (q₁ then b) → q₃ ≡ (q₂ then c) → q₄ ≡ (q₃ then d)
    → r ≡ (q₄ then e) → r ≡ (v then (a then (b then (c then (d then e)))))
chain_five {q₁} v a b c d e p f g h i = chain_two v a (b then (c then (d then e))) p (chain_four q₁ b c d e f g h i)

-- one more test after four
pub after_four : {q r : Verdict} (a b c d e : Verdict) → q ≡ (a then (b then (c then d))) → r ≡ (q then e) → r ≡ (a then (b then (c then (d then e))))
after_four a b c d e p h =
    chain_two a (b then (c then d)) e p h
    ∙ ap (λ (x : Verdict). a then x) (then_assoc b (c then d) e ∙ ap (λ (x : Verdict). b then x) (then_assoc c d e))

pub both_true : (a b : Bool) → (a && b) ≡ true → (a ≡ true) × (b ≡ true)
both_true true b e = (refl, e)
both_true false b e = absurd (subst T (sym e) tt)

pub same_passed : (a b c : ℕ) → same_sizes a b c ≡ Passed → (b ≡ a) × (c ≡ a)
same_passed a b c e =
    let s = both_true (eqb a b) (eqb a c) (unless_passed 30 (eqb a b && eqb a c) e) in
    (sym (eqb-true a b s.0), sym (eqb-true a c s.1))

pub edges_passed : (m a b c : ℕ) → edge_sizes m a b c ≡ Passed → (a ≡ m) × (b ≡ m) × (c ≡ m)
edges_passed m a b c e =
    let s = then_passed (same_sizes m m a) (same_sizes m b c) e in
    let t = same_passed m b c s.1 in
    ((same_passed m m a s.0).1, t.0, t.1)

pub room_passed : (R : Room) → room_sizes R ≡ Passed → (R.endpoints ≡ R.nodes) × (R.ends ≡ R.starts) × (R.names ≡ R.starts)
room_passed R e =
    let s = then_passed (same_sizes R.nodes R.nodes R.endpoints) (same_sizes R.starts R.ends R.names) e in
    let t = same_passed R.starts R.ends R.names s.1 in
    ((same_passed R.nodes R.nodes R.endpoints s.0).1, t.0, t.1)

pub marked_passed : (n count : ℕ) → marked_count n count ≡ Passed → count ≤ n
marked_passed n count e = go (leb count n) refl e
  where
    go : (b : Bool) → leb count n ≡ b → cond b Passed (Err (refusal 16 n)) ≡ Passed → count ≤ n
    go true q p = leb→le count n (subst T (sym q) tt)
    go false q p = absurd (refused_passed (refusal 16 n) p)

pub times_passed : (n a b c d : ℕ) → time_sizes n a b c d ≡ Passed → (a ≡ n) × (b ≡ n) × (c ≡ n) × (d ≡ n)
times_passed n a b c d e =
    let s = then_passed (same_sizes n a b) (same_sizes n c d) e in
    let t = same_passed n a b s.0 in
    let u = same_passed n c d s.1 in
    (t.0, t.1, u.0, u.1)

-- P is true of the refusal, if there is one.
abbrev pub Every : (Refusal → Type 0) → Verdict → Type 0
Every P Passed = Unit {0}
Every P (Err r) = P r

-- Whatever can be refused by a chain of tests, by a test whose place is 0, and by a test over everything, at each of its places.
module _ (P : Refusal → Type 0) where
  pub every_then : (v w : Verdict) → Every P v → (v ≡ Passed → Every P w) → Every P (v then w)
  every_then Passed w a b = b refl
  every_then (Err r) w a b = a

  pub every_unless : (k : ℕ) → P (refusal k 0) → (fit : Bool) → Every P (unless k fit)
  every_unless k h true = tt
  every_unless k h false = h

  pub every_bad : {A : Type 0} (k : ℕ) (bad : A → Bool) (i : ℕ) (xs : List A) → ((j : ℕ) → j < i + length xs → P (refusal k j)) → Every P (first_bad k bad i xs)
  every_bad k bad i [] h = tt
  every_bad {A} k bad i (x ∷ xs) h = go (bad x) (every_bad k bad (suc i) xs (λ j l. h j (omega arith)))
    where
      go : (b : Bool) → Every P (first_bad k bad (suc i) xs) → Every P (cond b (Err (refusal k i)) (first_bad k bad (suc i) xs))
      go true r = h i (omega arith)
      go false r = r

  pub every_fault : (k : ℕ) (fault : List ℕ → Option ℕ) (i : ℕ) (paths : List (List ℕ)) → ((j d : ℕ) → j < i + length paths → P (refusal_within k j d))
      → Every P (first_fault k fault i paths)
  every_fault k fault i [] h = tt
  every_fault k fault i (p ∷ paths) h =
      every_then (unless_fault k i (fault p)) (first_fault k fault (suc i) paths) (go (fault p)) (λ e. every_fault k fault (suc i) paths (λ j d l. h j d (omega arith)))
    where
      go : (f : Option ℕ) → Every P (unless_fault k i f)
      go None = tt
      go (Some d) = h i d (omega arith)

-- what was made from one verdict is what an equal one makes
pub after_told : (A : Type 0) (after : A) (f : Verdict → A) (u v : Verdict) → u ≡ v → after ≡ f u → after ≡ f v
after_told A after f u v e h = h ∙ ap f e
