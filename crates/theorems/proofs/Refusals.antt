-- What it says that no element of a list failed.
use Prim.Native.Nat.{ℕ, suc}
use mathlib.Core.Path.{◌≡◌, refl}
use mathlib.Core.Logic.{⊎_elim}
use mathlib.Core.Bool.{Bool, true, false, cond}
use mathlib.Core.List.Memᴰ
use mathlib.Core.List.{List, [], ◌∷◌, Memᴰ}
use Rattle.std.specs.Prelude.{Err}
use Rattle.timing.specs.Answers.{Passed}
use Rattle.timing.specs.Refusals.{refusal, first_bad}
use Rattle.timing.proofs.Verdicts.{refused_passed}

pub first_bad_passed : {A : Type 0} (number : ℕ) (bad : A → Bool) (k : ℕ) (xs : List A) → first_bad number bad k xs ≡ Passed
    → (x : A) → Memᴰ x xs → bad x ≡ false
first_bad_passed number bad k [] e x m = absurd (Memᴰ.not-nil m)
first_bad_passed {A} number bad k (y ∷ xs) e x m = go (bad y) refl e (λ h. first_bad_passed number bad (suc k) xs h)
  where
    go : (b : Bool) → bad y ≡ b → cond b (Err (refusal number k)) (first_bad number bad (suc k) xs) ≡ Passed
        → (first_bad number bad (suc k) xs ≡ Passed → (z : A) → Memᴰ z xs → bad z ≡ false) → bad x ≡ false
    go true q h below = absurd (refused_passed (refusal number k) h)
    go false q h below = ⊎_elim (λ (same : x ≡ y). rw same q) (below h x) (Memᴰ.cases_cons m)
