-- No length of a list of paths is 0.
use Prim.Native.Nat.{ℕ, zero, suc, ◌<◌}
use native.Mathlib.Omega.{arith}
use mathlib.Core.Path.{◌≡◌, refl, subst}
use mathlib.Core.Logic.{⊎_elim}
use mathlib.Core.Bool.{false}
use mathlib.Core.List.Memᴰ
use mathlib.Core.List.{List, [], ◌∷◌, Memᴰ}
use lib.Dec.{T}
use lib.ListN.{take, drop}
use Rattle.timing.specs.Lists.{is_nil}
use Rattle.timing.specs.Marks.{cut}

-- no path is empty
pub lengths_filled : (edges ls : List ℕ) → ((p : List ℕ) → Memᴰ p (cut edges ls) → is_nil p ≡ false) → (k : ℕ) → Memᴰ k ls → 0 < k
lengths_filled edges [] f k m = absurd (Memᴰ.not-nil m)
lengths_filled edges (x ∷ ls) f k m =
    ⊎_elim
    (λ (q : k ≡ x). rw q (first x (f (take x edges) (Memᴰ.head refl))))
    (lengths_filled (drop x edges) ls (λ p n. f p (Memᴰ.tail n)) k)
    (Memᴰ.cases_cons m)
  where
    first : (y : ℕ) → is_nil (take y edges) ≡ false → 0 < y
    first zero e = absurd (subst T e tt)
    first (suc y) e = omega arith
