-- How many paths a level has, and how many edges are left after it.
use Prim.Native.Nat.{ℕ, suc, ◌+◌, ◌-◌, ◌≤◌, ◌<◌}
use native.Mathlib.Omega.{arith}
use mathlib.Core.Path.{◌≡◌, refl, sym, ◌∙◌, ap, subst}
use mathlib.Core.Logic.{⊎_elim}
use mathlib.Core.Bool.{Bool, true, false}
use mathlib.Core.List.Memᴰ
use mathlib.Core.List.{List, [], ◌∷◌, map, Memᴰ}
use lib.Dec.{T, ltb}
use lib.ListN.{length, get_or, length-map}
use borrow.Author.Tests.{ltb-true, ltb-false}
use Rattle.timing.specs.Lists.{sum, upto, keep, count_of, one_if}
use Rattle.theorems.proofs.Lists.{get_d_map, mem_upto, mem_keep}
use Rattle.theorems.proofs.Counting.{Nodup, count_cons, count_map, length_le}
use Rattle.theorems.proofs.Elements.{is_each}
use Rattle.removal.specs.Levels.{path_of}

-- how many edges the paths have past the m last ones
abbrev pub rest_of : List ℕ → ℕ → ℕ
rest_of lengths m = sum (map (λ (x : ℕ). x - m) lengths)

-- a member stands somewhere; and a list repeats nothing where no two places do
pub mem_at : {A : Type 0} {x : A} (l : List A) (d : A) → Memᴰ x l → (i : ℕ) × (i < length l) × (get_or l i d ≡ x)
mem_at [] d m = absurd (Memᴰ.not-nil m)
mem_at {x = x} (y ∷ l) d m =
    ⊎_elim
    (λ e. (0, omega arith, sym e))
    (λ h. let r = mem_at {x = x} l d h in (suc r.0, omega (arith, r.1), r.2))
    (Memᴰ.cases_cons m)

nodup_at : {A : Type 0} (l : List A) (d : A) → ((i j : ℕ) → i < j → j < length l → get_or l i d ≡ get_or l j d → ⊥) → Nodup l
nodup_at [] d f = tt
nodup_at (x ∷ l) d f = (
  λ m. let r = mem_at l d m in f 0 (suc r.0) (omega arith) (omega (arith, r.1)) (sym r.2),
  nodup_at l d (λ i j h b. f (suc i) (suc j) (omega arith) (omega arith)),
)

-- items with different paths whose lengths pass a test are not more than the lengths that do
module _ (lengths us : List ℕ) (p : ℕ → Bool) (apart : (i j : ℕ) → i < j → j < length us → path_of (get_or us i 0) ≡ path_of (get_or us j 0) → ⊥)
    (below : (i : ℕ) → i < length us → path_of (get_or us i 0) < length lengths) (pass : (i : ℕ) → i < length us → T (p (get_or lengths (path_of (get_or us i 0)) 0))) where
  abbrev length_at : ℕ → ℕ
  length_at k = get_or lengths k 0

  abbrev passing : List ℕ
  passing = keep (λ (k : ℕ). p (length_at k)) (upto (length lengths) 0)

  abbrev paths : List ℕ
  paths = map (λ (x : ℕ). path_of x) us

  path_at : (i : ℕ) → i < length us → get_or paths i 0 ≡ path_of (get_or us i 0)
  path_at i h = get_d_map (λ (x : ℕ). path_of x) us 0 0 i h

  path_size : length paths ≡ length us
  path_size = length-map us (λ (x : ℕ). path_of x)

  path_once : Nodup paths
  path_once = nodup_at paths 0 (λ i j h b e. apart i j h (omega (arith, path_size)) (sym (path_at i (omega (arith, path_size))) ∙ e ∙ path_at j (omega (arith, path_size))))

  path_passes : (k : ℕ) → Memᴰ k paths → Memᴰ k passing
  path_passes k m =
      let r = mem_at paths 0 m in
      let h : r.0 < length us = omega (arith, r.1, path_size) in
      subst (λ (i : ℕ). Memᴰ i passing) (sym (path_at r.0 h) ∙ r.2)
      (mem_keep (λ (i : ℕ). p (length_at i)) (mem_upto (length lengths) 0 (path_of (get_or us r.0 0)) (omega arith) (omega (arith, below r.0 h))) (pass r.0 h))

  lengths_each : (n : ℕ) → length lengths ≡ n → lengths ≡ map length_at (upto n 0)
  lengths_each n e = is_each 0 length_at n lengths e (λ k h. refl)

  pub few_paths : length us ≤ count_of p lengths
  few_paths =
      omega (
        arith,
        length_le paths passing path_once path_passes,
        path_size,
        count_map p length_at (upto (length lengths) 0),
        ap (count_of p) (lengths_each (length lengths) refl),
      )

-- what a level takes of the paths
pub rest_step : (m : ℕ) (lengths : List ℕ) → count_of (ltb m) lengths + rest_of lengths (suc m) ≡ rest_of lengths m
rest_step m [] = omega arith
rest_step m (x ∷ lengths) = go (ltb m x) refl (rest_step m lengths)
  where
    go : (b : Bool) → ltb m x ≡ b → count_of (ltb m) lengths + rest_of lengths (suc m) ≡ rest_of lengths m
        → count_of (ltb m) (x ∷ lengths) + rest_of (x ∷ lengths) (suc m) ≡ rest_of (x ∷ lengths) m
    go true e below = omega (arith, count_cons (ltb m) x lengths, ap one_if e, ltb-true m x e)
    go false e below = omega (arith, count_cons (ltb m) x lengths, ap one_if e, ltb-false m x e)

pub rest_none : (lengths : List ℕ) → rest_of lengths 0 ≡ sum lengths
rest_none [] = refl
rest_none (x ∷ lengths) = omega (arith, rest_none lengths)
