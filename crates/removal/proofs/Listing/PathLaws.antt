-- The laws of listed paths by their ends in the flat list: the suffixes are the last edges of the paths.
use Prim.Native.Nat.{ℕ, zero, suc, ◌+◌, ◌-◌, ◌≤◌, ◌<◌}
use native.Mathlib.Omega.{arith}
use native.Mathlib.Nat.{sub-zero, suc-sub-suc, zero-sub}
use mathlib.Core.Path.{◌≡◌, refl, sym, ◌∙◌, ap, subst}
use mathlib.Core.Logic.{⊎_elim}
use mathlib.Core.Bool.{false}
use mathlib.Core.List.{List, [], ◌∷◌, Memᴰ}
use lib.Dec.{T}
use lib.ListN.{length, get_or, take, drop, length-drop}
use lib.Seq.{drop-cons, drop-drop, length-take-le, take-nil, drop-nil}
use Rattle.timing.specs.Lists.{is_nil, sum}
use Rattle.timing.specs.Marks.{cut, suffixes}
use Rattle.theorems.proofs.Lists.{mem_flat_map, of_flat_map}
use Rattle.removal.specs.Classes.{all_suffixes}
use Rattle.removal.specs.Levels.{end_of}
use Rattle.removal.proofs.Listing.SumLaws.{sum_step, sum_take}

-- the last j edges of path k
unfoldable pub last_of : List ℕ → List ℕ → ℕ → ℕ → List ℕ
last_of es lengths k j = take j (drop (end_of lengths k - j) es)

pub last_none : (es lengths : List ℕ) (k : ℕ) → last_of es lengths k 0 ≡ []
unfolding last_of
last_none es lengths k = refl

take_drop : (i k : ℕ) (l : List ℕ) → take (k - i) (drop i l) ≡ drop i (take k l)
take_drop zero k l = rw (sub-zero k)
take_drop (suc i) k [] = take-nil (k - suc i) ∙ sym (drop-nil (suc i)) ∙ ap (drop (suc i)) (sym (take-nil k))
take_drop (suc i) zero (x ∷ l) = rw (zero-sub (suc i))
take_drop (suc i) (suc k) (x ∷ l) = rw (suc-sub-suc k i) (take_drop i k l)

-- of the first path, and of those after it
last_here : (es : List ℕ) (x : ℕ) (lengths : List ℕ) (j : ℕ) → j ≤ x → last_of es (x ∷ lengths) 0 j ≡ drop (x - j) (take x es)
unfolding last_of
last_here es x lengths j h =
    let e : end_of (x ∷ lengths) 0 - j ≡ x - j = omega arith in
    let f : j ≡ x - (x - j) = omega arith in
    ap (λ (i : ℕ). take j (drop i es)) e ∙ ap (λ (i : ℕ). take i (drop (x - j) es)) f ∙ take_drop (x - j) x es

last_past : (es : List ℕ) (x : ℕ) (lengths : List ℕ) (k j : ℕ) → j ≤ end_of lengths k → last_of es (x ∷ lengths) (suc k) j ≡ last_of (drop x es) lengths k j
unfolding last_of
last_past es x lengths k j h =
    let e : end_of (x ∷ lengths) (suc k) - j ≡ x + (end_of lengths k - j) = omega arith in
    ap (λ (i : ℕ). take j (drop i es)) e ∙ ap (take j) (sym (drop-drop (end_of lengths k - j) x es))

module _ (es lengths : List ℕ) (k : ℕ) (some : k < length lengths) where
  pub end_least : get_or lengths k 0 ≤ end_of lengths k
  end_least = omega (arith, sum_step lengths k some)

  module _ (total : sum lengths ≡ length es) where
    pub end_most : end_of lengths k ≤ length es
    end_most = omega (arith, sum_take lengths (suc k))

    pub last_length : (j : ℕ) → j ≤ get_or lengths k 0 → length (last_of es lengths k j) ≡ j
    unfolding last_of
    last_length j h = length-take-le j (drop (end_of lengths k - j) es) (rw length-drop (omega (arith, end_least, end_most)))

    -- one edge more
    pub last_cons : (j : ℕ) → j < get_or lengths k 0 → last_of es lengths k (suc j) ≡ get_or es (end_of lengths k - suc j) 0 ∷ last_of es lengths k j
    unfolding last_of
    last_cons j h =
        let e : suc (end_of lengths k - suc j) ≡ end_of lengths k - j = omega (arith, end_least) in
        ap (take (suc j)) (drop-cons es (end_of lengths k - suc j) 0 (omega (arith, end_least, end_most)))
        ∙ ap (λ (i : ℕ). get_or es (end_of lengths k - suc j) 0 ∷ take j (drop i es)) e

-- a suffix that is not empty is what is left after dropping
of_suffixes : (s t : List ℕ) → Memᴰ t (suffixes s) → (i : ℕ) × (i < length s) × (t ≡ drop i s)
of_suffixes [] t m = absurd (mathlib.Core.List.Memᴰ.not-nil m)
of_suffixes (a ∷ s) t m =
    ⊎_elim
    (λ e. (0, omega arith, e))
    (λ h. let r = of_suffixes s t h in (suc r.0, omega (arith, r.1), r.2))
    (mathlib.Core.List.Memᴰ.cases_cons m)

mem_suffixes : (s : List ℕ) (i : ℕ) → i < length s → Memᴰ (drop i s) (suffixes s)
mem_suffixes [] i h = absurd (omega arith)
mem_suffixes (a ∷ s) zero h = mathlib.Core.List.Memᴰ.head refl
mem_suffixes (a ∷ s) (suc i) h = mathlib.Core.List.Memᴰ.tail (mem_suffixes s i (omega arith))

rest_total : (es : List ℕ) (x : ℕ) (lengths : List ℕ) → sum (x ∷ lengths) ≡ length es → sum lengths ≡ length (drop x es)
rest_total es x lengths e = rw length-drop (omega arith)

-- path k of the list
pub mem_path : (es lengths : List ℕ) → sum lengths ≡ length es → (k : ℕ) → k < length lengths → Memᴰ (last_of es lengths k (get_or lengths k 0)) (cut es lengths)
mem_path es [] e k h = absurd (omega arith)
mem_path es (x ∷ lengths) e zero h =
    let z : x - x ≡ 0 = omega arith in
    mathlib.Core.List.Memᴰ.head (last_here es x lengths x (omega arith) ∙ ap (λ (i : ℕ). drop i (take x es)) z)
mem_path es (x ∷ lengths) e (suc k) h =
    rw (last_past es x lengths k (get_or lengths k 0) (end_least es lengths k (omega arith)))
    (mathlib.Core.List.Memᴰ.tail (mem_path (drop x es) lengths (rest_total es x lengths e) k (omega arith)))

pub of_path : (es lengths : List ℕ) → sum lengths ≡ length es → (w : List ℕ) → Memᴰ w (cut es lengths)
    → (k : ℕ) × (k < length lengths) × (w ≡ last_of es lengths k (get_or lengths k 0))
of_path es [] e w m = absurd (mathlib.Core.List.Memᴰ.not-nil m)
of_path es (x ∷ lengths) e w m =
    let z : x - x ≡ 0 = omega arith in
    ⊎_elim
    (λ (q : w ≡ take x es). (0, omega arith, q ∙ sym (last_here es x lengths x (omega arith) ∙ ap (λ (i : ℕ). drop i (take x es)) z)))
    (λ n.
    let r = of_path (drop x es) lengths (rest_total es x lengths e) w n in
    (suc r.0, omega (arith, r.1), r.2 ∙ sym (last_past es x lengths r.0 (get_or lengths r.0 0) (end_least es lengths r.0 r.1))))
    (mathlib.Core.List.Memᴰ.cases_cons m)

-- dropping from a path leaves its last edges
last_drop : (es lengths : List ℕ) → sum lengths ≡ length es → (k i : ℕ) → k < length lengths → i ≤ get_or lengths k 0
    → drop i (last_of es lengths k (get_or lengths k 0)) ≡ last_of es lengths k (get_or lengths k 0 - i)
unfolding last_of
last_drop es lengths e k i h m =
    let n : ℕ = get_or lengths k 0 in
    let b : n ≤ end_of lengths k = end_least es lengths k h in
    let z : (end_of lengths k - n) + i ≡ end_of lengths k - (n - i) = omega arith in
    sym (take_drop i n (drop (end_of lengths k - n) es)) ∙ ap (take (n - i)) (drop-drop i (end_of lengths k - n) es ∙ ap (λ (j : ℕ). drop j es) z)

module _ (es lengths : List ℕ) (total : sum lengths ≡ length es) where
  pub mem_last : (k j : ℕ) → k < length lengths → 0 < j → j ≤ get_or lengths k 0 → Memᴰ (last_of es lengths k j) (all_suffixes (cut es lengths))
  unfolding all_suffixes
  mem_last k j h p m =
      let n : ℕ = get_or lengths k 0 in
      let z : n - (n - j) ≡ j = omega arith in
      let w : List ℕ = last_of es lengths k n in
      let s : Memᴰ (drop (n - j) w) (suffixes w) = mem_suffixes w (n - j) (omega (arith, last_length es lengths k h total n (omega arith))) in
      let q : drop (n - j) w ≡ last_of es lengths k j = last_drop es lengths total k (n - j) h (omega arith) ∙ ap (last_of es lengths k) z in
      mem_flat_map suffixes (mem_path es lengths total k h) (subst (λ (v : List ℕ). Memᴰ v (suffixes w)) q s)

  pub of_last : (w : List ℕ) → Memᴰ w (all_suffixes (cut es lengths)) → (k : ℕ) × (j : ℕ) × (k < length lengths) × (0 < j) × (j ≤ get_or lengths k 0) × (w ≡ last_of es lengths k j)
  unfolding all_suffixes
  of_last w m =
      let r = of_flat_map suffixes (cut es lengths) m in
      let p = of_path es lengths total r.0 r.1 in
      let k : ℕ = p.0 in
      let n : ℕ = get_or lengths k 0 in
      let v : List ℕ = last_of es lengths k n in
      let s = of_suffixes v w (subst (λ (u : List ℕ). Memᴰ w (suffixes u)) p.2 r.2) in
      let b : s.0 < n = omega (arith, s.1, last_length es lengths k p.1 total n (omega arith)) in
      (k, n - s.0, p.1, omega arith, omega arith, s.2 ∙ last_drop es lengths total k s.0 p.1 (omega arith))

-- no path is empty
pub path_some : (es lengths : List ℕ) → sum lengths ≡ length es → ((p : List ℕ) → Memᴰ p (cut es lengths) → is_nil p ≡ false) → (k : ℕ) → k < length lengths → 0 < get_or lengths k 0
path_some es lengths e f k h = go (get_or lengths k 0) (f (last_of es lengths k (get_or lengths k 0)) (mem_path es lengths e k h))
  where
    go : (n : ℕ) → is_nil (last_of es lengths k n) ≡ false → 0 < n
    go zero q = absurd (subst T (sym (ap is_nil (last_none es lengths k)) ∙ q) tt)
    go (suc n) q = omega arith
