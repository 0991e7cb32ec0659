-- The order of classes and their numbers: classes are all suffixes of the listed paths, each once, and rise with their numbers.
use Prim.Native.Nat.{ℕ, zero, suc, ◌≤◌, ◌<◌}
use native.Mathlib.Omega.{arith}
use native.Mathlib.Decide.{dec_lt, ℕ_discrete}
use mathlib.Core.Path.{◌≡◌, refl, sym, ap, ◌∙◌, subst}
use mathlib.Core.Logic.{◌⊎◌, inl, inr, ⊎_elim, ◌↔◌}
use mathlib.Core.Bool.{Bool, ◌&&◌}
use mathlib.Core.List.Memᴰ
use mathlib.Core.List.{List, [], ◌∷◌, flat_map, Memᴰ, tail-eq_of_cons-eq}
use lib.Dec.{T, eqb, ltb, ltb→lt, lt→ltb, eqb→eq}
use lib.ListN.{length, get_or, take, drop, length-append, length-take, length-drop}
use Rattle.timing.specs.Lists.{sum}
use Rattle.timing.specs.Marks.{PathList, paths_of, cut, suffixes}
use Rattle.timing.specs.Sorting.{before, place}
use Rattle.theorems.proofs.Lists.{and_left, or_cases, or_left, get_d_mem, mem_flat_map, of_flat_map}
use Rattle.theorems.proofs.Sorting.{Linear, Sorted, by_key, sort_mem, sort_sorted, sorted_unique, place_stands}
use Rattle.theorems.proofs.Counting.{length_le, sorted_nodup}
use Rattle.removal.specs.Classes.{class_before, all_suffixes, classes_of, class_count, class_at}

-- an order that tells all lists apart
pub class_order : Linear class_before
class_order = by_key (λ (w : List ℕ). length w ∷ w) (λ v w e. tail-eq_of_cons-eq e)

-- the shorter comes first, and what comes first is no longer
pub shorter_before : (v w : List ℕ) → length v < length w → T (class_before v w)
shorter_before v w h = or_left (ltb (length v) (length w)) (eqb (length v) (length w) && before v w) (lt→ltb (length v) (length w) h)

pub before_short : (v w : List ℕ) → T (class_before v w) → length v ≤ length w
before_short v w t =
    ⊎_elim
    (λ h. omega (arith, ltb→lt (length v) (length w) h))
    (λ h. omega (arith, eqb→eq (length v) (length w) (and_left (eqb (length v) (length w)) (before v w) h)))
    (or_cases (ltb (length v) (length w)) (eqb (length v) (length w) && before v w) t)

-- in a list that is in order the elements rise with their places
pub sorted_rises : {A : Type 0} (lt : A → A → Bool) (l : List A) (d : A) (i j : ℕ) → Sorted lt l → i < j → j < length l → T (lt (get_or l i d) (get_or l j d))
sorted_rises lt [] d i j s h k = absurd (omega arith)
sorted_rises lt (x ∷ l) d i zero s h k = absurd (omega arith)
sorted_rises lt (x ∷ l) d zero (suc j) s h k = s.0 (get_or l j d) (get_d_mem l j d (omega arith))
sorted_rises lt (x ∷ l) d (suc i) (suc j) s h k = sorted_rises lt l d i j s.1 (omega arith) (omega arith)

pub classes_sorted : (L : List (List ℕ)) → Sorted class_before (classes_of L)
unfolding classes_of
classes_sorted L = sort_sorted class_before class_order (all_suffixes L)

pub mem_classes : (L : List (List ℕ)) (w : List ℕ) → Memᴰ w (classes_of L) ↔ Memᴰ w (all_suffixes L)
unfolding classes_of
mem_classes L w = sort_mem class_before class_order w (all_suffixes L)

-- any list in order with these members is that of the classes
pub classes_unique : (L ks : List (List ℕ)) → Sorted class_before ks → ((w : List ℕ) → Memᴰ w ks ↔ Memᴰ w (all_suffixes L)) → ks ≡ classes_of L
classes_unique L ks s m =
    sorted_unique class_before class_order ks (classes_of L) s (classes_sorted L)
    (λ w. (λ h. (mem_classes L w).1 ((m w).0 h), λ h. (m w).1 ((mem_classes L w).0 h)))

-- at most one class for each listed edge: a path has as many suffixes as edges
length_suffixes : (w : List ℕ) → length (suffixes w) ≡ length w
length_suffixes [] = refl
length_suffixes (e ∷ w) = ap suc (length_suffixes w)

suffixes_few : (edges lengths : List ℕ) → length (all_suffixes (cut edges lengths)) ≤ length edges
unfolding all_suffixes flat_map
suffixes_few edges [] = omega arith
suffixes_few edges (k ∷ lengths) =
    omega (arith, length-append (suffixes (take k edges)) (all_suffixes (cut (drop k edges) lengths)), length_suffixes (take k edges), suffixes_few (drop k edges) lengths, length-take k edges, length-drop k edges)

pub classes_few : (L : PathList) → sum L.lengths ≡ length L.edges → class_count (paths_of L) ≤ length L.edges
classes_few L h =
    omega (
      arith,
      length_le (classes_of (paths_of L)) (all_suffixes (paths_of L)) (sorted_nodup class_before class_order (classes_of (paths_of L)) (classes_sorted (paths_of L))) (λ w. (mem_classes (paths_of L) w).0),
      suffixes_few L.edges L.lengths,
    )

-- suffixes are not empty, and what follows the first edge of one is empty or a suffix
suffix_some : (p w : List ℕ) → Memᴰ w (suffixes p) → 0 < length w
suffix_some [] w m = absurd (Memᴰ.not-nil m)
suffix_some (a ∷ p) w m = ⊎_elim (λ (q : w ≡ a ∷ p). rw q (omega arith)) (λ h. suffix_some p w h) (Memᴰ.cases_cons m)

suffix_self : (w : List ℕ) → (w ≡ []) ⊎ Memᴰ w (suffixes w)
suffix_self [] = inl refl
suffix_self (a ∷ w) = inr (Memᴰ.head refl)

suffix_after : (e : ℕ) (w p : List ℕ) → Memᴰ (e ∷ w) (suffixes p) → (w ≡ []) ⊎ Memᴰ w (suffixes p)
suffix_after e w [] m = absurd (Memᴰ.not-nil m)
suffix_after e w (a ∷ p) m =
    ⊎_elim inl (λ h. inr (Memᴰ.tail h))
    (⊎_elim (λ (q : e ∷ w ≡ a ∷ p). subst (λ (v : List ℕ). (w ≡ []) ⊎ Memᴰ w (suffixes v)) (tail-eq_of_cons-eq q) (suffix_self w)) (λ h. suffix_after e w p h) (Memᴰ.cases_cons m))

module _ (L : List (List ℕ)) where
  pub some_suffix : (w : List ℕ) → Memᴰ w (all_suffixes L) → 0 < length w
  unfolding all_suffixes
  some_suffix w m = let r = of_flat_map suffixes L m in suffix_some r.0 w r.2

  after_suffix : (e : ℕ) (w : List ℕ) → Memᴰ (e ∷ w) (all_suffixes L) → (w ≡ []) ⊎ Memᴰ w (all_suffixes L)
  unfolding all_suffixes
  after_suffix e w m = let r = of_flat_map suffixes L m in ⊎_elim inl (λ h. inr (mem_flat_map suffixes r.1 h)) (suffix_after e w r.0 r.2)

  pub class_zero : class_at L 0 ≡ []
  unfolding class_at
  class_zero = refl

  -- a class is a suffix, and each suffix is a class
  pub class_suffix : (t : ℕ) → 0 < t → t ≤ class_count L → Memᴰ (class_at L t) (all_suffixes L)
  unfolding class_at
  class_suffix zero p h = absurd (omega arith)
  class_suffix (suc t) p h = (mem_classes L (get_or (classes_of L) t [])).0 (get_d_mem (classes_of L) t [] (omega arith))

  pub suffix_class : (w : List ℕ) → Memᴰ w (all_suffixes L) → (t : ℕ) × (0 < t) × (t ≤ class_count L) × (class_at L t ≡ w)
  unfolding class_at
  suffix_class w m =
      let r = place_stands class_before class_order w [] (classes_of L) (classes_sorted L) ((mem_classes L w).1 m) in
      (suc (place class_before w (classes_of L)), omega arith, r.0, r.1)

  pub class_some : (t : ℕ) → 0 < t → t ≤ class_count L → 0 < length (class_at L t)
  class_some t p h = some_suffix (class_at L t) (class_suffix t p h)

  -- the empty list and the classes are in order
  pub all_sorted : Sorted class_before ([] ∷ classes_of L)
  all_sorted = (λ w m. shorter_before [] w (some_suffix w ((mem_classes L w).0 m)), classes_sorted L)

  -- classes rise with their numbers, so that no two are the same and a shorter one has the lower number
  pub class_rises : (t u : ℕ) → t < u → u ≤ class_count L → T (class_before (class_at L t) (class_at L u))
  unfolding class_at
  class_rises t u h k = sorted_rises class_before ([] ∷ classes_of L) [] t u all_sorted h (omega arith)

  pub class_one : (t u : ℕ) → t ≤ class_count L → u ≤ class_count L → class_at L t ≡ class_at L u → t ≡ u
  class_one t u h k e =
      let up : t < u → ⊥ = λ l. class_order.irrefl (class_at L u) (subst (λ (w : List ℕ). T (class_before w (class_at L u))) e (class_rises t u l k)) in
      let down : u < t → ⊥ = λ l. class_order.irrefl (class_at L u) (subst (λ (w : List ℕ). T (class_before (class_at L u) w)) e (class_rises u t l h)) in
      omega arith

  pub class_shorter : (t u : ℕ) → t ≤ class_count L → u ≤ class_count L → length (class_at L t) < length (class_at L u) → t < u
  class_shorter t u h k l = go (dec_lt t u) (ℕ_discrete t u)
    where
      go : Dec (t < u) → Dec (t ≡ u) → t < u
      go (yes p) d = p
      go (no p) (yes q) = absurd (omega (arith, ap (λ (x : ℕ). length (class_at L x)) q))
      go (no p) (no q) = absurd (omega (arith, before_short (class_at L u) (class_at L t) (class_rises u t (omega arith) h)))

  -- what follows the first edge of a class is a class
  pub class_after : (t e : ℕ) (w : List ℕ) → t ≤ class_count L → class_at L t ≡ e ∷ w → (u : ℕ) × (u < t) × (class_at L u ≡ w)
  class_after zero e w h q = absurd (omega (arith, ap length (sym class_zero ∙ q)))
  class_after (suc t) e w h q = go (after_suffix e w (subst (λ (v : List ℕ). Memᴰ v (all_suffixes L)) q (class_suffix (suc t) (omega arith) h)))
    where
      go : (w ≡ []) ⊎ Memᴰ w (all_suffixes L) → (u : ℕ) × (u < suc t) × (class_at L u ≡ w)
      go (inl n) = (0, omega arith, class_zero ∙ sym n)
      go (inr m) =
          let r = suffix_class w m in
          (r.0, class_shorter r.0 (suc t) r.2 h (omega (arith, ap length q, ap length r.3)), r.3)
