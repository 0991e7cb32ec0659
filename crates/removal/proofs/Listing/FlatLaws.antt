-- The flat list and its paths: an edge of the one is an edge of the other.
use Prim.Native.Nat.{ℕ, suc, ◌+◌, ◌-◌, ◌≤◌, ◌<◌}
use native.Mathlib.Omega.{arith}
use native.Mathlib.Decide.{dec_lt}
use mathlib.Core.Path.{◌≡◌, refl, sym, ◌∙◌, subst}
use mathlib.Core.Logic.{⊎_elim}
use mathlib.Core.List.{List, [], ◌∷◌, Memᴰ, cons≢nil}
use lib.ListN.{length, get_or, take, drop, length-take, length-drop}
use lib.Seq.{get_or-take, get_or-drop}
use Rattle.timing.specs.Lists.{sum}
use Rattle.timing.specs.Marks.{PathList, cut, paths_of, suffixes}
use Rattle.theorems.proofs.Lists.{of_flat_map, get_d_mem}
use Rattle.removal.specs.Classes.{all_suffixes, class_count, class_at}
use Rattle.removal.proofs.Listing.ClassLaws.{class_zero, class_suffix}

-- a member stands somewhere
mem_place : (l : List ℕ) (x : ℕ) → Memᴰ x l → (i : ℕ) × (i < length l) × (get_or l i 0 ≡ x)
mem_place [] x m = absurd (mathlib.Core.List.Memᴰ.not-nil m)
mem_place (y ∷ l) x m =
    ⊎_elim
    (λ (e : x ≡ y). (0, omega arith, sym e))
    (λ (h : Memᴰ x l). let r = mem_place l x h in (suc r.0, omega (arith, r.1), r.2))
    (mathlib.Core.List.Memᴰ.cases_cons m)

-- an edge of a path stands in the flat list
pub path_edge : (lengths edges p : List ℕ) (x : ℕ) → Memᴰ p (cut edges lengths) → Memᴰ x p → (i : ℕ) × (i < length edges) × (get_or edges i 0 ≡ x)
path_edge [] edges p x m h = absurd (mathlib.Core.List.Memᴰ.not-nil m)
path_edge (k ∷ lengths) edges p x m h =
    ⊎_elim
    (λ (e : p ≡ take k edges).
    let r = mem_place (take k edges) x (subst (λ (q : List ℕ). Memᴰ x q) e h) in
    let n = length-take k edges in
    (r.0, omega (arith, r.1, n), sym (get_or-take k edges r.0 0 (omega (arith, r.1, n))) ∙ r.2))
    (λ (q : Memᴰ p (cut (drop k edges) lengths)).
    let r = path_edge lengths (drop k edges) p x q h in
    (k + r.0, omega (arith, r.1, length-drop k edges), sym (get_or-drop k edges r.0 0) ∙ r.2))
    (mathlib.Core.List.Memᴰ.cases_cons m)

-- and what holds of the edges of all paths holds of those of the flat list
pub edge_path : (P : ℕ → Type 0) (lengths edges : List ℕ) → sum lengths ≡ length edges → ((p : List ℕ) → Memᴰ p (cut edges lengths) → (k : ℕ) → Memᴰ k p → P k)
    → (i : ℕ) → i < length edges → P (get_or edges i 0)
edge_path P [] edges e f i h = absurd (omega (arith, e))
edge_path P (k ∷ lengths) edges e f i h =
    go (dec_lt i k) (λ l. edge_path P lengths (drop k edges) (omega (arith, size, e)) (λ p m. f p (mathlib.Core.List.Memᴰ.tail m)) (i - k) (omega (arith, size)))
  where
    size : length (drop k edges) ≡ length edges - k
    size = length-drop k edges

    go : Dec (i < k) → (k ≤ i → P (get_or (drop k edges) (i - k) 0)) → P (get_or edges i 0)
    go (yes l) rest =
        subst P (get_or-take k edges i 0 l) (f (take k edges) (mathlib.Core.List.Memᴰ.head refl) (get_or (take k edges) i 0) (get_d_mem (take k edges) i 0 (omega (arith, length-take k edges))))
    go (no l) rest =
        let at : k + (i - k) ≡ i = omega arith in
        subst (λ (x : ℕ). P (get_or edges x 0)) at (subst P (get_or-drop k edges (i - k) 0) (rest (omega arith)))

-- an edge of a suffix is an edge of the path
pub suffix_edge : (p s : List ℕ) (x : ℕ) → Memᴰ s (suffixes p) → Memᴰ x s → Memᴰ x p
suffix_edge [] s x m h = absurd (mathlib.Core.List.Memᴰ.not-nil m)
suffix_edge (a ∷ p) s x m h =
    ⊎_elim (λ (e : s ≡ a ∷ p). subst (λ (q : List ℕ). Memᴰ x q) e h) (λ q. mathlib.Core.List.Memᴰ.tail (suffix_edge p s x q h)) (mathlib.Core.List.Memᴰ.cases_cons m)

-- the first edge of a class is one of the flat list
pub class_edge : (L : PathList) (t e : ℕ) (w : List ℕ) → t ≤ class_count (paths_of L) → class_at (paths_of L) t ≡ e ∷ w → (i : ℕ) × (i < length L.edges) × (get_or L.edges i 0 ≡ e)
unfolding all_suffixes
class_edge L t e w h q = go (dec_lt 0 t)
  where
    go : Dec (0 < t) → (i : ℕ) × (i < length L.edges) × (get_or L.edges i 0 ≡ e)
    go (yes p) =
        let r = of_flat_map suffixes (paths_of L) (class_suffix (paths_of L) t p h) in
        path_edge L.lengths L.edges r.0 e r.1 (suffix_edge r.0 (class_at (paths_of L) t) e r.2 (subst (λ (x : List ℕ). Memᴰ e x) (sym q) (mathlib.Core.List.Memᴰ.head refl)))
    go (no p) =
        let z : t ≡ 0 = omega arith in
        let none : e ∷ w ≡ [] = sym q ∙ subst (λ (y : ℕ). class_at (paths_of L) y ≡ []) (sym z) (class_zero (paths_of L)) in
        absurd (cons≢nil none)
