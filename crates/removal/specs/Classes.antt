-- The automaton of a list of paths, read against the edges. Its states are the classes: all suffixes of the listed paths, each once,
-- by length and then by edges. What an edge and a mark lead to is the longest class that they begin with.
use Rattle.std.specs.Prelude.{ℕ, ◌≤◌, ◌<◌, ◌≡◌, Bool, false, not, ◌&&◌, eqb, length, get_or}
use mathlib.Core.List.{List, [], ◌∷◌, flat_map, Memᴰ}
use Rattle.timing.specs.Lists.{is_nil, keep}
use Rattle.timing.specs.Marks.{suffixes}
use Rattle.timing.specs.Sorting.{before, sort}
use Rattle.theorems.proofs.Marks.{Prefix, begins}

-- no listed path is empty
abbrev pub Filled : List (List ℕ) → Type 0
Filled L = (p : List ℕ) → Memᴰ p L → is_nil p ≡ false

-- by length, then by edges
abbrev pub class_before : List ℕ → List ℕ → Bool
class_before v w = before (length v ∷ v) (length w ∷ w)

unfoldable pub all_suffixes : List (List ℕ) → List (List ℕ)
all_suffixes L = flat_map suffixes L

unfoldable pub classes_of : List (List ℕ) → List (List ℕ)
classes_of L = sort class_before (all_suffixes L)

-- how many classes there are
abbrev pub class_count : List (List ℕ) → ℕ
class_count L = length (classes_of L)

-- class t, counted from 1; class 0 is the empty list
unfoldable pub class_at : List (List ℕ) → ℕ → List ℕ
class_at L t = get_or ([] ∷ classes_of L) t []

-- class r is the longest that w begins with
pub record Fit (L : List (List ℕ)) (w : List ℕ) (r : ℕ) : Type 0 where
  pub inside : r ≤ class_count L
  pub begins : Prefix (class_at L r) w
  pub longest : (t : ℕ) → t ≤ class_count L → Prefix (class_at L t) w → length (class_at L t) ≤ length (class_at L r)

-- class f is the longest that class t begins with and that is shorter
pub record Fails (L : List (List ℕ)) (t f : ℕ) : Type 0 where
  pub inside : f ≤ class_count L
  pub begins : Prefix (class_at L f) (class_at L t)
  pub shorter : length (class_at L f) < length (class_at L t)
  pub longest : (u : ℕ) → u ≤ class_count L → Prefix (class_at L u) (class_at L t) → length (class_at L u) < length (class_at L t)
      → length (class_at L u) ≤ length (class_at L f)

-- class r is that of the one edge e, or r is 0 where this is no class
pub record Root (L : List (List ℕ)) (e r : ℕ) : Type 0 where
  pub inside : r ≤ class_count L
  pub is : 0 < r → class_at L r ≡ e ∷ []
  pub none : r ≡ 0 → (t : ℕ) → t ≤ class_count L → class_at L t ≡ e ∷ [] → ⊥

-- class r is edge e and then class u, or r is 0 where this is no class
pub record Child (L : List (List ℕ)) (u e r : ℕ) : Type 0 where
  pub inside : r ≤ class_count L
  pub is : 0 < r → class_at L r ≡ e ∷ class_at L u
  pub none : r ≡ 0 → (t : ℕ) → t ≤ class_count L → class_at L t ≡ e ∷ class_at L u → ⊥

-- a class is live at node v: its first edge starts there, and it begins with no listed path
abbrev pub live_at : List ℕ → List (List ℕ) → ℕ → List ℕ → Bool
live_at starts L v [] = false
live_at starts L v (e ∷ w) = eqb (get_or starts e 0) v && not (begins L (e ∷ w))

-- the marks that paths may have at node v, in order: the empty one, and the live classes
unfoldable pub marks_at : List ℕ → List (List ℕ) → ℕ → List (List ℕ)
marks_at starts L v = [] ∷ keep (live_at starts L v) (classes_of L)

-- a list of edges starts at node v; the empty one starts anywhere
abbrev pub At : List ℕ → ℕ → List ℕ → Type 0
At starts v [] = Unit {0}
At starts v (e ∷ w) = get_or starts e 0 ≡ v
