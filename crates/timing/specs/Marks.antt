-- Listed paths, tails and marks, over lists of design edges.
use Rattle.std.specs.Prelude.{ℕ, Bool, true, false, not, cond, ◌&&◌, ◌||◌, eqb, ltb, length, take, drop}
use mathlib.Core.List.{List, [], ◌∷◌, flat_map}
use Rattle.timing.specs.Lists.{any_of, keep}

-- "flat, with a length for each path"
pub record PathList : Type 0 where
  pub edges : List ℕ
  pub lengths : List ℕ

abbrev pub path_list : List ℕ → List ℕ → PathList
path_list edges lengths = record { edges = edges; lengths = lengths }

-- the flat list, cut into paths
abbrev pub cut : List ℕ → List ℕ → List (List ℕ)
cut edges [] = []
cut edges (k ∷ lengths) = take k edges ∷ cut (drop k edges) lengths

abbrev pub paths_of : PathList → List (List ℕ)
paths_of L = cut L.edges L.lengths

-- w begins with s
abbrev pub is_prefix : List ℕ → List ℕ → Bool
is_prefix [] w = true
is_prefix (a ∷ s) [] = false
is_prefix (a ∷ s) (b ∷ w) = eqb a b && is_prefix s w

-- s occurs in w "as a consecutive run"
abbrev pub occurs : List ℕ → List ℕ → Bool
occurs s [] = is_prefix s []
occurs s (a ∷ w) = is_prefix s (a ∷ w) || occurs s w

-- "a complete path is permitted if no listed path occurs in it as a consecutive run"
unfoldable pub permitted : List (List ℕ) → List ℕ → Bool
permitted L w = not (any_of (λ p. occurs p w) L)

abbrev pub suffixes : List ℕ → List (List ℕ)
suffixes [] = []
suffixes (a ∷ s) = (a ∷ s) ∷ suffixes s

-- "a tail is what is left of a listed path after dropping one or more edges from its front, not all of them"
abbrev pub tails_of : List ℕ → List (List ℕ)
tails_of [] = []
tails_of (a ∷ s) = suffixes s

unfoldable pub tails : List (List ℕ) → List (List ℕ)
tails L = flat_map tails_of L

abbrev pub longer : List ℕ → List ℕ → List ℕ
longer s t = cond (ltb (length s) (length t)) t s

abbrev pub longest : List (List ℕ) → List ℕ
longest [] = []
longest (t ∷ ts) = longer t (longest ts)

-- "one mark: the longest tail that the path follows from N on, or the empty mark"; w is the path from N on
unfoldable pub mark : List (List ℕ) → List ℕ → List ℕ
mark L w = longest (keep (λ t. is_prefix t w) (tails L))
