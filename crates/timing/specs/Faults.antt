-- What the places of a refusal by 22 to 24 say of a list of paths (02, request 4): "22 to 24 now carry two places, path and index".
use Rattle.std.specs.Prelude.{ℕ, zero, suc, ◌≤◌, ◌<◌, ◌≡◌, List, [], length, get_or}
use Rattle.timing.specs.declared.Refusal.{Refusal}
use Rattle.timing.specs.Graphs.{Design, edge_start, edge_end}

-- a fault of a path at an index. 22: "an empty path"; "22's index is 0"
abbrev pub Empty : List ℕ → ℕ → Type 0
Empty path i = (path ≡ []) × (i ≡ 0)

-- 23: the first "edge number not below m"
abbrev pub Unknown : Design → List ℕ → ℕ → Type 0
Unknown D path i =
    (i < length path) × (length D.starts ≤ get_or path i 0) × ((e : ℕ) → e < i → get_or path e 0 < length D.starts)

-- 24: "the first edge that does not start where the one before ends"; it is not the first of the path
abbrev pub Broken : Design → List ℕ → ℕ → Type 0
Broken D path zero = ⊥
Broken D path (suc i) =
    (suc i < length path)
    × (edge_end D (get_or path i 0) ≡ edge_start D (get_or path (suc i) 0) → ⊥)
    × ((e : ℕ) → e < i → edge_end D (get_or path e 0) ≡ edge_start D (get_or path (suc e) 0))

-- the first path that has such a fault, and where it has it
abbrev pub FirstWith : (List ℕ → ℕ → Type 0) → List (List ℕ) → ℕ → ℕ → Type 0
FirstWith Bad paths place index =
    (place < length paths) × Bad (get_or paths place []) index × ((p : ℕ) → p < place → (i : ℕ) → Bad (get_or paths p []) i → ⊥)

-- no path has it: "one number over everything before the next"
abbrev pub NoneWith : (List ℕ → ℕ → Type 0) → List (List ℕ) → Type 0
NoneWith Bad paths = (p : ℕ) → p < length paths → (i : ℕ) → Bad (get_or paths p []) i → ⊥

-- what the number and the two places of a refusal say of the paths that were tested
pub record Placed (D : Design) (paths : List (List ℕ)) (r : Refusal) : Type 0 where
  pub empty : r.number ≡ 22 → FirstWith Empty paths r.place r.index
  pub unknown : r.number ≡ 23 → NoneWith Empty paths × FirstWith (Unknown D) paths r.place r.index
  pub broken : r.number ≡ 24
      → NoneWith Empty paths × NoneWith (Unknown D) paths × FirstWith (Broken D) paths r.place r.index
