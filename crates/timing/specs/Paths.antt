-- Which permitted complete paths pass a node or show a copy, each cut there into two parts, and what the largest and the
-- smallest of some values are. No call computes these: they are what `Demands` and the theorems speak of.
use Rattle.std.specs.Prelude.{ℕ, ◌≡◌, ℤ, get_or, ◌≤ℤ◌}
use mathlib.Core.List.{List, [], ◌∷◌, ◌++◌, Memᴰ}
use Rattle.timing.specs.Graphs.{Design, design_graph, Edge, Graph, node_of, Run, names}
use Rattle.timing.specs.Marks.{mark}
use Rattle.timing.specs.TrueGraphs.{Copy, permitted_runs, copies}

-- where a path stands that started at a and went along es
abbrev pub reached : ℕ → List Edge → ℕ
reached a [] = a
reached a (e ∷ es) = reached e.end es

-- "A complete path is permitted if no listed path occurs in it": one of G that passes c, cut there, so that p is its part up to c
-- and q its part from c on
pub record CutAt (G : Graph) (L : List (List ℕ)) (c : ℕ) (p q : List Edge) : Type 0 where
  pub path : Run
  pub permits : Memᴰ path (permitted_runs L G)
  pub parts : path.edges ≡ p ++ q
  pub here : reached path.first p ≡ c

-- one of the design that passes node v
abbrev pub PassesAt : Design → List (List ℕ) → ℕ → List Edge → List Edge → Type 0
PassesAt D L v p q = CutAt (design_graph D) L v p q

-- one of any graph that passes a copy of node v
abbrev pub PassesNode : Graph → List (List ℕ) → ℕ → List Edge → List Edge → Type 0
PassesNode G L v p q = (c : ℕ) × (node_of G c ≡ v) × CutAt G L c p q

-- One that shows the pair (node, mark) of k: "a permitted path at a node N has one mark: the longest tail that the path
-- follows from N on, or the empty mark". For an earlier true graph "its copies stand in for nodes".
abbrev pub Shows : Graph → List (List ℕ) → Copy → List Edge → List Edge → Type 0
Shows G L k p q = CutAt G L k.at p q × (mark L (names q) ≡ k.mark)

-- the pair of copy number h in the true graph of G and L, which "has a copy for each pair (node, mark) that some permitted path
-- shows, and no others"
abbrev pub pair_of : Graph → List (List ℕ) → ℕ → Copy
pair_of G L h = get_or (copies L G) h (record { at = 0; mark = [] })

-- m is the value of f at one of P, and the value at no one of P goes beyond m
pub record Best {A : Type 0} (le : ℤ → ℤ → Type 0) (P : A → Type 0) (f : A → ℤ) (m : ℤ) : Type 0 where
  pub at : A
  pub there : P at
  pub is : f at ≡ m
  pub most : (x : A) → P x → le (f x) m

-- so m is the largest, or the smallest, of the values of f on P
abbrev pub Largest : {A : Type 0} → (A → Type 0) → (A → ℤ) → ℤ → Type 0
Largest P f m = Best (λ x y. x ≤ℤ y) P f m

abbrev pub Smallest : {A : Type 0} → (A → Type 0) → (A → ℤ) → ℤ → Type 0
Smallest P f m = Best (λ x y. y ≤ℤ x) P f m
