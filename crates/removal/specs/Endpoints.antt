-- The endpoint numbers of a design's nodes, made of places that are all 1: 0 where an edge starts, and then 1 at the marked nodes.
use Rattle.std.specs.Prelude.{ℕ, ◌<◌, ◌≡◌, List, [], ◌∷◌, ℤ, length, get_or, set}
use Rattle.timing.specs.Graphs.{design, design_graph}

-- v stored at each of some places
abbrev pub stored_at : List ℕ → ℕ → List ℕ → List ℕ
stored_at [] v t = t
stored_at (p ∷ places) v t = stored_at places v (set t p v)

-- the first n places are 1; these numbers are below n
abbrev pub AllOnes : ℕ → List ℕ → Type 0
AllOnes n t = (k : ℕ) → k < n → get_or t k 0 ≡ 1

abbrev pub NodesBelow : ℕ → List ℕ → Type 0
NodesBelow n vs = (i : ℕ) → i < length vs → get_or vs i 0 < n

-- these are the endpoint numbers of a design, whatever its edges' ends and delays are
unfoldable pub EndpointsOf : ℕ → List ℕ → List ℕ → List ℕ → Type 0
EndpointsOf n starts marked endpoint =
    (ends : List ℕ) (early late : List ℤ) → length ends ≡ length starts → endpoint ≡ (design_graph (design n starts ends early late marked)).endpoints
