-- The lengths of a graph's slices, and its numbers.
use Rattle.std.specs.Prelude.{ℕ, ◌≤◌, ◌≡◌, length, drop}
use mathlib.Core.List.{List, [], ◌∷◌, flat_map}
use Rattle.timing.specs.Graphs.{edges_of}

-- what the writer's tests say of the lengths of a graph's slices
pub record Fits (nodes endpoint from to via : List ℕ) : Type 0 where
  pub copies : length nodes ≤ 16384
  pub endpoints : length endpoint ≡ length nodes
  pub edges : length from ≤ 65536
  pub ends : length to ≡ length from
  pub names : length via ≡ length from

-- start copy, end copy and design edge of each edge
abbrev pub rows_of : List ℕ → List ℕ → List ℕ → List ℕ
rows_of from to via = flat_map (λ e. e.start ∷ e.end ∷ e.name ∷ []) (edges_of from to via)

-- those of the edges from k on
abbrev pub rows_from : ℕ → List ℕ → List ℕ → List ℕ → List ℕ
rows_from k from to via = rows_of (drop k from) (drop k to) (drop k via)
