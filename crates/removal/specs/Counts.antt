-- Counting the candidates of test 31 without scratch: for each node how many listed edges, not first in their path, start there.
use Rattle.std.specs.Prelude.{ℕ, ◌+◌, ◌-◌, ◌≤◌, ◌<◌, ◌≡◌, eqb, length, get_or, take, drop}
use mathlib.Core.List.{List, [], map, flat_map}
use Rattle.timing.specs.Lists.{sum, count_of}
use Rattle.timing.specs.Graphs.{Design, design, Graph, graph}
use Rattle.timing.specs.Marks.{cut}

-- a design of which only the edges' starts are looked at, and a graph of which only the copies' nodes are
abbrev pub of_starts : List ℕ → Design
of_starts starts = design 0 starts [] [] [] []

abbrev pub of_nodes : List ℕ → Graph
of_nodes nodes = graph nodes [] []

-- how many of these edges start at node v
unfoldable pub starts_in : List ℕ → ℕ → List ℕ → ℕ
starts_in starts v es = count_of (λ k. eqb (get_or starts k 0) v) es

-- the listed edges that are not first in their path
unfoldable pub inner : List ℕ → List ℕ → List ℕ
inner listed lengths = flat_map (λ p. drop 1 p) (cut listed lengths)

-- every number that is looked up stands for a node, of 4,096 at most: in a list without empty paths, and in the copies
pub record ListCountable (starts listed lengths : List ℕ) : Type 0 where
  pub total : sum lengths ≡ length listed
  pub few : length listed ≤ 8192
  pub filled : (k : ℕ) → k < length lengths → 0 < get_or lengths k 0
  pub starts_below : (k : ℕ) → get_or starts k 0 < 4096

pub record CopiesCountable (nodes : List ℕ) : Type 0 where
  pub few : length nodes ≤ 16384
  pub below : (c : ℕ) → c < length nodes → get_or nodes c 0 < 4096

-- the edges from place `first` to `end` of the flat list are to be counted; no count is more than the places before
pub record Counting (starts listed counts : List ℕ) (first end : ℕ) : Type 0 where
  pub size : length counts ≡ 4096
  pub few : length listed ≤ 8192
  pub up : first ≤ end
  pub room : end ≤ length listed
  pub small : (v : ℕ) → get_or counts v 0 ≤ first
  pub starts_below : (k : ℕ) → get_or starts k 0 < 4096

-- and they are counted
pub record Counted (starts listed s t : List ℕ) (first end : ℕ) : Type 0 where
  pub size : length t ≡ length s
  pub small : (v : ℕ) → get_or t v 0 ≤ end
  pub counts : (v : ℕ) → v < 4096 → get_or t v 0 ≡ get_or s v 0 + starts_in starts v (take (end - first) (drop first listed))

-- the count of each node is that of all paths
pub record Tallied (starts listed lengths t : List ℕ) : Type 0 where
  pub size : length t ≡ 4096
  pub small : (v : ℕ) → get_or t v 0 ≤ 8192
  pub counts : (v : ℕ) → v < 4096 → get_or t v 0 ≡ starts_in starts v (inner listed lengths)

-- one for each copy, and the count of its node
abbrev pub shares : List ℕ → List ℕ → ℕ
shares t nodes = sum (map (λ v. 1 + get_or t v 0) nodes)
