-- Copies: the true graph of a graph and a list of paths. The graph is the design, or an earlier true graph, whose
-- "copies stand in for nodes, its paths for the complete paths, and tails are matched by design edge".
use Rattle.std.specs.Prelude.{ℕ, Bool, not, ◌||◌, length}
use mathlib.Core.List.{List, [], ◌∷◌, map, flat_map}
use Rattle.timing.specs.Lists.{any_of, keep, one_if}
use Rattle.timing.specs.Graphs.{Edge, edge, Graph, graph, node_of, Run, complete_runs, names}
use Rattle.timing.specs.Marks.{permitted, mark}
use Rattle.timing.specs.Sorting.{before, sort, place}

-- a copy: a node (or a copy of the earlier graph), and a mark
pub record Copy : Type 0 where
  pub at : ℕ
  pub mark : List ℕ

-- two copies joined by an edge that names a design edge
pub record Join : Type 0 where
  pub start : Copy
  pub end : Copy
  pub name : ℕ

-- "numbered by node; within a node by the mark's length, then by its edge numbers, first difference deciding"
abbrev pub copy_before : Copy → Copy → Bool
copy_before c d = before (c.at ∷ length c.mark ∷ c.mark) (d.at ∷ length d.mark ∷ d.mark)

-- one copy: neither comes before the other
abbrev pub same_copy : Copy → Copy → Bool
same_copy c d = not (copy_before c d || copy_before d c)

-- "ordered by end copy, then by design edge"; the start copy follows from these
abbrev pub edge_before : Edge → Edge → Bool
edge_before e f = before (e.end ∷ e.name ∷ e.start ∷ []) (f.end ∷ f.name ∷ f.start ∷ [])

module _ (L : List (List ℕ)) where
  -- what a path that goes on along es shows at c
  abbrev pub copy_at : ℕ → List Edge → Copy
  copy_at c es = record { at = c; mark = mark L (names es) }

  -- the copies that a path shows from c on, and the joins "along each design edge" of it
  abbrev pub copies_on : ℕ → List Edge → List Copy
  copies_on c [] = copy_at c [] ∷ []
  copies_on c (e ∷ es) = copy_at c (e ∷ es) ∷ copies_on e.end es

  abbrev pub joins_on : ℕ → List Edge → List Join
  joins_on c [] = []
  joins_on c (e ∷ es) = record { start = copy_at c (e ∷ es); end = copy_at e.end es; name = e.name } ∷ joins_on e.end es

  -- the last of these copies: "a path that ends at a node has the empty mark there"
  abbrev pub last_on : ℕ → List Edge → Copy
  last_on c [] = copy_at c []
  last_on c (e ∷ es) = last_on e.end es

  -- the permitted complete paths
  unfoldable pub permitted_runs : Graph → List Run
  permitted_runs G = keep (λ r. permitted L (names r.edges)) (complete_runs G)

  -- "a copy for each pair (node, mark) that some permitted path shows, and no others", in order
  unfoldable pub copies : Graph → List Copy
  copies G = sort copy_before (flat_map (λ r. copies_on r.first r.edges) (permitted_runs G))

  -- "each copy in the true graph says whether paths end at it"
  unfoldable pub path_ends : Graph → Copy → Bool
  path_ends G c = any_of (λ r. same_copy (last_on r.first r.edges) c) (permitted_runs G)

  unfoldable pub joins : Graph → List Join
  joins G = flat_map (λ r. joins_on r.first r.edges) (permitted_runs G)

-- a join by the numbers of its copies
abbrev pub numbered : List Copy → Join → Edge
numbered cs j = edge (place copy_before j.start cs) (place copy_before j.end cs) j.name

unfoldable pub true_graph : Graph → List (List ℕ) → Graph
true_graph G L =
    let cs : List Copy = copies L G in
    graph (map (λ c. node_of G c.at) cs) (map (λ c. one_if (path_ends L G c)) cs) (sort edge_before (map (numbered cs) (joins L G)))
