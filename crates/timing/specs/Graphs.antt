-- The design and its paths. One notion of graph serves the design and a true graph: removal from the design and from
-- an earlier true graph are then one definition.
use Rattle.std.specs.Prelude.{ℕ, zero, suc, Bool, cond, ◌||◌, eqb, length, get_or, ℤ, pos, ◌+ℤ◌}
use mathlib.Core.List.{List, [], ◌∷◌, ◌++◌, map, flat_map}
use Rattle.timing.specs.Lists.{is_nil, any_of, keep, one_if, upto}

-- A design: n nodes, the start, the end, "an early and a late delay" of each edge (02, request 1), and the marked nodes: "A deck may now
-- mark nodes as ends, sinks or not" (02, request 6). The word *marked* is kept for this list; a *mark* is a tail at a node (`Marks`). What
-- document 02 calls an end, a node or copy where paths end, is an *endpoint* here, since edges have ends too.
pub record Design : Type 0 where
  pub nodes : ℕ
  pub starts : List ℕ
  pub ends : List ℕ
  pub early : List ℤ
  pub late : List ℤ
  pub marked : List ℕ

abbrev pub design : ℕ → List ℕ → List ℕ → List ℤ → List ℤ → List ℕ → Design
design n starts ends early late marked =
    record { nodes = n; starts = starts; ends = ends; early = early; late = late; marked = marked }

abbrev pub edge_start : Design → ℕ → ℕ
edge_start D k = get_or D.starts k 0

abbrev pub edge_end : Design → ℕ → ℕ
edge_end D k = get_or D.ends k 0

abbrev pub edge_early : Design → ℕ → ℤ
edge_early D k = get_or D.early k (pos 0)

abbrev pub edge_late : Design → ℕ → ℤ
edge_late D k = get_or D.late k (pos 0)

-- an edge of a graph: its start copy, its end copy and the design edge that it names
pub record Edge : Type 0 where
  pub start : ℕ
  pub end : ℕ
  pub name : ℕ

abbrev pub edge : ℕ → ℕ → ℕ → Edge
edge s t k = record { start = s; end = t; name = k }

-- a graph: the design node of each copy; its *endpoint number*, 1 where paths end at it and else 0; and the edges between copies
pub record Graph : Type 0 where
  pub nodes : List ℕ
  pub endpoints : List ℕ
  pub edges : List Edge

abbrev pub graph : List ℕ → List ℕ → List Edge → Graph
graph nodes endpoints edges = record { nodes = nodes; endpoints = endpoints; edges = edges }

-- edges that are given as three lists
abbrev pub edges_of : List ℕ → List ℕ → List ℕ → List Edge
edges_of [] ends names = []
edges_of (s ∷ starts) [] names = []
edges_of (s ∷ starts) (t ∷ ends) [] = []
edges_of (s ∷ starts) (t ∷ ends) (k ∷ names) = edge s t k ∷ edges_of starts ends names

-- the edges of a design, each of which names itself
abbrev pub design_edges : Design → List Edge
design_edges D = edges_of D.starts D.ends (upto (length D.starts) 0)

-- "a sink [has] no edge out"
abbrev pub is_sink : Design → ℕ → Bool
is_sink D v = is_nil (keep (λ e. eqb e.start v) (design_edges D))

-- "complete paths run from a source to a sink or to a marked node"
abbrev pub is_endpoint : Design → ℕ → Bool
is_endpoint D v = is_sink D v || any_of (eqb v) D.marked

-- the design as a graph: each node is its own only copy
unfoldable pub design_graph : Design → Graph
design_graph D = graph (upto D.nodes 0) (map (λ v. one_if (is_endpoint D v)) (upto D.nodes 0)) (design_edges D)

-- the node of a copy, and its endpoint number
abbrev pub node_of : Graph → ℕ → ℕ
node_of G c = get_or G.nodes c 0

abbrev pub endpoint_of : Graph → ℕ → ℕ
endpoint_of G c = get_or G.endpoints c 0

unfoldable pub edges_in : Graph → ℕ → List Edge
edges_in G c = keep (λ e. eqb e.end c) G.edges

unfoldable pub edges_out : Graph → ℕ → List Edge
edges_out G c = keep (λ e. eqb e.start c) G.edges

-- "a source has no edge in": paths start here
abbrev pub starts_at : Graph → ℕ → Bool
starts_at G c = is_nil (edges_in G c)

-- "each copy in the true graph says whether paths end at it": they end here, and nowhere else
abbrev pub ends_at : Graph → ℕ → Bool
ends_at G c = eqb (endpoint_of G c) 1

-- The runs of fewer than k edges to a copy from where paths start, and from a copy to where paths end. Edges rise from
-- lower to higher copies, so that k = the count of copies gives them all.
unfoldable pub runs_to : Graph → ℕ → ℕ → List (List Edge)
runs_to G zero c = []
runs_to G (suc k) c =
    cond (starts_at G c) ([] ∷ []) [] ++ flat_map (λ e. map (λ r. r ++ (e ∷ [])) (runs_to G k e.start)) (edges_in G c)

unfoldable pub runs_from : Graph → ℕ → ℕ → List (List Edge)
runs_from G zero c = []
runs_from G (suc k) c =
    cond (ends_at G c) ([] ∷ []) [] ++ flat_map (λ e. map (λ r. e ∷ r) (runs_from G k e.end)) (edges_out G c)

-- a path: "two paths are one only if first node and edges agree"
pub record Run : Type 0 where
  pub first : ℕ
  pub edges : List Edge

-- "complete paths run from a source to a sink or to a marked node, with no edges at a marked source [or an isolated node], and may pass
-- through marked nodes": from where paths start to where paths end
unfoldable pub complete_runs : Graph → List Run
complete_runs G =
    flat_map
    (λ c. map (λ r. record { first = c; edges = r }) (runs_from G (length G.nodes) c))
    (keep (starts_at G) (upto (length G.nodes) 0))

-- the design edges that a run names
abbrev pub names : List Edge → List ℕ
names es = map (λ e. e.name) es

-- the delay of a run, for any delay of a design edge
abbrev pub delay_along : (ℕ → ℤ) → List Edge → ℤ
delay_along d [] = pos 0
delay_along d (e ∷ es) = d e.name +ℤ delay_along d es

-- "a path taken back to the design keeps its first node": its first node and the design edges that it names
pub record DesignPath : Type 0 where
  pub first : ℕ
  pub edges : List ℕ

abbrev pub taken_back : Graph → Run → DesignPath
taken_back G r = record { first = node_of G r.first; edges = names r.edges }
