-- A well-formed true graph of a design.
use Rattle.std.specs.Prelude.{ℕ, Bool, not, ◌&&◌, ◌||◌, List, eqb, ltb, leb, length}
use Rattle.timing.specs.Lists.{is_nil, all_of, count_of, each_next, upto}
use Rattle.timing.specs.Graphs.{Design, edge_start, edge_end, is_sink, is_endpoint, design_graph, Edge, Graph, node_of, edges_out, starts_at, ends_at}

-- "at most 16,384 copies and 65,536 edges"
abbrev pub few_enough : Graph → Bool
few_enough G = leb (length G.nodes) 16384 && leb (length G.edges) 65536

-- "copies name existing nodes and never fall in node number"
abbrev pub nodes_fit : Design → Graph → Bool
nodes_fit D G = all_of (λ v. ltb v D.nodes) G.nodes && each_next leb G.nodes

-- "edges join existing copies, name a design edge with the nodes of those copies as its ends"
abbrev pub edge_fits : Design → Graph → Edge → Bool
edge_fits D G e =
    ltb e.start (length G.nodes)
    && ltb e.end (length G.nodes)
    && ltb e.name (length D.starts)
    && eqb (node_of G e.start) (edge_start D e.name)
    && eqb (node_of G e.end) (edge_end D e.name)

-- "and rise strictly in the order above": by end copy, then by design edge
abbrev pub edge_rises : Edge → Edge → Bool
edge_rises e f = ltb e.end f.end || (eqb e.end f.end && ltb e.name f.name)

abbrev pub is_source : Design → ℕ → Bool
is_source D v = starts_at (design_graph D) v

-- Endpoints, of a copy c and of a node v (02, request 6). "0 or 1 after each copy's node"
abbrev pub zero_or_one : List ℕ → Bool
zero_or_one endpoints = all_of (λ x. leb x 1) endpoints

-- "lets paths end only at sinks and marked nodes"
abbrev pub ends_only_at_endpoints : Design → Graph → ℕ → Bool
ends_only_at_endpoints D G c = not (ends_at G c) || is_endpoint D (node_of G c)

-- "every copy of a sink does"; where 30 has passed, it has no edge out that names a design edge, and this follows from `edge_fits` and
-- `left_or_endpoint`
abbrev pub sink_ends : Design → Graph → ℕ → Bool
sink_ends D G c = not (is_sink D (node_of G c)) || ends_at G c

-- "at most one copy of a node does"
abbrev pub one_endpoint : Graph → ℕ → Bool
one_endpoint G v = leb (count_of (λ c. eqb (node_of G c) v && ends_at G c) (upto (length G.nodes) 0)) 1

-- "a copy of a node that is no source has an edge in"
abbrev pub entered_or_source : Design → Graph → ℕ → Bool
entered_or_source D G c = is_source D (node_of G c) || not (starts_at G c)

-- "asks for an edge out only where no path ends"
abbrev pub left_or_endpoint : Graph → ℕ → Bool
left_or_endpoint G c = ends_at G c || not (is_nil (edges_out G c))

-- the clauses for a copy
abbrev pub copy_fits : Design → Graph → ℕ → Bool
copy_fits D G c = ends_only_at_endpoints D G c && sink_ends D G c && entered_or_source D G c && left_or_endpoint G c

unfoldable pub well_formed : Design → Graph → Bool
well_formed D G =
    few_enough G
    && nodes_fit D G
    && all_of (edge_fits D G) G.edges
    && each_next edge_rises G.edges
    && zero_or_one G.endpoints
    && all_of (one_endpoint G) (upto D.nodes 0)
    && all_of (copy_fits D G) (upto (length G.nodes) 0)
