-- "Packed true graph: count of copies, the node of each; count of edges, then start copy, end copy, design edge of each", with "0 or 1
-- after each copy's node" (02, request 6).
use Rattle.std.specs.Prelude.{ℕ, leb, length}
use mathlib.Core.List.{List, [], ◌∷◌, ◌++◌, map, flat_map}
use Rattle.timing.specs.Graphs.{edge, Graph, graph}
use Rattle.timing.specs.Numbers.{packed}
use Rattle.timing.specs.Refusals.{unless, ◌then◌}
use Rattle.timing.specs.Parsing.{Parsed, Reader, ◌>>=◌, ◌>>◌, return, tested, number, repeated, Row, row, ended}

-- each copy's node, and its endpoint number
abbrev pub copy_numbers : List ℕ → List ℕ → List ℕ
copy_numbers [] endpoints = []
copy_numbers (v ∷ nodes) [] = []
copy_numbers (v ∷ nodes) (x ∷ endpoints) = v ∷ x ∷ copy_numbers nodes endpoints

unfoldable pub graph_numbers : Graph → List ℕ
graph_numbers G =
    (length G.nodes ∷ copy_numbers G.nodes G.endpoints)
    ++ (length G.edges ∷ flat_map (λ e. e.start ∷ e.end ∷ e.name ∷ []) G.edges)

-- the packed true graph
unfoldable pub packed_graph : Graph → List ℕ
packed_graph G = flat_map packed (graph_numbers G)

-- how a copy stands in a packed true graph; "the graph's reader gives 32 at an end number above 1"
pub record CopyRow : Type 0 where
  pub node : ℕ
  pub endpoint : ℕ

abbrev pub copy_row : List ℕ → Reader CopyRow
copy_row s = do
  v ← number s
  x ← number s
  tested (unless 32 (leb x 1))
  return (record { node = v; endpoint = x })

-- the graph of the copies and edges that were read
abbrev pub graph_from : List CopyRow → List Row → Graph
graph_from copies rows =
    graph (map (λ r. r.node) copies) (map (λ r. r.endpoint) copies) (map (λ r. edge r.first r.second r.third) rows)

-- "at each count as it is met, 32 above 16,384 copies or 65,536 edges, then 33 or 34 for its lent room; 3 comes after them"
abbrev pub graph_reader : List ℕ → ℕ → ℕ → Reader Graph
graph_reader s copyRoom edgeRoom = do
  n ← number s
  tested (unless 32 (leb n 16384) then unless 33 (leb n copyRoom))
  copies ← repeated n (copy_row s)
  m ← number s
  tested (unless 32 (leb m 65536) then unless 34 (leb m edgeRoom))
  rows ← repeated m (row s)
  ended s
  return (graph_from copies rows)

-- from the bytes and the lent lengths for copies and for edges
unfoldable pub read_graph : List ℕ → ℕ → ℕ → Parsed Graph
read_graph s copyRoom edgeRoom = graph_reader s copyRoom edgeRoom 0
