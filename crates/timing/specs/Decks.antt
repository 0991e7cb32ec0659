-- "Deck: n, m, then start, end, delay for each edge; the count of paths, then for each its length and edges; T." Of each edge both
-- delays, "in the deck early first" (02, request 1); and "a count of marked nodes and their numbers, strictly rising, before T" (02, request 6).
use Rattle.std.specs.Prelude.{ℕ, zero, suc, ◌+◌, leb, ℤ, length}
use mathlib.Core.List.{List, [], ◌∷◌, ◌++◌, map, flat_map}
use Rattle.timing.specs.Graphs.{Design, design}
use Rattle.timing.specs.Marks.{PathList, path_list, paths_of}
use Rattle.timing.specs.Numbers.{packed}
use Rattle.timing.specs.Delays.{packed_delay, delay_of}
use Rattle.timing.specs.Refusals.{unless, ◌then◌}
use Rattle.timing.specs.Tests.{marked_count}
use Rattle.timing.specs.Parsing.{Parsed, Reader, ◌>>=◌, ◌>>◌, return, tested, number, repeated, ended}

pub record Deck : Type 0 where
  pub design : Design
  pub list : PathList
  pub allowed : ℕ

-- the numbers of a deck, in order
abbrev pub edge_numbers : List ℕ → List ℕ → List ℤ → List ℤ → List ℕ
edge_numbers [] ends early late = []
edge_numbers (s ∷ starts) [] early late = []
edge_numbers (s ∷ starts) (t ∷ ends) [] late = []
edge_numbers (s ∷ starts) (t ∷ ends) (d ∷ early) [] = []
edge_numbers (s ∷ starts) (t ∷ ends) (d ∷ early) (l ∷ late) =
    s ∷ t ∷ packed_delay d ∷ packed_delay l ∷ edge_numbers starts ends early late

abbrev pub path_numbers : List ℕ → List ℕ
path_numbers p = length p ∷ p

unfoldable pub deck_numbers : Deck → List ℕ
deck_numbers d =
    let D = d.design in
    let paths = paths_of d.list in
    (D.nodes ∷ length D.starts ∷ edge_numbers D.starts D.ends D.early D.late)
    ++ (length paths ∷ flat_map path_numbers paths)
    ++ (length D.marked ∷ D.marked)
    ++ (d.allowed ∷ [])

-- the packed deck
unfoldable pub packed_deck : Deck → List ℕ
packed_deck d = flat_map packed (deck_numbers d)

-- how many places the reader is lent for edges, for listed edges, for paths and for marked nodes
pub record Tables : Type 0 where
  pub edges : ℕ
  pub listed : ℕ
  pub paths : ℕ
  pub marked : ℕ

-- four numbers: how an edge stands in a deck
pub record EdgeRow : Type 0 where
  pub start : ℕ
  pub end : ℕ
  pub early : ℕ
  pub late : ℕ

abbrev pub edge_row : List ℕ → Reader EdgeRow
edge_row s = do
  a ← number s
  b ← number s
  c ← number s
  d ← number s
  return (record { start = a; end = b; early = c; late = d })

-- the design of n nodes, the edges and the marked nodes that were read
abbrev pub design_of : ℕ → List EdgeRow → List ℕ → Design
design_of n edges marked =
    design n (map (λ r. r.start) edges) (map (λ r. r.end) edges)
    (map (λ r. delay_of r.early) edges) (map (λ r. delay_of r.late) edges) marked

-- the paths that are left to read: "the path lengths are summed as they are met, for 21 and its 36"
abbrev pub paths : List ℕ → ℕ → ℕ → ℕ → Reader PathList
paths s table zero sum = return (path_list [] [])
paths s table (suc k) sum = do
  n ← number s
  tested (unless 21 (leb (sum + n) 8192) then unless 36 (leb (sum + n) table))
  p ← repeated n (number s)
  rest ← paths s table k (sum + n)
  return (path_list (p ++ rest.edges) (n ∷ rest.lengths))

-- the reader meets 1, 2 and "the counts (10, 11, 20, 21, and after 11, 20 and 21 the 36 of that count) in file order, then 3"; 16 "at a
-- count of marks above n, place n, then 36"
abbrev pub deck_reader : List ℕ → Tables → Reader Deck
deck_reader s tables = do
  n ← number s
  tested (unless 10 (leb n 4096))
  m ← number s
  tested (unless 11 (leb m 16384) then unless 36 (leb m tables.edges))
  edges ← repeated m (edge_row s)
  count ← number s
  tested (unless 20 (leb count 1024) then unless 36 (leb count tables.paths))
  list ← paths s tables.listed count 0
  k ← number s
  tested (marked_count n k then unless 36 (leb k tables.marked))
  marked ← repeated k (number s)
  allowed ← number s
  ended s
  return (record {
    design = design_of n edges marked;
    list = list;
    allowed = allowed;
  })

unfoldable pub read_deck : List ℕ → Tables → Parsed Deck
read_deck s tables = deck_reader s tables 0
