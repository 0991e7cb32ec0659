-- Reading in two goes, a look and a fill (`Looks` of `timing`).
use Rattle.std.specs.Prelude.{ℕ, zero, suc, ◌+◌, ◌≤◌, List, [], ◌∷◌, ◌++◌, map, leb, ℤ, length, Result, Ok, Err}
use Rattle.timing.specs.Answers.{Verdict, Passed}
use Rattle.timing.specs.declared.Refusal.{Refusal}
use Rattle.timing.specs.Graphs.{Design}
use Rattle.timing.specs.Marks.{PathList, path_list}
use Rattle.timing.specs.Delays.{delay_of}
use Rattle.timing.specs.Refusals.{unless, ◌then◌}
use Rattle.timing.specs.Tests.{marked_count}
use Rattle.timing.specs.Parsing.{Parsed, found, stopped, Reader, ◌>>=◌, ◌>>◌, return, tested, number, repeated, ended}
use Rattle.timing.specs.Looks.{value_at, next_at}
use Rattle.timing.specs.Decks.{Deck, Tables, EdgeRow, edge_row, design_of, paths}

-- whether a reader stopped
abbrev pub verdict_of : {A : Type 0} → Parsed A → Verdict
verdict_of (found x at) = Passed
verdict_of (stopped r) = Err r

-- n, which has a limit and no table
abbrev pub nodes_in : List ℕ → Reader ℕ
nodes_in s = do
  n ← number s
  tested (unless 10 (leb n 4096))
  return n

-- a count: a number whose sum with what was counted before is at most a limit, and then at most a table
abbrev pub count_in : List ℕ → ℕ → ℕ → ℕ → ℕ → Reader ℕ
count_in s sum test limit table = do
  n ← number s
  tested (unless test (leb (sum + n) limit) then unless 36 (leb (sum + n) table))
  return n

-- a path, for its length alone
abbrev pub path_in : List ℕ → ℕ → ℕ → Reader ℕ
path_in s table sum = do
  n ← count_in s sum 21 8192 table
  p ← repeated n (number s)
  return n

-- the count of edges and the edges; the design; the list of paths
abbrev pub edges_in : List ℕ → ℕ → Reader (List EdgeRow)
edges_in s table = do
  m ← count_in s 0 11 16384 table
  repeated m (edge_row s)

abbrev pub design_in : List ℕ → ℕ → Reader (List EdgeRow)
design_in s table = do
  n ← nodes_in s
  edges_in s table

abbrev pub list_in : List ℕ → ℕ → ℕ → Reader PathList
list_in s listed table = do
  count ← count_in s 0 20 1024 table
  paths s listed count 0

-- the marked nodes of a design of n nodes; and the two lists, the paths and these
abbrev pub marked_count_in : List ℕ → ℕ → ℕ → Reader ℕ
marked_count_in s n table = do
  k ← number s
  tested (marked_count n k then unless 36 (leb k table))
  return k

abbrev pub marked_in : List ℕ → ℕ → ℕ → Reader (List ℕ)
marked_in s n table = do
  k ← marked_count_in s n table
  repeated k (number s)

abbrev pub lists_in : List ℕ → ℕ → ℕ → ℕ → ℕ → Reader (List ℕ)
lists_in s n listed paths marked = do
  list ← list_in s listed paths
  marked_in s n marked

-- T and the end
abbrev pub tail_in : List ℕ → Reader (Unit {0})
tail_in s = do
  t ← number s
  ended s

-- what stands behind the place that a look got to: nothing is looked at behind a refusal
abbrev pub behind_look : {A : Type 0} → Result ℕ Refusal → (ℕ → Result A Refusal) → Result A Refusal
behind_look (Ok at) f = f at
behind_look (Err r) f = Err r

-- k numbers from a place on, and the place behind them
abbrev pub numbers_from : List ℕ → ℕ → ℕ → List ℕ
numbers_from s zero at = []
numbers_from s (suc k) at = value_at s at ∷ numbers_from s k (next_at s at)

abbrev pub numbers_end : List ℕ → ℕ → ℕ → ℕ
numbers_end s zero at = at
numbers_end s (suc k) at = numbers_end s k (next_at s at)

abbrev pub behind_two : List ℕ → ℕ → ℕ
behind_two s at = next_at s (next_at s at)

-- an edge: its nodes, and behind these its delays
abbrev pub edge_row_at : List ℕ → ℕ → EdgeRow
edge_row_at s at = record {
  start = value_at s at;
  end = value_at s (next_at s at);
  early = value_at s (behind_two s at);
  late = value_at s (next_at s (behind_two s at));
}

abbrev pub edge_row_end : List ℕ → ℕ → ℕ
edge_row_end s at = behind_two s (behind_two s at)

abbrev pub rows_from : List ℕ → ℕ → ℕ → List EdgeRow
rows_from s zero at = []
rows_from s (suc k) at = edge_row_at s at ∷ rows_from s k (edge_row_end s at)

-- the starts, ends and delays of k edges
abbrev pub starts_from : List ℕ → ℕ → ℕ → List ℕ
starts_from s k at = map (λ r. r.start) (rows_from s k at)

abbrev pub ends_from : List ℕ → ℕ → ℕ → List ℕ
ends_from s k at = map (λ r. r.end) (rows_from s k at)

abbrev pub early_from : List ℕ → ℕ → ℕ → List ℤ
early_from s k at = map (λ r. delay_of r.early) (rows_from s k at)

abbrev pub late_from : List ℕ → ℕ → ℕ → List ℤ
late_from s k at = map (λ r. delay_of r.late) (rows_from s k at)

abbrev pub rows_end : List ℕ → ℕ → ℕ → ℕ
rows_end s zero at = at
rows_end s (suc k) at = rows_end s k (edge_row_end s at)

-- numbers behind their count: a path, or the marked nodes
abbrev pub counted_from : List ℕ → ℕ → List ℕ
counted_from s at = numbers_from s (value_at s at) (next_at s at)

abbrev pub counted_end : List ℕ → ℕ → ℕ
counted_end s at = numbers_end s (value_at s at) (next_at s at)

abbrev pub edges_from : List ℕ → ℕ → ℕ → List ℕ
edges_from s zero at = []
edges_from s (suc k) at = counted_from s at ++ edges_from s k (counted_end s at)

abbrev pub lengths_from : List ℕ → ℕ → ℕ → List ℕ
lengths_from s zero at = []
lengths_from s (suc k) at = value_at s at ∷ lengths_from s k (counted_end s at)

abbrev pub paths_end : List ℕ → ℕ → ℕ → ℕ
paths_end s zero at = at
paths_end s (suc k) at = paths_end s k (counted_end s at)

-- the design at a place, with the place behind it; the lists, likewise; and the deck
abbrev pub edges_place : List ℕ → ℕ → ℕ
edges_place s at = behind_two s at

abbrev pub edge_count : List ℕ → ℕ → ℕ
edge_count s at = value_at s (next_at s at)

-- its marked nodes stand behind the list of paths
abbrev pub design_with : List ℕ → ℕ → List ℕ → Design
design_with s at marked = design_of (value_at s at) (rows_from s (edge_count s at) (edges_place s at)) marked

abbrev pub design_from : List ℕ → ℕ → Design
design_from s at = design_with s at []

unfoldable pub count_place : List ℕ → ℕ → ℕ
count_place s at = rows_end s (edge_count s at) (edges_place s at)

abbrev pub list_from : List ℕ → ℕ → PathList
list_from s at = path_list (edges_from s (value_at s at) (next_at s at)) (lengths_from s (value_at s at) (next_at s at))

unfoldable pub list_end : List ℕ → ℕ → ℕ
list_end s at = paths_end s (value_at s at) (next_at s at)

abbrev pub marked_from : List ℕ → ℕ → List ℕ
marked_from s at = counted_from s (list_end s at)

abbrev pub lists_end : List ℕ → ℕ → ℕ
lists_end s at = counted_end s (list_end s at)

unfoldable pub deck_from : List ℕ → ℕ → Deck
deck_from s at = record {
  design = design_with s at (marked_from s (count_place s at));
  list = list_from s (count_place s at);
  allowed = value_at s (lists_end s (count_place s at));
}

-- the deck fits the tables
pub record Fits (s : List ℕ) (at : ℕ) (tables : Tables) : Type 0 where
  pub edges : edge_count s at ≤ tables.edges
  pub paths : value_at s (count_place s at) ≤ tables.paths
  pub listed : length (list_from s (count_place s at)).edges ≤ tables.listed
  pub marked : value_at s (list_end s (count_place s at)) ≤ tables.marked
