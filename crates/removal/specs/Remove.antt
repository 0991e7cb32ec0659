-- What the passes find together, and what a whole removal answers and leaves behind.
use Rattle.std.specs.Prelude.{ℕ, ◌+◌, ◌≤◌, ◌≡◌, length, take, Option, Result, Ok, Err, Some, None}
use mathlib.Core.List.{List}
use Rattle.timing.specs.Answers.{Verdict, Passed}
use Rattle.timing.specs.declared.GraphCounts.{GraphCounts}
use Rattle.timing.specs.declared.Refusal.{Refusal}
use Rattle.timing.specs.Graphs.{Design, Graph, edges_in}
use Rattle.timing.specs.Marks.{PathList, path_list, paths_of}
use Rattle.timing.specs.TrueGraphs.{true_graph}
use Rattle.timing.specs.Tests.{candidates, words_test, Room, room_tests}
use Rattle.timing.specs.Calls.{Outcome, outcome, removal, removal_tests, graph_slices, room_of, largest_room, graph_answer, nodes_after, endpoints_after, starts_after, ends_after, names_after, scratch_after}
use Rattle.theorems.proofs.Tested.{DesignFits}
use Rattle.removal.specs.declared.rows.Layout.{Layout}
use Rattle.removal.specs.Counts.{of_starts, of_nodes}
use Rattle.removal.specs.Rows.{Tabled, Ready, Idle}
use Rattle.removal.specs.Patches.{NamesIn}
use Rattle.removal.specs.Edges.{EdgesInto}
use Rattle.removal.specs.Fill.{LowFlags, RowsFlagged}
use Rattle.removal.specs.Build.{table_words, work_words, Given}

-- the lent slices are of a design that fits, a list and a graph
pub record Worked (D : Design) (L : PathList) (G : Graph) (starts listed lengths nodes endpoint from to via : List ℕ) : Type 0 where
  pub given : Given D L G starts listed lengths nodes from to via
  pub endpoints : G.endpoints ≡ endpoint
  pub endpoint_size : length endpoint ≡ length nodes
  pub fits : DesignFits D

-- they are this of some design
pub record Workable (starts listed lengths nodes endpoint from to via : List ℕ) : Type 0 where
  pub design : Design
  pub list : PathList
  pub graph : Graph
  pub worked : Worked design list graph starts listed lengths nodes endpoint from to via

-- and the tables fit the scratch, with a slot for each candidate
pub record WorkableIn (starts listed lengths nodes endpoint from to via : List ℕ) (k : ℕ) (s : List ℕ) : Type 0 where
  pub work : Workable starts listed lengths nodes endpoint from to via
  pub counted : k ≡ candidates work.design work.graph work.list
  pub room : table_words (length nodes) (length from) (length listed) + k + work_words (length from) ≤ length s

-- The tables are made and the slots that are reached are flagged, of a graph with these nodes and endpoint numbers.
pub record AllReached (l : Layout) (nodes endpoint t : List ℕ) : Type 0 where
  pub ready : Ready l t
  pub idle : Idle l t
  pub copies_of : length nodes ≡ l.copies
  pub endpoints_of : length endpoint ≡ l.copies
  pub low : LowFlags l t
  pub rows : RowsFlagged l t endpoint

-- t is the scratch then, with the tables of whatever design the slices are given of
pub record Found (starts listed lengths nodes endpoint from to via s t : List ℕ) (l : Layout) : Type 0 where
  pub size : length t ≡ length s
  pub tabled : (D : Design) (L : PathList) (G : Graph) → Given D L G starts listed lengths nodes from to via → Tabled D L G l (take l.slots t)
  pub names : NamesIn l t (length starts)
  pub all : AllReached l nodes endpoint t

-- 31, by the candidates of what the slices are of
abbrev pub words_for : List ℕ → List ℕ → List ℕ → List ℕ → List ℕ → List ℕ → Verdict
words_for starts listed lengths nodes from s =
    words_test (candidates (of_starts starts) (of_nodes nodes) (path_list listed lengths)) (length listed) (length from) (length s)

-- what a search answers, and t is the scratch then: what was found, or nothing where there is no copy, or 31; the scratch is as it was
-- then
abbrev pub AllSearched : List ℕ → List ℕ → List ℕ → List ℕ → List ℕ → List ℕ → List ℕ → List ℕ → List ℕ → List ℕ → Result (Option Layout) Refusal → Type 0
AllSearched starts listed lengths nodes endpoint from to via s t (Ok (Some f)) =
    (words_for starts listed lengths nodes from s ≡ Passed)
    × Found starts listed lengths nodes endpoint from to via s t f
AllSearched starts listed lengths nodes endpoint from to via s t (Ok None) =
    (words_for starts listed lengths nodes from s ≡ Passed) × (length nodes ≡ 0) × (t ≡ s)
AllSearched starts listed lengths nodes endpoint from to via s t (Err r) = (words_for starts listed lengths nodes from s ≡ Err r) × (t ≡ s)

-- the answer and the room are those of an outcome
pub record Answered (o : Outcome Graph) (r : Result GraphCounts Refusal) (room-nodes room-endpoint room-from room-to room-via room-nodes' room-endpoint' room-from' room-to' room-via' : List ℕ) : Type 0 where
  pub answer : r ≡ graph_answer o
  pub nodes : room-nodes' ≡ nodes_after o room-nodes
  pub endpoints : room-endpoint' ≡ endpoints_after o room-endpoint
  pub starts : room-from' ≡ starts_after o room-from
  pub ends : room-to' ≡ ends_after o room-to
  pub names : room-via' ≡ names_after o room-via

-- what is made where only 33 and 34 are left to test
abbrev pub room_outcome : PathList → Graph → Room → Outcome Graph
room_outcome L G R = outcome (room_tests R (true_graph G (paths_of L))) (true_graph G (paths_of L))

unfoldable pub RoomAnswered : Layout → List ℕ → List ℕ → List ℕ → Result GraphCounts Refusal → List ℕ → List ℕ → List ℕ → List ℕ → List ℕ → List ℕ → List ℕ → List ℕ → List ℕ → List ℕ → Type 0
RoomAnswered l nodes endpoint s r room-nodes room-endpoint room-from room-to room-via room-nodes' room-endpoint' room-from' room-to' room-via' =
    (D : Design) (L : PathList) (G : Graph) → Tabled D L G l (take l.slots s) → G.nodes ≡ nodes → G.endpoints ≡ endpoint → EdgesInto G (edges_in G)
    → Answered (room_outcome L G (room_of (graph_slices room-nodes room-endpoint room-from room-to room-via))) r room-nodes room-endpoint room-from room-to room-via room-nodes' room-endpoint' room-from' room-to' room-via'

-- and where 31 is too
abbrev pub removal_outcome : Design → PathList → Graph → Room → ℕ → Outcome Graph
removal_outcome D L G R words = outcome (removal_tests D G (removal L R words)) (true_graph G (paths_of L))

-- the scratch is too
pub record Removed (o : Outcome Graph) (r : Result GraphCounts Refusal) (room-nodes room-endpoint room-from room-to room-via s room-nodes' room-endpoint' room-from' room-to' room-via' s' : List ℕ) : Type 0 where
  pub answered : Answered o r room-nodes room-endpoint room-from room-to room-via room-nodes' room-endpoint' room-from' room-to' room-via'
  pub scratch : s' ≡ scratch_after o s

unfoldable pub AllRemoved : List ℕ → List ℕ → List ℕ → List ℕ → List ℕ → List ℕ → List ℕ → List ℕ → Result GraphCounts Refusal → List ℕ → List ℕ → List ℕ → List ℕ → List ℕ → List ℕ → List ℕ → List ℕ → List ℕ → List ℕ → List ℕ → List ℕ → Type 0
AllRemoved starts listed lengths nodes endpoint from to via r room-nodes room-endpoint room-from room-to room-via s room-nodes' room-endpoint' room-from' room-to' room-via' s' =
    (D : Design) (L : PathList) (G : Graph) → Worked D L G starts listed lengths nodes endpoint from to via → Removed (removal_outcome D L G (room_of (graph_slices room-nodes room-endpoint room-from room-to room-via)) (length s)) r room-nodes room-endpoint room-from room-to room-via s room-nodes' room-endpoint' room-from' room-to' room-via' s'

-- What telling the size answers and leaves behind.
abbrev pub Sized : Outcome Graph → Result GraphCounts Refusal → List ℕ → List ℕ → Type 0
Sized o r s s' = (r ≡ graph_answer o) × (s' ≡ scratch_after o s)

-- by the outcome in the largest room
unfoldable pub AllSized : List ℕ → List ℕ → List ℕ → List ℕ → List ℕ → List ℕ → List ℕ → List ℕ → Result GraphCounts Refusal → List ℕ → List ℕ → Type 0
AllSized starts listed lengths nodes endpoint from to via r s s' =
    (D : Design) (L : PathList) (G : Graph) → Worked D L G starts listed lengths nodes endpoint from to via → Sized (removal_outcome D L G largest_room (length s)) r s s'
