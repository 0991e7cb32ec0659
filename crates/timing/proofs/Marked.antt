-- The marked cases of document 01, M1 to M10, and rows that shut out wrong definitions which M1 to M10 would let
-- through: one table and one claim, shown by computing the definitions. Made by tests/marked_table.py: every result
-- is the walker's. "Deck A and the marked cases take early equal to late" (02, request 1). *Marked* cases are document 01's word; marked nodes
-- are those of 02, request 6.
use Prim.Native.Nat.{ℕ, suc}
use mathlib.Core.Path.{◌≡◌, refl}
use mathlib.Core.List.{List, [], ◌∷◌, map, flat_map}
use Rattle.std.specs.Prelude.{Option, Result, Err, None}
use Rattle.timing.specs.Answers.{Verdict, Passed, Counts, SomeTimes, Late, OnTime}
use Rattle.timing.specs.declared.Taken.{Taken}
use Rattle.timing.specs.declared.GraphCounts.{GraphCounts}
use Rattle.timing.specs.declared.Times.{Times}
use Rattle.timing.specs.declared.Refusal.{Refusal}
use lib.IntN.{ℤ, pos, negsuc}
use lib.ListN.{length, get_or}
use Rattle.timing.specs.Lists.{upto}
use Rattle.timing.specs.Graphs.{Design, design, edge, Graph, graph, design_graph, edges_in, edges_out}
use Rattle.timing.specs.Graphs.{runs_to, runs_from, complete_runs}
use Rattle.timing.specs.Marks.{PathList, path_list, paths_of, permitted, tails, mark}
use Rattle.timing.specs.TrueGraphs.{permitted_runs, copies, path_ends, joins, true_graph}
use Rattle.timing.specs.WellFormed.{well_formed}
use Rattle.timing.specs.Times.{arrival_at, required_at, slack_at, earliest_at, late_copies, node_times}
use Rattle.timing.specs.Numbers.{packed_in, packed, groups_in, read_number, write_answer, written_room}
use Rattle.timing.specs.Decks.{Deck, deck_numbers, packed_deck, read_deck}
use Rattle.timing.specs.GraphBytes.{graph_numbers, packed_graph, read_graph}
use Rattle.timing.specs.Refusals.{refusal, refusal_within}
use Rattle.timing.specs.Tests.{Room, design_tests, list_tests, candidates, scratch_test, room_tests}
use Rattle.timing.specs.Calls.{GraphSlices, graph_slices, slices_of, Outcome, made, refused, Removal, removal, test_deck}
use Rattle.timing.specs.Calls.{test_times, arrivals_after, requireds_after, slacks_after, earliests_after, test_late, late_or_not, arrivals_after_late, test_records, deck_read}
use Rattle.timing.specs.Calls.{remove_from_design, remove_from_graph, program_removal, program, c_call, c_room}
use Rattle.timing.specs.Calls.{deck_write_tests, graph_write_tests, graph_read, size_from_design, size_from_graph, graph_answer}

-- the graph after some lists are removed in turn
abbrev pub removed : Graph → List PathList → Graph
removed G [] = G
removed G (L ∷ Ls) = removed (true_graph G (paths_of L)) Ls

pub data Fact : Type 0 where
  graph_is : Design → List PathList → Graph → Fact
  times_are : Design → ℕ → List PathList → List (Option Times) → Fact
  nodes_are : Design → ℕ → List PathList → List (Option Times) → Fact
  removal_is : Design → Removal → Outcome Graph → Fact
  again_is : Design → Graph → Removal → Outcome Graph → Fact
  program_is : List ℕ → Outcome Graph → Fact
  c_call_is : List ℕ → ℕ → ℤ → Fact
  c_room_is : List ℕ → ℕ → List ℕ → Fact
  packed_is : ℕ → List ℕ → Fact
  read_is : List ℕ → Result Taken Refusal → Fact
  reader_answers : List ℕ → List ℕ → Verdict → Fact
  times_answer : Design → Graph → ℕ → List ℕ → Verdict → Fact
  records_answer : ℕ → Graph → List ℕ → List ℕ → Verdict → Fact
  packed_deck_is : Design → PathList → ℕ → List ℕ → Fact
  deck_writer_answers : Design → PathList → ℕ → Verdict → Fact
  graph_read_is : List ℕ → Room → Outcome Graph → Fact
  graph_writer_answers : GraphSlices → Verdict → Fact
  size_is : Design → PathList → ℕ → Result GraphCounts Refusal → Fact
  size_again_is : Design → Graph → PathList → ℕ → Result GraphCounts Refusal → Fact
  late_is : Design → Graph → ℕ → ℕ → Result (Option ℕ) Refusal → List ℤ → Fact

abbrev pub zeros : ℕ → List ℕ
zeros n = map (λ i. 0) (upto n 0)

abbrev pub room : ℕ → ℕ → ℕ → ℕ → ℕ → Room
room nodes endpoint from to via =
    record { nodes = nodes; endpoints = endpoint; starts = from; ends = to; names = via }

abbrev deck : Design → PathList → ℕ → Deck
deck D L T = record { design = D; list = L; allowed = T }

-- f of the four slices that `times` fills for the copies of R
abbrev of_times : {A : Type 0} → Design → ℕ → Graph → (List ℤ → List ℤ → List ℤ → List ℤ → A) → A
of_times D T R f =
    let S = slices_of R in
    f (arrivals_after D S T Passed []) (requireds_after D S T Passed []) (slacks_after D S T Passed [])
    (earliests_after D S Passed [])

abbrev copy_times : List ℤ → List ℤ → List ℤ → List ℤ → ℕ → Option Times
copy_times arrivals requireds slacks earliests c =
    let at : List ℤ → ℤ = λ ts. get_or ts c (pos 0) in
    SomeTimes (at arrivals) (at requireds) (at slacks) (at earliests)

-- the k-th of some lent lengths, and a slice of times of that length
abbrev lent : List ℕ → ℕ → ℕ
lent ls k = get_or ls k 0

abbrev slice : List ℕ → ℕ → List ℤ
slice ls k = map (λ i. pos 0) (upto (lent ls k) 0)

abbrev verdict_in : Outcome Deck → Verdict
verdict_in (made d) = Passed
verdict_in (refused r) = Err r

abbrev pub Holds : Fact → Type 0
Holds (graph_is D Ls R) = removed (design_graph D) Ls ≡ R
Holds (times_are D T Ls ts) =
    let R : Graph = removed (design_graph D) Ls in
    map (of_times D T R copy_times) (upto (length R.nodes) 0) ≡ ts
Holds (nodes_are D T Ls ts) =
    let R : Graph = removed (design_graph D) Ls in
    map (of_times D T R (node_times D.nodes R.nodes)) (upto (suc D.nodes) 0) ≡ ts
Holds (removal_is D r o) = remove_from_design D r ≡ o
Holds (again_is D G r o) = remove_from_graph D (slices_of G) r ≡ o
Holds (program_is s o) = program s ≡ o
Holds (c_call_is s n z) = c_call s (zeros n) ≡ z
Holds (c_room_is s n bs) = c_room s (zeros n) ≡ bs
Holds (packed_is x bs) = packed x ≡ bs
Holds (read_is bs r) = read_number bs 0 ≡ r
Holds (reader_answers s ls v) =
    verdict_in (deck_read s (lent ls 0) (lent ls 1) (lent ls 2) (lent ls 3) (lent ls 4) (lent ls 5) (lent ls 6)) ≡ v
Holds (times_answer D G T ls v) = test_times D (slices_of G) T (lent ls 0) (lent ls 1) (lent ls 2) (lent ls 3) ≡ v
Holds (records_answer n G ls ps v) =
    test_records n G.nodes (slice ls 0) (slice ls 1) (slice ls 2) (slice ls 3)
    (lent ps 0) (lent ps 1) (lent ps 2) (lent ps 3) (lent ps 4) ≡ v
Holds (packed_deck_is D L T bs) = packed_deck (deck D L T) ≡ bs
Holds (deck_writer_answers D L T v) = deck_write_tests (deck D L T) ≡ v
Holds (graph_read_is s R o) = graph_read s R ≡ o
Holds (graph_writer_answers S v) = graph_write_tests S ≡ v
Holds (size_is D L words a) = graph_answer (size_from_design D L words) ≡ a
Holds (size_again_is D G L words a) = graph_answer (size_from_graph D (slices_of G) L words) ≡ a
Holds (late_is D G T n a ts) =
    let S = slices_of G in
    let answer = late_or_not D S T n in
    ◌≡◌ {A = (x : Result (Option ℕ) Refusal) × List ℤ} (answer, arrivals_after_late D S T answer (map (λ i. pos 77) (upto n 0))) (a, ts)

infixr 4 ◌also◌
pub data All : List Fact → Type 0 where
  none : All []
  ◌also◌ : {f : Fact} {fs : List Fact} → Holds f → All fs → All (f ∷ fs)

-- Deck A: its design, its list, its true graph and its bytes with T 10.
abbrev pub deck_a : Design
deck_a =
    design 5 (0 ∷ 1 ∷ 2 ∷ 2 ∷ []) (2 ∷ 2 ∷ 3 ∷ 4 ∷ []) (pos 3 ∷ pos 5 ∷ pos 2 ∷ pos 1 ∷ [])
    (pos 3 ∷ pos 5 ∷ pos 2 ∷ pos 1 ∷ []) []

abbrev pub list_a : PathList
list_a = path_list (1 ∷ 2 ∷ []) (2 ∷ [])

abbrev pub graph_a : Graph
graph_a =
    graph (0 ∷ 1 ∷ 2 ∷ 2 ∷ 3 ∷ 4 ∷ []) (0 ∷ 0 ∷ 0 ∷ 0 ∷ 1 ∷ 1 ∷ [])
    (edge 0 2 0 ∷ edge 1 2 1 ∷ edge 0 3 0 ∷ edge 3 4 2 ∷ edge 2 5 3 ∷ [])

abbrev pub bytes_a : List ℕ
bytes_a = 5 ∷ 4 ∷ 0 ∷ 2 ∷ 6 ∷ 6 ∷ 1 ∷ 2 ∷ 10 ∷ 10 ∷ 2 ∷ 3 ∷ 4 ∷ 4 ∷ 2 ∷ 4 ∷ 2 ∷ 2 ∷ 1 ∷ 2 ∷ 1 ∷ 2 ∷ 0 ∷ 10 ∷ []

-- Deck A with some nodes marked, and its true graph with other endpoint numbers.
abbrev pub marking : List ℕ → Design
marking marked = design deck_a.nodes deck_a.starts deck_a.ends deck_a.early deck_a.late marked

abbrev pub ending : List ℕ → Graph
ending endpoints = graph graph_a.nodes endpoints graph_a.edges

-- The other designs, lists and graphs that rows are about.
abbrev pub no_paths : PathList
no_paths = path_list [] []

abbrev pub no_nodes : Design
no_nodes = design 0 [] [] [] [] []

abbrev pub one_node : Design
one_node = design 1 [] [] [] [] []

abbrev pub chain : Design
chain = design 3 (0 ∷ 1 ∷ []) (1 ∷ 2 ∷ []) (pos 1 ∷ pos 1 ∷ []) (pos 1 ∷ pos 1 ∷ []) []

abbrev pub design_m8 : Design
design_m8 =
    design 6 (0 ∷ 1 ∷ 2 ∷ 3 ∷ 4 ∷ 3 ∷ []) (2 ∷ 2 ∷ 3 ∷ 4 ∷ 5 ∷ 5 ∷ [])
    (pos 1 ∷ pos 1 ∷ pos 1 ∷ pos 1 ∷ pos 1 ∷ pos 1 ∷ []) (pos 1 ∷ pos 1 ∷ pos 1 ∷ pos 1 ∷ pos 1 ∷ pos 1 ∷ []) []

abbrev pub list_m8 : PathList
list_m8 = path_list (0 ∷ 2 ∷ 3 ∷ 1 ∷ 2 ∷ 3 ∷ 4 ∷ []) (3 ∷ 4 ∷ [])

abbrev pub design_m9 : Design
design_m9 = design 2 (0 ∷ []) (1 ∷ []) (negsuc 3 ∷ []) (negsuc 3 ∷ []) []

-- two edges for each step of a chain
abbrev pub parallel : Design
parallel =
    design 4 (0 ∷ 0 ∷ 1 ∷ 1 ∷ 2 ∷ 2 ∷ []) (1 ∷ 1 ∷ 2 ∷ 2 ∷ 3 ∷ 3 ∷ [])
    (pos 1 ∷ pos 2 ∷ pos 1 ∷ pos 2 ∷ pos 1 ∷ pos 2 ∷ []) (pos 1 ∷ pos 2 ∷ pos 1 ∷ pos 2 ∷ pos 1 ∷ pos 2 ∷ []) []

-- two ways from node 2 to node 4, by one edge and by two
abbrev pub two_lengths : Design
two_lengths =
    design 5 (0 ∷ 1 ∷ 2 ∷ 3 ∷ 2 ∷ []) (2 ∷ 2 ∷ 3 ∷ 4 ∷ 4 ∷ []) (pos 1 ∷ pos 1 ∷ pos 1 ∷ pos 1 ∷ pos 1 ∷ [])
    (pos 1 ∷ pos 1 ∷ pos 1 ∷ pos 1 ∷ pos 1 ∷ []) []

-- node 1 has no edge
abbrev pub isolated : Design
isolated = design 3 (0 ∷ []) (2 ∷ []) (pos 1 ∷ []) (pos 1 ∷ []) []

abbrev pub forked : Design
forked = design 4 (0 ∷ 1 ∷ 1 ∷ []) (1 ∷ 2 ∷ 3 ∷ []) (pos 0 ∷ pos 0 ∷ pos 0 ∷ []) (pos 0 ∷ pos 0 ∷ pos 0 ∷ []) []

-- of it: two copies of the source; and the same with its first two edges exchanged
abbrev pub split_source : Graph
split_source =
    graph (0 ∷ 0 ∷ 1 ∷ 1 ∷ 2 ∷ 3 ∷ []) (0 ∷ 0 ∷ 0 ∷ 0 ∷ 1 ∷ 1 ∷ [])
    (edge 0 2 0 ∷ edge 1 3 0 ∷ edge 2 4 1 ∷ edge 3 5 2 ∷ [])

abbrev pub out_of_order : Graph
out_of_order =
    graph (0 ∷ 0 ∷ 1 ∷ 1 ∷ 2 ∷ 3 ∷ []) (0 ∷ 0 ∷ 0 ∷ 0 ∷ 1 ∷ 1 ∷ [])
    (edge 1 3 0 ∷ edge 0 2 0 ∷ edge 2 4 1 ∷ edge 3 5 2 ∷ [])

-- edge 0 falls; and with it an edge to a node that is not there
abbrev pub falling : Design
falling = design 2 (1 ∷ []) (0 ∷ []) (pos 0 ∷ []) (pos 0 ∷ []) []

abbrev pub falling_and_unknown : Design
falling_and_unknown = design 2 (1 ∷ 0 ∷ []) (0 ∷ 2 ∷ []) (pos 0 ∷ pos 0 ∷ []) (pos 0 ∷ pos 0 ∷ []) []

-- into node 3 the latest edge, the one of the smallest late delay, and the earliest
abbrev pub joined : Design
joined =
    design 5 (0 ∷ 1 ∷ 2 ∷ 3 ∷ []) (3 ∷ 3 ∷ 3 ∷ 4 ∷ []) (pos 2 ∷ pos 1 ∷ negsuc 4 ∷ pos 1 ∷ [])
    (pos 9 ∷ pos 3 ∷ pos 6 ∷ pos 2 ∷ []) []

-- decks/hold.txt
abbrev pub hold : Design
hold =
    design 5 (0 ∷ 1 ∷ 0 ∷ 2 ∷ 2 ∷ []) (1 ∷ 2 ∷ 2 ∷ 3 ∷ 4 ∷ []) (pos 60 ∷ pos 10 ∷ pos 10 ∷ pos 5 ∷ pos 8 ∷ [])
    (pos 90 ∷ pos 15 ∷ pos 15 ∷ pos 10 ∷ pos 12 ∷ []) []

abbrev pub list_hold : PathList
list_hold = path_list (2 ∷ 3 ∷ []) (2 ∷ [])

-- 15 at edge 0; at edge 1, with delays below 0; at edge 0, with 14 and with 13 at edge 1
abbrev pub early_above : Design
early_above = design 2 (0 ∷ []) (1 ∷ []) (pos 5 ∷ []) (pos 4 ∷ []) []

abbrev pub early_above_below_zero : Design
early_above_below_zero = design 2 (0 ∷ 0 ∷ []) (1 ∷ 1 ∷ []) (negsuc 4 ∷ negsuc 3 ∷ []) (negsuc 3 ∷ negsuc 4 ∷ []) []

abbrev pub early_above_and_far : Design
early_above_and_far = design 2 (0 ∷ 0 ∷ []) (1 ∷ 1 ∷ []) (pos 5 ∷ pos 0 ∷ []) (pos 4 ∷ pos 1000001 ∷ []) []

abbrev pub early_above_and_falling : Design
early_above_and_falling = design 2 (0 ∷ 1 ∷ []) (1 ∷ 0 ∷ []) (pos 5 ∷ pos 0 ∷ []) (pos 4 ∷ pos 0 ∷ []) []

-- the deck program's room
abbrev pub ample : Room
ample = room 512 512 2048 2048 2048

-- deck A with node 2 marked, and its true graph; with edge 3's delays -1; and without the edges out of node 2
abbrev pub observed : Design
observed = marking (2 ∷ [])

abbrev pub observed_graph : Graph
observed_graph = ending (0 ∷ 0 ∷ 1 ∷ 0 ∷ 1 ∷ 1 ∷ [])

abbrev pub observed_back : Design
observed_back =
    design 5 (0 ∷ 1 ∷ 2 ∷ 2 ∷ []) (2 ∷ 2 ∷ 3 ∷ 4 ∷ []) (pos 3 ∷ pos 5 ∷ pos 2 ∷ negsuc 0 ∷ [])
    (pos 3 ∷ pos 5 ∷ pos 2 ∷ negsuc 0 ∷ []) (2 ∷ [])

abbrev pub observed_alone : Graph
observed_alone = graph (0 ∷ 1 ∷ 2 ∷ []) (0 ∷ 0 ∷ 1 ∷ []) (edge 0 2 0 ∷ edge 1 2 1 ∷ [])

-- chain with its source marked
abbrev pub observed_source : Design
observed_source = design 3 (0 ∷ 1 ∷ []) (1 ∷ 2 ∷ []) (pos 1 ∷ pos 1 ∷ []) (pos 1 ∷ pos 1 ∷ []) (0 ∷ [])

-- observed_back with nothing marked, and its true graph without edge 2
abbrev pub back : Design
back =
    design 5 (0 ∷ 1 ∷ 2 ∷ 2 ∷ []) (2 ∷ 2 ∷ 3 ∷ 4 ∷ []) (pos 3 ∷ pos 5 ∷ pos 2 ∷ negsuc 0 ∷ [])
    (pos 3 ∷ pos 5 ∷ pos 2 ∷ negsuc 0 ∷ []) []

abbrev pub back_graph : Graph
back_graph = graph (0 ∷ 1 ∷ 2 ∷ 4 ∷ []) (0 ∷ 0 ∷ 0 ∷ 1 ∷ []) (edge 0 2 0 ∷ edge 1 2 1 ∷ edge 2 3 3 ∷ [])

-- an early delay far below the late one
abbrev pub quick : Design
quick = design 3 (0 ∷ 1 ∷ []) (1 ∷ 2 ∷ []) (negsuc 8 ∷ negsuc 2 ∷ []) (pos 8 ∷ negsuc 2 ∷ []) []

abbrev pub marked : List Fact
marked =
    -- M1: deck A
    graph_is deck_a (list_a ∷ []) graph_a
    ∷ times_are deck_a 10 (list_a ∷ [])
    (SomeTimes (pos 0) (pos 5) (pos 5) (pos 0) ∷ SomeTimes (pos 0) (pos 4) (pos 4) (pos 0) ∷
    SomeTimes (pos 5) (pos 9) (pos 4) (pos 3) ∷ SomeTimes (pos 3) (pos 8) (pos 5) (pos 3) ∷
    SomeTimes (pos 5) (pos 10) (pos 5) (pos 5) ∷ SomeTimes (pos 6) (pos 10) (pos 4) (pos 4) ∷ [])
    ∷ nodes_are deck_a 10 (list_a ∷ [])
    (SomeTimes (pos 0) (pos 5) (pos 5) (pos 0) ∷ SomeTimes (pos 0) (pos 4) (pos 4) (pos 0) ∷
    SomeTimes (pos 5) (pos 8) (pos 4) (pos 3) ∷ SomeTimes (pos 5) (pos 10) (pos 5) (pos 5) ∷
    SomeTimes (pos 6) (pos 10) (pos 4) (pos 4) ∷ None ∷ [])
    ∷ program_is bytes_a (made graph_a)
    ∷ c_call_is bytes_a 64 (pos 29)
    ∷ c_room_is bytes_a 64
    (6 ∷ 0 ∷ 0 ∷ 1 ∷ 0 ∷ 2 ∷ 0 ∷ 2 ∷ 0 ∷ 3 ∷ 1 ∷ 4 ∷ 1 ∷ 5 ∷ 0 ∷ 2 ∷ 0 ∷ 1 ∷ 2 ∷ 1 ∷ 0 ∷ 3 ∷ 0 ∷ 3 ∷ 4 ∷ 2 ∷ 2 ∷ 5 ∷ 3 ∷
    zeros 35)
    -- M2: no nodes
    ∷ graph_is no_nodes (no_paths ∷ []) (graph [] [] [])
    -- M3: one node, no edges
    ∷ graph_is one_node (no_paths ∷ []) (graph (0 ∷ []) (1 ∷ []) [])
    ∷ times_are one_node 7 (no_paths ∷ []) (SomeTimes (pos 0) (pos 7) (pos 7) (pos 0) ∷ [])
    -- M4: A with only path 2; a graph handed back uncut does not meet it
    ∷ graph_is deck_a (path_list (2 ∷ []) (1 ∷ []) ∷ []) back_graph
    ∷ nodes_are deck_a 10 (path_list (2 ∷ []) (1 ∷ []) ∷ [])
    (SomeTimes (pos 0) (pos 6) (pos 6) (pos 0) ∷ SomeTimes (pos 0) (pos 4) (pos 4) (pos 0) ∷
    SomeTimes (pos 5) (pos 9) (pos 4) (pos 3) ∷ None ∷ SomeTimes (pos 6) (pos 10) (pos 4) (pos 4) ∷ None ∷ [])
    -- M5: A with 0,2 and 1,2: the graph of M4
    ∷ graph_is deck_a (path_list (0 ∷ 2 ∷ 1 ∷ 2 ∷ []) (2 ∷ 2 ∷ []) ∷ []) back_graph
    -- M6: A with 1,2 and 0,3; then by parts, which differs by a renumbering of node 2
    ∷ graph_is deck_a (path_list (1 ∷ 2 ∷ 0 ∷ 3 ∷ []) (2 ∷ 2 ∷ []) ∷ [])
    (graph (0 ∷ 1 ∷ 2 ∷ 2 ∷ 3 ∷ 4 ∷ []) (0 ∷ 0 ∷ 0 ∷ 0 ∷ 1 ∷ 1 ∷ []) (edge 0 2 0 ∷ edge 1 3 1 ∷ edge 2 4 2 ∷
    edge 3 5 3 ∷ []))
    ∷ graph_is deck_a (list_a ∷ path_list (0 ∷ 3 ∷ []) (2 ∷ []) ∷ [])
    (graph (0 ∷ 1 ∷ 2 ∷ 2 ∷ 3 ∷ 4 ∷ []) (0 ∷ 0 ∷ 0 ∷ 0 ∷ 1 ∷ 1 ∷ []) (edge 1 2 1 ∷ edge 0 3 0 ∷ edge 3 4 2 ∷
    edge 2 5 3 ∷ []))
    -- M7: a list that removes everything
    ∷ graph_is chain (path_list (0 ∷ 1 ∷ []) (2 ∷ []) ∷ []) (graph [] [] [])
    -- M8: following only the long tail leaves edge 0 in a false path
    ∷ graph_is design_m8 (list_m8 ∷ [])
    (graph (0 ∷ 1 ∷ 2 ∷ 3 ∷ 5 ∷ []) (0 ∷ 0 ∷ 0 ∷ 0 ∷ 1 ∷ []) (edge 0 2 0 ∷ edge 1 2 1 ∷ edge 2 3 2 ∷ edge 3 4 5 ∷ []))
    ∷ nodes_are design_m8 10 (list_m8 ∷ [])
    (SomeTimes (pos 0) (pos 7) (pos 7) (pos 0) ∷ SomeTimes (pos 0) (pos 7) (pos 7) (pos 0) ∷
    SomeTimes (pos 1) (pos 8) (pos 7) (pos 1) ∷ SomeTimes (pos 2) (pos 9) (pos 7) (pos 2) ∷ None ∷
    SomeTimes (pos 3) (pos 10) (pos 7) (pos 3) ∷ None ∷ [])
    -- M9: an arrival below 0; a largest arrival that starts from 0 does not meet it
    ∷ times_are design_m9 10 (no_paths ∷ [])
    (SomeTimes (pos 0) (pos 14) (pos 14) (pos 0) ∷ SomeTimes (negsuc 3) (pos 10) (pos 14) (negsuc 3) ∷ [])
    -- M10: packed numbers
    ∷ packed_is 127 (127 ∷ [])
    ∷ packed_is 128 (128 ∷ 1 ∷ [])
    ∷ read_is (128 ∷ 0 ∷ []) (Err (refusal 2 0))
    ∷ packed_is 4294967295 (255 ∷ 255 ∷ 255 ∷ 255 ∷ 15 ∷ [])
    ∷ read_is (255 ∷ 255 ∷ 255 ∷ 255 ∷ 16 ∷ []) (Err (refusal 2 0))
    ∷ read_is (128 ∷ []) (Err (refusal 1 1))
    -- Inner tails, with parallel edges: shuts out only the longest tail of each path
    ∷ graph_is parallel (path_list (0 ∷ 2 ∷ 4 ∷ []) (3 ∷ []) ∷ [])
    (graph (0 ∷ 1 ∷ 1 ∷ 2 ∷ 2 ∷ 3 ∷ []) (0 ∷ 0 ∷ 0 ∷ 0 ∷ 0 ∷ 1 ∷ []) (edge 0 1 0 ∷ edge 0 1 1 ∷ edge 0 2 1 ∷
    edge 1 3 2 ∷ edge 1 3 3 ∷ edge 2 4 2 ∷ edge 1 4 3 ∷ edge 4 5 4 ∷ edge 3 5 5 ∷ []))
    -- Marks by length before edges: mark 4 comes before mark 2,3 at node 2; shuts out the dictionary order alone
    ∷ graph_is two_lengths (path_list (0 ∷ 4 ∷ 0 ∷ 2 ∷ 3 ∷ []) (2 ∷ 3 ∷ []) ∷ [])
    (graph (1 ∷ 2 ∷ 2 ∷ 3 ∷ 4 ∷ []) (0 ∷ 0 ∷ 0 ∷ 0 ∷ 1 ∷ []) (edge 0 1 1 ∷ edge 0 2 1 ∷ edge 2 3 2 ∷ edge 3 4 3 ∷
    edge 1 4 4 ∷ []))
    -- Parallel edges are two paths: shuts out paths as lists of nodes
    ∷ graph_is parallel (path_list (1 ∷ 3 ∷ []) (1 ∷ 1 ∷ []) ∷ [])
    (graph (0 ∷ 1 ∷ 2 ∷ 3 ∷ []) (0 ∷ 0 ∷ 0 ∷ 1 ∷ []) (edge 0 1 0 ∷ edge 1 2 2 ∷ edge 2 3 4 ∷ edge 2 3 5 ∷ []))
    -- An isolated node keeps its copy: shuts out copies by edges alone
    ∷ graph_is isolated (path_list (0 ∷ []) (1 ∷ []) ∷ []) (graph (1 ∷ []) (1 ∷ []) [])
    -- A listed path inside another, and one listed twice: shuts out a mark by the first path that fits
    ∷ graph_is design_m8 (path_list (0 ∷ 2 ∷ 3 ∷ 2 ∷ 3 ∷ 0 ∷ 2 ∷ 3 ∷ []) (3 ∷ 2 ∷ 3 ∷ []) ∷ [])
    (graph (0 ∷ 1 ∷ 2 ∷ 3 ∷ 5 ∷ []) (0 ∷ 0 ∷ 0 ∷ 0 ∷ 1 ∷ []) (edge 0 2 0 ∷ edge 1 2 1 ∷ edge 2 3 2 ∷ edge 3 4 5 ∷ []))
    -- Scratch: 8 words for 6 candidates, 2 listed edges and 4 edges, and one word less
    ∷ removal_is deck_a (removal list_a ample 96) (made graph_a)
    ∷ removal_is deck_a (removal list_a ample 95) (refused (refusal 31 0))
    -- Scratch for an earlier graph: 8 words for 8 candidates (2 copies of node 2), 2 listed edges and 5 edges, and one word less
    ∷ again_is deck_a graph_a (removal (path_list (0 ∷ 3 ∷ []) (2 ∷ [])) ample 120)
    (made (graph (0 ∷ 1 ∷ 2 ∷ 2 ∷ 3 ∷ 4 ∷ []) (0 ∷ 0 ∷ 0 ∷ 0 ∷ 1 ∷ 1 ∷ []) (edge 1 2 1 ∷ edge 0 3 0 ∷ edge 3 4 2 ∷
    edge 2 5 3 ∷ [])))
    ∷ again_is deck_a graph_a (removal (path_list (0 ∷ 3 ∷ []) (2 ∷ [])) ample 119) (refused (refusal 31 0))
    -- Scratch: 8 words for a node, and one word less; none for no nodes
    ∷ removal_is one_node (removal no_paths ample 8) (made (graph (0 ∷ []) (1 ∷ []) []))
    ∷ removal_is one_node (removal no_paths ample 7) (refused (refusal 31 0))
    ∷ removal_is no_nodes (removal no_paths ample 0) (made (graph [] [] []))
    -- Room: 5 copies on A; 4 edges on A; rooms that differ in length come before a bad edge
    ∷ removal_is deck_a (removal list_a (room 5 5 9 9 9) 96) (refused (refusal 33 0))
    ∷ removal_is deck_a (removal list_a (room 6 6 4 4 4) 96) (refused (refusal 34 0))
    ∷ removal_is falling (removal no_paths (room 6 6 4 3 4) 96) (refused (refusal 30 0))
    -- One number over everything before the next: 12 at edge 1 before 13 at edge 0; 23 at path 1 before 24 at path 0
    ∷ removal_is falling_and_unknown (removal no_paths ample 96) (refused (refusal 12 1))
    ∷ removal_is deck_a (removal (path_list (2 ∷ 1 ∷ 9 ∷ []) (2 ∷ 1 ∷ [])) ample 999) (refused (refusal_within 23 1 0))
    ∷ removal_is deck_a (removal (path_list (0 ∷ 2 ∷ 2 ∷ 1 ∷ []) (2 ∷ 2 ∷ [])) ample 999) (refused (refusal_within 24 1 1))
    -- Which edge of the path: 02's example, as the deck program has it; the C call's place is the path, 2, and not the index, 1
    ∷ program_is (5 ∷ 4 ∷ 0 ∷ 2 ∷ 6 ∷ 6 ∷ 1 ∷ 2 ∷ 10 ∷ 10 ∷ 2 ∷ 3 ∷ 4 ∷ 4 ∷ 2 ∷ 4 ∷ 2 ∷ 2 ∷ 1 ∷ 2 ∷ 2 ∷ 1 ∷ 0 ∷ 10 ∷ [])
    (refused (refusal_within 24 0 1))
    ∷ c_call_is (5 ∷ 4 ∷ 0 ∷ 2 ∷ 6 ∷ 6 ∷ 1 ∷ 2 ∷ 10 ∷ 10 ∷ 2 ∷ 3 ∷ 4 ∷ 4 ∷ 2 ∷ 4 ∷ 2 ∷ 2 ∷ 3 ∷ 2 ∷ 0 ∷ 2 ∷ 2 ∷ 1 ∷ 3 ∷ 2 ∷
    2 ∷ 1 ∷ 0 ∷ 10 ∷ []) 64
    (negsuc 535)
    -- 23: the first edge is unknown; the last; two are, in one path and then in two; one behind a break
    ∷ removal_is deck_a (removal (path_list (4 ∷ 2 ∷ []) (2 ∷ [])) ample 999) (refused (refusal_within 23 0 0))
    ∷ removal_is deck_a (removal (path_list (1 ∷ 0 ∷ 2 ∷ 4 ∷ []) (1 ∷ 3 ∷ [])) ample 999) (refused (refusal_within 23 1 2))
    ∷ removal_is deck_a (removal (path_list (1 ∷ 4 ∷ 9 ∷ []) (3 ∷ [])) ample 999) (refused (refusal_within 23 0 1))
    ∷ removal_is deck_a (removal (path_list (0 ∷ 4 ∷ 4 ∷ []) (2 ∷ 1 ∷ [])) ample 999) (refused (refusal_within 23 0 1))
    ∷ removal_is deck_a (removal (path_list (2 ∷ 1 ∷ 9 ∷ []) (3 ∷ [])) ample 999) (refused (refusal_within 23 0 2))
    -- 24: a break at index 1; at the last index; two breaks, in one path and then in two
    ∷ removal_is design_m8 (removal (path_list (1 ∷ 3 ∷ 4 ∷ []) (3 ∷ [])) ample 999) (refused (refusal_within 24 0 1))
    ∷ removal_is design_m8 (removal (path_list (0 ∷ 2 ∷ 0 ∷ 2 ∷ 3 ∷ 2 ∷ []) (2 ∷ 4 ∷ [])) ample 999)
    (refused (refusal_within 24 1 3))
    ∷ removal_is design_m8 (removal (path_list (0 ∷ 2 ∷ 0 ∷ 1 ∷ []) (4 ∷ [])) ample 999) (refused (refusal_within 24 0 2))
    ∷ removal_is design_m8 (removal (path_list (2 ∷ 3 ∷ 5 ∷ 1 ∷ 0 ∷ []) (3 ∷ 2 ∷ [])) ample 999)
    (refused (refusal_within 24 0 2))
    -- 22: an empty path behind a broken one, and behind one that names an unknown edge
    ∷ removal_is deck_a (removal (path_list (2 ∷ 1 ∷ []) (2 ∷ 0 ∷ [])) ample 999) (refused (refusal_within 22 1 0))
    ∷ removal_is deck_a (removal (path_list (2 ∷ 9 ∷ []) (2 ∷ 0 ∷ 0 ∷ [])) ample 999) (refused (refusal_within 22 1 0))
    -- Earliest arrivals: that of node 3 is not on the latest path, not of the smallest late delay, and below 0
    ∷ times_are joined 10 (no_paths ∷ [])
    (SomeTimes (pos 0) (negsuc 0) (negsuc 0) (pos 0) ∷ SomeTimes (pos 0) (pos 5) (pos 5) (pos 0) ∷
    SomeTimes (pos 0) (pos 2) (pos 2) (pos 0) ∷ SomeTimes (pos 9) (pos 8) (negsuc 0) (negsuc 4) ∷
    SomeTimes (pos 11) (pos 10) (negsuc 0) (negsuc 3) ∷ [])
    -- The path with the earliest arrival is false; then a node whose second copy is the earlier one
    ∷ times_are hold 150 (list_hold ∷ [])
    (SomeTimes (pos 0) (pos 33) (pos 33) (pos 0) ∷ SomeTimes (pos 90) (pos 123) (pos 33) (pos 60) ∷
    SomeTimes (pos 105) (pos 138) (pos 33) (pos 10) ∷ SomeTimes (pos 105) (pos 140) (pos 35) (pos 70) ∷
    SomeTimes (pos 115) (pos 150) (pos 35) (pos 75) ∷ SomeTimes (pos 117) (pos 150) (pos 33) (pos 18) ∷ [])
    ∷ nodes_are hold 150 (list_hold ∷ [])
    (SomeTimes (pos 0) (pos 33) (pos 33) (pos 0) ∷ SomeTimes (pos 90) (pos 123) (pos 33) (pos 60) ∷
    SomeTimes (pos 105) (pos 138) (pos 33) (pos 10) ∷ SomeTimes (pos 115) (pos 150) (pos 35) (pos 75) ∷
    SomeTimes (pos 117) (pos 150) (pos 33) (pos 18) ∷ None ∷ [])
    ∷ nodes_are hold 150 (path_list (2 ∷ 3 ∷ 1 ∷ 4 ∷ []) (2 ∷ 2 ∷ []) ∷ [])
    (SomeTimes (pos 0) (pos 35) (pos 35) (pos 0) ∷ SomeTimes (pos 90) (pos 125) (pos 35) (pos 60) ∷
    SomeTimes (pos 105) (pos 138) (pos 35) (pos 10) ∷ SomeTimes (pos 115) (pos 150) (pos 35) (pos 75) ∷
    SomeTimes (pos 27) (pos 150) (pos 123) (pos 18) ∷ None ∷ [])
    -- In the deck early first: read the other way, edge 0 gives 15
    ∷ program_is (5 ∷ 4 ∷ 0 ∷ 3 ∷ 4 ∷ 18 ∷ 1 ∷ 3 ∷ 2 ∷ 6 ∷ 2 ∷ 3 ∷ 9 ∷ 12 ∷ 3 ∷ 4 ∷ 2 ∷ 4 ∷ 0 ∷ 0 ∷ 10 ∷ [])
    (made (graph (0 ∷ 1 ∷ 2 ∷ 3 ∷ 4 ∷ []) (0 ∷ 0 ∷ 0 ∷ 0 ∷ 1 ∷ []) (edge 0 3 0 ∷ edge 1 3 1 ∷ edge 2 3 2 ∷ edge 3 4 3 ∷
    [])))
    -- 30: early delays of another length, and late ones; the edge falls, too
    ∷ removal_is (design 2 (1 ∷ []) (0 ∷ []) [] (pos 0 ∷ []) []) (removal no_paths ample 96) (refused (refusal 30 0))
    ∷ removal_is (design 2 (1 ∷ []) (0 ∷ []) (pos 0 ∷ []) [] []) (removal no_paths ample 96) (refused (refusal 30 0))
    -- 30: slices of the deck reader, of times and of records that have one place less or more, the last of each and another
    ∷ reader_answers bytes_a (4 ∷ 4 ∷ 4 ∷ 4 ∷ 2 ∷ 1 ∷ 0 ∷ []) Passed
    ∷ reader_answers bytes_a (4 ∷ 4 ∷ 4 ∷ 5 ∷ 2 ∷ 1 ∷ 0 ∷ []) (Err (refusal 30 0))
    ∷ reader_answers bytes_a (4 ∷ 4 ∷ 3 ∷ 4 ∷ 2 ∷ 1 ∷ 0 ∷ []) (Err (refusal 30 0))
    ∷ times_answer deck_a graph_a 10 (6 ∷ 6 ∷ 6 ∷ 6 ∷ []) Passed
    ∷ times_answer deck_a graph_a 10 (6 ∷ 6 ∷ 6 ∷ 5 ∷ []) (Err (refusal 30 0))
    ∷ times_answer deck_a graph_a 10 (6 ∷ 7 ∷ 6 ∷ 6 ∷ []) (Err (refusal 30 0))
    ∷ records_answer 5 graph_a (6 ∷ 6 ∷ 6 ∷ 6 ∷ []) (5 ∷ 5 ∷ 5 ∷ 5 ∷ 5 ∷ []) Passed
    ∷ records_answer 5 graph_a (6 ∷ 6 ∷ 6 ∷ 5 ∷ []) (5 ∷ 5 ∷ 5 ∷ 5 ∷ 5 ∷ []) (Err (refusal 30 0))
    ∷ records_answer 5 graph_a (6 ∷ 6 ∷ 6 ∷ 6 ∷ []) (5 ∷ 5 ∷ 5 ∷ 5 ∷ 6 ∷ []) (Err (refusal 30 0))
    ∷ records_answer 5 graph_a (6 ∷ 6 ∷ 6 ∷ 6 ∷ []) (4 ∷ 5 ∷ 5 ∷ 5 ∷ 5 ∷ []) (Err (refusal 30 0))
    -- 14: by the early delay alone, and by the late one
    ∷ removal_is (design 2 (0 ∷ []) (1 ∷ []) (negsuc 1000000 ∷ []) (pos 0 ∷ []) []) (removal no_paths ample 96)
    (refused (refusal 14 0))
    ∷ removal_is (design 2 (0 ∷ []) (1 ∷ []) (pos 0 ∷ []) (pos 1000001 ∷ []) []) (removal no_paths ample 96)
    (refused (refusal 14 0))
    -- 15: with delays above 0 and below, and not where they are equal; 14 and 13 at a later edge come before it
    ∷ removal_is early_above (removal no_paths ample 96) (refused (refusal 15 0))
    ∷ removal_is early_above_below_zero (removal no_paths ample 96) (refused (refusal 15 1))
    ∷ removal_is (design 2 (0 ∷ []) (1 ∷ []) (pos 5 ∷ []) (pos 5 ∷ []) []) (removal no_paths ample 96)
    (made (graph (0 ∷ 1 ∷ []) (0 ∷ 1 ∷ []) (edge 0 1 0 ∷ [])))
    ∷ removal_is early_above_and_far (removal no_paths ample 96) (refused (refusal 14 1))
    ∷ removal_is early_above_and_falling (removal no_paths ample 96) (refused (refusal 13 1))
    -- An earlier graph that is not the design: two copies of a source, which removal keeps apart
    ∷ again_is forked split_source (removal (path_list (0 ∷ 1 ∷ []) (2 ∷ [])) ample 999)
    (made (graph (0 ∷ 1 ∷ 3 ∷ []) (0 ∷ 0 ∷ 1 ∷ []) (edge 0 1 0 ∷ edge 1 2 2 ∷ [])))
    -- An earlier graph that is not well formed: two edges out of order
    ∷ again_is forked out_of_order (removal (path_list (0 ∷ 1 ∷ []) (2 ∷ [])) ample 999) (refused (refusal 32 0))
    -- Deck A with node 2 marked: paths end at copy 2 too, and nothing else changes; shuts out marked nodes ignored, or never passed, and 1 at copy 3
    ∷ graph_is observed (list_a ∷ []) observed_graph
    ∷ program_is (5 ∷ 4 ∷ 0 ∷ 2 ∷ 6 ∷ 6 ∷ 1 ∷ 2 ∷ 10 ∷ 10 ∷ 2 ∷ 3 ∷ 4 ∷ 4 ∷ 2 ∷ 4 ∷ 2 ∷ 2 ∷ 1 ∷ 2 ∷ 1 ∷ 2 ∷ 1 ∷ 2 ∷ 10 ∷
    [])
    (made observed_graph)
    ∷ c_room_is (5 ∷ 4 ∷ 0 ∷ 2 ∷ 6 ∷ 6 ∷ 1 ∷ 2 ∷ 10 ∷ 10 ∷ 2 ∷ 3 ∷ 4 ∷ 4 ∷ 2 ∷ 4 ∷ 2 ∷ 2 ∷ 1 ∷ 2 ∷ 1 ∷ 2 ∷ 1 ∷ 2 ∷ 10 ∷
    []) 64
    (6 ∷ 0 ∷ 0 ∷ 1 ∷ 0 ∷ 2 ∷ 1 ∷ 2 ∷ 0 ∷ 3 ∷ 1 ∷ 4 ∷ 1 ∷ 5 ∷ 0 ∷ 2 ∷ 0 ∷ 1 ∷ 2 ∷ 1 ∷ 0 ∷ 3 ∷ 0 ∷ 3 ∷ 4 ∷ 2 ∷ 2 ∷ 5 ∷ 3 ∷
    zeros 35)
    -- Required at copy 2 is 9, from further on, and not T alone; with edge 3's delays -1 it is 10, by T, where further on alone gives 11
    ∷ times_are observed 10 (list_a ∷ [])
    (SomeTimes (pos 0) (pos 5) (pos 5) (pos 0) ∷ SomeTimes (pos 0) (pos 4) (pos 4) (pos 0) ∷
    SomeTimes (pos 5) (pos 9) (pos 4) (pos 3) ∷ SomeTimes (pos 3) (pos 8) (pos 5) (pos 3) ∷
    SomeTimes (pos 5) (pos 10) (pos 5) (pos 5) ∷ SomeTimes (pos 6) (pos 10) (pos 4) (pos 4) ∷ [])
    ∷ times_are observed_back 10 (list_a ∷ [])
    (SomeTimes (pos 0) (pos 5) (pos 5) (pos 0) ∷ SomeTimes (pos 0) (pos 5) (pos 5) (pos 0) ∷
    SomeTimes (pos 5) (pos 10) (pos 5) (pos 3) ∷ SomeTimes (pos 3) (pos 8) (pos 5) (pos 3) ∷
    SomeTimes (pos 5) (pos 10) (pos 5) (pos 5) ∷ SomeTimes (pos 4) (pos 10) (pos 6) (pos 2) ∷ [])
    ∷ nodes_are observed_back 10 (list_a ∷ [])
    (SomeTimes (pos 0) (pos 5) (pos 5) (pos 0) ∷ SomeTimes (pos 0) (pos 5) (pos 5) (pos 0) ∷
    SomeTimes (pos 5) (pos 8) (pos 5) (pos 3) ∷ SomeTimes (pos 5) (pos 10) (pos 5) (pos 5) ∷
    SomeTimes (pos 4) (pos 10) (pos 6) (pos 2) ∷ None ∷ [])
    -- A marked source: the path without edges is there beside the one that goes on, and when that is false
    ∷ graph_is observed_source (no_paths ∷ []) (graph (0 ∷ 1 ∷ 2 ∷ []) (1 ∷ 0 ∷ 1 ∷ []) (edge 0 1 0 ∷ edge 1 2 1 ∷ []))
    ∷ graph_is observed_source (path_list (0 ∷ 1 ∷ []) (2 ∷ []) ∷ []) (graph (0 ∷ []) (1 ∷ []) [])
    ∷ times_are observed_source 10 (path_list (0 ∷ 1 ∷ []) (2 ∷ []) ∷ []) (SomeTimes (pos 0) (pos 10) (pos 10) (pos 0) ∷ [])
    -- An isolated node marked; a sink marked; all nodes marked
    ∷ graph_is (design 3 (0 ∷ []) (2 ∷ []) (pos 1 ∷ []) (pos 1 ∷ []) (1 ∷ [])) (path_list (0 ∷ []) (1 ∷ []) ∷ [])
    (graph (1 ∷ []) (1 ∷ []) [])
    ∷ graph_is (marking (3 ∷ [])) (list_a ∷ []) graph_a
    ∷ graph_is (marking (0 ∷ 1 ∷ 2 ∷ 3 ∷ 4 ∷ [])) (list_a ∷ []) (ending (1 ∷ 1 ∷ 1 ∷ 0 ∷ 1 ∷ 1 ∷ []))
    -- A listed path that ends at a marked node; that starts at one; two that pass one, so that its first copy has 1 and no edge out of it
    ∷ graph_is observed (path_list (0 ∷ []) (1 ∷ []) ∷ [])
    (graph (1 ∷ 2 ∷ 3 ∷ 4 ∷ []) (0 ∷ 1 ∷ 1 ∷ 1 ∷ []) (edge 0 1 1 ∷ edge 1 2 2 ∷ edge 1 3 3 ∷ []))
    ∷ graph_is observed (path_list (2 ∷ []) (1 ∷ []) ∷ [])
    (graph (0 ∷ 1 ∷ 2 ∷ 4 ∷ []) (0 ∷ 0 ∷ 1 ∷ 1 ∷ []) (edge 0 2 0 ∷ edge 1 2 1 ∷ edge 2 3 3 ∷ []))
    ∷ graph_is observed (path_list (0 ∷ 2 ∷ 0 ∷ 3 ∷ []) (2 ∷ 2 ∷ []) ∷ [])
    (graph (0 ∷ 1 ∷ 2 ∷ 2 ∷ 2 ∷ 3 ∷ 4 ∷ []) (0 ∷ 0 ∷ 1 ∷ 0 ∷ 0 ∷ 1 ∷ 1 ∷ []) (edge 0 2 0 ∷ edge 1 2 1 ∷ edge 1 3 1 ∷
    edge 1 4 1 ∷ edge 3 5 2 ∷ edge 4 6 3 ∷ []))
    -- All paths but those that end at a marked node removed: its copy stays, with 1 and no edge out, and is well formed; then removed by parts
    ∷ graph_is observed (path_list (2 ∷ 3 ∷ []) (1 ∷ 1 ∷ []) ∷ []) observed_alone
    ∷ again_is observed observed_alone (removal no_paths ample 999) (made observed_alone)
    ∷ graph_is observed (path_list (2 ∷ 3 ∷ []) (1 ∷ 1 ∷ []) ∷ path_list (0 ∷ []) (1 ∷ []) ∷ [])
    (graph (1 ∷ 2 ∷ []) (0 ∷ 1 ∷ []) (edge 0 1 1 ∷ []))
    ∷ times_are observed 10 (path_list (2 ∷ 3 ∷ []) (1 ∷ 1 ∷ []) ∷ [])
    (SomeTimes (pos 0) (pos 7) (pos 7) (pos 0) ∷ SomeTimes (pos 0) (pos 5) (pos 5) (pos 0) ∷
    SomeTimes (pos 5) (pos 10) (pos 5) (pos 3) ∷ [])
    -- 16: not below n, at index 0 and at 1; not rising; equal; the first of two
    ∷ removal_is (marking (5 ∷ [])) (removal no_paths ample 999) (refused (refusal 16 0))
    ∷ removal_is (marking (1 ∷ 5 ∷ [])) (removal no_paths ample 999) (refused (refusal 16 1))
    ∷ removal_is (marking (3 ∷ 2 ∷ [])) (removal no_paths ample 999) (refused (refusal 16 1))
    ∷ removal_is (marking (2 ∷ 2 ∷ [])) (removal no_paths ample 999) (refused (refusal 16 1))
    ∷ removal_is (marking (0 ∷ 3 ∷ 3 ∷ 9 ∷ [])) (removal no_paths ample 999) (refused (refusal 16 2))
    -- 16 after 15; before 20 and before 24
    ∷ removal_is (design 2 (0 ∷ []) (1 ∷ []) (pos 5 ∷ []) (pos 4 ∷ []) (2 ∷ [])) (removal no_paths ample 999)
    (refused (refusal 15 0))
    ∷ removal_is (marking (2 ∷ 2 ∷ [])) (removal (path_list [] (zeros 1025)) ample 999) (refused (refusal 16 1))
    ∷ removal_is (marking (2 ∷ 2 ∷ [])) (removal (path_list (2 ∷ 1 ∷ []) (2 ∷ [])) ample 999) (refused (refusal 16 1))
    -- 16 of the deck's reader: more marked nodes than n, with place n, before 36; 36 at one more than the table has; which nodes is not judged
    ∷ reader_answers (5 ∷ 0 ∷ 0 ∷ 6 ∷ []) (0 ∷ 0 ∷ 0 ∷ 0 ∷ 0 ∷ 0 ∷ 9 ∷ []) (Err (refusal 16 5))
    ∷ reader_answers (5 ∷ 0 ∷ 0 ∷ 6 ∷ []) (0 ∷ 0 ∷ 0 ∷ 0 ∷ 0 ∷ 0 ∷ 2 ∷ []) (Err (refusal 16 5))
    ∷ reader_answers (5 ∷ 0 ∷ 0 ∷ 3 ∷ []) (0 ∷ 0 ∷ 0 ∷ 0 ∷ 0 ∷ 0 ∷ 2 ∷ []) (Err (refusal 36 0))
    ∷ reader_answers (5 ∷ 0 ∷ 0 ∷ 2 ∷ 9 ∷ 9 ∷ 10 ∷ []) (0 ∷ 0 ∷ 0 ∷ 0 ∷ 0 ∷ 0 ∷ 2 ∷ []) Passed
    ∷ program_is (208 ∷ 15 ∷ 0 ∷ 0 ∷ 129 ∷ 8 ∷ []) (refused (refusal 36 0))
    ∷ program_is (208 ∷ 15 ∷ 0 ∷ 0 ∷ 209 ∷ 15 ∷ []) (refused (refusal 16 2000))
    ∷ program_is (5 ∷ 0 ∷ 0 ∷ 2 ∷ 9 ∷ 9 ∷ 10 ∷ []) (refused (refusal 16 0))
    -- 16 of the deck's writer: more marked nodes than n, with place n, after 20; which nodes is not judged; in the deck they stand before T
    ∷ deck_writer_answers (design 2 [] [] [] [] (0 ∷ 1 ∷ 1 ∷ [])) no_paths 10 (Err (refusal 16 2))
    ∷ deck_writer_answers (design 0 [] [] [] [] (0 ∷ [])) (path_list [] (zeros 1025)) 10 (Err (refusal 20 0))
    ∷ deck_writer_answers (design 2 [] [] [] [] (9 ∷ 9 ∷ [])) no_paths 10 Passed
    ∷ packed_deck_is observed list_a 10
    (5 ∷ 4 ∷ 0 ∷ 2 ∷ 6 ∷ 6 ∷ 1 ∷ 2 ∷ 10 ∷ 10 ∷ 2 ∷ 3 ∷ 4 ∷ 4 ∷ 2 ∷ 4 ∷ 2 ∷ 2 ∷ 1 ∷ 2 ∷ 1 ∷ 2 ∷ 1 ∷ 2 ∷ 10 ∷ [])
    -- 32: copy 3 has 2; copy 0, of no sink and no marked node, has 1; copies 2 and 3, both of node 2, have 1; sink copy 4 has 0
    ∷ again_is observed (ending (0 ∷ 0 ∷ 1 ∷ 2 ∷ 1 ∷ 1 ∷ [])) (removal no_paths ample 999) (refused (refusal 32 0))
    ∷ again_is observed (ending (1 ∷ 0 ∷ 1 ∷ 0 ∷ 1 ∷ 1 ∷ [])) (removal no_paths ample 999) (refused (refusal 32 0))
    ∷ again_is observed (ending (0 ∷ 0 ∷ 1 ∷ 1 ∷ 1 ∷ 1 ∷ [])) (removal no_paths ample 999) (refused (refusal 32 0))
    ∷ again_is observed (ending (0 ∷ 0 ∷ 1 ∷ 0 ∷ 0 ∷ 1 ∷ [])) (removal no_paths ample 999) (refused (refusal 32 0))
    -- 32: copy 3 has no edge in; copy 3 has 0 and no edge out; and well formed where paths end at copy 3 and not at copy 2
    ∷ again_is observed (graph (0 ∷ 1 ∷ 2 ∷ 2 ∷ 3 ∷ 4 ∷ []) (0 ∷ 0 ∷ 1 ∷ 0 ∷ 1 ∷ 1 ∷ []) (edge 0 2 0 ∷ edge 1 2 1 ∷
    edge 3 4 2 ∷ edge 2 5 3 ∷ [])) (removal no_paths ample 999)
    (refused (refusal 32 0))
    ∷ again_is observed (graph (0 ∷ 1 ∷ 2 ∷ 2 ∷ 4 ∷ []) (0 ∷ 0 ∷ 1 ∷ 0 ∷ 1 ∷ []) (edge 0 2 0 ∷ edge 1 2 1 ∷ edge 0 3 0 ∷
    edge 2 4 3 ∷ [])) (removal no_paths ample 999)
    (refused (refusal 32 0))
    ∷ again_is observed (ending (0 ∷ 0 ∷ 0 ∷ 1 ∷ 1 ∷ 1 ∷ [])) (removal no_paths ample 999)
    (made (ending (0 ∷ 0 ∷ 0 ∷ 1 ∷ 1 ∷ 1 ∷ [])))
    -- 32 of the graph's reader: an endpoint number above 1, as soon as it is met; node first; then 32 of the writer, after 30
    ∷ graph_read_is (1 ∷ 0 ∷ 2 ∷ 0 ∷ []) (room 1 1 0 0 0) (refused (refusal 32 0))
    ∷ graph_read_is (1 ∷ 0 ∷ 2 ∷ 128 ∷ 0 ∷ []) (room 1 1 0 0 0) (refused (refusal 32 0))
    ∷ graph_read_is (2 ∷ 7 ∷ 1 ∷ 9 ∷ 0 ∷ 0 ∷ []) (room 2 2 0 0 0) (made (graph (7 ∷ 9 ∷ []) (1 ∷ 0 ∷ []) []))
    ∷ graph_writer_answers (graph_slices (7 ∷ 9 ∷ []) (1 ∷ 2 ∷ []) [] [] []) (Err (refusal 32 0))
    ∷ graph_writer_answers (graph_slices (7 ∷ 9 ∷ []) (1 ∷ 1 ∷ []) [] [] []) Passed
    ∷ graph_writer_answers (graph_slices (7 ∷ 9 ∷ []) (1 ∷ 2 ∷ []) (5 ∷ []) [] []) (Err (refusal 30 0))
    -- 30: as many endpoint numbers as nodes, in the room, in the earlier graph, in times, in the graph's reader and in its writer
    ∷ removal_is observed (removal list_a (room 6 7 5 5 5) 999) (refused (refusal 30 0))
    ∷ again_is observed (ending (0 ∷ 0 ∷ 1 ∷ 0 ∷ 1 ∷ [])) (removal no_paths ample 999) (refused (refusal 30 0))
    ∷ times_answer observed (ending (0 ∷ 0 ∷ 1 ∷ 0 ∷ 1 ∷ 1 ∷ 1 ∷ [])) 10 (6 ∷ 6 ∷ 6 ∷ 6 ∷ []) (Err (refusal 30 0))
    ∷ graph_read_is (1 ∷ 0 ∷ 2 ∷ 0 ∷ []) (room 1 2 0 0 0) (refused (refusal 30 0))
    ∷ graph_writer_answers (graph_slices (7 ∷ 9 ∷ []) (2 ∷ []) [] [] []) (Err (refusal 30 0))
    -- Told of deck A; with path 2 alone, which shuts out candidates for copies; of a list that removes everything; of no nodes
    ∷ size_is deck_a list_a 96 (Counts 6 5)
    ∷ size_is deck_a (path_list (2 ∷ []) (1 ∷ [])) 999 (Counts 4 3)
    ∷ size_is chain (path_list (0 ∷ 1 ∷ []) (2 ∷ [])) 999 (Counts 0 0)
    ∷ size_is no_nodes no_paths 0 (Counts 0 0)
    -- Told of an earlier graph: of deck A's, by which M6 has one edge less; of one with two copies of a source; of one that ends at a marked node
    ∷ size_again_is deck_a graph_a (path_list (0 ∷ 3 ∷ []) (2 ∷ [])) 120 (Counts 6 4)
    ∷ size_again_is forked split_source (path_list (0 ∷ 1 ∷ []) (2 ∷ [])) 999 (Counts 3 2)
    ∷ size_again_is observed observed_alone no_paths 999 (Counts 3 2)
    -- Telling asks removal's scratch: one word less, of the design and of an earlier graph
    ∷ size_is deck_a list_a 95 (Err (refusal 31 0))
    ∷ size_again_is deck_a graph_a (path_list (0 ∷ 3 ∷ []) (2 ∷ [])) 119 (Err (refusal 31 0))
    -- Telling is lent no room, but 30 measures the rest: early delays, lengths of paths, endpoint numbers; 13 before 24, 24 before 32, 32 before 31
    ∷ size_is (design 2 (1 ∷ []) (0 ∷ []) [] (pos 0 ∷ []) []) no_paths 96 (Err (refusal 30 0))
    ∷ size_is deck_a (path_list (1 ∷ 2 ∷ []) (1 ∷ [])) 999 (Err (refusal 30 0))
    ∷ size_again_is observed (ending (0 ∷ 0 ∷ 1 ∷ 0 ∷ 1 ∷ [])) no_paths 999 (Err (refusal 30 0))
    ∷ size_is falling (path_list (0 ∷ 0 ∷ []) (2 ∷ [])) 96 (Err (refusal 13 0))
    ∷ size_again_is forked out_of_order (path_list (1 ∷ 0 ∷ []) (2 ∷ [])) 0 (Err (refusal_within 24 0 1))
    ∷ size_again_is forked out_of_order (path_list (0 ∷ 1 ∷ []) (2 ∷ [])) 0 (Err (refusal 32 0))
    -- Deck A: nothing late with T 10, nor with T 6, an arrival of just T; late at its last copy with T 5; at copy 4, and copy 5 is unchanged, with T 4
    ∷ late_is deck_a graph_a 10 6 OnTime (pos 0 ∷ pos 0 ∷ pos 5 ∷ pos 3 ∷ pos 5 ∷ pos 6 ∷ [])
    ∷ late_is deck_a graph_a 6 6 OnTime (pos 0 ∷ pos 0 ∷ pos 5 ∷ pos 3 ∷ pos 5 ∷ pos 6 ∷ [])
    ∷ late_is deck_a graph_a 5 6 (Late 5) (pos 0 ∷ pos 0 ∷ pos 5 ∷ pos 3 ∷ pos 5 ∷ pos 6 ∷ [])
    ∷ late_is deck_a graph_a 4 6 (Late 4) (pos 0 ∷ pos 0 ∷ pos 5 ∷ pos 3 ∷ pos 5 ∷ pos 77 ∷ [])
    -- Late at copy 2, of a marked node with edges out, before copies 4 and 5; where no path ends at it, an arrival above T there is not late; late where one does
    ∷ late_is observed observed_graph 4 6 (Late 2) (pos 0 ∷ pos 0 ∷ pos 5 ∷ pos 77 ∷ pos 77 ∷ pos 77 ∷ [])
    ∷ late_is back back_graph 4 4 OnTime (pos 0 ∷ pos 0 ∷ pos 5 ∷ pos 4 ∷ [])
    ∷ late_is observed_back (graph (0 ∷ 1 ∷ 2 ∷ 4 ∷ []) (0 ∷ 0 ∷ 1 ∷ 1 ∷ []) (edge 0 2 0 ∷ edge 1 2 1 ∷ edge 2 3 3 ∷
    [])) 4 4 (Late 2)
    (pos 0 ∷ pos 0 ∷ pos 5 ∷ pos 77 ∷ [])
    -- T 0: an arrival below 0; one of just 0, at a source where paths end; no copies
    ∷ late_is design_m9 (graph (0 ∷ 1 ∷ []) (0 ∷ 1 ∷ []) (edge 0 1 0 ∷ [])) 0 2 OnTime (pos 0 ∷ negsuc 3 ∷ [])
    ∷ late_is one_node (graph (0 ∷ []) (1 ∷ []) []) 0 1 OnTime (pos 0 ∷ [])
    ∷ late_is no_nodes (graph [] [] []) 0 0 OnTime []
    -- By late delays: late with T 4, and on time with T 5; by early ones both would be on time
    ∷ late_is quick (graph (0 ∷ 1 ∷ 2 ∷ []) (0 ∷ 0 ∷ 1 ∷ []) (edge 0 1 0 ∷ edge 1 2 1 ∷ [])) 4 3 (Late 2)
    (pos 0 ∷ pos 8 ∷ pos 5 ∷ [])
    ∷ late_is quick (graph (0 ∷ 1 ∷ 2 ∷ []) (0 ∷ 0 ∷ 1 ∷ []) (edge 0 1 0 ∷ edge 1 2 1 ∷ [])) 5 3 OnTime
    (pos 0 ∷ pos 8 ∷ pos 5 ∷ [])
    -- Late or not is refused as times are, and then no place changes: 30 for a place more and for one less, before 13; 13 before 25; 25 before 32; 32
    ∷ late_is deck_a graph_a 10 7 (Err (refusal 30 0))
    (pos 77 ∷ pos 77 ∷ pos 77 ∷ pos 77 ∷ pos 77 ∷ pos 77 ∷ pos 77 ∷ [])
    ∷ late_is deck_a graph_a 10 5 (Err (refusal 30 0)) (pos 77 ∷ pos 77 ∷ pos 77 ∷ pos 77 ∷ pos 77 ∷ [])
    ∷ late_is falling graph_a 10 7 (Err (refusal 30 0))
    (pos 77 ∷ pos 77 ∷ pos 77 ∷ pos 77 ∷ pos 77 ∷ pos 77 ∷ pos 77 ∷ [])
    ∷ late_is falling graph_a 1000000001 6 (Err (refusal 13 0))
    (pos 77 ∷ pos 77 ∷ pos 77 ∷ pos 77 ∷ pos 77 ∷ pos 77 ∷ [])
    ∷ late_is forked out_of_order 1000000001 6 (Err (refusal 25 0))
    (pos 77 ∷ pos 77 ∷ pos 77 ∷ pos 77 ∷ pos 77 ∷ pos 77 ∷ [])
    ∷ late_is forked out_of_order 0 6 (Err (refusal 32 0)) (pos 77 ∷ pos 77 ∷ pos 77 ∷ pos 77 ∷ pos 77 ∷ pos 77 ∷ [])
    -- M6's paths in the other order, and one of them three times: the graph of M6; M8's paths in the other order, one of them twice: the graph of M8
    ∷ graph_is deck_a (path_list (0 ∷ 3 ∷ 1 ∷ 2 ∷ []) (2 ∷ 2 ∷ []) ∷ [])
    (graph (0 ∷ 1 ∷ 2 ∷ 2 ∷ 3 ∷ 4 ∷ []) (0 ∷ 0 ∷ 0 ∷ 0 ∷ 1 ∷ 1 ∷ []) (edge 0 2 0 ∷ edge 1 3 1 ∷ edge 2 4 2 ∷
    edge 3 5 3 ∷ []))
    ∷ graph_is deck_a (path_list (1 ∷ 2 ∷ 0 ∷ 3 ∷ 1 ∷ 2 ∷ 1 ∷ 2 ∷ []) (2 ∷ 2 ∷ 2 ∷ 2 ∷ []) ∷ [])
    (graph (0 ∷ 1 ∷ 2 ∷ 2 ∷ 3 ∷ 4 ∷ []) (0 ∷ 0 ∷ 0 ∷ 0 ∷ 1 ∷ 1 ∷ []) (edge 0 2 0 ∷ edge 1 3 1 ∷ edge 2 4 2 ∷
    edge 3 5 3 ∷ []))
    ∷ graph_is design_m8 (path_list (1 ∷ 2 ∷ 3 ∷ 4 ∷ 0 ∷ 2 ∷ 3 ∷ 0 ∷ 2 ∷ 3 ∷ []) (4 ∷ 3 ∷ 3 ∷ []) ∷ [])
    (graph (0 ∷ 1 ∷ 2 ∷ 3 ∷ 5 ∷ []) (0 ∷ 0 ∷ 0 ∷ 0 ∷ 1 ∷ []) (edge 0 2 0 ∷ edge 1 2 1 ∷ edge 2 3 2 ∷ edge 3 4 5 ∷ []))
    -- From an earlier graph: 0,3 and 2 in either order, with a repeat
    ∷ graph_is deck_a (list_a ∷ path_list (0 ∷ 3 ∷ 2 ∷ []) (2 ∷ 1 ∷ []) ∷ [])
    (graph (1 ∷ 2 ∷ 4 ∷ []) (0 ∷ 0 ∷ 1 ∷ []) (edge 0 1 1 ∷ edge 1 2 3 ∷ []))
    ∷ graph_is deck_a (list_a ∷ path_list (2 ∷ 0 ∷ 3 ∷ 2 ∷ []) (1 ∷ 2 ∷ 1 ∷ []) ∷ [])
    (graph (1 ∷ 2 ∷ 4 ∷ []) (0 ∷ 0 ∷ 1 ∷ []) (edge 0 1 1 ∷ edge 1 2 3 ∷ []))
    -- Repeats count for 31: M6 with just the words that it asks, and with 1,2 twice it asks 24 more
    ∷ removal_is deck_a (removal (path_list (1 ∷ 2 ∷ 0 ∷ 3 ∷ []) (2 ∷ 2 ∷ [])) ample 120)
    (made (graph (0 ∷ 1 ∷ 2 ∷ 2 ∷ 3 ∷ 4 ∷ []) (0 ∷ 0 ∷ 0 ∷ 0 ∷ 1 ∷ 1 ∷ []) (edge 0 2 0 ∷ edge 1 3 1 ∷ edge 2 4 2 ∷
    edge 3 5 3 ∷ [])))
    ∷ removal_is deck_a (removal (path_list (1 ∷ 2 ∷ 0 ∷ 3 ∷ 1 ∷ 2 ∷ []) (2 ∷ 2 ∷ 2 ∷ [])) ample 120)
    (refused (refusal 31 0))
    ∷ removal_is deck_a (removal (path_list (1 ∷ 2 ∷ 0 ∷ 3 ∷ 1 ∷ 2 ∷ []) (2 ∷ 2 ∷ 2 ∷ [])) ample 144)
    (made (graph (0 ∷ 1 ∷ 2 ∷ 2 ∷ 3 ∷ 4 ∷ []) (0 ∷ 0 ∷ 0 ∷ 0 ∷ 1 ∷ 1 ∷ []) (edge 0 2 0 ∷ edge 1 3 1 ∷ edge 2 4 2 ∷
    edge 3 5 3 ∷ [])))
    -- Lists longer than deck A's, against M1: an earliest arrival rises; a required time and a slack rise, and node 3 has none; arrivals fall, and node 1 has none
    ∷ nodes_are deck_a 10 (path_list (1 ∷ 2 ∷ 0 ∷ 3 ∷ []) (2 ∷ 2 ∷ []) ∷ [])
    (SomeTimes (pos 0) (pos 5) (pos 5) (pos 0) ∷ SomeTimes (pos 0) (pos 4) (pos 4) (pos 0) ∷
    SomeTimes (pos 5) (pos 8) (pos 4) (pos 3) ∷ SomeTimes (pos 5) (pos 10) (pos 5) (pos 5) ∷
    SomeTimes (pos 6) (pos 10) (pos 4) (pos 6) ∷ None ∷ [])
    ∷ nodes_are deck_a 10 (path_list (1 ∷ 2 ∷ 2 ∷ []) (2 ∷ 1 ∷ []) ∷ [])
    (SomeTimes (pos 0) (pos 6) (pos 6) (pos 0) ∷ SomeTimes (pos 0) (pos 4) (pos 4) (pos 0) ∷
    SomeTimes (pos 5) (pos 9) (pos 4) (pos 3) ∷ None ∷ SomeTimes (pos 6) (pos 10) (pos 4) (pos 4) ∷ None ∷ [])
    ∷ nodes_are deck_a 10 (path_list (1 ∷ 2 ∷ 1 ∷ []) (2 ∷ 1 ∷ []) ∷ [])
    (SomeTimes (pos 0) (pos 5) (pos 5) (pos 0) ∷ None ∷ SomeTimes (pos 3) (pos 8) (pos 5) (pos 3) ∷
    SomeTimes (pos 5) (pos 10) (pos 5) (pos 5) ∷ SomeTimes (pos 4) (pos 10) (pos 6) (pos 4) ∷ None ∷ [])
    ∷ []

pub marked_hold : All marked
unfolding flat_map design_graph edges_in edges_out runs_to runs_from complete_runs permitted tails mark permitted_runs copies
    path_ends joins true_graph well_formed arrival_at required_at slack_at earliest_at node_times arrivals_after requireds_after
    slacks_after earliests_after packed_in groups_in read_number write_answer written_room read_deck graph_numbers packed_graph
    design_tests list_tests candidates scratch_test room_tests test_deck remove_from_design remove_from_graph program_removal
    program c_call c_room deck_read test_times test_late late_copies late_or_not arrivals_after_late test_records deck_numbers
    packed_deck deck_write_tests read_graph graph_read graph_write_tests size_from_design size_from_graph
marked_hold =
    refl also refl also refl also refl also refl also refl also refl also refl also refl also refl also refl also
    refl also refl also refl also refl also refl also refl also refl also refl also refl also refl also refl also
    refl also refl also refl also refl also refl also refl also refl also refl also refl also refl also refl also
    refl also refl also refl also refl also refl also refl also refl also refl also refl also refl also refl also
    refl also refl also refl also refl also refl also refl also refl also refl also refl also refl also refl also
    refl also refl also refl also refl also refl also refl also refl also refl also refl also refl also refl also
    refl also refl also refl also refl also refl also refl also refl also refl also refl also refl also refl also
    refl also refl also refl also refl also refl also refl also refl also refl also refl also refl also refl also
    refl also refl also refl also refl also refl also refl also refl also refl also refl also refl also refl also
    refl also refl also refl also refl also refl also refl also refl also refl also refl also refl also refl also
    refl also refl also refl also refl also refl also refl also refl also refl also refl also refl also refl also
    refl also refl also refl also refl also refl also refl also refl also refl also refl also refl also refl also
    refl also refl also refl also refl also refl also refl also refl also refl also refl also refl also refl also
    refl also refl also refl also refl also refl also refl also refl also refl also refl also refl also refl also
    refl also refl also refl also refl also refl also refl also refl also refl also refl also refl also refl also
    refl also refl also refl also refl also refl also refl also refl also refl also refl also refl also refl also
    refl also refl also refl also refl also refl also none
