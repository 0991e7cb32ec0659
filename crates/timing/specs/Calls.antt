-- For each call its answer and what each lent buffer holds afterwards, for every input. "Slice calls test 30, then 10 to
-- 14 [02: 16], 20 to 25, 32, 31, 33, 34, 35, one number over everything before the next, leaving out tests of
-- what a call does not take." "A refusal changes no result buffer." "Result places past the result are unchanged."
use Rattle.std.specs.Prelude.{ℕ, ◌+◌, ◌*◌, cond, ◌||◌, List, [], ◌∷◌, map, eqb, leb, ℤ, pos, neg_ℤ, length, Option, Result, Ok, Err, Some, None}
use Rattle.timing.specs.Answers.{Verdict, Passed, Counts, DeckFound, Late, OnTime}
use Rattle.timing.specs.declared.DeckCounts.{DeckCounts}
use Rattle.timing.specs.declared.GraphCounts.{GraphCounts}
use Rattle.timing.specs.declared.Times.{Times}
use Rattle.timing.specs.declared.NodeRecord.{NodeRecord}
use Rattle.timing.specs.declared.Refusal.{Refusal}
use Rattle.timing.specs.Lists.{placed, upto}
use Rattle.timing.specs.Graphs.{Design, edge_early, edge_late, Graph, graph, edges_of, design_graph}
use Rattle.timing.specs.Marks.{PathList, path_list, paths_of}
use Rattle.timing.specs.TrueGraphs.{true_graph}
use Rattle.timing.specs.Times.{arrival_at, required_at, slack_at, earliest_at, late_copies, node_record}
use Rattle.timing.specs.Numbers.{write_answer, written_room}
use Rattle.timing.specs.Parsing.{Parsed, found, stopped}
use Rattle.timing.specs.Decks.{Deck, Tables, read_deck}
use Rattle.timing.specs.GraphBytes.{packed_graph, read_graph}
use Rattle.timing.specs.Refusals.{refusal, ◌then◌}
use Rattle.timing.specs.Tests.{same_sizes, edge_sizes, time_sizes, design_sizes, list_sizes, node_count, design_counts, design_tests, list_counts, list_tests, allowed_test, graph_test, graph_counts, endpoint_test, marked_count, scratch_test, Room, room_sizes, room_tests}

-- a true graph as it is lent: the node and the endpoint number of each copy, and three slices of edges
pub record GraphSlices : Type 0 where
  pub nodes : List ℕ
  pub endpoints : List ℕ
  pub starts : List ℕ
  pub ends : List ℕ
  pub names : List ℕ

abbrev pub graph_slices : List ℕ → List ℕ → List ℕ → List ℕ → List ℕ → GraphSlices
graph_slices nodes endpoints starts ends names =
    record { nodes = nodes; endpoints = endpoints; starts = starts; ends = ends; names = names }

abbrev pub graph_of : GraphSlices → Graph
graph_of S = graph S.nodes S.endpoints (edges_of S.starts S.ends S.names)

abbrev pub slices_of : Graph → GraphSlices
slices_of G =
    graph_slices G.nodes G.endpoints (map (λ e. e.start) G.edges) (map (λ e. e.end) G.edges) (map (λ e. e.name) G.edges)

-- the lengths of the five slices of a graph or a room
abbrev pub room_of : GraphSlices → Room
room_of S =
    record {
      nodes = length S.nodes;
      endpoints = length S.endpoints;
      starts = length S.starts;
      ends = length S.ends;
      names = length S.names;
    }

abbrev pub graph_sizes : GraphSlices → Verdict
graph_sizes S = room_sizes (room_of S)

-- The tests of a design; of a design and a list; of a deck's design, list and T.
unfoldable pub test_design : Design → Verdict
test_design D = design_sizes D then design_tests D

unfoldable pub test_list : Design → PathList → Verdict
test_list D L = design_sizes D then list_sizes L then design_tests D then list_tests D L

unfoldable pub test_deck : Design → PathList → ℕ → Verdict
test_deck D L T = design_sizes D then list_sizes L then design_tests D then list_tests D L then allowed_test T

-- What a call makes, and where it refuses.
pub data Outcome (A : Type 0) : Type 0 where
  made : A → Outcome A
  refused : Refusal → Outcome A

abbrev pub outcome : {A : Type 0} → Verdict → A → Outcome A
outcome Passed x = made x
outcome (Err r) x = refused r

-- what a lent buffer holds afterwards, where part f of what is made goes there
abbrev pub filled : {A B : Type 0} → (A → List B) → Outcome A → List B → List B
filled f (made x) room = placed (f x) room
filled f (refused r) room = room

-- Removal: "each with its own list of paths, room and scratch".
pub record Removal : Type 0 where
  pub list : PathList
  pub room : Room
  pub scratch : ℕ

abbrev pub removal : PathList → Room → ℕ → Removal
removal L R words = record { list = L; room = R; scratch = words }

-- the same from what a call is lent: the list's two slices, the room's five and the scratch
abbrev pub lent_removal : List ℕ → List ℕ → List ℕ → List ℕ → List ℕ → List ℕ → List ℕ → List ℕ → Removal
lent_removal listed lengths nodes endpoints starts ends names scratch =
    removal (path_list listed lengths) (room_of (graph_slices nodes endpoints starts ends names)) (length scratch)

-- the result of a removal from a graph, tested for scratch and room
abbrev pub removal_tests : Design → Graph → Removal → Verdict
removal_tests D G r = scratch_test D G r.list r.scratch then room_tests r.room (true_graph G (paths_of r.list))

unfoldable pub remove_from_design : Design → Removal → Outcome Graph
remove_from_design D r =
    let G = design_graph D in
    outcome
    (design_sizes D then list_sizes r.list then room_sizes r.room
    then design_tests D then list_tests D r.list then removal_tests D G r)
    (true_graph G (paths_of r.list))

unfoldable pub remove_from_graph : Design → GraphSlices → Removal → Outcome Graph
remove_from_graph D S r =
    let G = graph_of S in
    outcome
    (design_sizes D then list_sizes r.list then graph_sizes S then room_sizes r.room
    then design_tests D then list_tests D r.list then graph_test D G then removal_tests D G r)
    (true_graph G (paths_of r.list))

-- "One call tells how many copies and edges the result has" (02, request 8): what it answers, and leaves in the scratch, is what removal does in
-- the largest room, so that 33 or 34 come "only where the result passes 16,384 copies or 65,536 edges". It is lent no room; ℕ is the words of its scratch.
abbrev pub largest_room : Room
largest_room = record { nodes = 16384; endpoints = 16384; starts = 65536; ends = 65536; names = 65536 }

unfoldable pub size_from_design : Design → PathList → ℕ → Outcome Graph
size_from_design D L words = remove_from_design D (removal L largest_room words)

unfoldable pub size_from_graph : Design → GraphSlices → PathList → ℕ → Outcome Graph
size_from_graph D S L words = remove_from_graph D S (removal L largest_room words)

-- what a removal answers: the counts of its result, or its refusal; and the same from a verdict and counts alone
abbrev pub graph_answer : Outcome Graph → Result GraphCounts Refusal
graph_answer (made G) = Counts (length G.nodes) (length G.edges)
graph_answer (refused r) = Err r

abbrev pub counts_answer : Verdict → ℕ → ℕ → Result GraphCounts Refusal
counts_answer Passed copies edges = Counts copies edges
counts_answer (Err r) copies edges = Err r

-- the room afterwards
abbrev pub nodes_after : Outcome Graph → List ℕ → List ℕ
nodes_after o room = filled (λ G. (slices_of G).nodes) o room

abbrev pub endpoints_after : Outcome Graph → List ℕ → List ℕ
endpoints_after o room = filled (λ G. (slices_of G).endpoints) o room

abbrev pub starts_after : Outcome Graph → List ℕ → List ℕ
starts_after o room = filled (λ G. (slices_of G).starts) o room

abbrev pub ends_after : Outcome Graph → List ℕ → List ℕ
ends_after o room = filled (λ G. (slices_of G).ends) o room

abbrev pub names_after : Outcome Graph → List ℕ → List ℕ
names_after o room = filled (λ G. (slices_of G).names) o room

-- "Scratch is all zero after success and after 33, 34 or 35, and unchanged after the others."
abbrev pub scratch_after : {A : Type 0} → Outcome A → List ℕ → List ℕ
scratch_after (made x) s = map (λ w. 0) s
scratch_after (refused r) s = cond (eqb r.number 33 || eqb r.number 34 || eqb r.number 35) (map (λ w. 0) s) s

-- The tests of a design, a true graph and T, where `lent` is 30 for the slices that times go into.
abbrev pub timing_tests : Design → GraphSlices → ℕ → Verdict → Verdict
timing_tests D S T lent =
    design_sizes D then graph_sizes S then lent then design_tests D then allowed_test T then graph_test D (graph_of S)

-- Times of a design, a true graph and T, into four lent slices.
unfoldable pub test_times : Design → GraphSlices → ℕ → ℕ → ℕ → ℕ → ℕ → Verdict
test_times D S T arrivals requireds slacks earliests = timing_tests D S T (time_sizes (length S.nodes) arrivals requireds slacks earliests)

-- a slice with one place for each of n copies or nodes, afterwards: what f says of each
abbrev pub each_after : {A : Type 0} → Verdict → (ℕ → A) → ℕ → List A → List A
each_after Passed f n room = map f (upto n 0)
each_after (Err r) f n room = room

unfoldable pub arrivals_after : Design → GraphSlices → ℕ → Verdict → List ℤ → List ℤ
arrivals_after D S T v ts = each_after v (arrival_at (edge_late D) (pos T) (graph_of S)) (length S.nodes) ts

unfoldable pub requireds_after : Design → GraphSlices → ℕ → Verdict → List ℤ → List ℤ
requireds_after D S T v ts = each_after v (required_at (edge_late D) (pos T) (graph_of S)) (length S.nodes) ts

unfoldable pub slacks_after : Design → GraphSlices → ℕ → Verdict → List ℤ → List ℤ
slacks_after D S T v ts = each_after v (slack_at (edge_late D) (pos T) (graph_of S)) (length S.nodes) ts

unfoldable pub earliests_after : Design → GraphSlices → Verdict → List ℤ → List ℤ
earliests_after D S v ts = each_after v (earliest_at (edge_early D) (graph_of S)) (length S.nodes) ts

-- "Late or not" (02, request 10), of a design, a true graph and T, into one lent slice of arrivals "with a place for each copy": "30, 10 to 16, 25
-- and 32 as for times"
unfoldable pub test_late : Design → GraphSlices → ℕ → ℕ → Verdict
test_late D S T arrivals = let copies = length S.nodes in timing_tests D S T (same_sizes copies copies arrivals)

-- "the lowest copy where paths end with an arrival above T", "or that nothing is late"
abbrev pub lowest_late : Verdict → List ℕ → Result (Option ℕ) Refusal
lowest_late Passed [] = OnTime
lowest_late Passed (c ∷ cs) = Late c
lowest_late (Err r) cs = Err r

-- the answer, from what the tests answered; and from the length of the lent slice
abbrev pub late_answer : Design → GraphSlices → ℕ → Verdict → Result (Option ℕ) Refusal
late_answer D S T tested = lowest_late tested (late_copies (edge_late D) (pos T) (graph_of S))

unfoldable pub late_or_not : Design → GraphSlices → ℕ → ℕ → Result (Option ℕ) Refusal
late_or_not D S T arrivals = late_answer D S T (test_late D S T arrivals)

-- how many arrivals it writes: those up to the late copy, since "places after the returned copy are unchanged"; all where nothing is late; none
-- after a refusal
abbrev pub arrivals_written : ℕ → Result (Option ℕ) Refusal → ℕ
arrivals_written copies (Late c) = c + 1
arrivals_written copies OnTime = copies
arrivals_written copies (Err r) = 0

-- the lent slice afterwards
unfoldable pub arrivals_after_late : Design → GraphSlices → ℕ → Result (Option ℕ) Refusal → List ℤ → List ℤ
arrivals_after_late D S T answer ts =
    placed (map (arrival_at (edge_late D) (pos T) (graph_of S)) (upto (arrivals_written (length S.nodes) answer) 0)) ts

-- The record of a node, from n and what is known of each copy.
abbrev pub record_answer : ℕ → List ℕ → List ℤ → List ℤ → List ℤ → List ℤ → ℕ → Verdict → Result NodeRecord Refusal
record_answer n nodes ats rts sts ets v Passed = Ok (node_record n nodes ats rts sts ets v)
record_answer n nodes ats rts sts ets v (Err r) = Err r

unfoldable pub record_of : ℕ → List ℕ → List ℤ → List ℤ → List ℤ → List ℤ → ℕ → Result NodeRecord Refusal
record_of n nodes ats rts sts ets v =
    record_answer n nodes ats rts sts ets v
    (time_sizes (length nodes) (length ats) (length rts) (length sts) (length ets) then node_count n)

-- The records of all nodes, from n and what is known of each copy, into five lent slices with one place for each node: 1 where it has
-- times and 0 where it has none; its arrival, its required time, its slack and its earliest arrival, which are 0 where it has none.
unfoldable pub test_records : ℕ → List ℕ → List ℤ → List ℤ → List ℤ → List ℤ → ℕ → ℕ → ℕ → ℕ → ℕ → Verdict
test_records n nodes ats rts sts ets known arrivals requireds slacks earliests =
    time_sizes (length nodes) (length ats) (length rts) (length sts) (length ets)
    then same_sizes n n known then time_sizes n arrivals requireds slacks earliests then node_count n

abbrev pub has_times : Option Times → ℕ
has_times (Some x) = 1
has_times None = 0

abbrev pub arrival_of : Option Times → ℤ
arrival_of (Some x) = x.arrival
arrival_of None = pos 0

abbrev pub required_of : Option Times → ℤ
required_of (Some x) = x.required
required_of None = pos 0

abbrev pub slack_of : Option Times → ℤ
slack_of (Some x) = x.slack
slack_of None = pos 0

abbrev pub earliest_of : Option Times → ℤ
earliest_of (Some x) = x.earliest
earliest_of None = pos 0

-- the slices afterwards, where f is what the slice tells of a record's times
unfoldable pub records_after : {A : Type 0} → (Option Times → A) → ℕ → List ℕ → List ℤ → List ℤ → List ℤ → List ℤ → Verdict → List A → List A
records_after f n nodes ats rts sts ets tested room = each_after tested (λ v. f (node_record n nodes ats rts sts ets v).times) n room

-- Reading: what was parsed, and then what is done with it.
abbrev pub parsed : {A : Type 0} → Parsed A → Outcome A
parsed (found x at) = made x
parsed (stopped r) = refused r

-- a test before reading
abbrev pub guarded : {A : Type 0} → Verdict → Outcome A → Outcome A
guarded Passed o = o
guarded (Err r) o = refused r

-- The deck reader, from the bytes and the lengths of the lent tables: starts, ends, early and late delays; listed edges; lengths; marked nodes.
unfoldable pub deck_read : List ℕ → ℕ → ℕ → ℕ → ℕ → ℕ → ℕ → ℕ → Outcome Deck
deck_read s starts ends early late listed lengths marked =
    guarded (edge_sizes starts ends early late)
    (parsed (read_deck s (record { edges = starts; listed = listed; paths = lengths; marked = marked })))

abbrev pub deck_answer : Outcome Deck → Result DeckCounts Refusal
deck_answer (made d) =
    DeckFound d.design.nodes (length d.design.starts) (length d.list.edges) (length d.list.lengths)
    (length d.design.marked) d.allowed
deck_answer (refused r) = Err r

-- Writing: the tests, and then 35.
abbrev pub writing : Verdict → List ℕ → List ℕ → Result ℕ Refusal
writing Passed room bs = write_answer room 0 bs
writing (Err r) room bs = Err r

abbrev pub room_after_writing : Verdict → List ℕ → List ℕ → List ℕ
room_after_writing Passed room bs = written_room room 0 bs
room_after_writing (Err r) room bs = room

-- "Writers test only 30, the counts (10, 11, 20, 21; 32 for a graph) and 35"; "after the counts" 16 for more marked nodes than n, and 32
-- for an endpoint number above 1 (02, request 6)
unfoldable pub deck_write_tests : Deck → Verdict
deck_write_tests d =
    design_sizes d.design then list_sizes d.list
    then design_counts d.design then list_counts d.list then marked_count d.design.nodes (length d.design.marked)

unfoldable pub graph_write_tests : GraphSlices → Verdict
graph_write_tests S = graph_sizes S then graph_counts (graph_of S) then endpoint_test (graph_of S)

-- The reader of a packed true graph, from the bytes and the room.
unfoldable pub graph_read : List ℕ → Room → Outcome Graph
graph_read s R = guarded (room_sizes R) (parsed (read_graph s R.nodes R.starts))

-- The deck program and the C call: 4 "before all"; then the deck, in tables of 1,024 edges, 1,024 listed edges, 256 paths and 1,024 marked
-- nodes; then its tests, "25 included"; then removal, in "room for 512 copies and 2,048 edges with 16,384 words of scratch".
abbrev pub program_tables : Tables
program_tables = record { edges = 1024; listed = 1024; paths = 256; marked = 1024 }

abbrev pub program_room : Room
program_room = record { nodes = 512; endpoints = 512; starts = 2048; ends = 2048; names = 2048 }

unfoldable pub program_removal : Deck → Outcome Graph
program_removal d =
    let G = design_graph d.design in
    outcome
    (test_deck d.design d.list d.allowed then removal_tests d.design G (removal d.list program_room 16384))
    (true_graph G (paths_of d.list))

abbrev pub program_from : Outcome Deck → Outcome Graph
program_from (made d) = program_removal d
program_from (refused r) = refused r

abbrev pub few_bytes : List ℕ → Outcome Graph → Outcome Graph
few_bytes s o = cond (leb (length s) 65536) o (refused (refusal 4 65536))

unfoldable pub program : List ℕ → Outcome Graph
program s = few_bytes s (program_from (parsed (read_deck s program_tables)))

-- the packed true graph goes into the room of the C call
abbrev pub c_written : Outcome Graph → List ℕ → Result ℕ Refusal
c_written (made G) room = write_answer room 0 (packed_graph G)
c_written (refused r) room = Err r

-- "one signed 64-bit number: the length, or on a refusal minus the sum of the number and 256 times the place"
abbrev pub refusal_number : Refusal → ℤ
refusal_number r = neg_ℤ (pos (r.number + 256 * r.place))

abbrev pub c_number : Result ℕ Refusal → ℤ
c_number (Ok n) = pos n
c_number (Err r) = refusal_number r

-- beyond document 01: a C call over plain arrays answers its counts, as copies + edges · 2^32, or 0
abbrev pub graph_number : Result GraphCounts Refusal → ℤ
graph_number (Ok g) = pos (g.copies + g.edges * 4294967296)
graph_number (Err r) = refusal_number r

abbrev pub verdict_number : Verdict → ℤ
verdict_number Passed = pos 0
verdict_number (Err r) = refusal_number r

-- of late or not: 1 + the copy's number where it is late, and 0 where nothing is
abbrev pub lateness_number : Result (Option ℕ) Refusal → ℤ
lateness_number (Late c) = pos (1 + c)
lateness_number OnTime = pos 0
lateness_number (Err r) = refusal_number r

unfoldable pub c_call : List ℕ → List ℕ → ℤ
c_call s room = c_number (c_written (program s) room)

abbrev pub room_after_c : Outcome Graph → List ℕ → List ℕ
room_after_c (made G) room = written_room room 0 (packed_graph G)
room_after_c (refused r) room = room

unfoldable pub c_room : List ℕ → List ℕ → List ℕ
c_room s room = room_after_c (program s) room
