-- What the calls that write bytes answer fits 64 bits, whatever the deck or the graph and the room are.
use Prim.Native.Nat.{ℕ, ◌+◌, ◌≤◌, ◌<◌, min}
use native.Mathlib.Omega.{arith}
use mathlib.Core.Path.{◌≡◌, refl, sym, subst}
use mathlib.Core.Bool.{Bool, true, false, cond}
use mathlib.Core.List.{List}
use Rattle.std.specs.Prelude.{Ok, Err}
use Rattle.timing.specs.Answers.{Verdict, Passed}
use lib.Dec.{leb}
use lib.ListN.{length}
use borrow.Author.Tests.{leb-true, leb-false}
use Rattle.timing.specs.Graphs.{Design, Graph, design_graph}
use Rattle.timing.specs.Marks.{PathList, paths_of}
use Rattle.timing.specs.TrueGraphs.{true_graph}
use Rattle.timing.specs.Numbers.{write_answer}
use Rattle.timing.specs.Refusals.{refusal, unless, ◌then◌}
use Rattle.timing.specs.Tests.{design_sizes, list_sizes, design_tests, list_tests, scratch_test, Room, graph_counts, endpoint_test, room_tests}
use Rattle.timing.specs.WellFormed.{few_enough, zero_or_one}
use Rattle.timing.specs.Parsing.{Parsed, found, stopped}
use Rattle.timing.specs.Decks.{Deck, read_deck}
use Rattle.timing.specs.GraphBytes.{packed_graph}
use Rattle.timing.specs.Calls.{GraphSlices, graph_of, room_of, graph_sizes, writing, graph_write_tests}
use Rattle.timing.specs.Calls.{Outcome, outcome, removal, removal_tests, test_deck, parsed, program_tables, program_room, program_removal, program_from, program, c_written, c_number, c_call, room_after_c, c_room}
use Rattle.true_graph.specs.Small.{SmallWritten, Small}
use Rattle.true_graph.proofs.Small.{small_then, small_unless, small_room_sizes, small_design_sizes, small_list_sizes, small_design, small_list, small_scratch}
use Rattle.true_graph.proofs.ReadLaws.{Within, within_deck}
use Rattle.true_graph.proofs.ProgramLaws.{program_long, program_short}

small_room : (R : Room) (H : Graph) → Small (room_tests R H)
unfolding room_tests
small_room R H =
    small_then (unless 33 (leb (length H.nodes) (min R.nodes 16384))) (unless 34 (leb (length H.edges) (min R.starts 65536)))
    (small_unless 33 (omega arith) (leb (length H.nodes) (min R.nodes 16384))) (λ e. small_unless 34 (omega arith) (leb (length H.edges) (min R.starts 65536)))

small_deck : (D : Design) (L : PathList) (T : ℕ) → Small (test_deck D L T)
unfolding test_deck
small_deck D L T =
    small_then (design_sizes D) _ (small_design_sizes D)
    (λ e. small_then (list_sizes L) _ (small_list_sizes L)
    (λ e. small_then (design_tests D) _ (small_design D)
    (λ e. small_then (list_tests D L) _ (small_list D L) (λ e. small_unless 25 (omega arith) (leb T 1000000000)))))

module _ (room : List ℕ) (h : length room < 9223372036854775808) where
  small_answer : (bs : List ℕ) → SmallWritten (write_answer room 0 bs)
  unfolding write_answer
  small_answer bs = go (leb (0 + length bs) (length room)) refl
    where
      go : (b : Bool) → leb (0 + length bs) (length room) ≡ b → SmallWritten (cond b (Ok (0 + length bs)) (Err (refusal 35 0)))
      go true e = omega (arith, leb-true (0 + length bs) (length room) e)
      go false e = (omega arith, omega arith)

  small_outcome : (v : Verdict) (H : Graph) → Small v → SmallWritten (c_written (outcome v H) room)
  small_outcome Passed H s = small_answer (packed_graph H)
  small_outcome (Err x) H s = s

  small_writing : (v : Verdict) (bs : List ℕ) → Small v → SmallWritten (writing v room bs)
  small_writing Passed bs s = small_answer bs
  small_writing (Err x) bs s = s

  pub small_graph : (S : GraphSlices) → SmallWritten (writing (graph_write_tests S) room (packed_graph (graph_of S)))
  unfolding graph_write_tests
  small_graph S =
      let G = graph_of S in
      small_writing (graph_sizes S then graph_counts G then endpoint_test G) (packed_graph G)
      (small_then (graph_sizes S) (graph_counts G then endpoint_test G) (small_room_sizes (room_of S))
      (λ e. small_then (graph_counts G) (endpoint_test G) (small_unless 32 (omega arith) (few_enough G))
      (λ e. small_unless 32 (omega arith) (zero_or_one G.endpoints))))

  small_removal : (d : Deck) → SmallWritten (c_written (program_removal d) room)
  unfolding program_removal
  small_removal d =
      let D = d.design in
      let G = design_graph D in
      let r = removal d.list program_room 16384 in
      small_outcome (test_deck D d.list d.allowed then removal_tests D G r) (true_graph G (paths_of d.list))
      (small_then (test_deck D d.list d.allowed) (removal_tests D G r) (small_deck D d.list d.allowed)
      (λ e. small_then (scratch_test D G d.list 16384) (room_tests program_room (true_graph G (paths_of d.list))) (small_scratch D G d.list 16384)
      (λ e. small_room program_room (true_graph G (paths_of d.list)))))

  small_read : (s : List ℕ) (few : length s ≤ 65536) (p : Parsed Deck) → Within s few p → SmallWritten (c_written (program_from (parsed p)) room)
  small_read s k (found d at) w = small_removal d
  small_read s k (stopped r) w = w

  pub small_program : (s : List ℕ) → SmallWritten (c_written (program s) room)
  small_program s = go (leb (length s) 65536) refl
    where
      go : (b : Bool) → leb (length s) 65536 ≡ b → SmallWritten (c_written (program s) room)
      go true e =
          let k = leb-true (length s) 65536 e in
          subst (λ (o : Outcome Graph). SmallWritten (c_written o room)) (sym (program_short s k)) (small_read s k (read_deck s program_tables) (within_deck s k program_tables))
      go false e =
          subst (λ (o : Outcome Graph). SmallWritten (c_written o room)) (sym (program_long s (leb-false (length s) 65536 e))) (omega arith, omega arith)

-- the answer and the room are document 01's
pub call_is : (s room : List ℕ) → c_number (c_written (program s) room) ≡ c_call s room
unfolding c_call
call_is s room = refl

pub room_is : (s room : List ℕ) → room_after_c (program s) room ≡ c_room s room
unfolding c_room
room_is s room = refl
