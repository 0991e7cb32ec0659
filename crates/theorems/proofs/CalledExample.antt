-- `Ran` can be met, with refused calls in it: M6 by parts over deck A. The path 2,1 is refused 24 at 0, index 1, while no graph is held; 1,2
-- makes deck A's graph; 0,3 in room for five copies is refused 33, and in room for six it makes the last graph. Rooms and scratch held 9
-- before.
use Prim.Native.Nat.{ℕ}
use native.Mathlib.Omega.{arith}
use mathlib.Core.Path.{◌≡◌, refl, ap}
use mathlib.Core.List.{List, [], ◌∷◌, map, flat_map}
use mathlib.Core.Option.{none, some}
use Rattle.std.specs.Prelude.{Result, Ok, Err}
use Rattle.timing.specs.Answers.{Counts}
use Rattle.timing.specs.declared.GraphCounts.{GraphCounts}
use Rattle.timing.specs.declared.Refusal.{Refusal}
use lib.Dec.{leb→le}
use lib.ListN.{length}
use Rattle.timing.specs.Lists.{upto}
use Rattle.timing.specs.Graphs.{Graph, design_graph, edges_in, edges_out, runs_from, complete_runs}
use Rattle.timing.specs.Marks.{path_list, paths_of, permitted, tails, mark}
use Rattle.timing.specs.TrueGraphs.{permitted_runs, copies, path_ends, joins, true_graph}
use Rattle.timing.specs.WellFormed.{well_formed}
use Rattle.timing.specs.Refusals.{refusal, refusal_within}
use Rattle.timing.specs.Tests.{design_tests, list_tests, candidates, scratch_words, scratch_test, room_tests}
use Rattle.timing.specs.Calls.{GraphSlices, graph_slices, room_of, remove_from_design, remove_from_graph, size_from_design}
use Rattle.timing.specs.Called.{Called, removal_of, Meets, remove_on, front, Ran, CalledDemand3}
use Rattle.timing.specs.Told.{Telling, Tells, size_on, foretold, FillsJust}
use Rattle.timing.proofs.Marked.{deck_a}
use Rattle.theorems.proofs.Called.{called_demand3}
use Rattle.theorems.proofs.Scratch.{same_answers}
use Rattle.theorems.proofs.Told.{foretells}

abbrev pub words : ℕ → ℕ → List ℕ
words n x = map (λ i. x) (upto n 0)

-- room for some copies and six edges
abbrev pub room_for : ℕ → GraphSlices
room_for n = graph_slices (words n 9) (words n 9) (words 6 9) (words 6 9) (words 6 9)

-- a call with n words of scratch, which hold x afterwards
abbrev pub called_with : ℕ → List ℕ → List ℕ → GraphSlices → Result GraphCounts Refusal → GraphSlices → ℕ → Called
called_with n listed lengths room answer after x = record {
  listed = listed;
  lengths = lengths;
  room = room;
  scratch = words n 9;
  answer = answer;
  after = after;
  scratch_at = words n x;
}

-- with 120, all that 31 asks of the last call below
abbrev pub called : List ℕ → List ℕ → GraphSlices → Result GraphCounts Refusal → GraphSlices → ℕ → Called
called = called_with 120

abbrev pub after_a : GraphSlices
after_a = graph_slices (0 ∷ 1 ∷ 2 ∷ 2 ∷ 3 ∷ 4 ∷ []) (0 ∷ 0 ∷ 0 ∷ 0 ∷ 1 ∷ 1 ∷ []) (0 ∷ 1 ∷ 0 ∷ 3 ∷ 2 ∷ 9 ∷ []) (2 ∷ 2 ∷ 3 ∷ 4 ∷ 5 ∷ 9 ∷ []) (0 ∷ 1 ∷ 0 ∷ 2 ∷ 3 ∷ 9 ∷ [])

abbrev after_further : GraphSlices
after_further = graph_slices (0 ∷ 1 ∷ 2 ∷ 2 ∷ 3 ∷ 4 ∷ []) (0 ∷ 0 ∷ 0 ∷ 0 ∷ 1 ∷ 1 ∷ []) (1 ∷ 0 ∷ 3 ∷ 2 ∷ 9 ∷ 9 ∷ []) (2 ∷ 3 ∷ 4 ∷ 5 ∷ 9 ∷ 9 ∷ []) (1 ∷ 0 ∷ 2 ∷ 3 ∷ 9 ∷ 9 ∷ [])

abbrev pub series : List Called
series =
    called (2 ∷ 1 ∷ []) (2 ∷ []) (room_for 6) (Err (refusal_within 24 0 1)) (room_for 6) 9
    ∷ called (1 ∷ 2 ∷ []) (2 ∷ []) (room_for 6) (Counts 6 5) after_a 0
    ∷ called (0 ∷ 3 ∷ []) (2 ∷ []) (room_for 5) (Err (refusal 33 0)) (room_for 5) 0
    ∷ called (0 ∷ 3 ∷ []) (2 ∷ []) (room_for 6) (Counts 6 4) after_further 0
    ∷ []

pub series_ran : Ran deck_a none series
unfolding flat_map design_graph edges_in edges_out runs_from complete_runs permitted tails mark permitted_runs copies path_ends joins true_graph well_formed design_tests list_tests candidates scratch_test room_tests remove_from_design remove_from_graph
series_ran = (
  record { answer = refl; nodes = refl; endpoints = refl; starts = refl; ends = refl; names = refl; scratch = refl },
  (
    record { answer = refl; nodes = refl; endpoints = refl; starts = refl; ends = refl; names = refl; scratch = refl },
    (
      record { answer = refl; nodes = refl; endpoints = refl; starts = refl; ends = refl; names = refl; scratch = refl },
      (record { answer = refl; nodes = refl; endpoints = refl; starts = refl; ends = refl; names = refl; scratch = refl }, tt),
    ),
  ),
)

pub series_demand3 : CalledDemand3 deck_a series
series_demand3 = called_demand3 deck_a series series_ran

-- Deck A's list with 192 words of scratch, and with the 96 that 31 asks.
abbrev pub made_with : ℕ → Called
made_with n = called_with n (1 ∷ 2 ∷ []) (2 ∷ []) (room_for 6) (Counts 6 5) after_a 0

pub half_answers : ((made_with 96).answer ≡ (made_with 192).answer) × ((made_with 96).after ≡ (made_with 192).after)
unfolding flat_map design_graph edges_in edges_out runs_from complete_runs permitted tails mark permitted_runs copies path_ends joins true_graph well_formed design_tests list_tests candidates scratch_test room_tests remove_from_design remove_from_graph
half_answers =
    same_answers deck_a none (made_with 192) (made_with 96)
    (record { answer = refl; nodes = refl; endpoints = refl; starts = refl; ends = refl; names = refl; scratch = refl })
    (record { answer = refl; nodes = refl; endpoints = refl; starts = refl; ends = refl; names = refl; scratch = refl })
    (λ e. absurd (let z : ◌≡◌ {A = ℕ} 0 1 = cc in omega arith)) refl refl refl
    (leb→le (scratch_words (candidates deck_a (design_graph deck_a) (path_list (1 ∷ 2 ∷ []) (2 ∷ []))) 2 4) 96 tt)

-- Deck A's size as it is told with 96 words, and its list in three rooms: for five copies it is refused 33, for four edges 34, and for six of
-- each it fills six copies and five edges.
abbrev pub told_a : Telling
told_a = record { listed = 1 ∷ 2 ∷ []; lengths = 2 ∷ []; scratch = words 96 9; answer = Counts 6 5; scratch_at = words 96 0 }

-- room for six copies and four edges
abbrev four_edges : GraphSlices
four_edges = graph_slices (words 6 9) (words 6 9) (words 4 9) (words 4 9) (words 4 9)

abbrev pub refused_in : GraphSlices → ℕ → Called
refused_in room number = called_with 96 (1 ∷ 2 ∷ []) (2 ∷ []) room (Err (refusal number 0)) room 0

-- an answer with another number than k is not refused k
abbrev number_in : Result GraphCounts Refusal → ℕ
number_in (Ok g) = 0
number_in (Err r) = r.number

pub apart : (a : Result GraphCounts Refusal) (k : ℕ) → (number_in a ≡ k → ⊥) → a ≡ Err (refusal k 0) → ⊥
apart a k h e = h (ap number_in e)

pub told : Tells (size_on deck_a none (path_list (1 ∷ 2 ∷ []) (2 ∷ [])) 96) told_a
unfolding flat_map design_graph edges_in edges_out runs_from complete_runs permitted tails mark permitted_runs copies path_ends joins true_graph design_tests list_tests candidates scratch_test room_tests remove_from_design size_from_design
told = record { answer = refl; scratch = refl }

pub filled : Meets (remove_on deck_a none (removal_of (made_with 96))) (made_with 96)
unfolding flat_map design_graph edges_in edges_out runs_from complete_runs permitted tails mark permitted_runs copies path_ends joins true_graph design_tests list_tests candidates scratch_test room_tests remove_from_design
filled = record { answer = refl; nodes = refl; endpoints = refl; starts = refl; ends = refl; names = refl; scratch = refl }

-- what deck A's true graph is called here
abbrev graph_a : Graph
graph_a = true_graph (design_graph deck_a) (paths_of (path_list (1 ∷ 2 ∷ []) (2 ∷ [])))

pub told_answers :
    ((refused_in (room_for 5) 33).answer ≡ foretold (room_of (room_for 5)) (length graph_a.nodes) told_a.answer)
    × ((refused_in four_edges 34).answer ≡ foretold (room_of four_edges) (length graph_a.nodes) told_a.answer)
    × FillsJust graph_a 6 5 (room_for 6) after_a
unfolding flat_map design_graph edges_in edges_out runs_from complete_runs permitted tails mark permitted_runs copies path_ends joins true_graph design_tests list_tests candidates scratch_test room_tests remove_from_design
told_answers =
    let one = apart (Counts 6 5) 31 (λ e. omega arith) in (
      (foretells deck_a none told_a (refused_in (room_for 5) 33) told
          (record { answer = refl; nodes = refl; endpoints = refl; starts = refl; ends = refl; names = refl; scratch = refl })
          refl refl one (apart (Err (refusal 33 0)) 30 (λ e. omega arith)) (apart (Err (refusal 33 0)) 31 (λ e. omega arith))).0,
      (foretells deck_a none told_a (refused_in four_edges 34) told
          (record { answer = refl; nodes = refl; endpoints = refl; starts = refl; ends = refl; names = refl; scratch = refl })
          refl refl one (apart (Err (refusal 34 0)) 30 (λ e. omega arith)) (apart (Err (refusal 34 0)) 31 (λ e. omega arith))).0,
      (foretells deck_a none told_a (made_with 96) told filled refl refl one (apart (Counts 6 5) 30 (λ e. omega arith)) one).1 6 5 refl,
    )

-- Deck A's list extended by the path 0,3, which is put in front; these paths reordered, with one of them repeated; and that again with the 120 words
-- that 31 asks of the list without repeats: it is refused 31.
abbrev after_both : GraphSlices
after_both = graph_slices (0 ∷ 1 ∷ 2 ∷ 2 ∷ 3 ∷ 4 ∷ []) (0 ∷ 0 ∷ 0 ∷ 0 ∷ 1 ∷ 1 ∷ []) (0 ∷ 1 ∷ 2 ∷ 3 ∷ 9 ∷ 9 ∷ []) (2 ∷ 3 ∷ 4 ∷ 5 ∷ 9 ∷ 9 ∷ []) (0 ∷ 1 ∷ 2 ∷ 3 ∷ 9 ∷ 9 ∷ [])

abbrev pub both : Called
both = called_with 120 (0 ∷ 3 ∷ 1 ∷ 2 ∷ []) (2 ∷ 2 ∷ []) (room_for 6) (Counts 6 4) after_both 0

abbrev pub shuffled : Called
shuffled = called_with 144 (1 ∷ 2 ∷ 0 ∷ 3 ∷ 1 ∷ 2 ∷ []) (2 ∷ 2 ∷ 2 ∷ []) (room_for 6) (Counts 6 4) after_both 0

abbrev repeated_short : Called
repeated_short = called_with 120 (1 ∷ 2 ∷ 0 ∷ 3 ∷ 1 ∷ 2 ∷ []) (2 ∷ 2 ∷ 2 ∷ []) (room_for 6) (Err (refusal 31 0)) (room_for 6) 9

pub both_met : Meets (remove_on deck_a none (removal_of both)) both
unfolding flat_map design_graph edges_in edges_out runs_from complete_runs permitted tails mark permitted_runs copies path_ends joins true_graph design_tests list_tests candidates scratch_test room_tests remove_from_design
both_met = record { answer = refl; nodes = refl; endpoints = refl; starts = refl; ends = refl; names = refl; scratch = refl }

pub shuffled_met : Meets (remove_on deck_a none (removal_of shuffled)) shuffled
unfolding flat_map design_graph edges_in edges_out runs_from complete_runs permitted tails mark permitted_runs copies path_ends joins true_graph design_tests list_tests candidates scratch_test room_tests remove_from_design
shuffled_met = record { answer = refl; nodes = refl; endpoints = refl; starts = refl; ends = refl; names = refl; scratch = refl }

pub repeated_short_lem : Meets (remove_on deck_a none (removal_of repeated_short)) repeated_short
unfolding flat_map design_graph edges_in edges_out runs_from complete_runs permitted tails mark permitted_runs copies path_ends joins true_graph design_tests list_tests candidates scratch_test room_tests remove_from_design
repeated_short_lem = record { answer = refl; nodes = refl; endpoints = refl; starts = refl; ends = refl; names = refl; scratch = refl }

-- From deck A's true graph: no path removed, and 0,3.
abbrev pub held_a : GraphSlices
held_a = front 6 5 after_a

abbrev pub nothing : Called
nothing = called [] [] (room_for 6) (Counts 6 5) after_a 0

abbrev pub further : Called
further = called (0 ∷ 3 ∷ []) (2 ∷ []) (room_for 6) (Counts 6 4) after_further 0

pub nothing_met : Meets (remove_on deck_a (some held_a) (removal_of nothing)) nothing
unfolding flat_map design_graph edges_in edges_out runs_from complete_runs permitted tails mark permitted_runs copies path_ends joins true_graph well_formed design_tests list_tests candidates scratch_test room_tests remove_from_graph
nothing_met = record { answer = refl; nodes = refl; endpoints = refl; starts = refl; ends = refl; names = refl; scratch = refl }

pub further_met : Meets (remove_on deck_a (some held_a) (removal_of further)) further
further_met = series_ran.1.1.1.0
