-- The hypotheses of the theorems can be met: deck A passes every test, its true graph is well formed, and both parts of M6
-- pass in a series; deck A with a marked node passes them, too.
use Prim.Native.Nat.{ℕ}
use mathlib.Core.Path.{◌≡◌, refl}
use mathlib.Core.List.{List, [], ◌∷◌, flat_map}
use mathlib.Core.Option.{none, some}
use Rattle.timing.specs.Answers.{Passed}
use native.Mathlib.Omega.{arith}
use lib.Dec.{T}
use lib.IntN.{ℤ, pos}
use Rattle.timing.specs.Graphs.{Graph, design_graph, edges_in, edges_out, runs_from, complete_runs}
use Rattle.timing.specs.Marks.{PathList, path_list, paths_of, permitted, tails, mark}
use Rattle.timing.specs.TrueGraphs.{permitted_runs, copies, path_ends, joins, true_graph}
use Rattle.timing.specs.WellFormed.{well_formed}
use Rattle.timing.specs.Tests.{design_sizes, list_sizes, design_tests, list_tests, candidates, scratch_test, room_tests}
use Rattle.timing.specs.Calls.{slices_of, made, Removal, removal, remove_from_design, remove_from_graph, test_times}
use Rattle.timing.specs.Series.{verdicts, HeldIs, held_after, whole_after}
use Rattle.timing.specs.Paths.{PassesAt, Shows}
use Rattle.timing.specs.Demands.{Demand2, AllPassed, lists_of, TimesOfPaths, RecordOfPaths}
use Rattle.timing.proofs.Marked.{deck_a, list_a, observed, observed_graph}
use Rattle.theorems.proofs.Stands.{Stands, true_stands}
use Rattle.theorems.proofs.Legal.{Legal, design_legal}
use Rattle.theorems.proofs.Demand2.{design_demand2, graph_demand2}
use Rattle.theorems.proofs.Records.{removed_demand2, series_demand2, removed_copy_times, removed_record}
use Rattle.theorems.proofs.Series.{cut_list}

-- deck A's true graph, and that with 0,3 removed from it
abbrev graph_a : Graph
graph_a = true_graph (design_graph deck_a) (paths_of list_a)

abbrev graph_m6 : Graph
graph_m6 = true_graph graph_a ((0 ∷ 3 ∷ []) ∷ [])

fits : (design_sizes deck_a ≡ Passed) × (design_tests deck_a ≡ Passed) × (list_sizes list_a ≡ Passed) × (list_tests deck_a list_a ≡ Passed)
unfolding design_tests list_tests
fits = (refl, refl, refl, refl)

pub deck_a_legal : Legal deck_a (design_graph deck_a)
deck_a_legal = design_legal deck_a fits.0 fits.1

pub deck_a_stands : Stands (design_graph deck_a) (paths_of list_a) graph_a
deck_a_stands = true_stands (design_graph deck_a) (paths_of list_a) deck_a_legal.rising

pub deck_a_demand2 : Demand2 (design_graph deck_a) (paths_of list_a) graph_a
deck_a_demand2 = design_demand2 deck_a (paths_of list_a) fits.0 fits.1

formed : T (well_formed deck_a graph_a)
unfolding flat_map design_graph edges_in edges_out runs_from complete_runs permitted tails mark permitted_runs copies path_ends joins true_graph well_formed
formed = tt

-- and 0,3 removed from that graph
pub deck_a_further : Demand2 graph_a ((0 ∷ 3 ∷ []) ∷ []) graph_m6
deck_a_further = graph_demand2 deck_a graph_a ((0 ∷ 3 ∷ []) ∷ []) fits.0 fits.1 formed

-- the call makes this graph
abbrev part : PathList → Removal
part L = removal L (record { nodes = 512; endpoints = 512; starts = 2048; ends = 2048; names = 2048 }) 16384

made_A : remove_from_design deck_a (part list_a) ≡ made graph_a
unfolding flat_map design_graph edges_in edges_out runs_from complete_runs permitted tails mark permitted_runs copies path_ends joins true_graph well_formed design_tests list_tests candidates scratch_test room_tests remove_from_design
made_A = refl

pub deck_a_made : Demand2 (design_graph deck_a) (paths_of list_a) graph_a
deck_a_made = removed_demand2 deck_a none (part list_a) graph_a made_A

-- and with node 2 marked that of the marked table, in which paths end at copy 2 and go on from it
made_observed : remove_from_design observed (part list_a) ≡ made observed_graph
unfolding flat_map design_graph edges_in edges_out runs_from complete_runs permitted tails mark permitted_runs copies path_ends joins true_graph well_formed design_tests list_tests candidates scratch_test room_tests remove_from_design
made_observed = refl

pub observed_made : Demand2 (design_graph observed) (paths_of list_a) observed_graph
observed_made = removed_demand2 observed none (part list_a) observed_graph made_observed

-- the times of copy 3, which is node 2 with mark 2, and the record of node 2, after the removal and `times` in slices of six places
abbrev six : List ℤ
six = pos 0 ∷ pos 0 ∷ pos 0 ∷ pos 0 ∷ pos 0 ∷ pos 0 ∷ []

tested_A : test_times deck_a (slices_of graph_a) 10 6 6 6 6 ≡ Passed
unfolding flat_map design_graph edges_in edges_out runs_from complete_runs permitted tails mark permitted_runs copies path_ends joins true_graph well_formed design_tests test_times
tested_A = refl

pub deck_a_copy : TimesOfPaths deck_a graph_a 10 six six six six 3 (Shows (design_graph deck_a) (paths_of list_a) (record { at = 2; mark = 2 ∷ [] }))
unfolding flat_map design_graph edges_in edges_out runs_from complete_runs permitted tails mark permitted_runs copies path_ends joins true_graph
deck_a_copy = removed_copy_times deck_a graph_a 10 six six six six tested_A none (part list_a) made_A 3 (omega arith)

pub deck_a_record : RecordOfPaths deck_a graph_a 10 six six six six 2 (PassesAt deck_a (paths_of list_a) 2)
deck_a_record = removed_record deck_a graph_a 10 six six six six tested_A (part list_a) made_A 2

-- M6 by parts: no removal is refused, so that the graph held is that of the whole list
abbrev m6 : List Removal
m6 = part list_a ∷ part (path_list (0 ∷ 3 ∷ []) (2 ∷ [])) ∷ []

m6_passed : AllPassed (verdicts deck_a none m6)
unfolding flat_map design_graph edges_in edges_out runs_from complete_runs permitted tails mark permitted_runs copies path_ends joins true_graph well_formed design_tests list_tests candidates scratch_test room_tests remove_from_design remove_from_graph
m6_passed = tt

pub m6_parts : HeldIs deck_a (some (lists_of m6)) (held_after deck_a none m6)
m6_parts = cut_list deck_a (part list_a) (part (path_list (0 ∷ 3 ∷ []) (2 ∷ [])) ∷ []) m6_passed

-- and the same of the design with node 2 marked, where the renumbering keeps that paths end at copy 2
observed_passed : AllPassed (verdicts observed none m6)
unfolding flat_map design_graph edges_in edges_out runs_from complete_runs permitted tails mark permitted_runs copies path_ends joins true_graph well_formed design_tests list_tests candidates scratch_test room_tests remove_from_design remove_from_graph
observed_passed = tt

pub observed_parts : HeldIs observed (some (lists_of m6)) (held_after observed none m6)
observed_parts = cut_list observed (part list_a) (part (path_list (0 ∷ 3 ∷ []) (2 ∷ [])) ∷ []) observed_passed

m6_held : held_after deck_a none m6 ≡ some graph_m6
unfolding flat_map design_graph edges_in edges_out runs_from complete_runs permitted tails mark permitted_runs copies path_ends joins true_graph well_formed design_tests list_tests candidates scratch_test room_tests remove_from_design remove_from_graph
m6_held = refl

pub m6_demand2 : (L : List (List ℕ)) × (whole_after deck_a none m6 ≡ some L) × Demand2 (design_graph deck_a) L graph_m6
m6_demand2 = series_demand2 deck_a m6 graph_m6 m6_held
