-- The hypotheses of the theorems about a longer list and a shuffled one can be met. Longer: deck A without 1,2, and without 0,3 and 1,2, from the design;
-- deck A's true graph as it is, and without 0,3; and deck A after two series. Shuffled: the paths 0,3 and 1,2 reordered, with one of them repeated.
use Prim.Native.Nat.{ℕ, ◌<◌}
use mathlib.Core.Path.{◌≡◌, refl, sym, ap, ◌∙◌, transport}
use mathlib.Core.List.Memᴰ
use mathlib.Core.List.{List, [], ◌∷◌, map, flat_map}
use mathlib.Core.Option.{Option, none, some}
use Rattle.std.specs.Prelude.{Ok}
use Rattle.std.specs.Prelude.{Option as Maybe}
use Rattle.timing.specs.Answers.{Passed, Counts}
use Rattle.timing.specs.declared.Times.{Times}
use lib.IntN.{ℤ, pos}
use Rattle.timing.specs.Graphs.{Design, design_graph, edges_in, edges_out, runs_from, complete_runs}
use Rattle.timing.specs.Marks.{paths_of, permitted, tails, mark}
use Rattle.timing.specs.TrueGraphs.{permitted_runs, copies, path_ends, joins, true_graph}
use Rattle.timing.specs.WellFormed.{well_formed}
use Rattle.timing.specs.Tests.{design_tests, list_tests, candidates, scratch_test, room_tests}
use Rattle.timing.specs.Calls.{GraphSlices, remove_from_design, remove_from_graph, test_times, test_records, arrivals_after, requireds_after, slacks_after, earliests_after}
use Rattle.timing.specs.Series.{whole_after}
use Rattle.timing.specs.Called.{Called, removal_of, Meets, remove_on, front, last_held, verdict_in}
use Rattle.timing.specs.Extended.{ExtendedTo, SamePaths, NoWorse}
use Rattle.timing.proofs.Marked.{deck_a}
use Rattle.timing.proofs.Extended.{longer as one_more, shuffled as same-paths}
use Rattle.theorems.proofs.CalledExample.{series, made_with, filled, both, both_met, shuffled, shuffled_met, held_a, nothing, nothing_met, further, further_met}
use Rattle.called.specs.Removals.{Call, called_of, paths_in, Follows}
use Rattle.called.specs.Times.{TimesCall, RecordsCall, node_times_left}
use Rattle.called.specs.Extended.{TimedRemoval, TimedSeries, NothingWorse}
use Rattle.called.proofs.Extended.{call_same_graph, call_extended, series_extended}
use Rattle.called.proofs.Example.{call_on, calls_of, example}
use Rattle.called.proofs.TimesExample.{times_on, record_on, record_on_lem, records_on, records_on_lem, held, is_held, six, timed, timed_passed}

-- a removal and `times` on what it made, from what the definitions say of these calls
abbrev removal_and_times : (D : Design) (held : Option GraphSlices) (T : ℕ) (c : Called) → Meets (remove_on D held (removal_of c)) c → (k e : ℕ) → c.answer ≡ Counts k e
    → (ts : List ℤ) → (times_on D T (front k e c.after) ts ts ts ts).answer ≡ Passed → TimedRemoval D held T
removal_and_times D held T c m k e a ts p =
    let x = call_on D held c m in
    record {
      removal = x.0;
      design = x.1;
      earlier = x.2;
      copies = k;
      edges = e;
      answer = ap (λ (y : Called). y.answer) x.3 ∙ a;
      timed = record {
        times = times_on D T (front k e c.after) ts ts ts ts;
        design = refl;
        graph = sym (ap (λ (y : Called). front k e y.after) x.3);
        allowed = refl;
        passed = p;
      };
    }

more_in : (a b : Called) (j k : Call) → called_of j ≡ a → called_of k ≡ b → ExtendedTo (paths_of (removal_of a).list) (paths_of (removal_of b).list) → ExtendedTo (paths_in j) (paths_in k)
more_in a b j k p q f = transport (λ i. ExtendedTo (paths_of (removal_of (sym p i)).list) (paths_of (removal_of (sym q i)).list)) f

-- ---- longer, from the design: 0,3 is put in front
pub shorter_passes : (times_on deck_a 10 (front 6 5 (made_with 96).after) six six six six).answer ≡ Passed
unfolding design_graph edges_in edges_out well_formed design_tests test_times
shorter_passes = refl

pub longer_passes : (times_on deck_a 10 (front 6 4 both.after) six six six six).answer ≡ Passed
unfolding design_graph edges_in edges_out well_formed design_tests test_times
longer_passes = refl

abbrev shorter : TimedRemoval deck_a none 10
shorter = removal_and_times deck_a none 10 (made_with 96) filled 6 5 refl six shorter_passes

abbrev longer : TimedRemoval deck_a none 10
longer = removal_and_times deck_a none 10 both both_met 6 4 refl six longer_passes

pub design_example : NothingWorse shorter.timed.times longer.timed.times
design_example =
    call_extended shorter longer
    (more_in (made_with 96) both shorter.removal longer.removal (call_on deck_a none (made_with 96) filled).3 (call_on deck_a none both both_met).3 (one_more (0 ∷ 3 ∷ []) (1 ∷ 2 ∷ [])))

-- in what `node_records` leaves, and in what `node_record` answers of node 2
abbrev places : List ℕ
places = 0 ∷ 0 ∷ 0 ∷ 0 ∷ 0 ∷ []

abbrev records_of : TimesCall → RecordsCall
records_of t = records_on t places (map pos places)

shorter_recorded : (records_of shorter.timed.times).answer ≡ Passed
unfolding design_graph edges_in edges_out well_formed design_tests test_times test_records arrivals_after requireds_after slacks_after earliests_after
shorter_recorded = refl

longer_recorded : (records_of longer.timed.times).answer ≡ Passed
unfolding design_graph edges_in edges_out well_formed design_tests test_times test_records arrivals_after requireds_after slacks_after earliests_after
longer_recorded = refl

pub nodes_example : (v : ℕ) → v < 5 → NoWorse (node_times_left (records_of shorter.timed.times) v) (node_times_left (records_of longer.timed.times) v)
nodes_example =
    design_example.nodes (records_of shorter.timed.times) (records_of longer.timed.times) (records_on_lem shorter.timed.times places (map pos places)) (records_on_lem longer.timed.times places (map pos places))
    shorter_recorded longer_recorded

pub node_example : (x : Maybe Times) × (y : Maybe Times)
    × ((record_on shorter.timed.times 2).answer ≡ Ok (record { node = 2; times = x }))
    × ((record_on longer.timed.times 2).answer ≡ Ok (record { node = 2; times = y })) × NoWorse x y
node_example =
    design_example.node (record_on shorter.timed.times 2) (record_on longer.timed.times 2) (record_on_lem shorter.timed.times 2) (record_on_lem longer.timed.times 2) refl

-- ---- longer, from an earlier graph: no path, and 0,3
pub nothing_passes : (times_on deck_a 10 (front 6 5 nothing.after) six six six six).answer ≡ Passed
unfolding design_graph edges_in edges_out well_formed design_tests test_times
nothing_passes = refl

pub further_passes : (times_on deck_a 10 (front 6 4 further.after) six six six six).answer ≡ Passed
unfolding design_graph edges_in edges_out well_formed design_tests test_times
further_passes = refl

abbrev as_held : TimedRemoval deck_a (some held_a) 10
as_held = removal_and_times deck_a (some held_a) 10 nothing nothing_met 6 5 refl six nothing_passes

abbrev onward : TimedRemoval deck_a (some held_a) 10
onward = removal_and_times deck_a (some held_a) 10 further further_met 6 4 refl six further_passes

pub held_example : NothingWorse as_held.timed.times onward.timed.times
held_example =
    call_extended as_held onward
    (more_in nothing further as_held.removal onward.removal (call_on deck_a (some held_a) nothing nothing_met).3 (call_on deck_a (some held_a) further further_met).3
    (λ p m. absurd (Memᴰ.not-nil m)))

-- ---- two days: 1,2 was removed, and then, in a series with refused calls in it, 0,3 too
abbrev day_one : (ks : List Call) × Follows deck_a none ks × (map called_of ks ≡ made_with 96 ∷ [])
day_one = calls_of deck_a none (made_with 96 ∷ []) (filled, tt)

pub whole_one : whole_after deck_a none (map removal_of (made_with 96 ∷ [])) ≡ some ((1 ∷ 2 ∷ []) ∷ [])
unfolding flat_map design_graph edges_in edges_out runs_from complete_runs permitted tails mark permitted_runs copies path_ends joins true_graph well_formed design_tests list_tests candidates scratch_test room_tests remove_from_design remove_from_graph
whole_one = refl

pub whole_two : whole_after deck_a none (map removal_of series) ≡ some ((1 ∷ 2 ∷ []) ∷ (0 ∷ 3 ∷ []) ∷ [])
unfolding flat_map design_graph edges_in edges_out runs_from complete_runs permitted tails mark permitted_runs copies path_ends joins true_graph well_formed design_tests list_tests candidates scratch_test room_tests remove_from_design remove_from_graph
whole_two = refl

abbrev one : TimedSeries deck_a ((1 ∷ 2 ∷ []) ∷ []) 10
one = record {
  removals = day_one.0;
  follows = day_one.1;
  whole = ap (λ (cs : List Called). whole_after deck_a none (map removal_of cs)) day_one.2 ∙ whole_one;
  slices = front 6 5 (made_with 96).after;
  held = ap (λ (cs : List Called). last_held none cs) day_one.2;
  timed = record { times = shorter.timed.times; design = refl; graph = refl; allowed = refl; passed = shorter_passes };
}

abbrev two : TimedSeries deck_a ((1 ∷ 2 ∷ []) ∷ (0 ∷ 3 ∷ []) ∷ []) 10
two = record {
  removals = example.0;
  follows = example.1;
  whole = ap (λ (cs : List Called). whole_after deck_a none (map removal_of cs)) example.2 ∙ whole_two;
  slices = held;
  held = is_held;
  timed = record { times = timed; design = refl; graph = refl; allowed = refl; passed = timed_passed };
}

pub days_example : NothingWorse shorter.timed.times timed
days_example = series_extended one two (λ p m. Memᴰ.append_left ((0 ∷ 3 ∷ []) ∷ []) m)

-- ---- reordered and repeated
pub shuffled_example : (j : Call) × (k : Call) × (called_of j ≡ both) × (called_of k ≡ shuffled)
    × ((called_of k).answer ≡ Counts 6 4) × (front 6 4 (called_of k).after ≡ front 6 4 (called_of j).after)
shuffled_example =
    let j = call_on deck_a none both both_met in
    let k = call_on deck_a none shuffled shuffled_met in
    let paths = same-paths (0 ∷ 3 ∷ []) (1 ∷ 2 ∷ []) in
    let same : SamePaths (paths_in j.0) (paths_in k.0) =
    (more_in both shuffled j.0 k.0 j.3 k.3 paths.0, more_in shuffled both k.0 j.0 k.3 j.3 paths.1) in
    let x =
    call_same_graph deck_a none j.0 k.0 j.1 j.2 k.1 k.2 same 6 4 (ap (λ (c : Called). c.answer) j.3) (ap (λ (c : Called). verdict_in c.answer) k.3) in
    (j.0, k.0, j.3, k.3, x.0, x.1)
