-- The hypotheses of the theorems about late or not can be met: `late_or_not` on what the example series holds is late with T 4, so that a path of
-- deck A that the lists permit takes longer, some slack that `times` leaves is negative, and some that `node_records` then leaves is; with T 10 it is
-- on time, so that there is no such path and no such slack. (`call_late` has no example of its own.)
use Prim.Native.Nat.{ℕ}
use native.Mathlib.Omega.{arith}
use mathlib.Core.Path.{◌≡◌, refl, subst}
use mathlib.Core.List.{List, [], ◌∷◌, map, flat_map}
use mathlib.Core.Option.{none, some}
use Rattle.std.specs.Prelude.{Option, Result}
use Rattle.timing.specs.Answers.{Passed, Late, OnTime}
use Rattle.timing.specs.declared.Refusal.{Refusal}
use lib.ListN.{length}
use lib.IntN.{ℤ, pos}
use Rattle.timing.specs.Graphs.{Design, design_graph, edge_late, edges_in, edges_out, runs_to}
use Rattle.timing.specs.TrueGraphs.{permitted_runs}
use Rattle.timing.specs.Times.{arrival_at, late_copies}
use Rattle.timing.specs.WellFormed.{well_formed}
use Rattle.timing.specs.Tests.{design_tests}
use Rattle.timing.specs.Calls.{GraphSlices, test_times, test_late, late_or_not, arrivals_after_late, arrivals_after, requireds_after, slacks_after, earliests_after, test_records}
use Rattle.timing.specs.Series.{whole_after}
use Rattle.timing.specs.Called.{removal_of}
use Rattle.timing.specs.Late.{LateIff, SomeNegative, SomeLonger}
use Rattle.timing.proofs.Marked.{deck_a}
use Rattle.called.specs.Removals.{called_of}
use Rattle.called.specs.Times.{TimesCall, slacks_left, RecordsCall, node_slacks_left}
use Rattle.called.specs.Late.{LateCall}
use Rattle.called.proofs.Late.{call_late_slacks, call_late_records, series_late}
use Rattle.called.proofs.Example.{lent, lent_mut, example}
use Rattle.called.proofs.TimesExample.{times_on, records_on, records_on_lem, held, is_held, six, timed, timed_passed}

-- what the definitions say of a call is a call
abbrev late_on : Design → ℕ → GraphSlices → List ℤ → LateCall
late_on D T S ats =
    let x : (Result (Option ℕ) Refusal) = late_or_not D S T (length ats) in
    record {
      lifetimes = ([], ([], ([], ([], ([], ([], ([], ([], ([], ([], ([], tt)))))))))));
      passed = (D.nodes, (lent D.starts, (lent D.ends, (lent D.early, (lent D.late, (lent D.marked, (T, (lent S.nodes, (lent S.endpoints, (lent S.starts, (lent S.ends, (lent S.names, (lent_mut ats, tt)))))))))))));
      answer = x;
      left = (D.nodes, (lent D.starts, (lent D.ends, (lent D.early, (lent D.late, (lent D.marked, (T, (lent S.nodes, (lent S.endpoints, (lent S.starts, (lent S.ends, (lent S.names, (lent_mut (arrivals_after_late D S T x ats), tt)))))))))))));
      learnt = (refl, refl);
    }

late_with_4 : (late_on deck_a 4 held six).answer ≡ Late 4
unfolding flat_map design_graph edges_in edges_out runs_to well_formed design_tests arrival_at late_copies test_late late_or_not
late_with_4 = refl

on_time_with_10 : (late_on deck_a 10 held six).answer ≡ OnTime
unfolding flat_map design_graph edges_in edges_out runs_to well_formed design_tests arrival_at late_copies test_late late_or_not
on_time_with_10 = refl

-- some path of deck A that the lists permit takes longer than 4
pub late_example : (L : List (List ℕ)) × (whole_after deck_a none (map removal_of (map called_of example.0)) ≡ some L)
    × SomeLonger (edge_late deck_a) (pos 4) (permitted_runs L (design_graph deck_a))
late_example =
    let x = series_late example.0 held (late_on deck_a 4 held six) example.1 is_held refl (omega arith) refl in
    (x.0, x.1, subst (λ (a : Result (Option ℕ) Refusal). LateIff a (SomeLonger (edge_late deck_a) (pos 4) (permitted_runs x.0 (design_graph deck_a)))) late_with_4 x.2)

-- and none longer than 10
pub on_time_example : (L : List (List ℕ)) × (whole_after deck_a none (map removal_of (map called_of example.0)) ≡ some L)
    × (SomeLonger (edge_late deck_a) (pos 10) (permitted_runs L (design_graph deck_a)) → ⊥)
on_time_example =
    let x = series_late example.0 held (late_on deck_a 10 held six) example.1 is_held refl (omega arith) refl in
    (x.0, x.1, subst (λ (a : Result (Option ℕ) Refusal). LateIff a (SomeLonger (edge_late deck_a) (pos 10) (permitted_runs x.0 (design_graph deck_a)))) on_time_with_10 x.2)

-- so no slack that `times` leaves with T 10 is below 0
pub on_time_slacks : SomeNegative (slacks_left timed) → ⊥
on_time_slacks =
    subst (λ (a : Result (Option ℕ) Refusal). LateIff a (SomeNegative (slacks_left timed))) on_time_with_10
    (call_late_slacks timed (late_on deck_a 10 held six) timed_passed (record { design = refl; graph = refl; allowed = refl; places = refl }))

-- and with T 4 one is, of a copy and of a node
abbrev timed4 : TimesCall
timed4 = times_on deck_a 4 held six six six six

timed4_passed : timed4.answer ≡ Passed
unfolding design_graph edges_in edges_out well_formed design_tests test_times
timed4_passed = refl

pub late_slacks_example : SomeNegative (slacks_left timed4)
late_slacks_example =
    subst (λ (a : Result (Option ℕ) Refusal). LateIff a (SomeNegative (slacks_left timed4))) late_with_4
    (call_late_slacks timed4 (late_on deck_a 4 held six) timed4_passed (record { design = refl; graph = refl; allowed = refl; places = refl }))

abbrev records4 : RecordsCall
records4 = records_on timed4 (0 ∷ 0 ∷ 0 ∷ 0 ∷ 0 ∷ []) (pos 0 ∷ pos 0 ∷ pos 0 ∷ pos 0 ∷ pos 0 ∷ [])

records4_passed : records4.answer ≡ Passed
unfolding design_graph edges_in edges_out well_formed design_tests test_times test_records arrivals_after requireds_after slacks_after earliests_after
records4_passed = refl

pub late_records_example : SomeNegative (node_slacks_left records4)
late_records_example =
    subst (λ (a : Result (Option ℕ) Refusal). LateIff a (SomeNegative (node_slacks_left records4))) late_with_4
    (call_late_records timed4 (late_on deck_a 4 held six) timed4_passed (record { design = refl; graph = refl; allowed = refl; places = refl })
    records4 records4_passed (records_on_lem timed4 (0 ∷ 0 ∷ 0 ∷ 0 ∷ 0 ∷ []) (pos 0 ∷ pos 0 ∷ pos 0 ∷ pos 0 ∷ pos 0 ∷ [])))
