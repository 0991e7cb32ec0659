-- The hypotheses of the theorems about times can be met: what the definitions say of a call is a call. So `times` on what the example
-- series holds, with T 10, and `node_record` of node 2 from what that leaves.
use Prim.Native.Nat.{ℕ, ◌<◌}
use mathlib.Core.Path.{◌≡◌, refl, ap}
use mathlib.Core.List.{List, [], ◌∷◌, map}
use mathlib.Core.Option.{none, some}
use Rattle.std.specs.Prelude.{Option, Ok}
use Rattle.timing.specs.Answers.{Verdict, Passed}
use Rattle.timing.specs.declared.Times.{Times}
use lib.ListN.{length, get_or}
use lib.IntN.{ℤ, pos}
use lib.Signed.{◌≤ℤ◌}
use Rattle.timing.specs.Graphs.{Design, design_graph, edge_early, edge_late, edges_in, edges_out}
use Rattle.timing.specs.WellFormed.{well_formed}
use Rattle.timing.specs.Tests.{design_tests}
use Rattle.timing.specs.Calls.{GraphSlices, graph_slices, test_times, arrivals_after, requireds_after, slacks_after, earliests_after, record_of, test_records, has_times, arrival_of, required_of, slack_of, earliest_of, records_after}
use Rattle.timing.specs.Series.{whole_after}
use Rattle.timing.specs.Called.{Called, removal_of, last_held}
use Rattle.timing.specs.Paths.{PassesAt}
use Rattle.timing.specs.Demands.{PathTimes}
use Rattle.timing.proofs.Marked.{deck_a}
use Rattle.called.specs.Removals.{called_of}
use Rattle.called.specs.Times.{TimesCall, timed_design, timed_graph, arrivals_left, requireds_left, slacks_left, earliests_left, RecordCall, RecordAfter, RecordsCall, RecordsAfter}
use Rattle.called.proofs.Times.{earliest_below, series_record}
use Rattle.called.proofs.Example.{lent, lent_mut, example}

abbrev pub times_on : Design → ℕ → GraphSlices → List ℤ → List ℤ → List ℤ → List ℤ → TimesCall
times_on D T S ats rts sts ets =
    let v : Verdict = test_times D S T (length ats) (length rts) (length sts) (length ets) in
    record {
      lifetimes = ([], ([], ([], ([], ([], ([], ([], ([], ([], ([], ([], ([], ([], ([], tt))))))))))))));
      passed = (D.nodes, (lent D.starts, (lent D.ends, (lent D.early, (lent D.late, (lent D.marked, (T, (lent S.nodes, (lent S.endpoints, (lent S.starts, (lent S.ends, (lent S.names, (lent_mut ats, (lent_mut rts, (lent_mut sts, (lent_mut ets, tt))))))))))))))));
      answer = v;
      left = (D.nodes, (lent D.starts, (lent D.ends, (lent D.early, (lent D.late, (lent D.marked, (T, (lent S.nodes, (lent S.endpoints, (lent S.starts, (lent S.ends, (lent S.names, (lent_mut (arrivals_after D S T v ats), (lent_mut (requireds_after D S T v rts), (lent_mut (slacks_after D S T v sts), (lent_mut (earliests_after D S v ets), tt))))))))))))))));
      learnt = (refl, refl, refl, refl, refl);
    }

abbrev pub record_on : TimesCall → ℕ → RecordCall
record_on t v = record {
  lifetimes = ([], ([], ([], ([], ([], tt)))));
  passed = ((timed_design t).nodes, (lent (timed_graph t).nodes, (lent (arrivals_left t), (lent (requireds_left t), (lent (slacks_left t), (lent (earliests_left t), (v, tt)))))));
  answer = record_of (timed_design t).nodes (timed_graph t).nodes (arrivals_left t) (requireds_left t) (slacks_left t) (earliests_left t) v;
  left = ((timed_design t).nodes, (lent (timed_graph t).nodes, (lent (arrivals_left t), (lent (requireds_left t), (lent (slacks_left t), (lent (earliests_left t), (v, tt)))))));
  learnt = refl;
}

pub record_on_lem : (t : TimesCall) (v : ℕ) → RecordAfter t (record_on t v)
record_on_lem t v = record { nodes = refl; copies = refl; arrivals = refl; requireds = refl; slacks = refl; earliests = refl }

abbrev pub records_on : TimesCall → List ℕ → List ℤ → RecordsCall
records_on t known ts =
    let n = (timed_design t).nodes in
    let vs = (timed_graph t).nodes in
    let v : Verdict =
    test_records n vs (arrivals_left t) (requireds_left t) (slacks_left t) (earliests_left t) (length known) (length ts) (length ts) (length ts) (length ts) in
    let after : (Option Times → ℤ) → List ℤ = λ f. records_after f n vs (arrivals_left t) (requireds_left t) (slacks_left t) (earliests_left t) v ts in
    record {
      lifetimes = ([], ([], ([], ([], ([], ([], ([], ([], ([], ([], tt))))))))));
      passed = (n, (lent vs, (lent (arrivals_left t), (lent (requireds_left t), (lent (slacks_left t), (lent (earliests_left t), (lent_mut known, (lent_mut ts, (lent_mut ts, (lent_mut ts, (lent_mut ts, tt)))))))))));
      answer = v;
      left = (n, (lent vs, (lent (arrivals_left t), (lent (requireds_left t), (lent (slacks_left t), (lent (earliests_left t), (lent_mut (records_after has_times n vs (arrivals_left t) (requireds_left t) (slacks_left t) (earliests_left t) v known), (lent_mut (after arrival_of), (lent_mut (after required_of), (lent_mut (after slack_of), (lent_mut (after earliest_of), tt)))))))))));
      learnt = (refl, refl, refl, refl, refl, refl);
    }

pub records_on_lem : (t : TimesCall) (known : List ℕ) (ts : List ℤ) → RecordsAfter t (records_on t known ts)
records_on_lem t known ts = record { nodes = refl; copies = refl; arrivals = refl; requireds = refl; slacks = refl; earliests = refl }

-- what the example series holds
abbrev pub held : GraphSlices
held = graph_slices (0 ∷ 1 ∷ 2 ∷ 2 ∷ 3 ∷ 4 ∷ []) (0 ∷ 0 ∷ 0 ∷ 0 ∷ 1 ∷ 1 ∷ []) (1 ∷ 0 ∷ 3 ∷ 2 ∷ []) (2 ∷ 3 ∷ 4 ∷ 5 ∷ []) (1 ∷ 0 ∷ 2 ∷ 3 ∷ [])

pub is_held : last_held none (map called_of example.0) ≡ some held
is_held = ap (λ (cs : List Called). last_held none cs) example.2

abbrev pub six : List ℤ
six = pos 0 ∷ pos 0 ∷ pos 0 ∷ pos 0 ∷ pos 0 ∷ pos 0 ∷ []

abbrev pub timed : TimesCall
timed = times_on deck_a 10 held six six six six

pub timed_passed : timed.answer ≡ Passed
unfolding design_graph edges_in edges_out well_formed design_tests test_times
timed_passed = refl

pub window_example : (h : ℕ) → h < 6 → get_or (earliests_left timed) h (pos 0) ≤ℤ get_or (arrivals_left timed) h (pos 0)
window_example = earliest_below timed timed_passed

pub record_example : (L : List (List ℕ)) × (whole_after deck_a none (map removal_of (map called_of example.0)) ≡ some L)
    × ((x : Option Times) × ((record_on timed 2).answer ≡ Ok (record { node = 2; times = x })) × PathTimes (edge_early deck_a) (edge_late deck_a) (pos 10) (PassesAt deck_a L 2) x)
record_example = series_record example.0 held timed (record_on timed 2) example.1 is_held refl timed_passed (record_on_lem timed 2)
