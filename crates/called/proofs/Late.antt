-- When a call of `late_or_not` answers that a path is late: beside a call of `times` on the same design, graph and T; beside the records of the
-- nodes that follow; after a removal; after a series.
use Prim.Native.Nat.{ℕ, ◌≤◌}
use mathlib.Core.Path.{◌≡◌, sym, ap, ◌∙◌, subst}
use mathlib.Core.List.{List, map}
use mathlib.Core.Option.{none, some}
use Rattle.std.specs.Prelude.{Option, Result}
use Rattle.timing.specs.Answers.{Verdict, Passed, Counts}
use Rattle.timing.specs.declared.Refusal.{Refusal}
use lib.ListN.{length}
use lib.IntN.{ℤ, pos}
use Rattle.timing.specs.Graphs.{Design, edge_late, design_graph}
use Rattle.timing.specs.TrueGraphs.{permitted_runs}
use Rattle.timing.specs.Calls.{GraphSlices, test_times, late_or_not, slack_of, arrivals_after, requireds_after, slacks_after, earliests_after, records_after}
use Rattle.timing.specs.Series.{whole_after}
use Rattle.timing.specs.Called.{removal_of, front, last_held}
use Rattle.timing.specs.Late.{LateIff, SomeNegative, SomeLonger}
use Rattle.theorems.proofs.Late.{times_late, late_slacks, late_records, removed_late}
use Rattle.theorems.proofs.Late.{series_late as held-late}
use Rattle.called.specs.Removals.{Call, design_of, earlier_of, called_of, worked_on, paths_in, Follows}
use Rattle.called.specs.Times.{TimesCall, timed_design, allowed_time, timed_graph, arrivals_lent, requireds_lent, slacks_lent, earliests_lent, arrivals_left, requireds_left, slacks_left, earliests_left, RecordsCall, RecordsAfter, node_slacks_lent, node_slacks_left}
use Rattle.called.specs.Late.{LateCall, late_design, late_allowed, late_graph, late_places, Beside}
use Rattle.called.proofs.Demand2.{made_by, held_by_lem}

-- beside a call of `times` that passed
module _ (t : TimesCall) (c : LateCall) (passed : t.answer ≡ Passed) (b : Beside t c) where
  abbrev D : Design
  D = timed_design t

  abbrev S : GraphSlices
  S = timed_graph t

  abbrev T : ℕ
  T = allowed_time t

  tested : test_times D S T (length (arrivals_lent t)) (length (requireds_lent t)) (length (slacks_lent t)) (length (earliests_lent t)) ≡ Passed
  tested = sym t.learnt.0 ∙ passed

  answer_is : c.answer ≡ late_or_not D S T (late_places c)
  answer_is = c.learnt.0 ∙ (λ i. late_or_not (b.design i) (b.graph i) (b.allowed i) (late_places c))

  -- what was left, where the tests passed
  arrivals_are : arrivals_left t ≡ arrivals_after D S T Passed (arrivals_lent t)
  arrivals_are = t.learnt.1 ∙ ap (λ (v : Verdict). arrivals_after D S T v (arrivals_lent t)) tested

  requireds_are : requireds_left t ≡ requireds_after D S T Passed (requireds_lent t)
  requireds_are = t.learnt.2 ∙ ap (λ (v : Verdict). requireds_after D S T v (requireds_lent t)) tested

  slacks_are : slacks_left t ≡ slacks_after D S T Passed (slacks_lent t)
  slacks_are = t.learnt.3 ∙ ap (λ (v : Verdict). slacks_after D S T v (slacks_lent t)) tested

  earliests_are : earliests_left t ≡ earliests_after D S Passed (earliests_lent t)
  earliests_are = t.learnt.4 ∙ ap (λ (v : Verdict). earliests_after D S v (earliests_lent t)) tested

  -- the answer and a slice, each as the definitions have it
  told : (x : Result (Option ℕ) Refusal) (l s : List ℤ) → c.answer ≡ x → l ≡ s → LateIff x (SomeNegative s) → LateIff c.answer (SomeNegative l)
  told x l s e q h = subst (λ (y : Result (Option ℕ) Refusal). LateIff y (SomeNegative l)) (sym e) (subst (λ (m : List ℤ). LateIff x (SomeNegative m)) (sym q) h)

  -- "The answer must be late if and only if the full times show a negative slack somewhere."
  pub call_late_slacks : LateIff c.answer (SomeNegative (slacks_left t))
  call_late_slacks = told _ _ _ answer_is slacks_are (late_slacks D S T (late_places c) (times_late D S T _ _ _ _ (late_places c) tested b.places) (slacks_lent t))

  -- and if and only if `node_records`, on what `times` left, then leaves a node with a negative slack
  pub call_late_records : (r : RecordsCall) → r.answer ≡ Passed → RecordsAfter t r → LateIff c.answer (SomeNegative (node_slacks_left r))
  call_late_records r p a =
      told _ _ _ answer_is
      (r.learnt.4
      ∙ (λ i. records_after slack_of (a.nodes i) (a.copies i) ((a.arrivals ∙ arrivals_are) i) ((a.requireds ∙ requireds_are) i) ((a.slacks ∙ slacks_are) i)
      ((a.earliests ∙ earliests_are) i) ((sym r.learnt.0 ∙ p) i) (node_slacks_lent r)))
      (late_records D S T (late_places c) (times_late D S T _ _ _ _ (late_places c) tested b.places) (arrivals_lent t) (requireds_lent t) (slacks_lent t) (earliests_lent t) (node_slacks_lent r))

-- After a removal that answered k copies and e edges, on the front of its room: late if and only if a permitted complete path of what was worked
-- on takes longer than T.
pub call_late : (r : Call) (k e : ℕ) → (called_of r).answer ≡ Counts k e
    → (c : LateCall) → late_design c ≡ design_of r → late_graph c ≡ front k e (called_of r).after → late_allowed c ≤ 1000000000 → late_places c ≡ k
    → LateIff c.answer (SomeLonger (edge_late (design_of r)) (pos (late_allowed c)) (permitted_runs (paths_in r) (worked_on r)))
call_late r k e a c d g h q =
    let m = made_by r k e a in
    subst (λ (x : Result (Option ℕ) Refusal). LateIff x (SomeLonger (edge_late (design_of r)) (pos (late_allowed c)) (permitted_runs (paths_in r) (worked_on r))))
    (sym (c.learnt.0 ∙ (λ i. late_or_not (d i) ((g ∙ m.slices) i) (late_allowed c) (late_places c))))
    (removed_late (design_of r) (earlier_of r) (removal_of (called_of r)) m.graph (late_allowed c) (late_places c) m.made h (q ∙ m.copies))

-- After a series of calls, on what is held: late if and only if a complete path of the design that the whole list permits takes longer than T.
pub series_late : (cs : List Call) (S : GraphSlices) (c : LateCall) → Follows (late_design c) none cs → last_held none (map called_of cs) ≡ some S
    → late_graph c ≡ S → late_allowed c ≤ 1000000000 → late_places c ≡ length S.nodes
    → (L : List (List ℕ)) × (whole_after (late_design c) none (map removal_of (map called_of cs)) ≡ some L)
    × LateIff c.answer (SomeLonger (edge_late (late_design c)) (pos (late_allowed c)) (permitted_runs L (design_graph (late_design c))))
series_late cs S c f q g h p =
    let x = held_by_lem (late_design c) cs S f q in
    let y = held-late (late_design c) (map removal_of (map called_of cs)) x.0 (late_allowed c) (late_places c) x.1 h (p ∙ ap (λ (F : GraphSlices). length F.nodes) x.2) in (
      y.0,
      y.1,
      subst (λ (z : Result (Option ℕ) Refusal). LateIff z (SomeLonger (edge_late (late_design c)) (pos (late_allowed c)) (permitted_runs y.0 (design_graph (late_design c)))))
          (sym (c.learnt.0 ∙ ap (λ (F : GraphSlices). late_or_not (late_design c) F (late_allowed c) (late_places c)) (g ∙ x.2)))
          y.2,
    )
