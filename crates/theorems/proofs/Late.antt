-- Late or not. A complete path that takes longer than T ends at a copy with an arrival above T, and at the copy where it starts slack is below 0;
-- an arrival above T where paths end, and a slack below 0 anywhere, are those of such a path. So all of these are one question, and demand 2
-- takes it back to the permitted paths of the design.
use Prim.Native.Nat.{ℕ, ◌+◌, ◌≤◌, ◌<◌}
use native.Mathlib.Omega.{arith}
use mathlib.Core.Path.{◌≡◌, refl, sym, subst}
use mathlib.Core.Logic.{inr, ⊎_elim}
use mathlib.Core.Bool.{Bool, true, false}
use mathlib.Core.List.Memᴰ
use mathlib.Core.List.{List, [], ◌∷◌, map, Memᴰ}
use mathlib.Core.Option.{Option, none, some}
use Rattle.std.specs.Prelude.{Option as Maybe}
use Rattle.timing.specs.Answers.{Verdict, Passed}
use Rattle.timing.specs.declared.Times.{Times}
use lib.Dec.{T}
use lib.IntN.{ℤ, pos, ◌-ℤ◌}
use lib.ListN.{length}
use lib.Signed.{lt_z}
use Rattle.timing.specs.Lists.{upto}
use Rattle.timing.specs.Graphs.{Design, edge_early, edge_late, Edge, Graph, design_graph, node_of, ends_at, Run, complete_runs, delay_along}
use Rattle.timing.specs.Marks.{paths_of}
use Rattle.timing.specs.TrueGraphs.{permitted_runs}
use Rattle.timing.specs.Times.{arrival_at, slack_at, late_at, late_copies}
use Rattle.timing.specs.WellFormed.{well_formed}
use Rattle.timing.specs.Tests.{same_sizes, time_sizes, design_sizes, design_tests}
use Rattle.timing.specs.Calls.{GraphSlices, graph_of, slices_of, Outcome, made, refused, Removal, test_times, test_late, lowest_late, late_or_not, slack_of, arrivals_after, requireds_after, slacks_after, earliests_after, records_after}
use Rattle.timing.specs.Series.{remove_next, held_next, held_after, whole_after}
use Rattle.timing.specs.Called.{remove_on, graph_on}
use Rattle.timing.specs.Paths.{Best}
use Rattle.timing.specs.Demands.{Demand2}
use Rattle.timing.specs.Late.{LateIff, SomeNegative, SomeLonger}
use Rattle.timing.proofs.Ints.{up, dn, sub_parts, lt_z_true, lt_z_false}
use Rattle.theorems.proofs.Lists.{and_intro, and_left, and_right, mem_keep, of_keep, mem_upto, of_upto, get_d_mem}
use Rattle.theorems.proofs.Runs.{Rising, Onward, Leads, Way, leads_up, complete_runs_lem, way_then}
use Rattle.theorems.proofs.Extremes.{AtMost, AtLeast, Some, nil_or_some, nil_none}
use Rattle.theorems.proofs.Times.{Through, arrival_best, slack_best}
use Rattle.theorems.proofs.Nodes.{copies_of, mem_copies, node_times_at, node_times_lem, node_none}
use Rattle.theorems.proofs.Elements.{size_each, at_each}
use Rattle.theorems.proofs.Legal.{well_formed_legal}
use Rattle.theorems.proofs.Tested.{Timed, timing_passed, timing_passes}
use Rattle.theorems.proofs.Series.{graph_slices_lem, series_held}
use Rattle.theorems.proofs.Records.{same_sizes_lem, from_design_removed, from_graph_removed, removed_on, formed_timed, removed_demand2, series_demand2}

-- a is below b, in the parts that `omega` reads; and back
below : (a b : ℤ) → T (lt_z a b) → up a + dn b < up b + dn a
below a b h = go (lt_z a b) refl h
  where
    go : (x : Bool) → lt_z a b ≡ x → T x → up a + dn b < up b + dn a
    go true e k = lt_z_true a b e
    go false e k = absurd k

is_below : (a b : ℤ) → up a + dn b < up b + dn a → T (lt_z a b)
is_below a b h = go (lt_z a b) refl
  where
    go : (x : Bool) → lt_z a b ≡ x → T x
    go true e = tt
    go false e = absurd (omega (arith, lt_z_false a b e))

-- where a path ends
way_end : (G : Graph) (a : ℕ) (es : List Edge) → Way G a es → (c : ℕ) × Leads G a es c × T (ends_at G c)
way_end G a [] w = (a, refl, w)
way_end G a (e ∷ es) w = let r = way_end G e.end es w.2 in (r.0, (w.0, w.1, r.1), r.2)

leads_way : (G : Graph) (a c : ℕ) (es : List Edge) → Leads G a es c → T (ends_at G c) → Way G a es
leads_way G a c [] l e = subst (λ (x : ℕ). T (ends_at G x)) (sym l) e
leads_way G a c (x ∷ es) l e = (l.0, l.1, leads_way G x.end c es l.2 e)

leads_inside : (G : Graph) (R : Rising G) (a c : ℕ) (es : List Edge) → a < length G.nodes → Leads G a es c → c < length G.nodes
leads_inside G R a c [] h l = subst (λ (x : ℕ). x < length G.nodes) l h
leads_inside G R a c (e ∷ es) h l = leads_inside G R e.end c es (R.inside e l.0) l.2

-- In one graph, for any delay d of a design edge and any time t.
module _ (d : ℕ → ℤ) (t : ℤ) (G : Graph) (R : Rising G) where
  abbrev Longer : Type 0
  Longer = SomeLonger d t (complete_runs G)

  longer_late : Longer → Some (late_copies d t G)
  unfolding late_copies
  longer_late (r, m, h) =
      let w = (complete_runs_lem G R r).0 m in
      let e = way_end G r.first r.edges w.2 in
      let c = e.0 in
      let i = leads_inside G R r.first c r.edges w.0 e.1 in
      let most = (arrival_best d t G R c i).most r.edges (r.first, w.1, e.1) in (
        c,
        mem_keep (late_at d t G) (mem_upto (length G.nodes) 0 c (omega arith) (omega (arith, i)))
            (and_intro (ends_at G c) (lt_z t (arrival_at d t G c)) e.2
            (is_below t (arrival_at d t G c) (omega (arith, below t (delay_along d r.edges) h, most)))),
      )

  late_longer : Some (late_copies d t G) → Longer
  unfolding late_copies
  late_longer (c, m) =
      let k = of_keep (late_at d t G) (upto (length G.nodes) 0) m in
      let i : c < length G.nodes = omega (arith, (of_upto (length G.nodes) 0 c k.0).1) in
      let b = arrival_best d t G R c i in
      let a = b.there.0 in
      let l = b.there.2 in
      let w = leads_way G a c b.at l (and_left (ends_at G c) (lt_z t (arrival_at d t G c)) k.1) in (
        record { first = a; edges = b.at },
        (complete_runs_lem G R (record { first = a; edges = b.at })).1 (omega (arith, leads_up G R a c b.at l, i), b.there.1, w),
        subst (λ (z : ℤ). T (lt_z t z)) (sym b.is) (and_right (ends_at G c) (lt_z t (arrival_at d t G c)) k.1),
      )

  -- a path through a copy, with T less its delay below 0
  through_longer : (c : ℕ) (es : List Edge) → c < length G.nodes → Through G c es → T (lt_z (t -ℤ delay_along d es) (pos 0)) → Longer
  through_longer c es i (p, q, (a, s, l), w, e) h = (
    record { first = a; edges = es },
    (complete_runs_lem G R (record { first = a; edges = es })).1 (omega (arith, leads_up G R a c p l, i), s, subst (Way G a) (sym e) (way_then G a c p q l w)),
    is_below t (delay_along d es) (omega (arith, below (t -ℤ delay_along d es) (pos 0) h, sub_parts t (delay_along d es))),
  )

  -- at the copy where a path starts
  longer_through : (r : Run) → Memᴰ r (complete_runs G) → (r.first < length G.nodes) × Through G r.first r.edges
  longer_through r m = let w = (complete_runs_lem G R r).0 m in (w.0, ([], r.edges, (r.first, w.1, refl), w.2, refl))

  -- a number that is at most T less such a delay
  less_negative : (s : ℤ) (es : List Edge) → AtMost s (t -ℤ delay_along d es) → T (lt_z t (delay_along d es)) → T (lt_z s (pos 0))
  less_negative s es most h = is_below s (pos 0) (omega (arith, below t (delay_along d es) h, most, sub_parts t (delay_along d es)))

  -- where s is the smallest of T less the delay over some paths through copies: it is below 0 only if one of them takes longer
  module _ {P : List Edge → Type 0} {s : ℤ} (b : Best AtLeast P (λ es. t -ℤ delay_along d es) s) (h : T (lt_z s (pos 0))) where
    negative_at : T (lt_z (t -ℤ delay_along d b.at) (pos 0))
    negative_at = subst (λ (z : ℤ). T (lt_z z (pos 0))) (sym b.is) h

  module _ (O : Onward G) where
    longer_slack : Longer → (c : ℕ) × (c < length G.nodes) × T (lt_z (slack_at d t G c) (pos 0))
    longer_slack (r, m, h) =
        let p = longer_through r m in
        (r.first, p.0, less_negative (slack_at d t G r.first) r.edges ((slack_best d t G R O r.first p.0).most r.edges p.1) h)

    slack_longer : (c : ℕ) → c < length G.nodes → T (lt_z (slack_at d t G c) (pos 0)) → Longer
    slack_longer c i h = let b = slack_best d t G R O c i in through_longer c b.at i b.there (negative_at b h)

    -- and of a node's slack, which is the smallest of its copies'
    module _ (early : ℕ → ℤ) (n : ℕ) where
      abbrev slack_of_node : ℕ → ℤ
      slack_of_node v = slack_of (node_times_at early d t G n v)

      longer_node : ((c : ℕ) → c < length G.nodes → node_of G c < n) → Longer → (v : ℕ) × (v < n) × T (lt_z (slack_of_node v) (pos 0))
      longer_node inside (r, m, h) =
          let p = longer_through r m in
          let c = r.first in
          let v = node_of G c in
          let x = node_times_lem early d t G n v R O (inside c p.0) (c, (mem_copies G v c).1 (p.0, refl)) in (
            v,
            inside c p.0,
            subst (λ (y : Maybe Times). T (lt_z (slack_of y) (pos 0))) (sym x.4) (less_negative x.2 r.edges (x.5.slack.most r.edges (c, (p.0, refl), p.1)) h),
          )

      node_longer : (v : ℕ) → v < n → T (lt_z (slack_of_node v) (pos 0)) → Longer
      node_longer v i h = ⊎_elim (λ e. absurd (empty (λ s. nil_none (copies_of G v) e s))) full (nil_or_some (copies_of G v))
        where
          empty : (Some (copies_of G v) → ⊥) → ⊥
          empty f = subst (λ (y : Maybe Times). T (lt_z (slack_of y) (pos 0))) (node_none early d t G n v (inr f)) h

          full : Some (copies_of G v) → Longer
          full s =
              let x = node_times_lem early d t G n v R O i s in
              let b = x.5.slack in
              let c = b.there in
              through_longer c.0 b.at c.1.0 c.2 (negative_at b (subst (λ (y : Maybe Times). T (lt_z (slack_of y) (pos 0))) x.4 h))

-- from whether some copy is late to the answer
late_iff : {P : Type 0} (cs : List ℕ) → (Some cs → P) → (P → Some cs) → LateIff (lowest_late Passed cs) P
late_iff [] f g = λ p. Memᴰ.not-nil (g p).1
late_iff (c ∷ cs) f g = f (c, Memᴰ.head refl)

-- a number below 0 in a slice with what f says of each of n
module _ (f : ℕ → ℤ) (n : ℕ) where
  into_slice : (i : ℕ) → i < n → T (lt_z (f i) (pos 0)) → SomeNegative (map f (upto n 0))
  into_slice i h k = (i, omega (arith, size_each f n, h), subst (λ (z : ℤ). T (lt_z z (pos 0))) (sym (at_each (pos 0) f n i h)) k)

  from_slice : SomeNegative (map f (upto n 0)) → (i : ℕ) × (i < n) × T (lt_z (f i) (pos 0))
  from_slice (i, h, k) = let l : i < n = omega (arith, size_each f n, h) in (i, l, subst (λ (z : ℤ). T (lt_z z (pos 0))) (at_each (pos 0) f n i l) k)

-- Whatever design, true graph and T pass the tests, with a place for each copy.
module _ (D : Design) (S : GraphSlices) (t a : ℕ) (tested : test_late D S t a ≡ Passed) where
  abbrev n : ℕ
  n = length S.nodes

  timed : Timed D S t (same_sizes n n a)
  unfolding test_late
  timed = timing_passed D S t (same_sizes n n a) tested

  abbrev late : ℕ → ℤ
  late = edge_late D

  rising : Rising (graph_of S)
  rising = (well_formed_legal D (graph_of S) timed.sizes timed.tests timed.well).rising

  onward : Onward (graph_of S)
  onward = (well_formed_legal D (graph_of S) timed.sizes timed.tests timed.well).onward

  nodes_inside : (c : ℕ) → c < n → node_of (graph_of S) c < D.nodes
  nodes_inside c h = (well_formed_legal D (graph_of S) timed.sizes timed.tests timed.well).below _ (get_d_mem S.nodes c 0 h)

  answer_iff : {P : Type 0} → (SomeLonger late (pos t) (complete_runs (graph_of S)) → P) → (P → SomeLonger late (pos t) (complete_runs (graph_of S)))
      → LateIff (late_or_not D S t a) P
  unfolding late_or_not
  answer_iff {P} f g =
      subst (λ (v : Verdict). LateIff (lowest_late v (late_copies late (pos t) (graph_of S))) P) (sym tested)
      (late_iff (late_copies late (pos t) (graph_of S))
      (λ s. f (late_longer late (pos t) (graph_of S) rising s))
      (λ p. longer_late late (pos t) (graph_of S) rising (g p)))

  -- late if and only if some complete path of the graph takes longer than T
  pub late_runs : LateIff (late_or_not D S t a) (SomeLonger late (pos t) (complete_runs (graph_of S)))
  late_runs = answer_iff (λ x. x) (λ x. x)

  -- "if and only if the full times show a negative slack somewhere"
  pub late_slacks : (sts : List ℤ) → LateIff (late_or_not D S t a) (SomeNegative (slacks_after D S t Passed sts))
  unfolding slacks_after
  late_slacks sts =
      answer_iff
      (λ x. let o = longer_slack late (pos t) (graph_of S) rising onward x in into_slice (slack_at late (pos t) (graph_of S)) n o.0 o.1 o.2)
      (λ x. let o = from_slice (slack_at late (pos t) (graph_of S)) n x in slack_longer late (pos t) (graph_of S) rising onward o.0 o.1 o.2)

  -- if and only if some node's record has a negative slack
  pub late_records : (ats rts sts ets room : List ℤ)
      → LateIff (late_or_not D S t a)
      (SomeNegative
      (records_after slack_of D.nodes S.nodes (arrivals_after D S t Passed ats) (requireds_after D S t Passed rts) (slacks_after D S t Passed sts)
      (earliests_after D S Passed ets) Passed room))
  unfolding records_after arrivals_after requireds_after slacks_after earliests_after
  late_records ats rts sts ets room =
      answer_iff
      (λ x.
      let o = longer_node late (pos t) (graph_of S) rising onward (edge_early D) D.nodes nodes_inside x in
      into_slice (slack_of_node late (pos t) (graph_of S) rising onward (edge_early D) D.nodes) D.nodes o.0 o.1 o.2)
      (λ x.
      let o = from_slice (slack_of_node late (pos t) (graph_of S) rising onward (edge_early D) D.nodes) D.nodes x in
      node_longer late (pos t) (graph_of S) rising onward (edge_early D) D.nodes o.0 o.1 o.2)

  -- where demand 2 holds of the graph: if and only if some permitted complete path takes longer than T
  pub late_permitted : (G : Graph) (L : List (List ℕ)) → Demand2 G L (graph_of S) → LateIff (late_or_not D S t a) (SomeLonger late (pos t) (permitted_runs L G))
  late_permitted G L m =
      answer_iff
      (λ (r, i, h). let o = m.sound r i in (o.0, o.1, subst (λ (z : ℤ). T (lt_z (pos t) z)) (o.2.delay late) h))
      (λ (q, i, h). let o = m.complete q i in (o.0, o.1, subst (λ (z : ℤ). T (lt_z (pos t) z)) (sym (o.2.delay late)) h))

-- what passes the tests of `times` passes those of `late_or_not`, where there is a place for each copy
pub times_late : (D : Design) (S : GraphSlices) (t a r s e l : ℕ) → test_times D S t a r s e ≡ Passed → l ≡ length S.nodes → test_late D S t l ≡ Passed
unfolding test_times test_late
times_late D S t a r s e l p q =
    let x = timing_passed D S t (time_sizes (length S.nodes) a r s e) p in
    timing_passes D S t _
    (record {
      sizes = x.sizes;
      slices = x.slices;
      places = same_sizes_lem (length S.nodes) (length S.nodes) l refl q;
      tests = x.tests;
      allowed = x.allowed;
      well = x.well;
    })

formed_late : (D : Design) (H : Graph) (t a : ℕ) → design_sizes D ≡ Passed → design_tests D ≡ Passed → length H.endpoints ≡ length H.nodes → T (well_formed D H)
    → t ≤ 1000000000 → a ≡ length H.nodes → test_late D (slices_of H) t a ≡ Passed
unfolding test_late
formed_late D H t a s d n w h q =
    timing_passes D (slices_of H) t _ (formed_timed D H t _ s d n w h (same_sizes_lem (length H.nodes) (length H.nodes) a refl q))

-- The graph that a removal made, from the design or from any earlier graph: with T within its limit and a place for each copy there is no
-- refusal, and late means that a permitted complete path of what was worked on takes longer than T.
pub removed_late : (D : Design) (held : Option GraphSlices) (r : Removal) (H : Graph) (t a : ℕ) → remove_on D held r ≡ made H → t ≤ 1000000000 → a ≡ length H.nodes
    → LateIff (late_or_not D (slices_of H) t a) (SomeLonger (edge_late D) (pos t) (permitted_runs (paths_of r.list) (graph_on D held)))
removed_late D held r H t a e h q =
    let m = removed_on D held r H e in
    late_permitted D (slices_of H) t a (formed_late D H t a m.sizes m.tests m.stands.sizes m.formed h q) (graph_on D held) (paths_of r.list)
    (subst (Demand2 (graph_on D held) (paths_of r.list)) (sym (graph_slices_lem H)) (removed_demand2 D held r H e))

-- where a graph is held, the design has passed its tests
abbrev TestedIf : Design → Option Graph → Type 0
TestedIf D none = Unit {0}
TestedIf D (some G) = (design_sizes D ≡ Passed) × (design_tests D ≡ Passed)

tested_next : (D : Design) (held : Option Graph) (r : Removal) (o : Outcome Graph) → TestedIf D held → remove_next D held r ≡ o → TestedIf D (held_next held o)
tested_next D held r (refused x) t e = t
tested_next D none r (made G) t e = let m = from_design_removed D r G e in (m.sizes, m.tests)
tested_next D (some S) r (made G) t e = let m = from_graph_removed D (slices_of S) r G e in (m.sizes, m.tests)

tested_after : (D : Design) (held : Option Graph) (rs : List Removal) → TestedIf D held → TestedIf D (held_after D held rs)
tested_after D held [] t = t
tested_after D held (r ∷ rs) t = tested_after D (held_next held (remove_next D held r)) rs (tested_next D held r (remove_next D held r) t refl)

-- The graph held after a series: late means that a complete path of the design that the whole list permits takes longer than T.
pub series_late : (D : Design) (rs : List Removal) (H : Graph) (t a : ℕ) → held_after D none rs ≡ some H → t ≤ 1000000000 → a ≡ length H.nodes
    → (L : List (List ℕ)) × (whole_after D none rs ≡ some L) × LateIff (late_or_not D (slices_of H) t a) (SomeLonger (edge_late D) (pos t) (permitted_runs L (design_graph D)))
series_late D rs H t a e h q =
    let m = series_demand2 D rs H e in
    let x = series_held D rs H e in
    let p = subst (TestedIf D) e (tested_after D none rs tt) in (
      m.0,
      m.1,
      late_permitted D (slices_of H) t a (formed_late D H t a p.0 p.1 x.2.stands.sizes x.2.formed h q) (design_graph D) m.0
          (subst (Demand2 (design_graph D) m.0) (sym (graph_slices_lem H)) m.2),
    )
