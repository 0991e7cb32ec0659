-- Demand 2 over what the calls answer: a removal makes a graph, `times` fills the times of its copies, `node_record` looks at
-- them. Each contract equates its call with a definition of `timing/specs/Calls`; here these definitions follow one another.
-- Whatever a removal makes stands for the graph worked on and the list, and demand 2 and T4 hold of whatever stands.
use Prim.Native.Nat.{ℕ, ◌<◌, ◌≤◌}
use mathlib.Core.Path.{◌≡◌, sym, ap, ◌∙◌, subst}
use mathlib.Core.Bool.{◌&&◌}
use mathlib.Core.List.{List, map, Memᴰ}
use mathlib.Core.Option.{Option, none, some}
use Rattle.std.specs.Prelude.{Ok}
use Rattle.std.specs.Prelude.{Option as Maybe}
use Rattle.timing.specs.Answers.{Verdict, Passed, SomeTimes}
use Rattle.timing.specs.declared.Times.{Times}
use native.Mathlib.Omega.{arith}
use lib.Dec.{T, eqb, eqb_refl}
use lib.IntN.{ℤ, pos}
use lib.ListN.{length, get_or, take, drop, length-map}
use lib.Seq.{take-append_seam}
use lib.Signed.{◌≤ℤ◌}
use Rattle.timing.specs.Lists.{placed, upto}
use Rattle.timing.specs.Graphs.{Design, edge_early, edge_late, Edge, Graph, design_graph}
use Rattle.timing.specs.Marks.{paths_of}
use Rattle.timing.specs.TrueGraphs.{Copy, true_graph}
use Rattle.timing.specs.Times.{arrival_at, required_at, slack_at, earliest_at, node_times, node_record}
use Rattle.timing.specs.WellFormed.{well_formed}
use Rattle.timing.specs.Tests.{same_sizes, time_sizes, node_count, design_sizes, design_tests, list_sizes, list_tests, graph_test, room_sizes}
use Rattle.timing.specs.Calls.{GraphSlices, graph_slices, graph_of, slices_of, graph_sizes, made, Removal, removal_tests, remove_from_design, remove_from_graph, nodes_after, endpoints_after, starts_after, ends_after, names_after, test_times, arrivals_after, requireds_after, slacks_after, earliests_after, record_of, records_after}
use Rattle.timing.specs.Series.{held_after, whole_after, Renumbered}
use Rattle.timing.specs.Called.{remove_on, graph_on}
use Rattle.timing.specs.Paths.{PassesNode, PassesAt, Shows, pair_of}
use Rattle.timing.specs.Demands.{Demand2, PathBest, TimesOfPaths, record_after, RecordOfPaths}
use Rattle.theorems.proofs.Lists.{holds, and_intro, length_upto, get_d_mem}
use Rattle.timing.proofs.Verdicts.{then_passed, unless_passed}
use Rattle.theorems.proofs.Runs.{Rising}
use Rattle.theorems.proofs.Stands.{Stands, true_stands, true_label}
use Rattle.theorems.proofs.Tested.{fit_passed, design_fits, tests_count, formed, Timed, timing_passed, timing_passes}
use Rattle.theorems.proofs.Legal.{Legal, fits_legal, design_legal, well_formed_legal}
use Rattle.theorems.proofs.Kept.{true_formed}
use Rattle.theorems.proofs.Extremes.{AtMost, order}
use Rattle.theorems.proofs.Times.{earliest_below}
use Rattle.theorems.proofs.Demand2.{stands_demand2}
use Rattle.theorems.proofs.Nodes.{at_copy, copy_times_at, node_times_at}
use Rattle.theorems.proofs.Demand2Times.{copy_times, cut_inside, record_below, design_record}
use Rattle.theorems.proofs.Series.{graph_slices_lem, slices_sizes, removal_few, outcome_made, held_renumbered, held_pair, series_held}

-- A caller lends on the front of each room, as long as the removal answered: it holds the graph that was made.
pub front_made : (H : Graph) (room : GraphSlices) → length H.endpoints ≡ length H.nodes
    → graph_slices
    (take (length H.nodes) (nodes_after (made H) room.nodes))
    (take (length H.nodes) (endpoints_after (made H) room.endpoints))
    (take (length H.edges) (starts_after (made H) room.starts))
    (take (length H.edges) (ends_after (made H) room.ends))
    (take (length H.edges) (names_after (made H) room.names))
    ≡ slices_of H
front_made H room same =
    λ i.
    graph_slices (take-append_seam H.nodes (drop (length H.nodes) room.nodes) i) (ends i) (edges (λ e. e.start) room.starts i) (edges (λ e. e.end) room.ends i) (edges (λ e. e.name) room.names i)
  where
    ends : take (length H.nodes) (placed H.endpoints room.endpoints) ≡ H.endpoints
    ends =
        ap (λ (k : ℕ). take k (placed H.endpoints room.endpoints)) (sym same)
        ∙ take-append_seam H.endpoints (drop (length H.endpoints) room.endpoints)

    edges : (f : Edge → ℕ) (room : List ℕ) → take (length H.edges) (placed (map f H.edges) room) ≡ map f H.edges
    edges f room =
        ap (λ (k : ℕ). take k (placed (map f H.edges) room)) (sym (length-map H.edges f))
        ∙ take-append_seam (map f H.edges) (drop (length (map f H.edges)) room)

pub same_sizes_lem : (n a b : ℕ) → a ≡ n → b ≡ n → same_sizes n a b ≡ Passed
same_sizes_lem n a b p q = rw (p, q) (fit_passed 30 (eqb n n && eqb n n) (and_intro (eqb n n) (eqb n n) (eqb_refl n) (eqb_refl n)))

time_sizes_lem : (n a r s e : ℕ) → a ≡ n → r ≡ n → s ≡ n → e ≡ n → time_sizes n a r s e ≡ Passed
time_sizes_lem n a r s e p q o l = rw (same_sizes_lem n a r p q) (same_sizes_lem n s e o l)

-- the tests of `node_record` pass on slices that `times` filled
times_count : (D : Design) (S : GraphSlices) (t a r s e : ℕ) → test_times D S t a r s e ≡ Passed → node_count D.nodes ≡ Passed
unfolding test_times
times_count D S t a r s e p = tests_count D (timing_passed D S t (time_sizes (length S.nodes) a r s e) p).tests

record_passed : (n : ℕ) (nodes : List ℕ) (ats rts sts ets : List ℤ) (v : ℕ) → time_sizes (length nodes) (length ats) (length rts) (length sts) (length ets) ≡ Passed
    → node_count n ≡ Passed → record_of n nodes ats rts sts ets v ≡ Ok (node_record n nodes ats rts sts ets v)
unfolding record_of
record_passed n nodes ats rts sts ets v p c = rw (p, c)

-- what a removal that is not refused says of the design and of its result
pub record Removed (D : Design) (G : Graph) (L : List (List ℕ)) (H : Graph) : Type 0 where
  pub sizes : design_sizes D ≡ Passed
  pub tests : design_tests D ≡ Passed
  pub legal : Legal D G
  pub stands : Stands G L H
  pub pairs : (h : ℕ) → stands.label h ≡ pair_of G L h
  pub formed : T (well_formed D H)

removed : (D : Design) (G : Graph) (r : Removal) (H : Graph) → design_sizes D ≡ Passed → design_tests D ≡ Passed → Legal D G → removal_tests D G r ≡ Passed
    → true_graph G (paths_of r.list) ≡ H → Removed D G (paths_of r.list) H
removed D G r H s t legal e q =
    let K = paths_of r.list in
    subst (Removed D G K) q
    (record {
      sizes = s;
      tests = t;
      legal = legal;
      stands = true_stands G K legal.rising;
      pairs = true_label G K legal.rising;
      formed = true_formed D G K (design_fits D s t) legal (removal_few D G r e);
    })

pub from_design_removed : (D : Design) (r : Removal) (H : Graph) → remove_from_design D r ≡ made H → Removed D (design_graph D) (paths_of r.list) H
unfolding remove_from_design
from_design_removed D r H e =
    let o = outcome_made _ (true_graph (design_graph D) (paths_of r.list)) H e in
    let t₁ = then_passed (design_sizes D) _ o.0 in
    let t₂ = then_passed (list_sizes r.list) _ t₁.1 in
    let t₃ = then_passed (room_sizes r.room) _ t₂.1 in
    let t₄ = then_passed (design_tests D) _ t₃.1 in
    let t₅ = then_passed (list_tests D r.list) _ t₄.1 in
    removed D (design_graph D) r H t₁.0 t₄.0 (design_legal D t₁.0 t₄.0) t₅.1 o.1

pub from_graph_removed : (D : Design) (S : GraphSlices) (r : Removal) (H : Graph) → remove_from_graph D S r ≡ made H → Removed D (graph_of S) (paths_of r.list) H
unfolding remove_from_graph
from_graph_removed D S r H e =
    let o = outcome_made _ (true_graph (graph_of S) (paths_of r.list)) H e in
    let t₁ = then_passed (design_sizes D) _ o.0 in
    let t₂ = then_passed (list_sizes r.list) _ t₁.1 in
    let t₃ = then_passed (graph_sizes S) _ t₂.1 in
    let t₄ = then_passed (room_sizes r.room) _ t₃.1 in
    let t₅ = then_passed (design_tests D) _ t₄.1 in
    let t₆ = then_passed (list_tests D r.list) _ t₅.1 in
    let t₇ = then_passed (graph_test D (graph_of S)) _ t₆.1 in
    let w = well_formed D (graph_of S) in
    removed D (graph_of S) r H t₁.0 t₅.0 (well_formed_legal D (graph_of S) t₁.0 t₅.0 (holds w (unless_passed 32 w t₇.0))) t₇.1 o.1

-- from the design, or from an earlier graph
pub removed_on : (D : Design) (held : Option GraphSlices) (r : Removal) (H : Graph) → remove_on D held r ≡ made H → Removed D (graph_on D held) (paths_of r.list) H
removed_on D none r H e = from_design_removed D r H e
removed_on D (some S) r H e = from_graph_removed D S r H e

-- Demand 2 of what a call makes: of a removal from the design or from any earlier graph, however it was made; and of the
-- graph held after a series, for the design and the whole list.
pub removed_demand2 : (D : Design) (held : Option GraphSlices) (r : Removal) (H : Graph) → remove_on D held r ≡ made H → Demand2 (graph_on D held) (paths_of r.list) H
removed_demand2 D held r H e =
    let m = removed_on D held r H e in
    stands_demand2 D (graph_on D held) H (paths_of r.list) m.legal.rising m.stands (well_formed_legal D H m.sizes m.tests m.formed)

pub series_demand2 : (D : Design) (rs : List Removal) (H : Graph) → held_after D none rs ≡ some H
    → (L : List (List ℕ)) × (whole_after D none rs ≡ some L) × Demand2 (design_graph D) L H
series_demand2 D rs H e =
    let h = series_held D rs H e in
    (h.0, h.1, stands_demand2 D (design_graph D) H h.0 (fits_legal D h.2.fit).rising h.2.stands h.2.legal)

-- the tests that come before times refuse a well-formed graph only for T and for the lengths of the lent slices
pub formed_timed : (D : Design) (H : Graph) (t : ℕ) (lent : Verdict) → design_sizes D ≡ Passed → design_tests D ≡ Passed → length H.endpoints ≡ length H.nodes
    → T (well_formed D H) → t ≤ 1000000000 → lent ≡ Passed → Timed D (slices_of H) t lent
formed_timed D H t lent s d n w h p = record {
  sizes = s;
  slices = slices_sizes H n;
  places = p;
  tests = d;
  allowed = h;
  well = subst (λ (F : Graph). T (well_formed D F)) (sym (graph_slices_lem H)) w;
}

-- so `times` refuses what a removal made only for these
pub removed_times : (D : Design) (G : Graph) (L : List (List ℕ)) (H : Graph) (t a r s e : ℕ) → Removed D G L H → t ≤ 1000000000
    → a ≡ length H.nodes → r ≡ length H.nodes → s ≡ length H.nodes → e ≡ length H.nodes → test_times D (slices_of H) t a r s e ≡ Passed
unfolding test_times
removed_times D G L H t a r s e m h p q o l =
    timing_passes D (slices_of H) t _ (formed_timed D H t _ m.sizes m.tests m.stands.sizes m.formed h (time_sizes_lem (length H.nodes) a r s e p q o l))

-- Whatever true graph `times` passes, it leaves at no copy an earliest arrival above the arrival.
pub earliest_left : (D : Design) (S : GraphSlices) (t : ℕ) (ats ets : List ℤ) (a r s e : ℕ) → test_times D S t a r s e ≡ Passed
    → (h : ℕ) → h < length S.nodes → get_or (earliests_after D S Passed ets) h (pos 0) ≤ℤ get_or (arrivals_after D S t Passed ats) h (pos 0)
unfolding test_times arrivals_after earliests_after
earliest_left D S t ats ets a r s e p h k =
    let x = timing_passed D S t (time_sizes (length S.nodes) a r s e) p in
    let up = (well_formed_legal D (graph_of S) x.sizes x.tests x.well).rising in
    let named : (f : Edge) → Memᴰ f (graph_of S).edges → AtMost (edge_early D f.name) (edge_late D f.name) =
    λ f m. (design_fits D x.sizes x.tests).ordered f.name ((formed D (graph_of S) x.well).fits f m).named in
    rw (left (earliest_at (edge_early D) (graph_of S)), left (arrival_at (edge_late D) (pos t) (graph_of S)))
    (order _ _ (earliest_below (edge_early D) (edge_late D) (pos t) (graph_of S) up named h k))
  where
    left : (f : ℕ → ℤ) → get_or (map f (upto (length S.nodes) 0)) h (pos 0) ≡ f h
    left f = at_copy (pos 0) f (length S.nodes) 0 h k ∙ ap f (omega arith)

-- what the slices hold where `times` passes: a time of each copy
module _ (D : Design) (H : Graph) (t : ℕ) (ats rts sts ets : List ℤ)
    (tested : test_times D (slices_of H) t (length ats) (length rts) (length sts) (length ets) ≡ Passed) where
  arrivals_filled : arrivals_after D (slices_of H) t (test_times D (slices_of H) t (length ats) (length rts) (length sts) (length ets)) ats
      ≡ map (arrival_at (edge_late D) (pos t) H) (upto (length H.nodes) 0)
  unfolding arrivals_after
  arrivals_filled =
      ap (λ (w : Verdict). arrivals_after D (slices_of H) t w ats) tested
      ∙ ap (λ (G : Graph). map (arrival_at (edge_late D) (pos t) G) (upto (length H.nodes) 0)) (graph_slices_lem H)

  requireds_filled : requireds_after D (slices_of H) t (test_times D (slices_of H) t (length ats) (length rts) (length sts) (length ets)) rts
      ≡ map (required_at (edge_late D) (pos t) H) (upto (length H.nodes) 0)
  unfolding requireds_after
  requireds_filled =
      ap (λ (w : Verdict). requireds_after D (slices_of H) t w rts) tested
      ∙ ap (λ (G : Graph). map (required_at (edge_late D) (pos t) G) (upto (length H.nodes) 0)) (graph_slices_lem H)

  slacks_filled : slacks_after D (slices_of H) t (test_times D (slices_of H) t (length ats) (length rts) (length sts) (length ets)) sts
      ≡ map (slack_at (edge_late D) (pos t) H) (upto (length H.nodes) 0)
  unfolding slacks_after
  slacks_filled =
      ap (λ (w : Verdict). slacks_after D (slices_of H) t w sts) tested
      ∙ ap (λ (G : Graph). map (slack_at (edge_late D) (pos t) G) (upto (length H.nodes) 0)) (graph_slices_lem H)

  earliests_filled : earliests_after D (slices_of H) (test_times D (slices_of H) t (length ats) (length rts) (length sts) (length ets)) ets
      ≡ map (earliest_at (edge_early D) H) (upto (length H.nodes) 0)
  unfolding earliests_after
  earliests_filled =
      ap (λ (w : Verdict). earliests_after D (slices_of H) w ets) tested
      ∙ ap (λ (G : Graph). map (earliest_at (edge_early D) G) (upto (length H.nodes) 0)) (graph_slices_lem H)

  each : (f : ℕ → ℤ) → length (map f (upto (length H.nodes) 0)) ≡ length H.nodes
  each f = length-map (upto (length H.nodes) 0) f ∙ length_upto (length H.nodes) 0

  pub record_after_lem : (v : ℕ) → record_after D H t ats rts sts ets v ≡ Ok (record { node = v; times = node_times_at (edge_early D) (edge_late D) (pos t) H D.nodes v })
  record_after_lem v =
      (λ i. record_of D.nodes H.nodes (arrivals_filled i) (requireds_filled i) (slacks_filled i) (earliests_filled i) v)
      ∙ record_passed D.nodes H.nodes _ _ _ _ v
      (time_sizes_lem (length H.nodes) _ _ _ _ (each (arrival_at (edge_late D) (pos t) H)) (each (required_at (edge_late D) (pos t) H)) (each (slack_at (edge_late D) (pos t) H)) (each (earliest_at (edge_early D) H)))
      (times_count D (slices_of H) t (length ats) (length rts) (length sts) (length ets) tested)

  -- and what `node_records` leaves at the place of node v tells the same record
  pub records_after_lem : {A : Type 0} (z : A) (f : Maybe Times → A) (room : List A) (v : ℕ) → v < D.nodes
      → get_or
      (records_after f D.nodes H.nodes
      (arrivals_after D (slices_of H) t (test_times D (slices_of H) t (length ats) (length rts) (length sts) (length ets)) ats)
      (requireds_after D (slices_of H) t (test_times D (slices_of H) t (length ats) (length rts) (length sts) (length ets)) rts)
      (slacks_after D (slices_of H) t (test_times D (slices_of H) t (length ats) (length rts) (length sts) (length ets)) sts)
      (earliests_after D (slices_of H) (test_times D (slices_of H) t (length ats) (length rts) (length sts) (length ets)) ets)
      Passed room)
      v z
      ≡ f (node_times_at (edge_early D) (edge_late D) (pos t) H D.nodes v)
  unfolding records_after
  records_after_lem z f room v h =
      (λ i. get_or (map (λ w. f (node_times D.nodes H.nodes (arrivals_filled i) (requireds_filled i) (slacks_filled i) (earliests_filled i) w)) (upto D.nodes 0)) v z)
      ∙ at_copy z (λ w. f (node_times_at (edge_early D) (edge_late D) (pos t) H D.nodes w)) D.nodes 0 v h
      ∙ ap (λ (w : ℕ). f (node_times_at (edge_early D) (edge_late D) (pos t) H D.nodes w)) (omega arith)

  -- the times that are left at a copy
  left : (f : ℕ → ℤ) (h : ℕ) → h < length H.nodes → {ts : List ℤ} → ts ≡ map f (upto (length H.nodes) 0) → get_or ts h (pos 0) ≡ f h
  left f h k e = ap (λ (l : List ℤ). get_or l h (pos 0)) e ∙ at_copy (pos 0) f (length H.nodes) 0 h k ∙ ap f (omega arith)

  pub copy_after : (h : ℕ) → h < length H.nodes
      → let v = test_times D (slices_of H) t (length ats) (length rts) (length sts) (length ets) in
      SomeTimes (get_or (arrivals_after D (slices_of H) t v ats) h (pos 0)) (get_or (requireds_after D (slices_of H) t v rts) h (pos 0))
      (get_or (slacks_after D (slices_of H) t v sts) h (pos 0)) (get_or (earliests_after D (slices_of H) v ets) h (pos 0))
      ≡ copy_times_at (edge_early D) (edge_late D) (pos t) H h
  copy_after h k =
      λ i.
      SomeTimes (left (arrival_at (edge_late D) (pos t) H) h k arrivals_filled i) (left (required_at (edge_late D) (pos t) H) h k requireds_filled i)
      (left (slack_at (edge_late D) (pos t) H) h k slacks_filled i) (left (earliest_at (edge_early D) H) h k earliests_filled i)

  times_left : (h : ℕ) (P : List Edge → List Edge → Type 0) → h < length H.nodes
      → PathBest (edge_early D) (edge_late D) (pos t) P (arrival_at (edge_late D) (pos t) H h) (required_at (edge_late D) (pos t) H h) (slack_at (edge_late D) (pos t) H h) (earliest_at (edge_early D) H h)
      → TimesOfPaths D H t ats rts sts ets h P
  times_left h P k b =
      let a = left (arrival_at (edge_late D) (pos t) H) h k arrivals_filled in
      let r = left (required_at (edge_late D) (pos t) H) h k requireds_filled in
      let s = left (slack_at (edge_late D) (pos t) H) h k slacks_filled in
      let e = left (earliest_at (edge_early D) H) h k earliests_filled in
      rw (a, r, s, e) b

  stands_times : (G : Graph) (L : List (List ℕ)) → Rising G → (S : Stands G L H) (h : ℕ) (k : Copy) → S.label h ≡ k → h < length H.nodes
      → TimesOfPaths D H t ats rts sts ets h (Shows G L k)
  stands_times G L up S h k e i =
      subst (λ (x : Copy). TimesOfPaths D H t ats rts sts ets h (Shows G L x)) e
      (times_left h (Shows G L (S.label h)) i (copy_times G H L up S (edge_early D) (edge_late D) (pos t) h i))

  -- After a removal from the design, the times of copy h are those of the design's permitted complete paths that show its (node, mark); after one from
  -- any earlier graph, however it was made, of that graph's permitted complete paths that show its (earlier copy, mark).
  pub removed_copy_times : (held : Option GraphSlices) (r : Removal) → remove_on D held r ≡ made H → (h : ℕ) → h < length H.nodes
      → TimesOfPaths D H t ats rts sts ets h (Shows (graph_on D held) (paths_of r.list) (pair_of (graph_on D held) (paths_of r.list) h))
  removed_copy_times held r e h =
      let m = removed_on D held r H e in
      stands_times (graph_on D held) (paths_of r.list) m.legal.rising m.stands h _ (m.pairs h)

  -- After a series, the copies can be renumbered to those of the true graph of the design and the whole list, as demand 3 says,
  -- so that the times of a copy are those of the design's complete paths that the whole list permits and that show the (node,
  -- mark) of its new number.
  pub series_copy_times : (rs : List Removal) → held_after D none rs ≡ some H
      → (L : List (List ℕ)) × (whole_after D none rs ≡ some L) × (N : Renumbered H (true_graph (design_graph D) L))
      × ((h : ℕ) → h < length H.nodes → TimesOfPaths D H t ats rts sts ets h (Shows (design_graph D) L (pair_of (design_graph D) L (N.to h))))
  series_copy_times rs e =
      let x = series_held D rs H e in
      let L = x.0 in
      let held = x.2 in (
        L,
        x.1,
        held_renumbered D L H held,
        λ h k. stands_times (design_graph D) L (fits_legal D held.fit).rising held.stands h _ (held_pair D L H held h k) k,
      )

  stands_record : (L : List (List ℕ)) → Rising (design_graph D) → Stands (design_graph D) L H → (v : ℕ) → RecordOfPaths D H t ats rts sts ets v (PassesAt D L v)
  stands_record L up stands v = record {
    times = node_times_at (edge_early D) (edge_late D) (pos t) H D.nodes v;
    answer = record_after_lem v;
    paths = design_record D H L up stands v (edge_early D) (edge_late D) (pos t);
  }

  -- After a removal from the design, the record of any node is that of the design's permitted complete paths through it.
  pub removed_record : (r : Removal) → remove_from_design D r ≡ made H → (v : ℕ) → RecordOfPaths D H t ats rts sts ets v (PassesAt D (paths_of r.list) v)
  removed_record r e = let m = from_design_removed D r H e in stands_record (paths_of r.list) m.legal.rising m.stands

  -- After a series, the record of any node is that of the design's complete paths through it that the whole list permits.
  pub series_record : (rs : List Removal) → held_after D none rs ≡ some H
      → (L : List (List ℕ)) × (whole_after D none rs ≡ some L) × ((v : ℕ) → RecordOfPaths D H t ats rts sts ets v (PassesAt D L v))
  series_record rs e = let h = series_held D rs H e in (h.0, h.1, stands_record h.0 (fits_legal D h.2.fit).rising h.2.stands)

  -- After a removal from any earlier graph, however it was made: of that graph's permitted complete paths through a copy of
  -- the node.
  pub further_record : (S : GraphSlices) (r : Removal) → remove_from_graph D S r ≡ made H
      → (v : ℕ) → RecordOfPaths D H t ats rts sts ets v (PassesNode (graph_of S) (paths_of r.list) v)
  further_record S r e v =
      let m = from_graph_removed D S r H e in
      let up = m.legal.rising in
      record {
        times = node_times_at (edge_early D) (edge_late D) (pos t) H D.nodes v;
        answer = record_after_lem v;
        paths =
            record_below (graph_of S) H (paths_of r.list) up m.stands v (edge_early D) (edge_late D) (pos t) D.nodes
            (λ p q (c, n, h). m.legal.below v (subst (λ (x : ℕ). Memᴰ x S.nodes) n (get_d_mem S.nodes c 0 (cut_inside up h))));
      }
