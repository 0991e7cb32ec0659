-- What document 01's tests say where they pass, as statements: 30 and 10 to 16 of a design, 30 and 20 to 24 of a list of
-- paths, 32 of a graph.
use Prim.Native.Nat.{ℕ, suc, ◌≤◌, ◌<◌}
use mathlib.Core.Path.{◌≡◌, refl}
use mathlib.Core.Bool.{Bool, true, false, ◌&&◌}
use mathlib.Core.List.{List, [], Memᴰ}
use Rattle.timing.specs.Answers.{Verdict, Passed}
use native.Mathlib.Omega.{arith}
use lib.Dec.{T, eqb, ltb, leb, eqb→eq, eqb_refl, leb→le, le→leb, ltb→lt, lt→ltb}
use lib.IntN.{ℤ, nat_abs}
use lib.ListN.{length, get_or}
use Rattle.timing.specs.Lists.{is_nil, all_of, each_next, upto, sum}
use Rattle.timing.specs.Graphs.{Design, design, edge_start, edge_end, edge_early, edge_late, Edge, Graph, design_graph, node_of}
use Rattle.timing.specs.Marks.{PathList, paths_of}
use Rattle.timing.specs.WellFormed.{few_enough, nodes_fit, edge_fits, edge_rises, zero_or_one, one_endpoint, copy_fits, well_formed}
use Rattle.timing.specs.Refusals.{unless, first_bad, first_fault, ◌then◌}
use Rattle.timing.specs.Tests.{design_sizes, list_sizes, node_count, design_counts, strays, falls, out_of_range, early_above_late, wrong_marked, design_tests, list_counts, meets, empty_at, first_unknown, first_break, list_tests, allowed_test, graph_test}
use Rattle.timing.specs.Calls.{GraphSlices, graph_of, graph_sizes, timing_tests}
use Rattle.timing.proofs.Ints.{lt_z_false}
use Rattle.theorems.proofs.Extremes.{AtMost}
use Rattle.theorems.proofs.Lists.{and_intro, and_left, and_right, holds, not_false, mem_upto, of_upto, all_of_elim, all_of_intro}
use Rattle.timing.proofs.Verdicts.{then_passed, unless_passed, edges_passed}
use Rattle.theorems.proofs.Refusals.{first_bad_passed}
use Rattle.theorems.proofs.Tests.{marked_right}
use Rattle.theorems.proofs.Faults.{has_edge, all_known, all_join, first_fault_passed}

-- a test that passes, by its condition
pub fit_passed : (number : ℕ) (b : Bool) → T b → unless number b ≡ Passed
fit_passed number true h = refl
fit_passed number false h = absurd h

-- what tests 30 and 10 to 16 say of a design
pub record DesignFits (D : Design) : Type 0 where
  pub ends : length D.ends ≡ length D.starts
  pub early : length D.early ≡ length D.starts
  pub late : length D.late ≡ length D.starts
  pub few_nodes : D.nodes ≤ 4096
  pub few_edges : length D.starts ≤ 16384
  pub starts_in : (k : ℕ) → k < length D.starts → edge_start D k < D.nodes
  pub ends_in : (k : ℕ) → k < length D.starts → edge_end D k < D.nodes
  pub rises : (k : ℕ) → k < length D.starts → edge_start D k < edge_end D k
  pub quick : (k : ℕ) → k < length D.starts → nat_abs (edge_early D k) ≤ 1000000
  pub slow : (k : ℕ) → k < length D.starts → nat_abs (edge_late D k) ≤ 1000000
  pub ordered : (k : ℕ) → k < length D.starts → AtMost (edge_early D k) (edge_late D k)
  pub marked_in : (i : ℕ) → i < length D.marked → get_or D.marked i 0 < D.nodes
  pub marked_rise : (i : ℕ) → suc i < length D.marked → get_or D.marked i 0 < get_or D.marked (suc i) 0

pub design_fits : (D : Design) → design_sizes D ≡ Passed → design_tests D ≡ Passed → DesignFits D
unfolding design_tests
design_fits D s t =
    record {
      ends = sizes.0;
      early = sizes.1;
      late = sizes.2;
      few_nodes = leb→le D.nodes 4096 (holds (leb D.nodes 4096) (unless_passed 10 (leb D.nodes 4096) counts.0));
      few_edges = leb→le m 16384 (holds (leb m 16384) (unless_passed 11 (leb m 16384) counts.1));
      starts_in = λ k h. ltb→lt _ _ (and_left (ltb (edge_start D k) D.nodes) (ltb (edge_end D k) D.nodes) (inside k h));
      ends_in = λ k h. ltb→lt _ _ (and_right (ltb (edge_start D k) D.nodes) (ltb (edge_end D k) D.nodes) (inside k h));
      rises = λ k h. ltb→lt _ _ (not_false (ltb (edge_start D k) (edge_end D k)) (first_bad_passed 13 (falls D) 0 ks after13.0 k (mem k h)));
      quick = λ k h. leb→le _ _ (and_left (leb (nat_abs (edge_early D k)) 1000000) (leb (nat_abs (edge_late D k)) 1000000) (ranges k h));
      slow = λ k h. leb→le _ _ (and_right (leb (nat_abs (edge_early D k)) 1000000) (leb (nat_abs (edge_late D k)) 1000000) (ranges k h));
      ordered = λ k h. omega (arith, lt_z_false (edge_late D k) (edge_early D k) (first_bad_passed 15 (early_above_late D) 0 ks after15.0 k (mem k h)));
      marked_in = λ i h. (right i h).0;
      marked_rise = λ i h. (right (suc i) h).1 i refl;
    }
  where
    m : ℕ
    m = length D.starts

    ks : List ℕ
    ks = upto m 0

    mem : (k : ℕ) → k < m → Memᴰ k ks
    mem k h = mem_upto m 0 k (omega arith) (omega arith)

    sizes : (length D.ends ≡ m) × (length D.early ≡ m) × (length D.late ≡ m)
    sizes = edges_passed m (length D.ends) (length D.early) (length D.late) s

    is : List ℕ
    is = upto (length D.marked) 0

    t₁₅ : Verdict
    t₁₅ = first_bad 15 (early_above_late D) 0 ks then first_bad 16 (wrong_marked D) 0 is

    t₁₄ : Verdict
    t₁₄ = first_bad 14 (out_of_range D) 0 ks then t₁₅

    t₁₃ : Verdict
    t₁₃ = first_bad 13 (falls D) 0 ks then t₁₄

    t₁₂ : Verdict
    t₁₂ = first_bad 12 (strays D) 0 ks then t₁₃

    after11 : (design_counts D ≡ Passed) × (t₁₂ ≡ Passed)
    after11 = then_passed (design_counts D) t₁₂ t

    counts : (node_count D.nodes ≡ Passed) × (unless 11 (leb m 16384) ≡ Passed)
    counts = then_passed (node_count D.nodes) (unless 11 (leb m 16384)) after11.0

    after12 : (first_bad 12 (strays D) 0 ks ≡ Passed) × (t₁₃ ≡ Passed)
    after12 = then_passed (first_bad 12 (strays D) 0 ks) t₁₃ after11.1

    after13 : (first_bad 13 (falls D) 0 ks ≡ Passed) × (t₁₄ ≡ Passed)
    after13 = then_passed (first_bad 13 (falls D) 0 ks) t₁₄ after12.1

    after14 : (first_bad 14 (out_of_range D) 0 ks ≡ Passed) × (t₁₅ ≡ Passed)
    after14 = then_passed (first_bad 14 (out_of_range D) 0 ks) t₁₅ after13.1

    after15 : (first_bad 15 (early_above_late D) 0 ks ≡ Passed) × (first_bad 16 (wrong_marked D) 0 is ≡ Passed)
    after15 = then_passed (first_bad 15 (early_above_late D) 0 ks) (first_bad 16 (wrong_marked D) 0 is) after14.1

    inside : (k : ℕ) → k < m → T (ltb (edge_start D k) D.nodes && ltb (edge_end D k) D.nodes)
    inside k h = not_false (ltb (edge_start D k) D.nodes && ltb (edge_end D k) D.nodes) (first_bad_passed 12 (strays D) 0 ks after12.0 k (mem k h))

    ranges : (k : ℕ) → k < m → T (leb (nat_abs (edge_early D k)) 1000000 && leb (nat_abs (edge_late D k)) 1000000)
    ranges k h =
        not_false (leb (nat_abs (edge_early D k)) 1000000 && leb (nat_abs (edge_late D k)) 1000000)
        (first_bad_passed 14 (out_of_range D) 0 ks after14.0 k (mem k h))

    right : (i : ℕ) → i < length D.marked
        → (get_or D.marked i 0 < D.nodes) × ((j : ℕ) → i ≡ suc j → get_or D.marked j 0 < get_or D.marked i 0)
    right i h = marked_right D i (first_bad_passed 16 (wrong_marked D) 0 is after15.1 i (mem_upto (length D.marked) 0 i (omega arith) (omega arith)))

-- 10 is among them
pub tests_count : (D : Design) → design_tests D ≡ Passed → node_count D.nodes ≡ Passed
unfolding design_tests
tests_count D e =
    (then_passed (node_count D.nodes) (unless 11 (leb (length D.starts) 16384))
    (then_passed (design_counts D) _ e).0).0

-- 32 asks no delays
pub no_delays : (n : ℕ) (starts ends : List ℕ) (early late : List ℤ) (marked : List ℕ) (G : Graph)
    → graph_test (design n starts ends [] [] marked) G ≡ graph_test (design n starts ends early late marked) G
unfolding well_formed design_graph
no_delays n starts ends early late marked G = refl

-- what tests 30 and 20 to 24 say of a list of paths
pub record ListFits (D : Design) (L : PathList) : Type 0 where
  pub total : sum L.lengths ≡ length L.edges
  pub few_paths : length L.lengths ≤ 1024
  pub few_edges : length L.edges ≤ 8192
  pub filled : (p : List ℕ) → Memᴰ p (paths_of L) → is_nil p ≡ false
  pub named : (p : List ℕ) → Memᴰ p (paths_of L) → (k : ℕ) → Memᴰ k p → k < length D.starts
  pub joined : (p : List ℕ) → Memᴰ p (paths_of L) → T (each_next (meets D) p)

pub list_fits : (D : Design) (L : PathList) → list_sizes L ≡ Passed → list_tests D L ≡ Passed → ListFits D L
unfolding list_tests
list_fits D L s t =
    let m = length D.starts in
    let K = paths_of L in
    let t₂₂ : Verdict = first_fault 22 empty_at 0 K in
    let t₂₃ : Verdict = first_fault 23 (first_unknown m 0) 0 K in
    let t₂₄ : Verdict = first_fault 24 (first_break (meets D) 0) 0 K in
    let r = then_passed (list_counts L) (t₂₂ then t₂₃ then t₂₄) t in
    let counts = then_passed (unless 20 (leb (length L.lengths) 1024)) (unless 21 (leb (length L.edges) 8192)) r.0 in
    let q = then_passed t₂₂ (t₂₃ then t₂₄) r.1 in
    let u = then_passed t₂₃ t₂₄ q.1 in
    record {
      total = eqb→eq (sum L.lengths) (length L.edges) (holds _ (unless_passed 30 (eqb (sum L.lengths) (length L.edges)) s));
      few_paths = leb→le (length L.lengths) 1024 (holds _ (unless_passed 20 (leb (length L.lengths) 1024) counts.0));
      few_edges = leb→le (length L.edges) 8192 (holds _ (unless_passed 21 (leb (length L.edges) 8192) counts.1));
      filled = λ p i. has_edge p (first_fault_passed 22 empty_at 0 K q.0 p i);
      named = λ p i. all_known m 0 p (first_fault_passed 23 (first_unknown m 0) 0 K u.0 p i);
      joined = λ p i. all_join (meets D) 0 p (first_fault_passed 24 (first_break (meets D) 0) 0 K u.1 p i);
    }

-- what 32 says of an edge
pub record EdgeFits (D : Design) (G : Graph) (e : Edge) : Type 0 where
  pub start_in : e.start < length G.nodes
  pub end_in : e.end < length G.nodes
  pub named : e.name < length D.starts
  pub starts : node_of G e.start ≡ edge_start D e.name
  pub ends : node_of G e.end ≡ edge_end D e.name

and_four : (a b c d : Bool) → T (a && b && c && d) → T a × T b × T c × T d
and_four a b c d t =
    let t₁ = and_left (a && b && c) d t in
    let t₂ = and_left (a && b) c t₁ in
    (and_left a b t₂, and_right a b t₂, and_right (a && b) c t₁, and_right (a && b && c) d t)

edge_fits_lem : (D : Design) (G : Graph) (e : Edge) → T (edge_fits D G e) → EdgeFits D G e
edge_fits_lem D G e t =
    let n = length G.nodes in
    let a = ltb e.start n in
    let b = ltb e.end n in
    let c = ltb e.name (length D.starts) in
    let d = eqb (node_of G e.start) (edge_start D e.name) in
    let f = eqb (node_of G e.end) (edge_end D e.name) in
    let r = and_four a b c d (and_left (a && b && c && d) f t) in
    record {
      start_in = ltb→lt e.start n r.0;
      end_in = ltb→lt e.end n r.1;
      named = ltb→lt e.name (length D.starts) r.2;
      starts = eqb→eq (node_of G e.start) (edge_start D e.name) r.3;
      ends = eqb→eq (node_of G e.end) (edge_end D e.name) (and_right (a && b && c && d) f t);
    }

-- what 32 says of a graph
pub record Formed (D : Design) (G : Graph) : Type 0 where
  pub few : T (few_enough G)
  pub below : T (all_of (λ v. ltb v D.nodes) G.nodes)
  pub order : T (each_next leb G.nodes)
  pub fits : (e : Edge) → Memᴰ e G.edges → EdgeFits D G e
  pub rises : T (each_next edge_rises G.edges)
  pub flags : T (zero_or_one G.endpoints)
  pub one_end_lem : (v : ℕ) → v < D.nodes → T (one_endpoint G v)
  pub copies : (c : ℕ) → c < length G.nodes → T (copy_fits D G c)

pub formed : (D : Design) (G : Graph) → T (well_formed D G) → Formed D G
unfolding well_formed
formed D G t =
    let a = few_enough G in
    let b = nodes_fit D G in
    let c = all_of (edge_fits D G) G.edges in
    let d = each_next edge_rises G.edges in
    let z = zero_or_one G.endpoints in
    let f = all_of (one_endpoint G) (upto D.nodes 0) in
    let g = all_of (copy_fits D G) (upto (length G.nodes) 0) in
    let t₁ = and_left (a && b && c && d && z && f) g t in
    let t₂ = and_left (a && b && c && d && z) f t₁ in
    let r = and_four a b c d (and_left (a && b && c && d) z t₂) in
    record {
      few = r.0;
      below = and_left (all_of (λ v. ltb v D.nodes) G.nodes) (each_next leb G.nodes) r.1;
      order = and_right (all_of (λ v. ltb v D.nodes) G.nodes) (each_next leb G.nodes) r.1;
      fits = λ e m. edge_fits_lem D G e (all_of_elim (edge_fits D G) G.edges r.2 m);
      rises = r.3;
      flags = and_right (a && b && c && d) z t₂;
      one_end_lem = λ v h.
          all_of_elim (one_endpoint G) (upto D.nodes 0) (and_right (a && b && c && d && z) f t₁) (mem_upto D.nodes 0 v (omega arith) (omega arith));
      copies = λ v h.
          all_of_elim (copy_fits D G) (upto (length G.nodes) 0) (and_right (a && b && c && d && z && f) g t)
          (mem_upto (length G.nodes) 0 v (omega arith) (omega arith));
    }

-- and these make it pass
fits_edge : (D : Design) (G : Graph) (e : Edge) → EdgeFits D G e → T (edge_fits D G e)
fits_edge D G e r =
    let n = length G.nodes in
    let a = ltb e.start n in
    let b = ltb e.end n in
    let c = ltb e.name (length D.starts) in
    let d = eqb (node_of G e.start) (edge_start D e.name) in
    let f = eqb (node_of G e.end) (edge_end D e.name) in
    and_intro (a && b && c && d) f
    (and_intro (a && b && c) d
    (and_intro (a && b) c
    (and_intro a b (lt→ltb e.start n r.start_in) (lt→ltb e.end n r.end_in))
    (lt→ltb e.name (length D.starts) r.named))
    (rw r.starts (eqb_refl (edge_start D e.name))))
    (rw r.ends (eqb_refl (edge_end D e.name)))

pub formed_passes : (D : Design) (G : Graph) → Formed D G → T (well_formed D G)
unfolding well_formed
formed_passes D G w =
    let a = few_enough G in
    let b = nodes_fit D G in
    let c = all_of (edge_fits D G) G.edges in
    let d = each_next edge_rises G.edges in
    let z = zero_or_one G.endpoints in
    let f = all_of (one_endpoint G) (upto D.nodes 0) in
    let g = all_of (copy_fits D G) (upto (length G.nodes) 0) in
    and_intro (a && b && c && d && z && f) g
    (and_intro (a && b && c && d && z) f
    (and_intro (a && b && c && d) z
    (and_intro (a && b && c) d
    (and_intro (a && b) c
    (and_intro a b w.few (and_intro (all_of (λ v. ltb v D.nodes) G.nodes) (each_next leb G.nodes) w.below w.order))
    (all_of_intro (edge_fits D G) G.edges (λ e m. fits_edge D G e (w.fits e m))))
    w.rises)
    w.flags)
    (all_of_intro (one_endpoint G) (upto D.nodes 0) (λ v m. w.one_end_lem v (omega (arith, (of_upto D.nodes 0 v m).1)))))
    (all_of_intro (copy_fits D G) (upto (length G.nodes) 0) (λ c m. w.copies c (omega (arith, (of_upto (length G.nodes) 0 c m).1))))

-- what the tests say of a design, a true graph and T, with the lent slices tested by `lent`; and the other way round
pub record Timed (D : Design) (S : GraphSlices) (t : ℕ) (lent : Verdict) : Type 0 where
  pub sizes : design_sizes D ≡ Passed
  pub slices : graph_sizes S ≡ Passed
  pub places : lent ≡ Passed
  pub tests : design_tests D ≡ Passed
  pub allowed : t ≤ 1000000000
  pub well : T (well_formed D (graph_of S))

module _ (D : Design) (S : GraphSlices) (t : ℕ) (lent : Verdict) where
  pub timing_passed : timing_tests D S t lent ≡ Passed → Timed D S t lent
  timing_passed p =
      let p₁ = then_passed (design_sizes D) _ p in
      let p₂ = then_passed (graph_sizes S) _ p₁.1 in
      let p₃ = then_passed lent _ p₂.1 in
      let p₄ = then_passed (design_tests D) _ p₃.1 in
      let p₅ = then_passed (allowed_test t) _ p₄.1 in
      record {
        sizes = p₁.0;
        slices = p₂.0;
        places = p₃.0;
        tests = p₄.0;
        allowed = leb→le t 1000000000 (holds (leb t 1000000000) (unless_passed 25 (leb t 1000000000) p₅.0));
        well = holds (well_formed D (graph_of S)) (unless_passed 32 (well_formed D (graph_of S)) p₅.1);
      }

  pub timing_passes : Timed D S t lent → timing_tests D S t lent ≡ Passed
  timing_passes p =
      rw (p.sizes, p.slices, p.places, p.tests, fit_passed 25 (leb t 1000000000) (le→leb t 1000000000 p.allowed))
      (fit_passed 32 (well_formed D (graph_of S)) p.well)
