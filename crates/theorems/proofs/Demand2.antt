-- Demand 2 (`timing/specs/Demands`): the paths of a true graph from where paths start to where they end, taken back to the design's edges, are the
-- design's complete paths that contain no listed path: each once, no others, delays unchanged. Shown for any H that stands
-- for (G, L), so that it holds however H was made; the design is one G.
use Prim.Native.Nat.{ℕ, zero, suc, ◌<◌}
use mathlib.Core.Path.{◌≡◌, refl, sym, ap, ap₂, ◌∙◌, subst}
use mathlib.Core.Bool.{Bool, true, false, cond}
use mathlib.Core.List.Memᴰ
use mathlib.Core.List.{List, [], ◌∷◌, ◌++◌, map, flat_map, Memᴰ, head-eq_of_cons-eq, tail-eq_of_cons-eq, cons≢nil, nil≢cons, map-append}
use Rattle.timing.specs.Answers.{Passed}
use native.Mathlib.Omega.{arith}
use lib.Dec.{T, eqb}
use lib.ListN.{length}
use lib.IntN.{ℤ, ◌+ℤ◌}
use Rattle.timing.specs.Lists.{keep, upto}
use Rattle.timing.specs.Graphs.{Design, edge_end, design_graph, Edge, Graph, node_of, edges_out, starts_at, ends_at, runs_from, Run, complete_runs, names, delay_along, DesignPath, taken_back}
use Rattle.timing.specs.Marks.{permitted}
use Rattle.timing.specs.Tests.{design_sizes, design_tests}
use Rattle.timing.specs.WellFormed.{well_formed}
use Rattle.timing.specs.TrueGraphs.{Copy, copy_at, permitted_runs, true_graph}
use Rattle.timing.specs.Demands.{SamePath, Demand2}
use Rattle.theorems.proofs.Lists.{of_flat_map, of_keep}
use Rattle.theorems.proofs.Counting.{Nodup, nodup_map, nodup_keep, nodup_flat_map, nodup_upto}
use Rattle.theorems.proofs.Runs.{Rising, Leads, Way, leads_up, way_then, complete_runs_lem}
use Rattle.theorems.proofs.Copies.{Passes, run_passes, passes_run}
use Rattle.theorems.proofs.Stands.{Stands, passes_inside, lowered, names_lowered, start_shown, way_down, leads_down, way_up, start_up, true_stands}
use Rattle.theorems.proofs.Legal.{Legal, design_legal, well_formed_legal}
use Rattle.theorems.proofs.Kept.{true_distinct, true_legal}

-- Each once: two complete paths of a legal graph that are one path of the design are one. From the end on: both end at
-- the one copy of their last node where paths end, and the end copy and the name of an edge give the edge.
module _ (D : Design) (H : Graph) (legal : Legal D H) where
  way_once : (a b : ℕ) (es fs : List Edge) → a < length H.nodes → b < length H.nodes → Way H a es → Way H b fs
      → node_of H a ≡ node_of H b → names es ≡ names fs → (a ≡ b) × (es ≡ fs)
  way_once a b [] [] h k v w n e = (legal.one_end a b h k v w n, refl)
  way_once a b [] (f ∷ fs) h k v w n e = absurd (nil≢cons e)
  way_once a b (e ∷ es) [] h k v w n q = absurd (cons≢nil q)
  way_once a b (e ∷ es) (f ∷ fs) h k v w n q =
      let name : e.name ≡ f.name = head-eq_of_cons-eq q in
      let node = legal.ends e v.0 ∙ ap (edge_end D) name ∙ sym (legal.ends f w.0) in
      let rest = way_once e.end f.end es fs (legal.rising.inside e v.0) (legal.rising.inside f w.0) v.2 w.2 node (tail-eq_of_cons-eq q) in
      let same = legal.one_start e f v.0 w.0 rest.0 name in
      (sym v.1 ∙ ap (λ (x : Edge). x.start) same ∙ w.1, ap₂ ◌∷◌ same rest.1)

  pub path_once : (r s : Run) → Memᴰ r (complete_runs H) → Memᴰ s (complete_runs H) → taken_back H r ≡ taken_back H s → r ≡ s
  path_once r s m n e =
      let v = (complete_runs_lem H legal.rising r).0 m in
      let w = (complete_runs_lem H legal.rising s).0 n in
      let o =
      way_once r.first s.first r.edges s.edges v.0 w.0 v.2 w.2
      (ap (λ (x : DesignPath). x.first) e) (ap (λ (x : DesignPath). x.edges) e) in
      λ i. record { first = o.0 i; edges = o.1 i }

-- the delay of a run depends on its names alone
pub delay_names : (d : ℕ → ℤ) (es fs : List Edge) → names es ≡ names fs → delay_along d es ≡ delay_along d fs
delay_names d [] [] q = refl
delay_names d [] (f ∷ fs) q = absurd (nil≢cons q)
delay_names d (e ∷ es) [] q = absurd (cons≢nil q)
delay_names d (e ∷ es) (f ∷ fs) q = ap₂ (λ (k : ℕ) (z : ℤ). d k +ℤ z) (head-eq_of_cons-eq q) (delay_names d es fs (tail-eq_of_cons-eq q))

module _ (G H : Graph) (L : List (List ℕ)) (up : Rising G) (S : Stands G L H) where
  -- a path of H, cut at h, is a permitted path of G, cut at what h is a copy of
  pub cut_down : (a h : ℕ) (p q : List Edge) → h < length H.nodes → T (starts_at H a) → Leads H a p h → Way H h q
      → (s : Passes G L (S.label h).at (map (lowered G H L up S) q)) × (s.first ≡ (S.label a).at) × (s.head ≡ map (lowered G H L up S) p)
  cut_down a h p q k t l w =
      let i : a < length H.nodes = omega (arith, leads_up H S.rising a h p l) in
      let whole = way_down G H L up S a (p ++ q) i (way_then H a h p q l w) in
      let n : names (map (lowered G H L up S) p ++ map (lowered G H L up S) q) ≡ names (p ++ q) =
      ap names (sym (map-append (lowered G H L up S) p q)) ∙ names_lowered G H L up S (p ++ q) in (
        record {
          first = (S.label a).at;
          head = map (lowered G H L up S) p;
          inside = passes_inside up (S.every a i).0.1;
          starts = start_shown G H L up S a i t;
          leads = leads_down G H L up S a h p l;
          way = (way_down G H L up S h q k w).0;
          permits = subst (λ (x : List ℕ). T (permitted L x)) (sym n) whole.1;
        },
        refl,
        refl,
      )

  -- every complete path of H is a permitted complete path of G
  pub path_sound : (r : Run) → Memᴰ r (complete_runs H) → (q : Run) × Memᴰ q (permitted_runs L G) × SamePath H G r q
  path_sound r m =
      let v = (complete_runs_lem H S.rising r).0 m in
      let s = cut_down r.first r.first [] r.edges v.0 v.1 refl v.2 in
      let es = map (lowered G H L up S) r.edges in
      let n : names r.edges ≡ names es = sym (names_lowered G H L up S r.edges) in (
        record { first = (S.label r.first).at; edges = es },
        subst (λ (x : Run). Memᴰ x (permitted_runs L G)) (λ i. record { first = s.1 i; edges = s.2 i ++ es }) (passes_run G L up (S.label r.first).at es s.0),
        record {
          path = λ i. record { first = (S.every r.first v.0).2 i; edges = n i };
          delay = λ d. delay_names d r.edges es n;
        },
      )

  -- and every permitted complete path of G is one of H
  pub path_complete : (q : Run) → Memᴰ q (permitted_runs L G) → (r : Run) × Memᴰ r (complete_runs H) × SamePath H G r q
  unfolding permitted_runs
  path_complete q m =
      let s = run_passes G L up q m in
      let k = of_keep (λ (r : Run). permitted L (names r.edges)) (complete_runs G) m in
      let v = (complete_runs_lem G up q).0 k.0 in
      let c = copy_at L q.first q.edges in
      let h = S.shown c (q.edges, s, refl) in
      let w = way_up G H L up S q.first q.edges s in
      let n : names w.0 ≡ names q.edges = sym (names_lowered G H L up S w.0) ∙ ap names w.2 in
      let f : node_of H (S.number c) ≡ node_of G q.first = (S.every (S.number c) h.0).2 ∙ ap (λ (x : Copy). node_of G x.at) h.1 in
      let r : Run = record { first = S.number c; edges = w.0 } in (
        r,
        (complete_runs_lem H S.rising r).1 (h.0, start_up G H L up S q.first q.edges s v.1, w.1),
        record { path = λ i. record { first = f i; edges = n i }; delay = λ d. delay_names d w.0 q.edges n },
      )

pub stands_demand2 : (D : Design) (G H : Graph) (L : List (List ℕ)) → Rising G → Stands G L H → Legal D H → Demand2 G L H
stands_demand2 D G H L up S legal = record { sound = path_sound G H L up S; complete = path_complete G H L up S; once = path_once D H legal }

-- Demand 2 for removal from any legal graph; then from a design that passes its tests, and from an earlier graph that passes 32.
pub true_demand2 : (D : Design) (G : Graph) (L : List (List ℕ)) → Legal D G → Demand2 G L (true_graph G L)
true_demand2 D G L legal = stands_demand2 D G (true_graph G L) L legal.rising (true_stands G L legal.rising) (true_legal D G L legal)

pub design_demand2 : (D : Design) (L : List (List ℕ)) → design_sizes D ≡ Passed → design_tests D ≡ Passed → Demand2 (design_graph D) L (true_graph (design_graph D) L)
design_demand2 D L s t = true_demand2 D (design_graph D) L (design_legal D s t)

pub graph_demand2 : (D : Design) (G : Graph) (L : List (List ℕ)) → design_sizes D ≡ Passed → design_tests D ≡ Passed → T (well_formed D G) → Demand2 G L (true_graph G L)
graph_demand2 D G L s t w = true_demand2 D G L (well_formed_legal D G s t w)

-- The lists of paths repeat nothing either, so that "each once" is also true of the list.
-- the empty run, and each edge in front of each of its runs
steps_nodup : (f : Edge → List (List Edge)) (l : List Edge) (b : Bool) → Nodup l → ((e : Edge) → Nodup (f e))
    → Nodup (cond b ([] ∷ []) [] ++ flat_map (λ e. map (λ r. e ∷ r) (f e)) l)
steps_nodup f l b d each = first b
  where
    on : Edge → List (List Edge)
    on e = map (λ r. e ∷ r) (f e)

    steps : Nodup (flat_map on l)
    steps =
        nodup_flat_map on l d (λ e. nodup_map (λ r. e ∷ r) (f e) (λ x y m n q. tail-eq_of_cons-eq q) (each e))
        (λ e g z m n. head-eq_of_cons-eq ((Memᴰ.of_map (λ (r : List Edge). e ∷ r) (f e) m).2 ∙ sym (Memᴰ.of_map (λ (r : List Edge). g ∷ r) (f g) n).2))

    longer : Memᴰ [] (flat_map on l) → ⊥
    longer m = let r = of_flat_map on l m in cons≢nil (Memᴰ.of_map (λ (es : List Edge). r.0 ∷ es) (f r.0) r.2).2

    first : (b : Bool) → Nodup (cond b ([] ∷ []) [] ++ flat_map on l)
    first true = (longer, steps)
    first false = steps

module _ (G : Graph) (d : Nodup G.edges) where
  runs_from_nodup : (k c : ℕ) → Nodup (runs_from G k c)
  unfolding runs_from edges_out
  runs_from_nodup zero c = tt
  runs_from_nodup (suc k) c =
      steps_nodup (λ e. runs_from G k e.end) (edges_out G c) (ends_at G c) (nodup_keep (λ e. eqb e.start c) G.edges d) (λ e. runs_from_nodup k e.end)

  pub complete_runs_nodup : Nodup (complete_runs G)
  unfolding complete_runs
  complete_runs_nodup =
      nodup_flat_map from (keep (starts_at G) (upto (length G.nodes) 0))
      (nodup_keep (starts_at G) (upto (length G.nodes) 0) (nodup_upto (length G.nodes) 0))
      (λ c. nodup_map (run c) (runs_from G (length G.nodes) c) (λ x y m n q. ap (λ (r : Run). r.edges) q) (runs_from_nodup (length G.nodes) c))
      (λ a b r m n.
      let o = Memᴰ.of_map (run a) (runs_from G (length G.nodes) a) m in
      let u = Memᴰ.of_map (run b) (runs_from G (length G.nodes) b) n in
      ap (λ (x : Run). x.first) (o.2 ∙ sym u.2))
    where
      run : ℕ → List Edge → Run
      run c es = record { first = c; edges = es }

      from : ℕ → List Run
      from c = map (run c) (runs_from G (length G.nodes) c)

-- the list of a true graph's paths, taken back to the design, has no repeats
pub true_paths_nodup : (D : Design) (G : Graph) (L : List (List ℕ)) → Legal D (true_graph G L) → Nodup (map (taken_back (true_graph G L)) (complete_runs (true_graph G L)))
true_paths_nodup D G L legal =
    nodup_map (taken_back (true_graph G L)) (complete_runs (true_graph G L)) (path_once D (true_graph G L) legal)
    (complete_runs_nodup (true_graph G L) (true_distinct G L))
