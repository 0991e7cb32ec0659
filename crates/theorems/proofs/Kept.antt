-- W: the true graph of a legal graph is legal, and passes test 32 where it is small enough.
use Prim.Native.Nat.{ℕ, zero, suc, ◌≤◌, ◌<◌}
use mathlib.Core.Path.{◌≡◌, refl, sym, ap, ◌∙◌, subst}
use mathlib.Core.Logic.{⊎_elim}
use mathlib.Core.Bool.{Bool, true, false, not, ◌&&◌, ◌||◌}
use mathlib.Core.List.Memᴰ
use mathlib.Core.List.{List, [], ◌∷◌, map, Memᴰ}
use native.Mathlib.Omega.{arith}
use lib.Dec.{T, eqb, ltb, leb, eqb→eq, ltb→lt, lt→ltb, le→leb}
use lib.ListN.{length, get_or}
use Rattle.timing.specs.Lists.{is_nil, one_if, count_of, upto}
use Rattle.timing.specs.Graphs.{Design, is_sink, is_endpoint, design_graph, Edge, edge, Graph, node_of, edges_out, starts_at, ends_at}
use Rattle.timing.specs.Marks.{mark}
use Rattle.timing.specs.Sorting.{before}
use Rattle.timing.specs.TrueGraphs.{Copy, copy_before, edge_before, copies, path_ends, joins, numbered, true_graph}
use Rattle.timing.specs.WellFormed.{few_enough, edge_rises, is_source, ends_only_at_endpoints, sink_ends, one_endpoint, entered_or_source, left_or_endpoint, copy_fits, well_formed}
use Rattle.theorems.proofs.Lists.{and_intro, and_left, and_right, or_cases, or_left, or_right, of_upto, all_of_intro, get_d_mem}
use Rattle.theorems.proofs.Counting.{Nodup, sorted_nodup, nodup_upto, Rises, rises_next, sorted_next, count_single}
use Rattle.theorems.proofs.Runs.{mem_out}
use Rattle.theorems.proofs.Sorting.{Sorted, sort_sorted}
use Rattle.theorems.proofs.Copies.{Link, edge_order, joined_link, mem_copies}
use Rattle.theorems.proofs.Stands.{join_of, Stands, none_out, stands_onward, end_shown, start_shown, passes_inside, true_stands, copies_sorted}
use Rattle.theorems.proofs.Tested.{DesignFits, formed_passes}
use Rattle.theorems.proofs.Legal.{Legal, design_edge, mem_design_edges, one_small, small_at, sink_out}

-- a later place of a list that rises holds no less
pub rises_at_lem : (xs : List ℕ) → Rises xs → (i j : ℕ) → i ≤ j → j < length xs → get_or xs i 0 ≤ get_or xs j 0
rises_at_lem [] r i j h k = absurd (omega arith)
rises_at_lem (x ∷ xs) r zero zero h k = omega arith
rises_at_lem (x ∷ xs) r zero (suc j) h k = r.0 (get_or xs j 0) (get_d_mem xs j 0 (omega arith))
rises_at_lem (x ∷ xs) r (suc i) zero h k = absurd (omega arith)
rises_at_lem (x ∷ xs) r (suc i) (suc j) h k = rises_at_lem xs r.1 i j (omega arith) (omega arith)

-- so what is read off a sorted list rises, where the order says so of each two members
rises_map : {A : Type 0} (lt : A → A → Bool) (f : A → ℕ) (l : List A) → Sorted lt l
    → ((x y : A) → Memᴰ x l → Memᴰ y l → T (lt x y) → f x ≤ f y) → Rises (map f l)
rises_map lt f [] s h = tt
rises_map lt f (x ∷ l) s h = (
  λ y m.
      let r = Memᴰ.of_map f l m in
      subst (λ (z : ℕ). f x ≤ z) r.2 (h x r.0 (Memᴰ.head refl) (Memᴰ.tail r.1) (s.0 r.0 r.1)),
  rises_map lt f l s.1 (λ u v m n t. h u v (Memᴰ.tail m) (Memᴰ.tail n) t),
)

-- a sorted list is sorted by any order that follows for its members
sorted_by : {A : Type 0} (lt le : A → A → Bool) (l : List A) → Sorted lt l → ((x y : A) → Memᴰ x l → Memᴰ y l → T (lt x y) → T (le x y)) → Sorted le l
sorted_by lt le [] s h = tt
sorted_by lt le (x ∷ l) s h =
    (λ y m. h x y (Memᴰ.head refl) (Memᴰ.tail m) (s.0 y m), sorted_by lt le l s.1 (λ u v m n t. h u v (Memᴰ.tail m) (Memᴰ.tail n) t))

-- a copy that comes before another is of a copy that does not come after
before_at : (p q : Copy) → T (copy_before p q) → p.at ≤ q.at
before_at p q t =
    ⊎_elim
    (λ h. omega (arith, ltb→lt p.at q.at h))
    (λ h. omega (arith, eqb→eq p.at q.at (and_left (eqb p.at q.at) (before (length p.mark ∷ p.mark) (length q.mark ∷ q.mark)) h)))
    (or_cases (ltb p.at q.at) (eqb p.at q.at && before (length p.mark ∷ p.mark) (length q.mark ∷ q.mark)) t)

-- the endpoint numbers of a true graph
pub flag_small : (G : Graph) (L : List (List ℕ)) (x : ℕ) → Memᴰ x (true_graph G L).endpoints → x ≤ 1
unfolding true_graph
flag_small G L x m =
    let r = Memᴰ.of_map (λ (p : Copy). one_if (path_ends L G p)) (copies L G) m in
    subst (λ (y : ℕ). y ≤ 1) r.2 (one_small (path_ends L G r.0))

module _ (D : Design) (G : Graph) (L : List (List ℕ)) (legal : Legal D G) where
  S : Stands G L (true_graph G L)
  S = true_stands G L legal.rising

  -- two copies of the result with one label are one
  same_label : (c d : ℕ) → c < length (true_graph G L).nodes → d < length (true_graph G L).nodes → S.label c ≡ S.label d → c ≡ d
  same_label c d h k e = sym (S.every c h).1 ∙ ap S.number e ∙ (S.every d k).1

  link : (e : Edge) → Memᴰ e (true_graph G L).edges → Link G L (join_of S.label e)
  link e m = joined_link G L (join_of S.label e) (S.joined e m)

  start_inside : (e : Edge) → Memᴰ e (true_graph G L).edges → e.start < length (true_graph G L).nodes
  start_inside e m = omega (arith, S.rising.up e m, S.rising.inside e m)

  one_start_lem : (e f : Edge) → Memᴰ e (true_graph G L).edges → Memᴰ f (true_graph G L).edges → e.end ≡ f.end → e.name ≡ f.name → e ≡ f
  one_start_lem e f m k a b =
      let i = link e m in
      let j = link f k in
      let q = legal.one_start _ _ i.along j.along (ap (λ (x : ℕ). (S.label x).at) a) b in
      let r : S.label e.start ≡ S.label f.start =
      λ t. record {
        at = ap (λ (x : Edge). x.start) q t;
        mark = (i.marks ∙ (λ u. mark L (b u ∷ (S.label (a u)).mark)) ∙ sym j.marks) t;
      } in
      let s = same_label e.start f.start (start_inside e m) (start_inside f k) r in
      λ t. edge (s t) (a t) (b t)

  one_end_lem : (c d : ℕ) → c < length (true_graph G L).nodes → d < length (true_graph G L).nodes → T (ends_at (true_graph G L) c) → T (ends_at (true_graph G L) d)
      → node_of (true_graph G L) c ≡ node_of (true_graph G L) d → c ≡ d
  one_end_lem c d h k t u n =
      let a = end_shown G (true_graph G L) L legal.rising S c h t in
      let b = end_shown G (true_graph G L) L legal.rising S d k u in
      let v = S.every c h in
      let w = S.every d k in
      let at = legal.one_end (S.label c).at (S.label d).at (passes_inside legal.rising v.0.1) (passes_inside legal.rising w.0.1) a.0 b.0 (sym v.2 ∙ n ∙ w.2) in
      same_label c d h k (λ i. record { at = at i; mark = (a.2 ∙ sym b.2) i })

  nodes_below : (v : ℕ) → Memᴰ v (true_graph G L).nodes → v < D.nodes
  unfolding true_graph
  nodes_below v m =
      let r = Memᴰ.of_map (λ (c : Copy). node_of G c.at) (copies L G) m in
      let s = (mem_copies G L legal.rising r.0).0 r.1 in
      subst (λ (x : ℕ). x < D.nodes) r.2 (legal.below (node_of G r.0.at) (get_d_mem G.nodes r.0.at 0 (passes_inside legal.rising s.1)))

  nodes_rise : Rises (true_graph G L).nodes
  unfolding true_graph
  nodes_rise =
      rises_map copy_before (λ (c : Copy). node_of G c.at) (copies L G) (copies_sorted G L legal.rising)
      (λ p q m k t.
      let s = (mem_copies G L legal.rising q).0 k in
      rises_at_lem G.nodes legal.order p.at q.at (before_at p q t) (passes_inside legal.rising s.1))

  pub true_legal : Legal D (true_graph G L)
  true_legal =
      record {
        rising = S.rising;
        onward = stands_onward G (true_graph G L) L legal.rising S;
        one_start = one_start_lem;
        one_end = one_end_lem;
        starts = λ e m. (S.every e.start (start_inside e m)).2 ∙ legal.starts _ (link e m).along;
        ends = λ e m. (S.every e.end (S.rising.inside e m)).2 ∙ legal.ends _ (link e m).along;
        named = λ e m. legal.named _ (link e m).along;
        below = nodes_below;
        order = nodes_rise;
        sources = λ c h t.
            let v = S.every c h in
            subst (λ (x : ℕ). T (is_source D x)) (sym v.2)
            (legal.sources (S.label c).at (passes_inside legal.rising v.0.1) (start_shown G (true_graph G L) L legal.rising S c h t));
        endpoints = λ c h t.
            let v = S.every c h in
            subst (λ (x : ℕ). T (is_endpoint D x)) (sym v.2)
            (legal.endpoints (S.label c).at (passes_inside legal.rising v.0.1) (end_shown G (true_graph G L) L legal.rising S c h t).0);
        flags = λ c. small_at (true_graph G L).endpoints c (flag_small G L);
      }

  -- the edges rise strictly: the end copy and the design edge settle the start copy
  edge_rises_lem : (e f : Edge) → Memᴰ e (true_graph G L).edges → Memᴰ f (true_graph G L).edges → T (edge_before e f) → T (edge_rises e f)
  edge_rises_lem e f m k t =
      ⊎_elim
      (λ h. or_left (ltb e.end f.end) (eqb e.end f.end && ltb e.name f.name) h)
      (λ h.
      let a = and_left (eqb e.end f.end) (before (e.name ∷ e.start ∷ []) (f.name ∷ f.start ∷ [])) h in
      ⊎_elim
      (λ n. or_right (ltb e.end f.end) (eqb e.end f.end && ltb e.name f.name) (and_intro (eqb e.end f.end) (ltb e.name f.name) a n))
      (λ n.
      let b = and_left (eqb e.name f.name) (before (e.start ∷ []) (f.start ∷ [])) n in
      let q = one_start_lem e f m k (eqb→eq e.end f.end a) (eqb→eq e.name f.name b) in
      absurd (edge_order.irrefl e (subst (λ (x : Edge). T (edge_before e x)) (sym q) t)))
      (or_cases (ltb e.name f.name) (eqb e.name f.name && before (e.start ∷ []) (f.start ∷ []))
      (and_right (eqb e.end f.end) (before (e.name ∷ e.start ∷ []) (f.name ∷ f.start ∷ [])) h)))
      (or_cases (ltb e.end f.end) (eqb e.end f.end && before (e.name ∷ e.start ∷ []) (f.name ∷ f.start ∷ [])) t)

-- a legal graph has the clauses of 32 for its copies, and at most one copy of a node where paths end
implied : (a b : Bool) → (T a → T b) → T (not a || b)
implied true b h = h tt
implied false b h = tt

-- no edge leaves a copy of a sink, and so paths end there
pub sink_ends_lem : (D : Design) (G : Graph) → DesignFits D → Legal D G → (c : ℕ) → c < length G.nodes → T (is_sink D (node_of G c)) → T (ends_at G c)
sink_ends_lem D G fit legal c h t =
    ⊎_elim
    (λ s. s)
    (λ r.
    absurd
    (none_out (design_graph D) (node_of G c) (design_edge D r.0.name) (subst T (sink_out D (node_of G c)) t)
    (mem_design_edges D fit r.0.name (legal.named r.0 r.1)) (sym (legal.starts r.0 r.1) ∙ ap (node_of G) r.2)))
    (legal.onward c h)

pub legal_copy : (D : Design) (G : Graph) → DesignFits D → Legal D G → (c : ℕ) → c < length G.nodes → T (copy_fits D G c)
legal_copy D G fit legal c h =
    let x = ends_only_at_endpoints D G c in
    let y = sink_ends D G c in
    let u = entered_or_source D G c in
    and_intro (x && y && u) (left_or_endpoint G c)
    (and_intro (x && y) u
    (and_intro x y (implied (ends_at G c) (is_endpoint D (node_of G c)) (legal.endpoints c h)) (implied (is_sink D (node_of G c)) (ends_at G c) (sink_ends_lem D G fit legal c h)))
    (source (starts_at G c) (legal.sources c h)))
    (⊎_elim
    (or_left (ends_at G c) (not (is_nil (edges_out G c))))
    (λ r. or_right (ends_at G c) (not (is_nil (edges_out G c))) (not_nil (edges_out G c) ((mem_out G c r.0).1 (r.1, r.2))))
    (legal.onward c h))
  where
    source : (b : Bool) → (T b → T (is_source D (node_of G c))) → T (is_source D (node_of G c) || not b)
    source true f = or_left (is_source D (node_of G c)) false (f tt)
    source false f = or_right (is_source D (node_of G c)) true tt

    not_nil : (l : List Edge) {e : Edge} → Memᴰ e l → T (not (is_nil l))
    not_nil [] m = absurd (Memᴰ.not-nil m)
    not_nil (f ∷ l) m = tt

pub legal_one_end : (D : Design) (G : Graph) → Legal D G → (v : ℕ) → T (one_endpoint G v)
legal_one_end D G legal v =
    le→leb (count_of p (upto (length G.nodes) 0)) 1
    (count_single p (upto (length G.nodes) 0) (nodup_upto (length G.nodes) 0) (λ c d m n s t.
    legal.one_end c d (in_range c m) (in_range d n) (and_right (eqb (node_of G c) v) (ends_at G c) s) (and_right (eqb (node_of G d) v) (ends_at G d) t)
    (eqb→eq (node_of G c) v (and_left (eqb (node_of G c) v) (ends_at G c) s) ∙ sym (eqb→eq (node_of G d) v (and_left (eqb (node_of G d) v) (ends_at G d) t)))))
  where
    p : ℕ → Bool
    p c = eqb (node_of G c) v && ends_at G c

    in_range : (c : ℕ) → Memᴰ c (upto (length G.nodes) 0) → c < length G.nodes
    in_range c m = omega (arith, (of_upto (length G.nodes) 0 c m).1)

pub edges_sorted : (G : Graph) (L : List (List ℕ)) → Sorted edge_before (true_graph G L).edges
unfolding true_graph
edges_sorted G L = sort_sorted edge_before edge_order (map (numbered (copies L G)) (joins L G))

-- no edge of a true graph stands in it twice
pub true_distinct : (G : Graph) (L : List (List ℕ)) → Nodup (true_graph G L).edges
true_distinct G L = sorted_nodup edge_before edge_order (true_graph G L).edges (edges_sorted G L)

-- W: the true graph of a legal graph passes test 32, where its counts are within the limits
pub true_formed : (D : Design) (G : Graph) (L : List (List ℕ)) → DesignFits D → Legal D G → T (few_enough (true_graph G L)) → T (well_formed D (true_graph G L))
true_formed D G L fit legal few =
    let R = true_graph G L in
    let kept = true_legal D G L legal in
    formed_passes D R
    (record {
      few = few;
      below = all_of_intro (λ v. ltb v D.nodes) R.nodes (λ v m. lt→ltb v D.nodes (kept.below v m));
      order = (rises_next R.nodes).0 kept.order;
      fits = λ e m.
          record {
            start_in = start_inside D G L legal e m;
            end_in = kept.rising.inside e m;
            named = kept.named e m;
            starts = kept.starts e m;
            ends = kept.ends e m;
          };
      rises = sorted_next edge_rises R.edges (sorted_by edge_before edge_rises R.edges (edges_sorted G L) (edge_rises_lem D G L legal));
      flags = all_of_intro (λ x. leb x 1) R.endpoints (λ x m. le→leb x 1 (flag_small G L x m));
      one_end_lem = λ v h. legal_one_end D R kept v;
      copies = legal_copy D R fit kept;
    })
