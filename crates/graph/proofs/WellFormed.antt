-- The test 32 is what the passes compute: the counts, a test of each edge, of each endpoint number and of each copy.
use Prim.Native.Nat.{ℕ, zero, suc, ◌+◌, ◌≤◌, ◌<◌, min}
use native.Mathlib.Omega.{arith}
use native.Mathlib.Numerals.{add-one}
use native.Mathlib.Decide.{ℕ_discrete, dec_lt}
use mathlib.Core.Path.{◌≡◌, refl, sym, ◌∙◌, subst}
use mathlib.Core.Logic.{⊎_elim}
use mathlib.Core.Bool.{Bool, true, false, not, ◌&&◌, ◌||◌}
use mathlib.Core.List.{List, []}
use lib.Dec.{T, eqb, ltb, leb, eqb→eq, ltb→lt, leb→le, le→leb, eqb_refl}
use lib.ListN.{length, get_or}
use borrow.Author.Tests.{le-leb, lt-leb}
use Rattle.timing.specs.Lists.{all_of, count_of, each_next, upto}
use Rattle.timing.specs.Graphs.{Design, design, Edge, edge, Graph, edges_of, ends_at}
use Rattle.timing.specs.WellFormed.{few_enough, nodes_fit, edge_fits, edge_rises, zero_or_one, one_endpoint, copy_fits, well_formed}
use Rattle.timing.specs.Calls.{graph_slices, graph_of}
use Rattle.theorems.proofs.Lists.{and_intro, and_left, and_right, or_cases, or_left, or_right, same_test, all_of_elim, all_of_intro, get_d_mem, length_edges}
use Rattle.theorems.proofs.Counting.{rises_next}
use Rattle.theorems.proofs.Kept.{rises_at_lem}
use Rattle.graph.specs.Passes.{formed, edge_count, Counted, stands, edge_at, rises_at, edge_passes, joined, end_fits, copy_passes, lowest_after, walked}
use Rattle.graph.proofs.Walk.{all_at, at_all}
use Rattle.graph.proofs.Edges.{place_of_lem, next_at_lem, at_next, edge_at_lem, mem_edge, of_edge, in_graph, out_graph, source_is, sink_is, marked_is}
use Rattle.graph.proofs.Ends.{one_passes, two_pass, Passes, of_walk, to_walk}

-- what the passes answer for the edges, and for the copies
abbrev pub edges_pass : List ℕ → List ℕ → List ℕ → List ℕ → List ℕ → List ℕ → Bool
edges_pass starts ends nodes from to via =
    let m = length (edges_of from to via) in
    all_of (edge_passes starts ends nodes from to via) (upto m 0)

abbrev pub copies_pass : ℕ → List ℕ → List ℕ → List ℕ → List ℕ → List ℕ → List ℕ → List ℕ → List ℕ → Bool
copies_pass n starts ends marked nodes endpoint from to via =
    let d = min (length starts) (length ends) in
    let m = length (edges_of from to via) in
    walked
    (copy_passes n nodes endpoint (stands ends d) (stands starts d) (stands marked (length marked)) (stands to m) (stands from m))
    (lowest_after nodes endpoint) (length nodes) 0 0

not_not : (b : Bool) → not (not b) ≡ b
not_not true = refl
not_not false = refl

and_true : (a : Bool) → (a && true) ≡ a
and_true true = refl
and_true false = refl

and_false : (a : Bool) → (a && false) ≡ false
and_false true = refl
and_false false = refl

-- The clauses for a copy, by whether paths end at it, end; whether its node has an edge out, o, and is marked, k; whether the copy has an edge in
-- or its node has none, j; and whether the copy has an edge out, l.
clauses : (end o k j l : Bool) → ((not end || (not o || k)) && (not (not o) || end) && j && (end || l)) ≡ (j && end_fits end o k l)
clauses true true true true l = refl
clauses true true true false l = refl
clauses true true false true l = refl
clauses true true false false l = refl
clauses true false k true l = refl
clauses true false k false l = refl
clauses false true k true l = refl
clauses false true k false l = refl
clauses false false k true l = refl
clauses false false k false l = refl

-- tests in a row
and_seven : (a b c d z f g : Bool) → T (a && b && c && d && z && f && g) → T a × T b × T c × T d × T z × T f × T g
and_seven a b c d z f g t =
    let t₀ = and_left (a && b && c && d && z && f) g t in
    let t₁ = and_left (a && b && c && d && z) f t₀ in
    let t₂ = and_left (a && b && c && d) z t₁ in
    let t₃ = and_left (a && b && c) d t₂ in
    let t₄ = and_left (a && b) c t₃ in (
      and_left a b t₄,
      and_right a b t₄,
      and_right (a && b) c t₃,
      and_right (a && b && c) d t₂,
      and_right (a && b && c && d) z t₁,
      and_right (a && b && c && d && z) f t₀,
      and_right (a && b && c && d && z && f) g t,
    )

seven_and : (a b c d z f g : Bool) → T a → T b → T c → T d → T z → T f → T g → T (a && b && c && d && z && f && g)
seven_and a b c d z f g p q r s t u w =
    and_intro (a && b && c && d && z && f) g
    (and_intro (a && b && c && d && z) f
    (and_intro (a && b && c && d) z (and_intro (a && b && c) d (and_intro (a && b) c (and_intro a b p q) r) s) t) u) w

module _ (n : ℕ) (starts ends marked nodes endpoint from to via : List ℕ) where
  abbrev D : Design
  D = design n starts ends [] [] marked

  abbrev G : Graph
  G = graph_of (graph_slices nodes endpoint from to via)

  abbrev m : ℕ
  m = length (edges_of from to via)

  -- which nodes and which copies have an edge in, and out, and which nodes are marked
  abbrev node_in : ℕ → Bool
  node_in = stands ends (min (length starts) (length ends))

  abbrev node_out : ℕ → Bool
  node_out = stands starts (min (length starts) (length ends))

  abbrev is_marked : ℕ → Bool
  is_marked = stands marked (length marked)

  abbrev copy_in : ℕ → Bool
  copy_in = stands to m

  abbrev copy_out : ℕ → Bool
  copy_out = stands from m

  abbrev node : ℕ → ℕ
  node c = get_or nodes c 0

  abbrev end : ℕ → Bool
  end c = ends_at G c

  -- what the pass asks of a copy alone: its node, the next copy's, and the clauses
  abbrev there : ℕ → Bool
  there c = ltb (node c) n && (leb (length nodes) (c + 1) || leb (node c) (node (c + 1)))

  abbrev entered : ℕ → Bool
  entered c = joined (node_in (node c)) (copy_in c)

  abbrev ended : ℕ → Bool
  ended c = end_fits (end c) (node_out (node c)) (is_marked (node c)) (copy_out c)

  abbrev base : ℕ → Bool
  base c = there c && entered c && ended c

  fits_is : (c : ℕ) → copy_fits D G c ≡ (entered c && ended c)
  fits_is c =
      rw (
        source_is n starts ends marked (node c),
        sink_is n starts ends marked (node c),
        marked_is marked (node c),
        in_graph nodes endpoint from to via c,
        out_graph nodes endpoint from to via c,
        not_not (copy_in c),
        not_not (copy_out c),
      )
      (clauses (end c) (node_out (node c)) (is_marked (node c)) (entered c) (copy_out c))

  -- where 32 passes, each edge and each copy does
  edge_passes_lem : T (all_of (edge_fits D G) G.edges) → T (each_next edge_rises G.edges) → (k : ℕ) → k < m → T (edge_passes starts ends nodes from to via k)
  edge_passes_lem fits rise k h =
      and_intro (edge_fits D G (edge_at from to via k)) (rises_at from to via k)
      (all_of_elim (edge_fits D G) G.edges fits (mem_edge from to via k h))
      (rises k h)
    where
      rises : (k : ℕ) → k < m → T (rises_at from to via k)
      rises zero h = tt
      rises (suc k) h =
          rw (edge_at_lem from to via k (omega arith), add-one k, edge_at_lem from to via (suc k) h) at
          (next_at_lem (edge 0 0 0) edge_rises G.edges rise k (omega arith))

  -- the clause of a node in which paths end at more than one copy, by copies
  abbrev end_of : ℕ → ℕ → Bool
  end_of v c = eqb (node c) v && end c

  copies_pass_lem : T (nodes_fit D G) → T (all_of (one_endpoint G) (upto n 0)) → T (all_of (copy_fits D G) (upto (length nodes) 0)) → Passes base end node (length nodes) 0 0
  copies_pass_lem fit once fits = record {
    all = λ c l h. passes c (omega arith);
    above = λ c l h s. omega arith;
    rise = λ i j l k h s t. rise i j k (omega arith) s t;
  }
    where
      below : (c : ℕ) → c < length nodes → T (ltb (node c) n)
      below c h = all_of_elim (λ v. ltb v n) nodes (and_left (all_of (λ v. ltb v n) nodes) (each_next leb nodes) fit) (get_d_mem nodes c 0 h)

      order : T (each_next leb nodes)
      order = and_right (all_of (λ v. ltb v n) nodes) (each_next leb nodes) fit

      passes : (c : ℕ) → c < length nodes → T (base c)
      passes c h =
          let l = leb (length nodes) (c + 1) in
          let f = leb (node c) (node (c + 1)) in
          let here : T (entered c && ended c) = rw (fits_is c) at (all_at (copy_fits D G) (length nodes) fits c h) in
          let up : T (l || f)
          = elim (dec_lt (c + 1) (length nodes)) [
            | yes k ↦ or_right l f (next_at_lem 0 leb nodes order c k)
            | no k ↦ or_left l f (le→leb (length nodes) (c + 1) (omega arith))
          ] in
          and_intro (there c && entered c) (ended c)
          (and_intro (there c) (entered c) (and_intro (ltb (node c) n) (l || f) (below c h) up) (and_left (entered c) (ended c) here))
          (and_right (entered c) (ended c) here)

      rise : (i j : ℕ) → i < j → j < length nodes → T (end i) → T (end j) → node i < node j
      rise i j k h s t =
          elim (ℕ_discrete (node i) (node j)) [
            | yes e ↦
                let few = leb→le (count_of (end_of (node i)) (upto (length nodes) 0)) 1 (all_at (one_endpoint G) n once (node i) (ltb→lt (node i) n (below i (omega arith)))) in
                let two = two_pass (end_of (node i)) (length nodes) 0 i j (omega arith) k (omega arith) (and_intro (eqb (node i) (node i)) (end i) (eqb_refl (node i)) s)
                (and_intro (eqb (node j) (node i)) (end j) (rw e (eqb_refl (node j))) t) in
                absurd (omega arith)
            | no d ↦ omega (arith, rises_at_lem nodes ((rises_next nodes).1 order) i j (omega arith) h)
          ]

  -- and where they do, 32 passes
  edges_of_lem : ((k : ℕ) → k < m → T (edge_passes starts ends nodes from to via k)) → T (all_of (edge_fits D G) G.edges) × T (each_next edge_rises G.edges)
  edges_of_lem f = (
    all_of_intro (edge_fits D G) G.edges
        (λ e i.
        let r = of_edge from to via i in
        subst (λ (x : Edge). T (edge_fits D G x)) r.2 (and_left (edge_fits D G (edge_at from to via r.0)) (rises_at from to via r.0) (f r.0 r.1))),
    at_next (edge 0 0 0) edge_rises G.edges
        (λ k h.
        let there : suc k < m = omega arith in
        rw (edge_at_lem from to via k (omega arith), add-one k, edge_at_lem from to via (suc k) there)
        (and_right (edge_fits D G (edge_at from to via (suc k))) (rises_at from to via (suc k)) (f (suc k) there))),
  )

  module _ (w : Passes base end node (length nodes) 0 0) where
    part : (c : ℕ) → c < length nodes → T (base c)
    part c h = w.all c (omega arith) (omega arith)

    at_node : (c : ℕ) → c < length nodes → T (there c)
    at_node c h = and_left (there c) (entered c) (and_left (there c && entered c) (ended c) (part c h))

    nodes_of : T (nodes_fit D G)
    nodes_of =
        and_intro (all_of (λ v. ltb v n) nodes) (each_next leb nodes)
        (all_of_intro (λ v. ltb v n) nodes
        (λ v i.
        let r = place_of_lem 0 nodes i in
        let c = r.0 in
        subst (λ (x : ℕ). T (ltb x n)) r.2 (and_left (ltb (node c) n) (leb (length nodes) (c + 1) || leb (node c) (node (c + 1))) (at_node c r.1))))
        (at_next 0 leb nodes
        (λ c h.
        let l = leb (length nodes) (c + 1) in
        let f = leb (node c) (node (c + 1)) in
        ⊎_elim (λ k. absurd (omega (arith, leb→le (length nodes) (c + 1) k))) (λ k. k) (or_cases l f (and_right (ltb (node c) n) (l || f) (at_node c (omega arith))))))

    once_of : T (all_of (one_endpoint G) (upto n 0))
    once_of =
        at_all (one_endpoint G) n
        (λ v h.
        le→leb (count_of (end_of v) (upto (length nodes) 0)) 1
        (one_passes (end_of v) (length nodes) 0
        (λ i j l k b s t.
        let p = eqb→eq (node i) v (and_left (eqb (node i) v) (end i) s) in
        let q = eqb→eq (node j) v (and_left (eqb (node j) v) (end j) t) in
        omega (arith, p, q, w.rise i j l k b (and_right (eqb (node i) v) (end i) s) (and_right (eqb (node j) v) (end j) t)))))

    fits_of : T (all_of (copy_fits D G) (upto (length nodes) 0))
    fits_of =
        at_all (copy_fits D G) (length nodes)
        (λ c h.
        rw (fits_is c)
        (and_intro (entered c) (ended c) (and_right (there c) (entered c) (and_left (there c && entered c) (ended c) (part c h))) (and_right (there c && entered c) (ended c) (part c h))))

  pub formed_is : length nodes ≤ 16384 → length (edges_of from to via) ≤ 65536
      → well_formed (design n starts ends [] [] marked) (graph_of (graph_slices nodes endpoint from to via))
      ≡ (edges_pass starts ends nodes from to via && zero_or_one endpoint && copies_pass n starts ends marked nodes endpoint from to via)
  unfolding well_formed
  formed_is few few' =
      same_test (a && b && c && d && z && o && f) (E && z && C)
      (λ t.
      let r = and_seven a b c d z o f t in
      and_intro (E && z) C
      (and_intro E z (at_all (edge_passes starts ends nodes from to via) m (edge_passes_lem r.2 r.3)) r.4)
      (to_walk base end node (length nodes) 0 0 (copies_pass_lem r.1 r.5 r.6)))
      (λ t.
      let e = and_left (E && z) C t in
      let es = edges_of_lem (all_at (edge_passes starts ends nodes from to via) m (and_left E z e)) in
      let w = of_walk base end node (length nodes) 0 0 (and_right (E && z) C t) in
      seven_and a b c d z o f
      (and_intro (leb (length nodes) 16384) (leb m 65536) (le→leb (length nodes) 16384 few) (le→leb m 65536 few'))
      (nodes_of w) es.0 es.1 (and_right E z e) (once_of w) (fits_of w))
    where
      a : Bool
      a = few_enough G

      b : Bool
      b = nodes_fit D G

      c : Bool
      c = all_of (edge_fits D G) G.edges

      d : Bool
      d = each_next edge_rises G.edges

      z : Bool
      z = zero_or_one G.endpoints

      o : Bool
      o = all_of (one_endpoint G) (upto n 0)

      f : Bool
      f = all_of (copy_fits D G) (upto (length nodes) 0)

      E : Bool
      E = edges_pass starts ends nodes from to via

      C : Bool
      C = copies_pass n starts ends marked nodes endpoint from to via

  -- a graph that is too large
  pub too_many_copies : 16384 < length nodes → well_formed (design n starts ends [] [] marked) (graph_of (graph_slices nodes endpoint from to via)) ≡ false
  unfolding well_formed
  too_many_copies h = rw (lt-leb (length nodes) 16384 h)

  pub too_many_edges : length nodes ≤ 16384 → 65536 < length (edges_of from to via)
      → well_formed (design n starts ends [] [] marked) (graph_of (graph_slices nodes endpoint from to via)) ≡ false
  unfolding well_formed
  too_many_edges h k = rw (le-leb (length nodes) 16384 h, lt-leb (length (edges_of from to via)) 65536 k)

  -- a graph with an endpoint number that is not 0 or 1
  pub wrong_endpoint : length nodes ≤ 16384 → length (edges_of from to via) ≤ 65536 → zero_or_one endpoint ≡ false → formed n starts ends marked nodes endpoint from to via ≡ false
  wrong_endpoint few few' w = formed_is few few' ∙ rw (w, and_false (edges_pass starts ends nodes from to via))

  -- as the code has it after these tests, where e is the answer for the edges
  pub formed_by : Counted nodes endpoint from to via → (e : Bool) → e ≡ all_of (edge_passes starts ends nodes from to via) (upto (edge_count from to via) 0)
      → (e && walked
      (copy_passes n nodes endpoint node_in node_out is_marked (stands to (edge_count from to via)) (stands from (edge_count from to via)))
      (lowest_after nodes endpoint) (length nodes) 0 0)
      ≡ formed n starts ends marked nodes endpoint from to via
  formed_by t e q =
      let p = length_edges from to via in
      let is = formed_is t.copies (omega (arith, t.edges, p)) in
      rw (q, ← p) (sym (is ∙ rw (t.endpoints, and_true (edges_pass starts ends nodes from to via))))
