-- A list of paths counts as a set. Whether a path is permitted, and the mark that it has at a node, depend on which paths are listed, and not on
-- their order nor on how often one stands there; and a true graph depends on its list by these two alone. So a list with its paths reordered or
-- repeated gives the identical graph.
use Prim.Native.Nat.{ℕ}
use mathlib.Core.Path.{◌≡◌, refl, ap, sym, ◌∙◌}
use mathlib.Core.Logic.{inl, inr}
use mathlib.Core.List.{List, [], ◌∷◌, map, flat_map, Memᴰ}
use mathlib.Core.Option.{Option}
use Rattle.std.specs.Prelude.{Result, Ok, Err}
use Rattle.timing.specs.Answers.{Passed, Counts}
use Rattle.timing.specs.declared.GraphCounts.{GraphCounts}
use Rattle.timing.specs.declared.Refusal.{Refusal}
use lib.Dec.{T, T_not, not_T}
use lib.ListN.{length}
use Rattle.timing.specs.Lists.{any_of, keep, one_if}
use Rattle.timing.specs.Graphs.{Design, Edge, Graph, graph, node_of, Run, complete_runs, names}
use Rattle.timing.specs.Marks.{paths_of, occurs, permitted, tails_of, tails, mark}
use Rattle.timing.specs.Sorting.{sort}
use Rattle.timing.specs.TrueGraphs.{Copy, copy_before, same_copy, edge_before, copy_at, copies_on, joins_on, last_on, permitted_runs, copies, path_ends, joins, numbered, true_graph}
use Rattle.timing.specs.Calls.{GraphSlices, slices_of}
use Rattle.timing.specs.Called.{Called, removal_of, Meets, remove_on, front, verdict_in, graph_on}
use Rattle.timing.specs.Extended.{ExtendedTo, SamePaths, SameGraph}
use Rattle.timing.proofs.Verdicts.{refused_passed}
use Rattle.theorems.proofs.Lists.{same_test, any_of_intro, any_of_elim, mem_flat_map, of_flat_map, mem_keep, of_keep}
use Rattle.theorems.proofs.Marks.{Tail, prefix_length, mark_tail, mark_prefix, mark_most, mark_unique}
use Rattle.theorems.proofs.Told.{answered_fills}

-- ---- by membership in the list
module _ (K L : List (List ℕ)) (more : ExtendedTo K L) where
  -- what a longer list permits, the shorter one does
  pub permitted_fewer : (w : List ℕ) → T (permitted L w) → T (permitted K w)
  unfolding permitted
  permitted_fewer w t =
      not_T (any_of (λ p. occurs p w) K)
      (λ u.
      let r = any_of_elim (λ p. occurs p w) K u in
      T_not (any_of (λ p. occurs p w) L) t (any_of_intro (λ p. occurs p w) (more r.0 r.1) r.2))

  -- a tail of the shorter list is one of the longer
  pub tail_more : (t : List ℕ) → Tail K t → Tail L t
  unfolding tails
  tail_more t (inl e) = inl e
  tail_more t (inr m) = let r = of_flat_map tails_of K m in inr (mem_flat_map tails_of (more r.0 r.1) r.2)

  -- the permitted complete paths of the longer list are some of the shorter one's
  pub runs_fewer : (G : Graph) (r : Run) → Memᴰ r (permitted_runs L G) → Memᴰ r (permitted_runs K G)
  unfolding permitted_runs
  runs_fewer G r m =
      let k = of_keep (λ (r : Run). permitted L (names r.edges)) (complete_runs G) m in
      mem_keep (λ (r : Run). permitted K (names r.edges)) k.0 (permitted_fewer (names r.edges) k.1)

module _ (K L : List (List ℕ)) (same : SamePaths K L) where
  -- each permits what the other does, and has its tails
  pub permitted_same : (w : List ℕ) → permitted K w ≡ permitted L w
  permitted_same w = same_test (permitted K w) (permitted L w) (permitted_fewer L K same.1 w) (permitted_fewer K L same.0 w)

  pub mark_same : (w : List ℕ) → mark K w ≡ mark L w
  mark_same w =
      mark_unique K w (mark L w) (tail_more L K same.1 (mark L w) (mark_tail L w)) (mark_prefix L w)
      (λ t tl p. prefix_length t (mark L w) (mark_most L w t (tail_more K L same.0 t tl) p))

-- ---- the true graph is a function of what is permitted and of the marks
module _ (K L : List (List ℕ)) (allowed : (w : List ℕ) → permitted K w ≡ permitted L w) (marks : (w : List ℕ) → mark K w ≡ mark L w) where
  copy_by : (c : ℕ) (es : List Edge) → copy_at K c es ≡ copy_at L c es
  copy_by c es = λ i. record { at = c; mark = marks (names es) i }

  copies_on_by : (c : ℕ) (es : List Edge) → copies_on K c es ≡ copies_on L c es
  copies_on_by c [] = λ i. copy_by c [] i ∷ []
  copies_on_by c (e ∷ es) = λ i. copy_by c (e ∷ es) i ∷ copies_on_by e.end es i

  joins_on_by : (c : ℕ) (es : List Edge) → joins_on K c es ≡ joins_on L c es
  joins_on_by c [] = λ i. []
  joins_on_by c (e ∷ es) = λ i. record { start = copy_by c (e ∷ es) i; end = copy_by e.end es i; name = e.name } ∷ joins_on_by e.end es i

  last_on_by : (c : ℕ) (es : List Edge) → last_on K c es ≡ last_on L c es
  last_on_by c [] = copy_by c []
  last_on_by c (e ∷ es) = last_on_by e.end es

  module _ (G : Graph) where
    runs_by : permitted_runs K G ≡ permitted_runs L G
    unfolding permitted_runs
    runs_by = λ i. keep (λ (r : Run). allowed (names r.edges) i) (complete_runs G)

    copies_by : copies K G ≡ copies L G
    unfolding copies
    copies_by = λ i. sort copy_before (flat_map (λ (r : Run). copies_on_by r.first r.edges i) (runs_by i))

    ends_by : (c : Copy) → path_ends K G c ≡ path_ends L G c
    unfolding path_ends
    ends_by c = λ i. any_of (λ (r : Run). same_copy (last_on_by r.first r.edges i) c) (runs_by i)

    joins_by : joins K G ≡ joins L G
    unfolding joins
    joins_by = λ i. flat_map (λ (r : Run). joins_on_by r.first r.edges i) (runs_by i)

    pub true_graph_by : true_graph G K ≡ true_graph G L
    unfolding true_graph
    true_graph_by =
        λ i.
        graph (map (λ (c : Copy). node_of G c.at) (copies_by i)) (map (λ (c : Copy). one_if (ends_by c i)) (copies_by i))
        (sort edge_before (map (numbered (copies_by i)) (joins_by i)))

-- of any graph, well formed or not
pub true_graph_same : (G : Graph) (K L : List (List ℕ)) → SamePaths K L → true_graph G K ≡ true_graph G L
true_graph_same G K L same = true_graph_by K L (permitted_same K L same) (mark_same K L same) G

-- ---- two calls on one design and one graph
not_refused : (x : Result GraphCounts Refusal) → verdict_in x ≡ Passed → (k : ℕ) × (e : ℕ) × (x ≡ Counts k e)
not_refused (Ok g) p = (g.copies, g.edges, refl)
not_refused (Err r) p = absurd (refused_passed r p)

pub same_graph : (D : Design) (held : Option GraphSlices) (a b : Called)
    → Meets (remove_on D held (removal_of a)) a → Meets (remove_on D held (removal_of b)) b → SameGraph a b
same_graph D held a b m n same k e p q =
    let z = not_refused b.answer q in
    let x = answered_fills D held a m k e p in
    let y = answered_fills D held b n z.0 z.1 z.2 in
    let one = true_graph_same (graph_on D held) (paths_of (removal_of a).list) (paths_of (removal_of b).list) same in
    let copies = sym y.copies ∙ sym (ap (λ (G : Graph). length G.nodes) one) ∙ x.copies in
    let edges = sym y.edges ∙ sym (ap (λ (G : Graph). length G.edges) one) ∙ x.edges in (
      z.2 ∙ (λ i. Counts (copies i) (edges i)),
      (λ i. front (sym copies i) (sym edges i) b.after) ∙ y.filled ∙ sym (ap slices_of one) ∙ sym x.filled,
    )
