-- A graph's edges by their places in three lists.
use Prim.Native.Nat.{ℕ, zero, suc, ◌+◌, ◌<◌, min}
use native.Mathlib.Omega.{arith}
use native.Mathlib.Numerals.{add-one}
use mathlib.Core.Path.{◌≡◌, refl, sym, ◌∙◌, ap, subst}
use mathlib.Core.Logic.{⊎_elim}
use mathlib.Core.Bool.{Bool, true, false, not, cond, ◌||◌}
use mathlib.Core.List.Memᴰ
use mathlib.Core.List.{List, [], ◌∷◌, Memᴰ}
use lib.Dec.{T, eqb, eqb→eq, eqb_refl}
use lib.ListN.{length, get_or}
use Rattle.timing.specs.Lists.{is_nil, any_of, keep, each_next, upto}
use Rattle.timing.specs.Graphs.{design, Edge, edge, edges_of, is_sink, design_graph, edges_in, edges_out, starts_at}
use Rattle.timing.specs.WellFormed.{is_source}
use Rattle.timing.specs.Calls.{graph_slices, graph_of}
use Rattle.theorems.proofs.Lists.{and_intro, and_left, and_right, same_test, any_of_intro, any_of_elim, get_d_mem, length_upto, length_edges}
use Rattle.graph.specs.Passes.{stands, edge_at}
use Rattle.graph.proofs.Walk.{any_at, at_any}

module _ {A : Type 0} (d : A) where
  -- a member has a place
  pub place_of_lem : {x : A} (l : List A) → Memᴰ x l → (j : ℕ) × (j < length l) × (get_or l j d ≡ x)
  place_of_lem [] m = absurd (Memᴰ.not-nil m)
  place_of_lem {x = x} (y ∷ l) m =
      ⊎_elim
      (λ (e : x ≡ y). (0, omega arith, sym e))
      (λ h. let r = place_of_lem {x = x} l h in (suc r.0, omega (arith, r.1), r.2))
      (Memᴰ.cases_cons m)

  -- a test of each with the one after it, by places
  pub next_at_lem : (p : A → A → Bool) (l : List A) → T (each_next p l) → (i : ℕ) → i + 1 < length l → T (p (get_or l i d) (get_or l (i + 1) d))
  next_at_lem p l t i h = rw (add-one i) (go l t i (omega arith))
    where
      go : (l : List A) → T (each_next p l) → (i : ℕ) → suc i < length l → T (p (get_or l i d) (get_or l (suc i) d))
      go [] t i h = absurd (omega arith)
      go (x ∷ []) t i h = absurd (omega arith)
      go (x ∷ y ∷ l) t zero h = and_left (p x y) (each_next p (y ∷ l)) t
      go (x ∷ y ∷ l) t (suc i) h = go (y ∷ l) (and_right (p x y) (each_next p (y ∷ l)) t) i (omega arith)

  pub at_next : (p : A → A → Bool) (l : List A) → ((i : ℕ) → i + 1 < length l → T (p (get_or l i d) (get_or l (i + 1) d))) → T (each_next p l)
  at_next p l f = go l (λ i h. rw (add-one i) at (f i (omega arith)))
    where
      go : (l : List A) → ((i : ℕ) → suc i < length l → T (p (get_or l i d) (get_or l (suc i) d))) → T (each_next p l)
      go [] f = tt
      go (x ∷ []) f = tt
      go (x ∷ y ∷ l) f = and_intro (p x y) (each_next p (y ∷ l)) (f 0 (omega arith)) (go (y ∷ l) (λ i h. f (suc i) (omega arith)))

-- edges from three lists
pub edge_at_lem : (s t k : List ℕ) (j : ℕ) → j < length (edges_of s t k) → get_or (edges_of s t k) j (edge 0 0 0) ≡ edge_at s t k j
edge_at_lem [] t k j h = absurd (omega arith)
edge_at_lem (x ∷ s) [] k j h = absurd (omega arith)
edge_at_lem (x ∷ s) (y ∷ t) [] j h = absurd (omega arith)
edge_at_lem (x ∷ s) (y ∷ t) (z ∷ k) zero h = refl
edge_at_lem (x ∷ s) (y ∷ t) (z ∷ k) (suc j) h = edge_at_lem s t k j (omega arith)

pub mem_edge : (s t k : List ℕ) (j : ℕ) → j < length (edges_of s t k) → Memᴰ (edge_at s t k j) (edges_of s t k)
mem_edge s t k j h = subst (λ (e : Edge). Memᴰ e (edges_of s t k)) (edge_at_lem s t k j h) (get_d_mem (edges_of s t k) j (edge 0 0 0) h)

pub of_edge : (s t k : List ℕ) {e : Edge} → Memᴰ e (edges_of s t k) → (j : ℕ) × (j < length (edges_of s t k)) × (edge_at s t k j ≡ e)
of_edge s t k m =
    let r = place_of_lem (edge 0 0 0) (edges_of s t k) m in
    (r.0, r.1, sym (edge_at_lem s t k r.0 r.1) ∙ r.2)

any_edge : (p : Edge → Bool) (s t k : List ℕ) → any_of p (edges_of s t k) ≡ any_of (λ j. p (edge_at s t k j)) (upto (length (edges_of s t k)) 0)
any_edge p s t k =
    same_test (any_of p es) (any_of q (upto (length es) 0))
    (λ h.
    let r = any_of_elim p es h in
    let o = of_edge s t k r.1 in
    at_any q (length es) o.0 o.1 (rw o.2 r.2))
    (λ h.
    let r = any_at q (length es) h in
    any_of_intro p (mem_edge s t k r.0 r.1) r.2)
  where
    es : List Edge
    es = edges_of s t k

    q : ℕ → Bool
    q j = p (edge_at s t k j)

nil_any : {A : Type 0} (p : A → Bool) (l : List A) → is_nil (keep p l) ≡ not (any_of p l)
nil_any p [] = refl
nil_any p (x ∷ l) = go (p x) (nil_any p l)
  where
    go : (b : Bool) → is_nil (keep p l) ≡ not (any_of p l) → is_nil (cond b (x ∷ keep p l) (keep p l)) ≡ not (b || any_of p l)
    go true below = refl
    go false below = below

-- whether some edge of three lists ends at v, or starts there
no_end : (s t k : List ℕ) (v : ℕ) → is_nil (keep (λ e. eqb e.end v) (edges_of s t k)) ≡ not (stands t (length (edges_of s t k)) v)
no_end s t k v = nil_any (λ e. eqb e.end v) (edges_of s t k) ∙ ap not (any_edge (λ e. eqb e.end v) s t k)

no_start : (s t k : List ℕ) (v : ℕ) → is_nil (keep (λ e. eqb e.start v) (edges_of s t k)) ≡ not (stands s (length (edges_of s t k)) v)
no_start s t k v = nil_any (λ e. eqb e.start v) (edges_of s t k) ∙ ap not (any_edge (λ e. eqb e.start v) s t k)

-- of a graph: whether a copy has an edge in, and out
pub in_graph : (nodes endpoint s t k : List ℕ) (c : ℕ) → starts_at (graph_of (graph_slices nodes endpoint s t k)) c ≡ not (stands t (length (edges_of s t k)) c)
unfolding edges_in
in_graph nodes endpoint s t k c = no_end s t k c

pub out_graph : (nodes endpoint s t k : List ℕ) (c : ℕ) → is_nil (edges_out (graph_of (graph_slices nodes endpoint s t k)) c) ≡ not (stands s (length (edges_of s t k)) c)
unfolding edges_out
out_graph nodes endpoint s t k c = no_start s t k c

-- and of a design, whose edges are as many as the shorter list has: whether a node has an edge in, and out, and whether it is marked
length_design_edges : (s t : List ℕ) → length (edges_of s t (upto (length s) 0)) ≡ min (length s) (length t)
length_design_edges s t = omega (arith, length_edges s t (upto (length s) 0), length_upto (length s) 0)

pub source_is : (n : ℕ) (s t marked : List ℕ) (v : ℕ) → is_source (design n s t [] [] marked) v ≡ not (stands t (min (length s) (length t)) v)
unfolding design_graph edges_in
source_is n s t marked v = no_end s t (upto (length s) 0) v ∙ ap (λ (m : ℕ). not (stands t m v)) (length_design_edges s t)

pub sink_is : (n : ℕ) (s t marked : List ℕ) (v : ℕ) → is_sink (design n s t [] [] marked) v ≡ not (stands s (min (length s) (length t)) v)
sink_is n s t marked v = no_start s t (upto (length s) 0) v ∙ ap (λ (m : ℕ). not (stands s m v)) (length_design_edges s t)

pub marked_is : (marked : List ℕ) (v : ℕ) → any_of (eqb v) marked ≡ stands marked (length marked) v
marked_is l v =
    same_test (any_of (eqb v) l) (stands l (length l) v)
    (λ h.
    let r = any_of_elim (eqb v) l h in
    let o = place_of_lem 0 l r.1 in
    let e : get_or l o.0 0 ≡ v = o.2 ∙ sym (eqb→eq v r.0 r.2) in
    at_any at (length l) o.0 o.1 (rw e (eqb_refl v)))
    (λ h.
    let r = any_at at (length l) h in
    let e : get_or l r.0 0 ≡ v = eqb→eq (get_or l r.0 0) v r.2 in
    any_of_intro (eqb v) (get_d_mem l r.0 0 r.1) (rw e (eqb_refl v)))
  where
    at : ℕ → Bool
    at k = eqb (get_or l k 0) v
