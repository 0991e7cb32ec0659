-- E: two graphs that stand for the same are renumberings of each other within nodes, with equal lists of nodes and equally
-- many edges. The labels of both are the shown copies, each once; so every node is counted equally often in both.
use Prim.Native.Nat.{ℕ, zero, suc, ◌+◌, ◌<◌}
use mathlib.Core.Path.{◌≡◌, refl, sym, ap, ◌∙◌, subst}
use mathlib.Core.Logic.{◌↔◌}
use mathlib.Core.List.Memᴰ
use mathlib.Core.List.{List, [], ◌∷◌, map, Memᴰ}
use native.Mathlib.Omega.{arith}
use lib.Dec.{eqb}
use lib.ListN.{length, get_or, length-map}
use Rattle.timing.specs.Lists.{count_of, one_if, upto}
use Rattle.timing.specs.Graphs.{Edge, edge, Graph, node_of, endpoint_of}
use Rattle.timing.specs.TrueGraphs.{Copy, path_ends}
use Rattle.timing.specs.Series.{renumbered, Renumbered}
use Rattle.theorems.proofs.Lists.{mem_upto, of_upto}
use Rattle.theorems.proofs.Counting.{Nodup, count_map, count_same, length_same, nodup_map, nodup_upto, Rises, rises_same}
use Rattle.theorems.proofs.Runs.{Rising}
use Rattle.theorems.proofs.Copies.{Shown}
use Rattle.theorems.proofs.Stands.{join_of, Stands, join_edge}

-- a list by its places
by_places : (xs : List ℕ) (n i : ℕ) (f : ℕ → ℕ) → n ≡ length xs → ((k : ℕ) → k < n → f (i + k) ≡ get_or xs k 0) → map f (upto n i) ≡ xs
by_places [] zero i f e h = refl
by_places [] (suc n) i f e h = absurd (omega arith)
by_places (x ∷ xs) zero i f e h = absurd (omega arith)
by_places (x ∷ xs) (suc n) i f e h =
    let z : i + 0 ≡ i = omega arith in
    let first : f i ≡ x = ap f (sym z) ∙ h 0 (omega arith) in
    let rest = by_places xs n (suc i) f (omega arith) (λ k l. let y : suc i + k ≡ i + suc k = omega arith in ap f y ∙ h (suc k) (omega arith)) in
    λ t. first t ∷ rest t

module _ (G H K : Graph) (L : List (List ℕ)) (up : Rising G) (S : Stands G L H) (Q : Stands G L K) where
  -- the labels of all copies
  labels : (X : Graph) → Stands G L X → List Copy
  labels X P = map P.label (upto (length X.nodes) 0)

  in_range : (n c : ℕ) → Memᴰ c (upto n 0) → c < n
  in_range n c m = omega (arith, (of_upto n 0 c m).1)

  labels_nodup : (X : Graph) (P : Stands G L X) → Nodup (labels X P)
  unfolding labels
  labels_nodup X P =
      nodup_map P.label (upto (length X.nodes) 0)
      (λ c d m k e. sym (P.every c (in_range _ c m)).1 ∙ ap P.number e ∙ (P.every d (in_range _ d k)).1)
      (nodup_upto (length X.nodes) 0)

  mem_labels : (X : Graph) (P : Stands G L X) (p : Copy) → Memᴰ p (labels X P) ↔ Shown G L p
  unfolding labels
  mem_labels X P p = (
    λ m.
        let r = Memᴰ.of_map P.label (upto (length X.nodes) 0) m in
        subst (Shown G L) r.2 (P.every r.0 (in_range _ r.0 r.1)).0,
    λ s.
        let r = P.shown p s in
        subst (λ (x : Copy). Memᴰ x (map P.label (upto (length X.nodes) 0))) r.1
        (Memᴰ.map P.label (mem_upto (length X.nodes) 0 (P.number p) (omega arith) (omega (arith, r.0)))),
  )

  -- the nodes are those of the labels
  nodes_labels : (X : Graph) (P : Stands G L X) → map (λ (p : Copy). node_of G p.at) (labels X P) ≡ X.nodes
  unfolding labels
  nodes_labels X P =
      map_map P.label (λ (p : Copy). node_of G p.at) (upto (length X.nodes) 0)
      ∙ by_places X.nodes (length X.nodes) 0 (λ c. node_of G (P.label c).at) refl (λ k l.
      let z : 0 + k ≡ k = omega arith in
      ap (λ (c : ℕ). node_of G (P.label c).at) z ∙ sym (P.every k l).2)
    where
      map_map : {A B C : Type 0} (f : A → B) (g : B → C) (l : List A) → map g (map f l) ≡ map (λ x. g (f x)) l
      map_map f g [] = refl
      map_map f g (x ∷ l) = ap (λ (y : List _). g (f x) ∷ y) (map_map f g l)

  same_counts : (v : ℕ) → count_of (eqb v) H.nodes ≡ count_of (eqb v) K.nodes
  same_counts v =
      ap (count_of (eqb v)) (sym (nodes_labels H S))
      ∙ count_map (eqb v) (λ (p : Copy). node_of G p.at) (labels H S)
      ∙ count_same (λ (p : Copy). eqb v (node_of G p.at)) (labels H S) (labels K Q) (labels_nodup H S) (labels_nodup K Q)
      (λ p. (λ m. (mem_labels K Q p).1 ((mem_labels H S p).0 m), λ m. (mem_labels H S p).1 ((mem_labels K Q p).0 m)))
      ∙ sym (count_map (eqb v) (λ (p : Copy). node_of G p.at) (labels K Q))
      ∙ ap (count_of (eqb v)) (nodes_labels K Q)

  abbrev to : ℕ → ℕ
  to c = Q.number (S.label c)

  abbrev back : ℕ → ℕ
  back c = S.number (Q.label c)

  to_there : (c : ℕ) → c < length H.nodes → (to c < length K.nodes) × (back (to c) ≡ c) × (node_of K (to c) ≡ node_of H c)
  to_there c h =
      let v = S.every c h in
      let r = Q.shown (S.label c) v.0 in
      (r.0, ap S.number r.1 ∙ v.1, (Q.every (to c) r.0).2 ∙ ap (λ (p : Copy). node_of G p.at) r.1 ∙ sym v.2)

  -- whether paths end at a copy follows from its label
  same_ends : (c : ℕ) → c < length H.nodes → endpoint_of K (to c) ≡ endpoint_of H c
  same_ends c h =
      let r = Q.shown (S.label c) (S.every c h).0 in
      Q.ends (to c) r.0 ∙ ap (λ (p : Copy). one_if (path_ends L G p)) r.1 ∙ sym (S.ends c h)

  forth : (e : Edge) → Memᴰ e H.edges → Memᴰ (renumbered to e) K.edges
  forth e m = join_edge G K L up Q (join_of S.label e) (S.joined e m)

pub stands_renumbered : (G H K : Graph) (L : List (List ℕ)) → Rising G → Stands G L H → Stands G L K
    → Rises H.nodes → Rises K.nodes → Nodup H.edges → Nodup K.edges → Renumbered H K
stands_renumbered G H K L up S Q rh rk eh ek =
    record {
      nodes = nodes;
      sizes = S.sizes ∙ size ∙ sym Q.sizes;
      edges = sym (length-map H.edges (renumbered t)) ∙ length_same (map (renumbered t) H.edges) K.edges moved ek members;
      to = t;
      back = b;
      there = λ c h. let r = to_there G H K L up S Q c h in (subst (λ (n : ℕ). t c < n) (sym size) r.0, r.1, r.2);
      endpoints = same_ends G H K L up S Q;
      here = λ c h. let r = from c (subst (λ (n : ℕ). c < n) size h) in (r.0, r.1);
      forth = forth G H K L up S Q;
      return = forth G K H L up Q S;
    }
  where
    t : ℕ → ℕ
    t = to G H K L up S Q

    b : ℕ → ℕ
    b = back G H K L up S Q

    nodes : H.nodes ≡ K.nodes
    nodes = rises_same H.nodes K.nodes rh rk (same_counts G H K L up S Q)

    size : length H.nodes ≡ length K.nodes
    size = ap length nodes

    from : (c : ℕ) → c < length K.nodes → (b c < length H.nodes) × (t (b c) ≡ c)
    from c h = let r = to_there G K H L up Q S c h in (r.0, r.1)

    start_in : (X : Graph) → Rising X → (e : Edge) → Memᴰ e X.edges → e.start < length X.nodes
    start_in X r e m = omega (arith, r.up e m, r.inside e m)

    -- there and back, an edge is itself
    again : (e : Edge) → Memᴰ e H.edges → renumbered b (renumbered t e) ≡ e
    again e m = λ i. edge ((to_there G H K L up S Q e.start (start_in H S.rising e m)).1 i) ((to_there G H K L up S Q e.end (S.rising.inside e m)).1 i) e.name

    moved : Nodup (map (renumbered t) H.edges)
    moved = nodup_map (renumbered t) H.edges (λ e f m k q. sym (again e m) ∙ ap (renumbered b) q ∙ again f k) eh

    members : (e : Edge) → Memᴰ e (map (renumbered t) H.edges) ↔ Memᴰ e K.edges
    members e = (
      λ m. let r = Memᴰ.of_map (renumbered t) H.edges m in subst (λ (x : Edge). Memᴰ x K.edges) r.2 (forth G H K L up S Q r.0 r.1),
      λ m.
          let q : renumbered t (renumbered b e) ≡ e =
          λ i. edge ((from e.start (start_in K Q.rising e m)).1 i) ((from e.end (Q.rising.inside e m)).1 i) e.name in
          subst (λ (x : Edge). Memᴰ x (map (renumbered t) H.edges)) q (Memᴰ.map (renumbered t) (forth G K H L up Q S e m)),
    )

-- c goes to the copy with its label
pub renumbered_label : (G H K : Graph) (L : List (List ℕ)) (up : Rising G) (S : Stands G L H) (Q : Stands G L K) (rh : Rises H.nodes) (rk : Rises K.nodes)
    (eh : Nodup H.edges) (ek : Nodup K.edges) (c : ℕ) → c < length H.nodes → Q.label ((stands_renumbered G H K L up S Q rh rk eh ek).to c) ≡ S.label c
unfolding stands_renumbered
renumbered_label G H K L up S Q rh rk eh ek c h = (Q.shown (S.label c) (S.every c h).0).1
