-- The shown slots in order are the copies of the true graph, with their places as numbers, and the edges into them that come
-- from shown slots are its edges.
use Prim.Native.Nat.{ℕ, zero, suc, ◌+◌, ◌≤◌, ◌<◌}
use native.Mathlib.Omega.{arith}
use mathlib.Core.Path.{◌≡◌, refl, sym, ap, ap₂, ◌∙◌, subst}
use mathlib.Core.Logic.{◌⊎◌, inl, inr}
use mathlib.Core.Bool.{Bool, true, false, cond, ◌&&◌}
use mathlib.Core.List.Memᴰ
use mathlib.Core.List.{List, [], ◌∷◌, map, Memᴰ, map-map}
use lib.Dec.{T, eqb, ltb, lt→ltb}
use lib.ListN.{length}
use borrow.Author.Tests.{ne_eqb}
use Rattle.timing.specs.Lists.{is_nil, keep, count_of, one_if, upto}
use Rattle.timing.specs.Graphs.{Design, Edge, edge, Graph, node_of, endpoint_of, ends_at}
use Rattle.timing.specs.Marks.{PathList, paths_of, mark}
use Rattle.timing.specs.Sorting.{before, place}
use Rattle.timing.specs.TrueGraphs.{Copy, Join, copy_before, edge_before, copies, path_ends, numbered, true_graph}
use Rattle.theorems.proofs.Lists.{holds, or_left, mem_flat_map, of_flat_map, mem_keep, of_keep, mem_upto, of_upto}
use Rattle.theorems.proofs.Marks.{begins}
use Rattle.theorems.proofs.Sorting.{place_get_d, place_less}
use Rattle.theorems.proofs.Copies.{Shown, Joined, Link, copy_order, mem_copies, joined_link, link_joined}
use Rattle.theorems.proofs.Stands.{passes_inside, copies_sorted}
use Rattle.theorems.proofs.Back.{copies_are, edges_are, ends_locally}
use Rattle.removal.specs.Slots.{slots, Used}
pub use Rattle.removal.specs.Result.{Slot, slot_at, slot_endpoint, shown_in, shown_below, number_of, shown_slots, numbered_edge, slot_edges, shown_edges, Linking}
pub use Rattle.removal.specs.Edges.{EdgesInto}
use Rattle.removal.proofs.Reaching.SlotLaws.{Setting, before_skip, slots_rise}
use Rattle.removal.proofs.Reaching.FlagLaws.{ShownRow, StepOn, shown_slot}
use Rattle.removal.proofs.Showing.Ascending.{Ascending, ascending_keep, ascending_map, ascending_flat_map, ascending_sorted, ascending_upto, Stand, stand_map, stand_get_d, stand_rows, stand_upto}

-- the order of slots
abbrev pub SlotLower : Slot → Slot → Type 0
SlotLower s t = (s.copy < t.copy) ⊎ ((s.copy ≡ t.copy) × (s.slot < t.slot))

-- the copy that a slot stands for
abbrev pub copy_of : PathList → (ℕ → ℕ → List ℕ) → (ℕ → ℕ) → Slot → Copy
copy_of L marks B s = record { at = s.copy; mark = marks s.copy s.slot }

is_true : (b : Bool) → T b → b ≡ true
is_true true t = refl
is_true false t = absurd t

-- a number that is 0 or 1 says whether it is 1
one_if_lem : (x : ℕ) → x ≤ 1 → x ≡ one_if (eqb x 1)
one_if_lem zero h = refl
one_if_lem (suc zero) h = refl
one_if_lem (suc (suc x)) h = absurd (omega arith)

map_same : {A B : Type 0} (f g : A → B) (l : List A) → ((x : A) → Memᴰ x l → f x ≡ g x) → map f l ≡ map g l
map_same f g [] h = refl
map_same f g (x ∷ l) h = ap₂ (λ (y : _) (k : List _). y ∷ k) (h x (Memᴰ.head refl)) (map_same f g l (λ y m. h y (Memᴰ.tail m)))

module _ (B : ℕ → ℕ) (shown : ℕ → ℕ → Bool) where
  -- what is listed
  pub mem_shown : (n c j : ℕ) → c < n → j < slots B c → shown c j ≡ true → Memᴰ (slot_at c j) (shown_below B shown n)
  mem_shown n c j h k f =
      mem_flat_map (λ c. shown_in shown c (slots B c)) (mem_upto n 0 c (omega arith) (omega arith))
      (Memᴰ.map (slot_at c) (mem_keep (shown c) (mem_upto (slots B c) 0 j (omega arith) (omega arith)) (holds (shown c j) f)))

  pub of_shown : (n : ℕ) (s : Slot) → Memᴰ s (shown_below B shown n)
      → (s.copy < n) × (s.slot < slots B s.copy) × (shown s.copy s.slot ≡ true)
  of_shown n s m =
      let r = of_flat_map (λ c. shown_in shown c (slots B c)) {y = s} (upto n 0) m in
      let c : ℕ = r.0 in
      let q = Memᴰ.of_map (slot_at c) (keep (shown c) (upto (slots B c) 0)) r.2 in
      let k = of_keep (shown c) (upto (slots B c) 0) q.1 in
      subst (λ (t : Slot). (t.copy < n) × (t.slot < slots B t.copy) × (shown t.copy t.slot ≡ true)) q.2
      (omega (arith, (of_upto n 0 c r.1).1), omega (arith, (of_upto (slots B c) 0 q.0 k.0).1), is_true (shown c q.0) k.1)

  -- it is in order
  row_copy : (c n : ℕ) (s : Slot) → Memᴰ s (shown_in shown c n) → c ≡ s.copy
  row_copy c n s m = ap (λ (t : Slot). t.copy) (Memᴰ.of_map (slot_at c) (keep (shown c) (upto n 0)) m).2

  pub shown_ascending : (n : ℕ) → Ascending SlotLower (shown_below B shown n)
  shown_ascending n =
      ascending_flat_map (λ (a b : ℕ). a < b) SlotLower (λ c. shown_in shown c (slots B c)) (upto n 0) (ascending_upto n 0)
      (λ c m.
      ascending_map (λ (a b : ℕ). a < b) SlotLower (slot_at c) (keep (shown c) (upto (slots B c) 0))
      (ascending_keep (λ (a b : ℕ). a < b) (shown c) (upto (slots B c) 0) (ascending_upto (slots B c) 0))
      (λ i j p q h. inr (refl, h)))
      (λ c d m k h u v p q. inl (omega (arith, row_copy c (slots B c) u p, row_copy d (slots B d) v q)))

  -- and each stands at its number
  pub shown_stands : (n c j : ℕ) → c < n → j < slots B c → shown c j ≡ true → Stand (slot_at c j) (number_of B shown c j) (shown_below B shown n)
  shown_stands n c j h k f =
      let z : 0 + c ≡ c = omega arith in
      let y : 0 + j ≡ j = omega arith in
      let row : Stand (slot_at c j) (count_of (shown c) (upto j 0)) (shown_in shown c (slots B c)) =
      stand_map (slot_at c) j (count_of (shown c) (upto j 0)) (keep (shown c) (upto (slots B c) 0))
      (subst (λ (x : ℕ). Stand x (count_of (shown c) (upto j 0)) (keep (shown c) (upto (slots B c) 0))) y
      (stand_upto (shown c) (slots B c) 0 j k (ap (shown c) y ∙ f))) in
      stand_rows (λ c. shown_in shown c (slots B c)) (slot_at c j) (count_of (shown c) (upto j 0)) n 0 c h
      (subst (λ (x : ℕ). Stand (slot_at c j) (count_of (shown c) (upto j 0)) (shown_in shown x (slots B x))) (sym z) row)

-- copies of lower copies come before
lower_before : (p q : Copy) → p.at < q.at → T (copy_before p q)
lower_before p q h =
    or_left (ltb p.at q.at) (eqb p.at q.at && before (length p.mark ∷ p.mark) (length q.mark ∷ q.mark)) (lt→ltb p.at q.at h)

-- edges are ordered by end, then by name
lower_end : (e f : Edge) → e.end < f.end → T (edge_before e f)
lower_end e f h =
    or_left (ltb e.end f.end) (eqb e.end f.end && before (e.name ∷ e.start ∷ []) (f.name ∷ f.start ∷ [])) (lt→ltb e.end f.end h)

lower_name : (e f : Edge) → e.end ≡ f.end → e.name < f.name → T (edge_before e f)
lower_name e f q h =
    subst T (sym (before_skip e.end f.end (e.name ∷ e.start ∷ []) (f.name ∷ f.start ∷ []) q))
    (or_left (ltb e.name f.name) (eqb e.name f.name && before (e.start ∷ []) (f.start ∷ [])) (lt→ltb e.name f.name h))

module _ (D : Design) (G : Graph) (L : PathList) (marks : ℕ → ℕ → List ℕ) (B : ℕ → ℕ) (S : Setting D G L marks B)
    (shown : ℕ → ℕ → Bool) (right : (c : ℕ) → c < length G.nodes → ShownRow G L marks B shown c) where
  -- a shown slot shows its copy, and a shown copy has a shown slot
  slot_shown : (c j : ℕ) → c < length G.nodes → j < slots B c → shown c j ≡ true → Shown G (paths_of L) (copy_of L marks B (slot_at c j))
  slot_shown c j h k f = ((right c h j k).0 f).1

  shown_inside : (p : Copy) → Shown G (paths_of L) p → p.at < length G.nodes
  shown_inside p s = passes_inside S.legal.rising s.1

  pub find_shown : (p : Copy) → Shown G (paths_of L) p → (j : ℕ) × (j < slots B p.at) × (marks p.at j ≡ p.mark) × (shown p.at j ≡ true)
  find_shown p s =
      let h = shown_inside p s in
      let r = shown_slot D G L marks B S p h s in (
        r.0,
        r.1,
        r.2,
        (right p.at h r.0 r.1).1 (r.3, subst (λ (m : List ℕ). Shown G (paths_of L) (record { at = p.at; mark = m })) (sym r.2) s),
      )

  -- the order of slots is that of copies
  slots_order : (s t : Slot) → Memᴰ s (shown_slots G B shown) → Memᴰ t (shown_slots G B shown) → SlotLower s t → T (copy_before (copy_of L marks B s) (copy_of L marks B t))
  slots_order s t m k (inl h) = lower_before (copy_of L marks B s) (copy_of L marks B t) h
  slots_order s t m k (inr h) =
      let o = of_shown B shown (length G.nodes) t k in
      let u = ((right t.copy o.0 t.slot o.1).0 o.2).0 in
      subst (λ (c : ℕ). T (copy_before (record { at = c; mark = marks c s.slot }) (copy_of L marks B t))) (sym h.0)
      (slots_rise D G L marks B S t.copy o.0 s.slot t.slot h.1 o.1)

  -- the shown slots are the copies
  pub shown_copies : map (copy_of L marks B) (shown_slots G B shown) ≡ copies (paths_of L) G
  shown_copies =
      copies_are G (paths_of L) S.legal.rising (map (copy_of L marks B) (shown_slots G B shown))
      (ascending_sorted copy_before (map (copy_of L marks B) (shown_slots G B shown))
      (ascending_map SlotLower (λ (p q : Copy). T (copy_before p q)) (copy_of L marks B) (shown_slots G B shown) (shown_ascending B shown (length G.nodes)) slots_order))
      (λ p. (there p, back p))
    where
      there : (p : Copy) → Memᴰ p (map (copy_of L marks B) (shown_slots G B shown)) → Shown G (paths_of L) p
      there p m =
          let r = Memᴰ.of_map (copy_of L marks B) (shown_slots G B shown) m in
          let o = of_shown B shown (length G.nodes) r.0 r.1 in
          subst (Shown G (paths_of L)) r.2 (slot_shown r.0.copy r.0.slot o.0 o.1 o.2)

      back : (p : Copy) → Shown G (paths_of L) p → Memᴰ p (map (copy_of L marks B) (shown_slots G B shown))
      back p s =
          let r = find_shown p s in
          let e : p ≡ copy_of L marks B (slot_at p.at r.0) = λ i. record { at = p.at; mark = sym r.2 i } in
          Memᴰ.cast e (Memᴰ.map (copy_of L marks B) (mem_shown B shown (length G.nodes) p.at r.0 (shown_inside p s) r.1 r.3))

  -- the number of a shown slot is that of its copy
  pub shown_number : (c j : ℕ) → c < length G.nodes → j < slots B c → shown c j ≡ true
      → number_of B shown c j ≡ place copy_before (copy_of L marks B (slot_at c j)) (copies (paths_of L) G)
  shown_number c j h k f =
      let d : Copy = record { at = 0; mark = [] } in
      let p : Copy = copy_of L marks B (slot_at c j) in
      let n : ℕ = number_of B shown c j in
      let s : Stand p n (copies (paths_of L) G) =
      subst (λ (l : List Copy). Stand p n l) shown_copies
      (stand_map (copy_of L marks B) (slot_at c j) n (shown_slots G B shown) (shown_stands B shown (length G.nodes) c j h k f)) in
      let r = stand_get_d p d n (copies (paths_of L) G) s in
      sym (place_get_d copy_before copy_order (copies (paths_of L) G) d n (copies_sorted G (paths_of L) S.legal.rising) r.0)
      ∙ ap (λ (x : Copy). place copy_before x (copies (paths_of L) G)) r.1

  -- and the nodes are those of the result
  pub shown_nodes : map (λ (s : Slot). node_of G s.copy) (shown_slots G B shown) ≡ (true_graph G (paths_of L)).nodes
  unfolding true_graph
  shown_nodes =
      sym (map-map (λ (p : Copy). node_of G p.at) (copy_of L marks B) (shown_slots G B shown)) ∙ ap (map (λ (p : Copy). node_of G p.at)) shown_copies

  -- and so are the endpoint numbers: paths end at the slot of the empty mark, where they end at its copy
  slot_ends : (s : Slot) → Memᴰ s (shown_slots G B shown) → slot_endpoint G.endpoints s ≡ one_if (path_ends (paths_of L) G (copy_of L marks B s))
  slot_ends s m =
      let o = of_shown B shown (length G.nodes) s m in
      let r = (right s.copy o.0 s.slot o.1).0 o.2 in
      go s.slot r.0 (ends_locally G (paths_of L) S.legal.rising (copy_of L marks B s) r.1)
    where
      some : (k : List ℕ) → (k ≡ [] → ⊥) → is_nil k ≡ false
      some [] f = absurd (f refl)
      some (x ∷ k) f = refl

      go : (j : ℕ) → Used marks s.copy j → path_ends (paths_of L) G (copy_of L marks B (slot_at s.copy j)) ≡ (is_nil (marks s.copy j) && ends_at G s.copy)
          → slot_endpoint G.endpoints (slot_at s.copy j) ≡ one_if (path_ends (paths_of L) G (copy_of L marks B (slot_at s.copy j)))
      go zero u e =
          one_if_lem (endpoint_of G s.copy) (S.legal.flags s.copy)
          ∙ ap one_if (sym (e ∙ ap (λ (k : List ℕ). is_nil k && ends_at G s.copy) (S.empty s.copy)))
      go (suc j) u e =
          ap (λ (b : Bool). cond b (endpoint_of G s.copy) 0) (ne_eqb (suc j) 0 (λ q. omega arith))
          ∙ ap one_if (sym (e ∙ ap (λ (b : Bool). b && ends_at G s.copy) (some (marks s.copy (suc j)) (λ q. u 0 (omega arith) (S.empty s.copy ∙ sym q)))))

  pub shown_endpoints : map (slot_endpoint G.endpoints) (shown_slots G B shown) ≡ (true_graph G (paths_of L)).endpoints
  unfolding true_graph
  shown_endpoints =
      map_same (slot_endpoint G.endpoints) (λ (s : Slot). one_if (path_ends (paths_of L) G (copy_of L marks B s))) (shown_slots G B shown) slot_ends
      ∙ sym (map-map (λ (p : Copy). one_if (path_ends (paths_of L) G p)) (copy_of L marks B) (shown_slots G B shown))
      ∙ ap (map (λ (p : Copy). one_if (path_ends (paths_of L) G p))) shown_copies

  -- numbers keep the order of slots
  pub numbers_rise : (s t : Slot) → Memᴰ s (shown_slots G B shown) → Memᴰ t (shown_slots G B shown) → SlotLower s t
      → number_of B shown s.copy s.slot < number_of B shown t.copy t.slot
  numbers_rise s t m k h =
      let o = of_shown B shown (length G.nodes) s m in
      let q = of_shown B shown (length G.nodes) t k in
      let r = place_less copy_before copy_order (copy_of L marks B s) (copy_of L marks B t) (copies (paths_of L) G) (copies_sorted G (paths_of L) S.legal.rising)
      ((mem_copies G (paths_of L) S.legal.rising (copy_of L marks B s)).1 (slot_shown s.copy s.slot o.0 o.1 o.2))
      (slots_order s t m k h) in
      omega (arith, r, shown_number s.copy s.slot o.0 o.1 o.2, shown_number t.copy t.slot q.0 q.1 q.2)

  module _ (ins : ℕ → List Edge) (into : EdgesInto G ins) (test : ℕ → ℕ → Edge → Bool) (from : ℕ → ℕ → Edge → ℕ) (linking : Linking G L marks B shown test from) where
    start_inside : (e : Edge) → Memᴰ e G.edges → e.start < length G.nodes
    start_inside e m = omega (arith, S.legal.rising.up e m, S.legal.rising.inside e m)

    edge_end : (s : Slot) (e : Edge) → Memᴰ e (slot_edges B shown ins test from s) → number_of B shown s.copy s.slot ≡ e.end
    edge_end s e m = ap (λ (x : Edge). x.end) (Memᴰ.of_map (numbered_edge B shown from s) (keep (test s.copy s.slot) (ins s.copy)) m).2

    edges_ascend : Ascending (λ (e f : Edge). T (edge_before e f)) (shown_edges G B shown ins test from)
    edges_ascend =
        ascending_flat_map SlotLower (λ (e f : Edge). T (edge_before e f)) (slot_edges B shown ins test from) (shown_slots G B shown) (shown_ascending B shown (length G.nodes))
        (λ s m.
        ascending_map (λ (e f : Edge). e.name < f.name) (λ (e f : Edge). T (edge_before e f)) (numbered_edge B shown from s) (keep (test s.copy s.slot) (ins s.copy))
        (ascending_keep (λ (e f : Edge). e.name < f.name) (test s.copy s.slot) (ins s.copy) (into.rises s.copy))
        (λ e f p q h. lower_name (numbered_edge B shown from s e) (numbered_edge B shown from s f) refl h))
        (λ s t m k h e f p q. lower_end e f (omega (arith, numbers_rise s t m k h, edge_end s e p, edge_end t f q)))

    -- an edge that is made is a join by its numbers
    made : (s : Slot) (e : Edge) → Memᴰ s (shown_slots G B shown) → Memᴰ e (keep (test s.copy s.slot) (ins s.copy))
        → (j : Join) × Joined G (paths_of L) j × (numbered (copies (paths_of L) G) j ≡ numbered_edge B shown from s e)
    made s e m k =
        let o = of_shown B shown (length G.nodes) s m in
        let t = of_keep (test s.copy s.slot) (ins s.copy) k in
        let i = (into.members s.copy e).0 t.0 in
        let x = linking.sound s.copy s.slot o.0 o.1 o.2 e i.0 i.1 (is_true (test s.copy s.slot e) t.1) in
        let f : ℕ = from s.copy s.slot e in
        let j : Join = record { start = copy_of L marks B (slot_at e.start f); end = copy_of L marks B s; name = e.name } in
        let h = start_inside e i.0 in
        let a = shown_number e.start f h x.3 x.5 in
        let b = shown_number s.copy s.slot o.0 o.1 o.2 in (
          j,
          link_joined G (paths_of L) j
              (record {
                along = subst (λ (y : ℕ). Memᴰ (edge e.start y e.name) G.edges) i.1 i.0;
                from = slot_shown e.start f h x.3 x.5;
                to = slot_shown s.copy s.slot o.0 o.1 o.2;
                live = x.2;
                marks = x.4;
              }),
          λ t. edge (sym a t) (sym b t) e.name,
        )

    -- a join is made at the slot of its end
    join_made : (j : Join) → Link G (paths_of L) j → Memᴰ (numbered (copies (paths_of L) G) j) (shown_edges G B shown ins test from)
    join_made j l =
        let c : ℕ = j.end.at in
        let e : Edge = edge j.start.at j.end.at j.name in
        let h = shown_inside j.end l.to in
        let g = shown_inside j.start l.from in
        let t = find_shown j.end l.to in
        let u = find_shown j.start l.from in
        let step : StepOn G L marks B shown c t.0 e u.0 = (
          l.along,
          refl,
          ap (λ (y : List ℕ). begins (paths_of L) (j.name ∷ y)) t.2 ∙ l.live,
          u.1,
          u.2 ∙ l.marks ∙ ap (λ (y : List ℕ). mark (paths_of L) (j.name ∷ y)) (sym t.2),
          u.3,
        ) in
        let p = linking.complete c t.0 h t.1 t.3 e u.0 step in
        let x = linking.sound c t.0 h t.1 t.3 e l.along refl p in
        let f : ℕ = from c t.0 e in
        let starts : copy_of L marks B (slot_at j.start.at f) ≡ j.start =
        λ i. record { at = j.start.at; mark = (x.4 ∙ ap (λ (y : List ℕ). mark (paths_of L) (j.name ∷ y)) t.2 ∙ sym l.marks) i } in
        let ends : copy_of L marks B (slot_at c t.0) ≡ j.end = λ i. record { at = c; mark = t.2 i } in
        let a = shown_number j.start.at f g x.3 x.5 ∙ ap (λ (y : Copy). place copy_before y (copies (paths_of L) G)) starts in
        let b = shown_number c t.0 h t.1 t.3 ∙ ap (λ (y : Copy). place copy_before y (copies (paths_of L) G)) ends in
        let same : numbered (copies (paths_of L) G) j ≡ numbered_edge B shown from (slot_at c t.0) e = λ i. edge (sym a i) (sym b i) j.name in
        Memᴰ.cast same
        (mem_flat_map (slot_edges B shown ins test from) (mem_shown B shown (length G.nodes) c t.0 h t.1 t.3)
        (Memᴰ.map (numbered_edge B shown from (slot_at c t.0))
        (mem_keep (test c t.0) ((into.members c e).1 (l.along, refl)) (holds (test c t.0 e) p))))

    -- the edges that are made are those of the result
    pub shown_edges_lem : shown_edges G B shown ins test from ≡ (true_graph G (paths_of L)).edges
    shown_edges_lem =
        edges_are G (paths_of L) S.legal.rising (shown_edges G B shown ins test from) (ascending_sorted edge_before (shown_edges G B shown ins test from) edges_ascend)
        (λ e. (
          λ m.
              let r = of_flat_map (slot_edges B shown ins test from) {y = e} (shown_slots G B shown) m in
              let q = Memᴰ.of_map (numbered_edge B shown from r.0) (keep (test r.0.copy r.0.slot) (ins r.0.copy)) r.2 in
              let k = made r.0 q.0 r.1 q.1 in
              (k.0, k.1, k.2 ∙ q.2),
          λ r. subst (λ (x : Edge). Memᴰ x (shown_edges G B shown ins test from)) r.2 (join_made r.0 (joined_link G (paths_of L) r.0 r.1)),
        ))
