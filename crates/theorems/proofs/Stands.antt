-- H stands for (G, L): its copies are labelled one to one by the copies that G and L show, its edges are their joins, and paths end at just
-- those copies at which a permitted path of G ends.
-- The true graph of G and L does; and what stands for (G, L) has the permitted paths of G, each once (theorem R).
use Prim.Native.Nat.{ℕ, ◌<◌}
use mathlib.Core.Path.{◌≡◌, refl, sym, ap, ◌∙◌, subst}
use mathlib.Core.Logic.{◌⊎◌, inl, inr, ◌↔◌}
use mathlib.Core.Bool.{Bool, true, false, ◌&&◌}
use mathlib.Core.List.Memᴰ
use mathlib.Core.List.{List, [], ◌∷◌, ◌++◌, map, flat_map, Memᴰ, append_assoc}
use lib.Dec.{T, eqb, ltb, lt→ltb}
use lib.ListN.{length, length-map}
use Rattle.timing.specs.Lists.{is_nil, one_if}
use Rattle.timing.specs.Graphs.{Edge, edge, Graph, node_of, endpoint_of, edges_in, edges_out, starts_at, ends_at, names}
use Rattle.timing.specs.Marks.{permitted, mark}
use Rattle.timing.specs.Sorting.{before, place}
use Rattle.timing.specs.TrueGraphs.{Copy, Join, copy_before, edge_before, copy_at, copies_on, copies, path_ends, joins, numbered, permitted_runs, true_graph}
use Rattle.timing.specs.Paths.{pair_of}
use Rattle.theorems.proofs.Lists.{or_left, get_d_mem, get_d_map, none_of_nil}
use Rattle.theorems.proofs.Marks.{begins, mark_reads, permitted_front}
use Rattle.theorems.proofs.Sorting.{Sorted, sort_mem, sort_sorted, place_stands, place_get_d, place_less}
use Rattle.theorems.proofs.Runs.{Rising, Onward, Leads, Way, mem_in, mem_out, leads_last}
use Rattle.theorems.proofs.Copies.{Passes, Shown, Joined, copy_order, edge_order, pass_on, rest_permitted, joined_link, mem_copies, path_ends_lem, mem_joins}

-- an edge as a join of labelled copies
abbrev pub join_of : (ℕ → Copy) → Edge → Join
join_of label e = record { start = label e.start; end = label e.end; name = e.name }

pub record Stands (G : Graph) (L : List (List ℕ)) (H : Graph) : Type 0 where
  pub label : ℕ → Copy
  pub number : Copy → ℕ
  pub rising : Rising H
  pub shown : (p : Copy) → Shown G L p → (number p < length H.nodes) × (label (number p) ≡ p)
  pub every : (c : ℕ) → c < length H.nodes → Shown G L (label c) × (number (label c) ≡ c) × (node_of H c ≡ node_of G (label c).at)
  pub sizes : length H.endpoints ≡ length H.nodes
  pub ends : (c : ℕ) → c < length H.nodes → endpoint_of H c ≡ one_if (path_ends L G (label c))
  pub joined : (e : Edge) → Memᴰ e H.edges → Joined G L (join_of label e)
  pub edges : (e : Edge) → e.start < length H.nodes → e.end < length H.nodes → Joined G L (join_of label e) → Memᴰ e H.edges

-- a copy that no edge leaves; where paths start there is no edge in, and the other way round
pub no_out : (G : Graph) (c : ℕ) → ((e : Edge) → Memᴰ e G.edges → e.start ≡ c → ⊥) → T (is_nil (edges_out G c))
no_out G c f = go (edges_out G c) (λ e m. let r = (mem_out G c e).0 m in f e r.0 r.1)
  where
    go : (l : List Edge) → ((e : Edge) → Memᴰ e l → ⊥) → T (is_nil l)
    go [] f = tt
    go (e ∷ l) f = absurd (f e (Memᴰ.head refl))

pub no_in : (G : Graph) (c : ℕ) → ((e : Edge) → Memᴰ e G.edges → e.end ≡ c → ⊥) → T (starts_at G c)
no_in G c f = go (edges_in G c) (λ e m. let r = (mem_in G c e).0 m in f e r.0 r.1)
  where
    go : (l : List Edge) → ((e : Edge) → Memᴰ e l → ⊥) → T (is_nil l)
    go [] f = tt
    go (e ∷ l) f = absurd (f e (Memᴰ.head refl))

pub none_out : (G : Graph) (c : ℕ) (e : Edge) → T (is_nil (edges_out G c)) → Memᴰ e G.edges → e.start ≡ c → ⊥
none_out G c e t m q = none_of_nil (edges_out G c) e t ((mem_out G c e).1 (m, q))

pub starts_none : (G : Graph) (c : ℕ) (e : Edge) → T (starts_at G c) → Memᴰ e G.edges → e.end ≡ c → ⊥
starts_none G c e t m q = none_of_nil (edges_in G c) e t ((mem_in G c e).1 (m, q))

-- the endpoint number of a copy, and whether paths end there
pub one_ends : (G : Graph) (c : ℕ) (b : Bool) → endpoint_of G c ≡ one_if b → T b → T (ends_at G c)
one_ends G c true e t = rw e tt
one_ends G c false e t = absurd t

pub ends_one : (G : Graph) (c : ℕ) (b : Bool) → endpoint_of G c ≡ one_if b → T (ends_at G c) → T b
ends_one G c true e t = tt
ends_one G c false e t = rw e at t

-- a copy that passes lies inside
pub passes_inside : {G : Graph} {L : List (List ℕ)} {c : ℕ} {q : List Edge} → Rising G → Passes G L c q → c < length G.nodes
passes_inside {G} {L} {c} {q} up p = go p.first p.head p.inside p.leads
  where
    go : (a : ℕ) (es : List Edge) → a < length G.nodes → Leads G a es c → c < length G.nodes
    go a [] h l = subst (λ (x : ℕ). x < length G.nodes) l h
    go a (e ∷ es) h l = last e es l
      where
        last : (e : Edge) (es : List Edge) → Leads G a (e ∷ es) c → c < length G.nodes
        last e es l = let r = leads_last G a c e es l in subst (λ (x : ℕ). x < length G.nodes) r.5 (up.inside r.1 r.4)

lower_before : (p q : Copy) → p.at < q.at → T (copy_before p q)
lower_before p q h =
    or_left (ltb p.at q.at) (eqb p.at q.at && before (length p.mark ∷ p.mark) (length q.mark ∷ q.mark)) (lt→ltb p.at q.at h)

-- a true graph has an endpoint number for each copy
pub true_sizes : (G : Graph) (L : List (List ℕ)) → length (true_graph G L).endpoints ≡ length (true_graph G L).nodes
unfolding true_graph
true_sizes G L = length-map (copies L G) (λ (c : Copy). one_if (path_ends L G c)) ∙ sym (length-map (copies L G) (λ (c : Copy). node_of G c.at))

-- the true graph stands for what it is made of
module _ (G : Graph) (L : List (List ℕ)) (up : Rising G) where
  pub copies_sorted : Sorted copy_before (copies L G)
  unfolding copies
  copies_sorted = sort_sorted copy_before copy_order (flat_map (λ r. copies_on L r.first r.edges) (permitted_runs L G))

  abbrev at_number : Copy → ℕ
  at_number p = place copy_before p (copies L G)

  shown_number : (p : Copy) → Shown G L p → (at_number p < length (copies L G)) × (pair_of G L (at_number p) ≡ p)
  shown_number p s = place_stands copy_before copy_order p (record { at = 0; mark = [] }) (copies L G) copies_sorted ((mem_copies G L up p).1 s)

  size : length (true_graph G L).nodes ≡ length (copies L G)
  unfolding true_graph
  size = length-map (copies L G) (λ (c : Copy). node_of G c.at)

  pub true_edges : (e : Edge) → Memᴰ e (true_graph G L).edges ↔ ((j : Join) × Joined G L j × (numbered (copies L G) j ≡ e))
  unfolding true_graph
  true_edges e = (
    λ m.
        let r = Memᴰ.of_map (numbered (copies L G)) (joins L G) ((sort_mem edge_before edge_order e (map (numbered (copies L G)) (joins L G))).0 m) in
        (r.0, (mem_joins G L up r.0).0 r.1, r.2),
    λ r.
        (sort_mem edge_before edge_order e (map (numbered (copies L G)) (joins L G))).1
        (subst (λ (x : Edge). Memᴰ x (map (numbered (copies L G)) (joins L G))) r.2 (Memᴰ.map (numbered (copies L G)) ((mem_joins G L up r.0).1 r.1))),
  )

  edge_rises_lem : (e : Edge) → Memᴰ e (true_graph G L).edges → (e.start < e.end) × (e.end < length (true_graph G L).nodes)
  edge_rises_lem e m =
      let r = (true_edges e).0 m in
      let k = joined_link G L r.0 r.1 in
      let t : T (copy_before r.0.start r.0.end) = lower_before r.0.start r.0.end (up.up _ k.along) in
      let a = place_less copy_before copy_order r.0.start r.0.end (copies L G) copies_sorted ((mem_copies G L up r.0.start).1 k.from) t in
      let b = (shown_number r.0.end k.to).0 in
      (subst (λ (x : Edge). x.start < x.end) r.2 a, rw size (subst (λ (x : Edge). x.end < length (copies L G)) r.2 b))

  number_label : (c : ℕ) → c < length (copies L G) → at_number (pair_of G L c) ≡ c
  number_label c h = place_get_d copy_before copy_order (copies L G) (record { at = 0; mark = [] }) c copies_sorted h

  ends_at_lem : (c : ℕ) → c < length (copies L G) → endpoint_of (true_graph G L) c ≡ one_if (path_ends L G (pair_of G L c))
  unfolding true_graph
  ends_at_lem c h = get_d_map (λ (x : Copy). one_if (path_ends L G x)) (copies L G) (record { at = 0; mark = [] }) 0 c h

  pub true_rising : Rising (true_graph G L)
  true_rising = record { up = λ e m. (edge_rises_lem e m).0; inside = λ e m. (edge_rises_lem e m).1 }

  label_join : (j : Join) → Joined G L j → join_of (pair_of G L) (numbered (copies L G) j) ≡ j
  label_join j x =
      let k = joined_link G L j x in
      let a = (shown_number j.start k.from).1 in
      let b = (shown_number j.end k.to).1 in
      λ i. record { start = a i; end = b i; name = j.name }

  node_at : (c : ℕ) → c < length (copies L G) → node_of (true_graph G L) c ≡ node_of G (pair_of G L c).at
  unfolding true_graph
  node_at c h = get_d_map (λ (x : Copy). node_of G x.at) (copies L G) (record { at = 0; mark = [] }) 0 c h

  pub true_stands : Stands G L (true_graph G L)
  true_stands =
      record {
        label = pair_of G L;
        number = at_number;
        rising = true_rising;
        shown = λ p s. let r = shown_number p s in (rw size r.0, r.1);
        every = λ c h.
            let k : c < length (copies L G) = rw size at h in
            ((mem_copies G L up (pair_of G L c)).0 (get_d_mem (copies L G) c (record { at = 0; mark = [] }) k), number_label c k, node_at c k);
        sizes = true_sizes G L;
        ends = λ c h. ends_at_lem c (rw size at h);
        joined = λ e m.
            let r = (true_edges e).0 m in
            subst (Joined G L) (sym (label_join r.0 r.1) ∙ ap (join_of (pair_of G L)) r.2) r.1;
        edges = λ e h k x.
            (true_edges e).1 (
              join_of (pair_of G L) e,
              x,
              λ i. edge (number_label e.start (rw size at h) i) (number_label e.end (rw size at k) i) e.name,
            );
      }

  -- the label of a copy is the pair of its number
  pub true_label : (c : ℕ) → true_stands.label c ≡ pair_of G L c
  unfolding true_stands
  true_label c = refl

-- Theorem R, for any H that stands for (G, L).
module _ (G H : Graph) (L : List (List ℕ)) (up : Rising G) (S : Stands G L H) where
  -- an edge and a run of H, taken down to G; it names the same design edges
  abbrev pub lowered : Edge → Edge
  lowered e = edge (S.label e.start).at (S.label e.end).at e.name

  pub names_lowered : (es : List Edge) → names (map lowered es) ≡ names es
  names_lowered [] = refl
  names_lowered (e ∷ es) = ap (λ (x : List ℕ). e.name ∷ x) (names_lowered es)

  -- a join is an edge of H between the numbers of its copies
  pub join_edge : (j : Join) → Joined G L j → Memᴰ (edge (S.number j.start) (S.number j.end) j.name) H.edges
  join_edge j x =
      let k = joined_link G L j x in
      let a = S.shown j.start k.from in
      let b = S.shown j.end k.to in
      S.edges (edge (S.number j.start) (S.number j.end) j.name) a.0 b.0
      (subst (Joined G L) (λ i. record { start = sym a.1 i; end = sym b.1 i; name = j.name }) x)

  -- a copy of H where paths end shows a path that ends, and one where paths start a path that starts
  pub end_shown : (h : ℕ) → h < length H.nodes → T (ends_at H h) → T (ends_at G (S.label h).at) × T (permitted L []) × ((S.label h).mark ≡ mark L [])
  end_shown h l t =
      let r = (path_ends_lem G L up (S.label h)).0 (ends_one H h (path_ends L G (S.label h)) (S.ends h l) t) in
      (r.0.way, rest_permitted r.0, r.1)

  -- a copy of H is shown by a path that ends there, or goes on along an edge
  pub stands_onward : Onward H
  stands_onward h l = go v.0.0 v.0.1 v.0.2
    where
      v : Shown G L (S.label h) × (S.number (S.label h) ≡ h) × (node_of H h ≡ node_of G (S.label h).at)
      v = S.every h l

      go : (q : List Edge) → Passes G L (S.label h).at q → (S.label h).mark ≡ mark L (names q)
          → T (ends_at H h) ⊎ ((e : Edge) × Memᴰ e H.edges × (e.start ≡ h))
      go [] p m = inl (one_ends H h (path_ends L G (S.label h)) (S.ends h l) ((path_ends_lem G L up (S.label h)).1 (p, m)))
      go (e ∷ q) p m =
          let j : Join = record { start = copy_at L e.start (e ∷ q); end = copy_at L e.end q; name = e.name } in
          let x : Joined G L j = (e, q, subst (λ (y : ℕ). Passes G L y (e ∷ q)) (sym p.way.1) p, refl) in
          let f : j.start ≡ S.label h = λ i. record { at = p.way.1 i; mark = sym m i } in
          inr (edge (S.number j.start) (S.number j.end) j.name, join_edge j x, ap S.number f ∙ v.1)

  pub start_shown : (h : ℕ) → h < length H.nodes → T (starts_at H h) → T (starts_at G (S.label h).at)
  start_shown h l t = go v.0.1.head v.0.1 refl
    where
      v : Shown G L (S.label h) × (S.number (S.label h) ≡ h) × (node_of H h ≡ node_of G (S.label h).at)
      v = S.every h l

      q : List Edge
      q = v.0.0

      go : (es : List Edge) (p : Passes G L (S.label h).at q) → p.head ≡ es → T (starts_at G (S.label h).at)
      go [] p e = subst (λ (x : ℕ). T (starts_at G x)) (subst (λ (es : List Edge). Leads G p.first es (S.label h).at) e p.leads) p.starts
      go (e ∷ es) p w =
          let r = leads_last G p.first (S.label h).at e es (subst (λ (es : List Edge). Leads G p.first es (S.label h).at) w p.leads) in
          let f = r.1 in
          let b : Passes G L f.start (f ∷ q) =
          record {
            first = p.first;
            head = r.0;
            inside = p.inside;
            starts = p.starts;
            leads = r.3;
            way = (r.4, refl, subst (λ (x : ℕ). Way G x q) (sym r.5) p.way);
            permits = subst (λ (es : List Edge). T (permitted L (names es))) (ap (λ (x : List Edge). x ++ q) (w ∙ r.2) ∙ append_assoc r.0 (f ∷ []) q) p.permits;
          } in
          let j : Join = record { start = copy_at L f.start (f ∷ q); end = copy_at L f.end q; name = f.name } in
          let g : j.end ≡ S.label h = λ i. record { at = r.5 i; mark = sym v.0.2 i } in
          absurd (starts_none H h (edge (S.number j.start) (S.number j.end) j.name) t (join_edge j (f, q, b, refl)) (ap S.number g ∙ v.1))

  -- a path of H from h on is one of G that is permitted, and the label of h is its mark
  pub way_down : (h : ℕ) (es : List Edge) → h < length H.nodes → Way H h es
      → Way G (S.label h).at (map lowered es) × T (permitted L (names es)) × ((S.label h).mark ≡ mark L (names es))
  way_down h [] l w = end_shown h l w
  way_down h (e ∷ es) l w =
      let i = S.rising.inside e w.0 in
      let b = way_down e.end es i w.2 in
      let k = joined_link G L (join_of S.label e) (S.joined e w.0) in
      let a : S.label e.start ≡ S.label h = ap S.label w.1 in (
        (k.along, ap (λ (x : Copy). x.at) a, b.0),
        permitted_front L e.name (names es) (subst (λ (x : List ℕ). begins L (e.name ∷ x) ≡ false) b.2 k.live) b.1,
        ap (λ (x : Copy). x.mark) (sym a) ∙ k.marks ∙ ap (λ (x : List ℕ). mark L (e.name ∷ x)) b.2 ∙ sym (mark_reads L e.name (names es)),
      )

  pub leads_down : (h i : ℕ) (es : List Edge) → Leads H h es i → Leads G (S.label h).at (map lowered es) (S.label i).at
  leads_down h i [] p = ap (λ (x : ℕ). (S.label x).at) p
  leads_down h i (e ∷ es) p =
      let k = joined_link G L (join_of S.label e) (S.joined e p.0) in
      (k.along, ap (λ (x : ℕ). (S.label x).at) p.1, leads_down e.end i es p.2)

  -- one step of a permitted path of G that passes c, lifted to H
  pub lifted : ℕ → Edge → List Edge → Edge
  lifted c e q = edge (S.number (copy_at L c (e ∷ q))) (S.number (copy_at L e.end q)) e.name

  pub step_up : (c : ℕ) (e : Edge) (q : List Edge) → Passes G L c (e ∷ q) → Memᴰ (lifted c e q) H.edges × (lowered (lifted c e q) ≡ e)
  unfolding lifted
  step_up c e q p =
      let j : Join = record { start = copy_at L c (e ∷ q); end = copy_at L e.end q; name = e.name } in
      let x : Joined G L j =
      (e, q, subst (λ (y : ℕ). Passes G L y (e ∷ q)) (sym p.way.1) p, λ i. record { start = record { at = sym p.way.1 i; mark = mark L (names (e ∷ q)) }; end = copy_at L e.end q; name = e.name }) in
      let k = joined_link G L j x in
      let a = (S.shown (copy_at L c (e ∷ q)) k.from).1 in
      let b = (S.shown (copy_at L e.end q) k.to).1 in
      (join_edge j x, λ i. edge ((ap (λ (x : Copy). x.at) a ∙ sym p.way.1) i) (ap (λ (x : Copy). x.at) b i) e.name)

  -- so a permitted path of G from c on is lifted to H, and so is a run to c
  pub way_up : (c : ℕ) (q : List Edge) → Passes G L c q → (es : List Edge) × Way H (S.number (copy_at L c q)) es × (map lowered es ≡ q)
  unfolding lifted
  way_up c [] p =
      let h = S.shown (copy_at L c []) ([], p, refl) in
      let t : T (path_ends L G (S.label (S.number (copy_at L c [])))) = subst (λ (x : Copy). T (path_ends L G x)) (sym h.1) ((path_ends_lem G L up (copy_at L c [])).1 (p, refl)) in
      ([], one_ends H (S.number (copy_at L c [])) (path_ends L G (S.label (S.number (copy_at L c [])))) (S.ends (S.number (copy_at L c [])) h.0) t, refl)
  way_up c (e ∷ q) p =
      let r = way_up e.end q (pass_on p) in
      let f = step_up c e q p in
      (lifted c e q ∷ r.0, (f.0, refl, r.1), λ i. f.1 i ∷ r.2 i)

  pub leads_lift : (a c : ℕ) (p q : List Edge) → Passes G L a (p ++ q) → Leads G a p c
      → (es : List Edge) × Leads H (S.number (copy_at L a (p ++ q))) es (S.number (copy_at L c q)) × (map lowered es ≡ p)
  unfolding lifted
  leads_lift a c [] q s l = ([], ap (λ (x : ℕ). S.number (copy_at L x q)) l, refl)
  leads_lift a c (e ∷ p) q s l =
      let r = leads_lift e.end c p q (pass_on s) l.2 in
      let f = step_up a e (p ++ q) s in
      (lifted a e (p ++ q) ∷ r.0, (f.0, refl, r.1), λ i. f.1 i ∷ r.2 i)

  -- the copy of a path where paths start is one where they start
  pub start_up : (c : ℕ) (q : List Edge) → Passes G L c q → T (starts_at G c) → T (starts_at H (S.number (copy_at L c q)))
  start_up c q p t =
      no_in H (S.number (copy_at L c q)) (λ e m s.
      let k = joined_link G L (join_of S.label e) (S.joined e m) in
      let f : S.label e.end ≡ copy_at L c q = ap S.label s ∙ (S.shown (copy_at L c q) (q, p, refl)).1 in
      starts_none G c _ t k.along (ap (λ (x : Copy). x.at) f))
