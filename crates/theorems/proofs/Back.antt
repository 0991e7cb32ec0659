-- B and N: how a removal finds what is shown. First back from the ends: which marks can a permitted rest have at a copy.
-- Then forward from the sources: which of them does some complete path show. Then the copies and the edges in their order.
use Prim.Native.Nat.{ℕ, ◌<◌}
use mathlib.Core.Path.{◌≡◌, refl, sym, ap, ◌∙◌, subst}
use mathlib.Core.Logic.{◌⊎◌, inl, inr, ◌↔◌}
use mathlib.Core.Bool.{Bool, false, not, ◌&&◌}
use mathlib.Core.List.{List, [], ◌∷◌, ◌++◌, Memᴰ, append_assoc, append-nil}
use lib.Dec.{T}
use lib.ListN.{length}
use Rattle.timing.specs.Lists.{is_nil, any_of}
use Rattle.timing.specs.Graphs.{Edge, Graph, starts_at, ends_at, names}
use Rattle.timing.specs.Marks.{occurs, permitted, mark}
use Rattle.timing.specs.TrueGraphs.{Copy, Join, copy_before, edge_before, copies, path_ends, numbered, true_graph}
use Rattle.theorems.proofs.Lists.{and_intro, and_left, and_right, same_test, nil_is}
use Rattle.theorems.proofs.Marks.{Prefix, begins, mark_prefix, mark_reads, splice, permitted_rest, permitted_front, front_permitted}
use Rattle.theorems.proofs.Sorting.{Sorted, sorted_unique}
use Rattle.theorems.proofs.Runs.{Rising, Leads, Way, leads_then, leads_last}
use Rattle.theorems.proofs.Copies.{Passes, Shown, Joined, copy_order, edge_order, names_append, rest_permitted, mem_copies, path_ends_lem}
use Rattle.theorems.proofs.Stands.{copies_sorted, true_edges}
use Rattle.theorems.proofs.Kept.{edges_sorted}

-- a permitted rest from c on to where paths end has this mark
pub record Reached (G : Graph) (L : List (List ℕ)) (c : ℕ) (m : List ℕ) : Type 0 where
  pub rest : List Edge
  pub way : Way G c rest
  pub permits : T (permitted L (names rest))
  pub marks : m ≡ mark L (names rest)

-- no path is listed that is empty, so the empty rest is permitted
pub none_permitted : (L : List (List ℕ)) → ((p : List ℕ) → Memᴰ p L → is_nil p ≡ false) → T (permitted L [])
unfolding permitted
none_permitted [] h = tt
none_permitted (p ∷ L) h = go p (h p (Memᴰ.head refl)) (none_permitted L (λ q m. h q (Memᴰ.tail m)))
  where
    go : (p : List ℕ) → is_nil p ≡ false → T (not (any_of (λ q. occurs q []) L)) → T (not (any_of (λ q. occurs q []) (p ∷ L)))
    go [] e t = absurd (subst (λ (b : Bool). T b) e tt)
    go (a ∷ p) e t = t

pub mark_empty : (L : List (List ℕ)) → mark L [] ≡ []
mark_empty L = go (mark L []) (mark_prefix L [])
  where
    go : (s : List ℕ) → Prefix s [] → s ≡ []
    go [] p = refl
    go (a ∷ s) p = absurd p

module _ (G : Graph) (L : List (List ℕ)) where
  -- B, back from the ends
  pub reached_end : (c : ℕ) → T (ends_at G c) → T (permitted L []) → Reached G L c []
  reached_end c t p = record { rest = []; way = t; permits = p; marks = sym (mark_empty L) }

  pub reached_step : (e : Edge) (m : List ℕ) → Memᴰ e G.edges → Reached G L e.end m → begins L (e.name ∷ m) ≡ false
      → Reached G L e.start (mark L (e.name ∷ m))
  reached_step e m i r b =
      record {
        rest = e ∷ r.rest;
        way = (i, refl, r.way);
        permits = permitted_front L e.name (names r.rest) (subst (λ (x : List ℕ). begins L (e.name ∷ x) ≡ false) r.marks b) r.permits;
        marks = ap (λ (x : List ℕ). mark L (e.name ∷ x)) r.marks ∙ sym (mark_reads L e.name (names r.rest));
      }

  pub reached_cases : (c : ℕ) (m : List ℕ) → Reached G L c m
      → (T (ends_at G c) × (m ≡ []))
      ⊎ ((e : Edge) × (k : List ℕ) × Memᴰ e G.edges × (e.start ≡ c) × Reached G L e.end k × (begins L (e.name ∷ k) ≡ false) × (m ≡ mark L (e.name ∷ k)))
  reached_cases c m r = go r.rest r.way r.permits r.marks
    where
      go : (q : List Edge) → Way G c q → T (permitted L (names q)) → m ≡ mark L (names q)
          → (T (ends_at G c) × (m ≡ []))
          ⊎ ((e : Edge) × (k : List ℕ) × Memᴰ e G.edges × (e.start ≡ c) × Reached G L e.end k × (begins L (e.name ∷ k) ≡ false) × (m ≡ mark L (e.name ∷ k)))
      go [] w p x = inl (w, x ∙ mark_empty L)
      go (e ∷ q) w p x =
          let f = front_permitted L e.name (names q) p in
          inr (e, mark L (names q), w.0, w.1, record { rest = q; way = w.2; permits = f.1; marks = refl }, f.0, x ∙ mark_reads L e.name (names q))

  -- B, forward from the sources
  pub shown_reached : (p : Copy) → Shown G L p → Reached G L p.at p.mark
  shown_reached p (q, s, m) = record { rest = q; way = s.way; permits = rest_permitted s; marks = m }

  pub shown_start : (p : Copy) → p.at < length G.nodes → T (starts_at G p.at) → Reached G L p.at p.mark → Shown G L p
  shown_start p h t r =
      (r.rest, record { first = p.at; head = []; inside = h; starts = t; leads = refl; way = r.way; permits = r.permits }, r.marks)

  -- the head of a path that shows the start, the edge, and the rest that is reached at its end
  pub shown_step : (e : Edge) (m : List ℕ) → Memᴰ e G.edges → Reached G L e.end m → begins L (e.name ∷ m) ≡ false
      → Shown G L (record { at = e.start; mark = mark L (e.name ∷ m) }) → Shown G L (record { at = e.end; mark = m })
  unfolding reached_step
  shown_step e m i r b (q, s, x) =
      let t = reached_step e m i r b in
      let w = splice L (names q) (e.name ∷ names r.rest) (sym x ∙ t.marks) t.permits (names s.head)
      (subst (λ (y : List ℕ). T (permitted L y)) (names_append s.head q) s.permits) in (
        r.rest,
        record {
          first = s.first;
          head = s.head ++ (e ∷ []);
          inside = s.inside;
          starts = s.starts;
          leads = leads_then G s.first e.start e.end s.head (e ∷ []) s.leads (i, refl, refl);
          way = r.way;
          permits = subst (λ (y : List ℕ). T (permitted L y)) (sym (ap names (append_assoc s.head (e ∷ []) r.rest) ∙ names_append s.head (e ∷ r.rest))) w.0;
        },
        r.marks,
      )

  pub shown_cases : (p : Copy) → Shown G L p
      → T (starts_at G p.at)
      ⊎ ((e : Edge) × Memᴰ e G.edges × (e.end ≡ p.at) × (begins L (e.name ∷ p.mark) ≡ false) × Shown G L (record { at = e.start; mark = mark L (e.name ∷ p.mark) }))
  shown_cases p (q, s, x) = go s.head refl
    where
      go : (h : List Edge) → s.head ≡ h
          → T (starts_at G p.at)
          ⊎ ((e : Edge) × Memᴰ e G.edges × (e.end ≡ p.at) × (begins L (e.name ∷ p.mark) ≡ false) × Shown G L (record { at = e.start; mark = mark L (e.name ∷ p.mark) }))
      go [] e = inl (subst (λ (c : ℕ). T (starts_at G c)) (subst (λ (h : List Edge). Leads G s.first h p.at) e s.leads) s.starts)
      go (g ∷ h) e =
          let r = leads_last G s.first p.at g h (subst (λ (h : List Edge). Leads G s.first h p.at) e s.leads) in
          let f = r.1 in
          let b : Passes G L f.start (f ∷ q) =
          record {
            first = s.first;
            head = r.0;
            inside = s.inside;
            starts = s.starts;
            leads = r.3;
            way = (r.4, refl, subst (λ (c : ℕ). Way G c q) (sym r.5) s.way);
            permits = subst (λ (es : List Edge). T (permitted L (names es))) (ap (λ (y : List Edge). y ++ q) (e ∙ r.2) ∙ append_assoc r.0 (f ∷ []) q) s.permits;
          } in
          let z : mark L (f.name ∷ names q) ≡ mark L (f.name ∷ p.mark) = mark_reads L f.name (names q) ∙ ap (λ (y : List ℕ). mark L (f.name ∷ y)) (sym x) in
          inr (
            f,
            r.4,
            r.5,
            ap (λ (y : List ℕ). begins L (f.name ∷ y)) x ∙ (front_permitted L f.name (names q) (rest_permitted b)).0,
            (f ∷ q, b, sym z),
          )

  -- Whether paths end at a copy shows there: its mark is empty, and paths end at what it is a copy of. For then the head of a path that shows
  -- it is a complete path, and permitted as a part of one.
  pub ends_locally : Rising G → (p : Copy) → Shown G L p → path_ends L G p ≡ (is_nil p.mark && ends_at G p.at)
  ends_locally up p (q, s, x) =
      same_test (path_ends L G p) (is_nil p.mark && ends_at G p.at)
      (λ t.
      let r = (path_ends_lem G L up p).0 t in
      and_intro (is_nil p.mark) (ends_at G p.at) (subst (λ (m : List ℕ). T (is_nil m)) (sym (r.1 ∙ mark_empty L)) tt) r.0.way)
      (λ t.
      let m = nil_is p.mark (and_left (is_nil p.mark) (ends_at G p.at) t) in
      let n = names_append s.head q in
      let whole : T (permitted L (names s.head ++ names q)) = subst (λ (w : List ℕ). T (permitted L w)) n s.permits in
      let none : T (permitted L []) = permitted_rest L (names (s.head ++ q)) [] (subst (λ (w : List ℕ). T (permitted L w)) (sym (append-nil (names (s.head ++ q)))) s.permits) in
      let w = splice L (names q) [] (sym x ∙ m ∙ sym (mark_empty L)) none (names s.head) whole in
      (path_ends_lem G L up p).1 (
        record {
          first = s.first;
          head = s.head;
          inside = s.inside;
          starts = s.starts;
          leads = s.leads;
          way = and_right (is_nil p.mark) (ends_at G p.at) t;
          permits = subst (λ (w : List ℕ). T (permitted L w)) (sym (names_append s.head [])) w.0;
        },
        m ∙ sym (mark_empty L),
      ))

  -- N: a list in the order of copies that holds just what is shown is the list of copies, and the same for the edges
  pub copies_are : Rising G → (cs : List Copy) → Sorted copy_before cs → ((p : Copy) → Memᴰ p cs ↔ Shown G L p) → cs ≡ copies L G
  copies_are up cs s h =
      sorted_unique copy_before copy_order cs (copies L G) s (copies_sorted G L up)
      (λ p. (λ m. (mem_copies G L up p).1 ((h p).0 m), λ m. (h p).1 ((mem_copies G L up p).0 m)))

  pub edges_are : Rising G → (es : List Edge) → Sorted edge_before es
      → ((e : Edge) → Memᴰ e es ↔ ((j : Join) × Joined G L j × (numbered (copies L G) j ≡ e))) → es ≡ (true_graph G L).edges
  edges_are up es s h =
      sorted_unique edge_before edge_order es (true_graph G L).edges s (edges_sorted G L)
      (λ e. (λ m. (true_edges G L up e).1 ((h e).0 m), λ m. (h e).1 ((true_edges G L up e).0 m)))
