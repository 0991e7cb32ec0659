-- What the theory asks of a graph of a design. The design as a graph has it, where tests 10 to 16 pass, and
-- so has every well-formed true graph (32).
use Prim.Native.Nat.{ℕ, zero, suc, ◌+◌, ◌≤◌, ◌<◌}
use mathlib.Core.Path.{◌≡◌, refl, sym, ap, ◌∙◌, subst}
use mathlib.Core.Logic.{◌⊎◌, inl, inr, ⊎_elim, ◌↔◌}
use mathlib.Core.Bool.{Bool, true, false, not, ◌&&◌, ◌||◌}
use mathlib.Core.List.Memᴰ
use mathlib.Core.List.{List, [], ◌∷◌, map, Memᴰ}
use Rattle.timing.specs.Answers.{Passed}
use native.Mathlib.Omega.{arith}
use native.Mathlib.Decide.{dec_lt, ℕ_discrete}
use lib.Dec.{T, eqb, ltb, leb, eqb→eq, eqb_refl, leb→le, ltb→lt, lt→ltb}
use lib.ListN.{length, get_or}
use Rattle.timing.specs.Lists.{is_nil, one_if, count_of, each_next, upto}
use Rattle.timing.specs.Graphs.{Design, edge_start, edge_end, Edge, edge, Graph, edges_of, is_sink, is_endpoint, design_graph, node_of, endpoint_of, edges_out, starts_at, ends_at}
use Rattle.timing.specs.WellFormed.{edge_rises, is_source, ends_only_at_endpoints, sink_ends, entered_or_source, left_or_endpoint, well_formed}
use Rattle.timing.specs.Tests.{design_sizes, design_tests}
use Rattle.theorems.proofs.Lists.{and_intro, and_left, and_right, or_cases, or_left, or_right, mem_upto, of_upto, all_of_elim, get_d_mem, get_d_map, length_upto, get_d_upto}
use Rattle.theorems.proofs.Sorting.{Sorted}
use Rattle.theorems.proofs.Runs.{Rising, Onward, mem_out}
use Rattle.theorems.proofs.Counting.{count_two, Rises, rises_next, next_sorted}
use Rattle.theorems.proofs.Tested.{DesignFits, design_fits, Formed, formed}

pub record Legal (D : Design) (G : Graph) : Type 0 where
  pub rising : Rising G
  pub onward : Onward G
  pub one_start : (e f : Edge) → Memᴰ e G.edges → Memᴰ f G.edges → e.end ≡ f.end → e.name ≡ f.name → e ≡ f
  pub one_end : (c d : ℕ) → c < length G.nodes → d < length G.nodes → T (ends_at G c) → T (ends_at G d) → node_of G c ≡ node_of G d → c ≡ d
  pub starts : (e : Edge) → Memᴰ e G.edges → node_of G e.start ≡ edge_start D e.name
  pub ends : (e : Edge) → Memᴰ e G.edges → node_of G e.end ≡ edge_end D e.name
  pub named : (e : Edge) → Memᴰ e G.edges → e.name < length D.starts
  pub below : (v : ℕ) → Memᴰ v G.nodes → v < D.nodes
  pub order : Rises G.nodes
  pub sources : (c : ℕ) → c < length G.nodes → T (starts_at G c) → T (is_source D (node_of G c))
  pub endpoints : (c : ℕ) → c < length G.nodes → T (ends_at G c) → T (is_endpoint D (node_of G c))
  pub flags : (c : ℕ) → endpoint_of G c ≤ 1

rises_upto : (n i : ℕ) → Rises (upto n i)
rises_upto zero i = tt
rises_upto (suc n) i = (λ y m. omega (arith, (of_upto n (suc i) y m).0), rises_upto n (suc i))

-- the edges of the design as a graph
of_edges_of : (starts ends : List ℕ) (i : ℕ) (e : Edge) → Memᴰ e (edges_of starts ends (upto (length starts) i))
    → (j : ℕ) × (j < length starts) × (e ≡ edge (get_or starts j 0) (get_or ends j 0) (i + j))
of_edges_of [] ends i e m = absurd (Memᴰ.not-nil m)
of_edges_of (s ∷ starts) [] i e m = absurd (Memᴰ.not-nil m)
of_edges_of (s ∷ starts) (t ∷ ends) i e m =
    ⊎_elim
    (λ (q : e ≡ edge s t i).
    let z : i ≡ i + 0 = omega arith in
    (0, omega arith, q ∙ ap (edge s t) z))
    (λ h.
    let r = of_edges_of starts ends (suc i) e h in
    let z : suc i + r.0 ≡ i + suc r.0 = omega arith in
    (suc r.0, omega (arith, r.1), r.2 ∙ ap (edge (get_or starts r.0 0) (get_or ends r.0 0)) z))
    (Memᴰ.cases_cons m)

mem_edges_of : (starts ends : List ℕ) (i j : ℕ) → length ends ≡ length starts → j < length starts
    → Memᴰ (edge (get_or starts j 0) (get_or ends j 0) (i + j)) (edges_of starts ends (upto (length starts) i))
mem_edges_of [] ends i j q h = absurd (omega arith)
mem_edges_of (s ∷ starts) [] i j q h = absurd (omega arith)
mem_edges_of (s ∷ starts) (t ∷ ends) i zero q h = let z : i + 0 ≡ i = omega arith in Memᴰ.head (ap (edge s t) z)
mem_edges_of (s ∷ starts) (t ∷ ends) i (suc j) q h =
    let z : suc i + j ≡ i + suc j = omega arith in
    Memᴰ.tail
    (subst (λ (k : ℕ). Memᴰ (edge (get_or starts j 0) (get_or ends j 0) k) (edges_of starts ends (upto (length starts) (suc i)))) z
    (mem_edges_of starts ends (suc i) j (omega arith) (omega arith)))

-- design edge k
abbrev pub design_edge : Design → ℕ → Edge
design_edge D k = edge (edge_start D k) (edge_end D k) k

pub of_design_edges : (D : Design) (e : Edge) → Memᴰ e (design_graph D).edges → (e.name < length D.starts) × (e ≡ design_edge D e.name)
unfolding design_graph
of_design_edges D e m =
    let r = of_edges_of D.starts D.ends 0 e m in
    let z : 0 + r.0 ≡ r.0 = omega arith in
    let q : e ≡ design_edge D r.0 = r.2 ∙ ap (edge (edge_start D r.0) (edge_end D r.0)) z in
    let n : r.0 ≡ e.name = sym (ap (λ (x : Edge). x.name) q) in
    (omega (arith, r.1), q ∙ ap (design_edge D) n)

pub mem_design_edges : (D : Design) → DesignFits D → (k : ℕ) → k < length D.starts → Memᴰ (design_edge D k) (design_graph D).edges
unfolding design_graph
mem_design_edges D fit k h =
    let z : 0 + k ≡ k = omega arith in
    subst (λ (x : ℕ). Memᴰ (edge (edge_start D k) (edge_end D k) x) (edges_of D.starts D.ends (upto (length D.starts) 0))) z
    (mem_edges_of D.starts D.ends 0 k fit.ends h)

-- its copies
pub length_design : (D : Design) → length (design_graph D).nodes ≡ D.nodes
unfolding design_graph
length_design D = length_upto D.nodes 0

pub node_design : (D : Design) (c : ℕ) → c < D.nodes → node_of (design_graph D) c ≡ c
unfolding design_graph
node_design D c h = omega (arith, get_d_upto D.nodes 0 c 0 h)

design_nodes_in : (D : Design) (v : ℕ) → Memᴰ v (design_graph D).nodes → v < D.nodes
unfolding design_graph
design_nodes_in D v m = omega (arith, (of_upto D.nodes 0 v m).1)

design_nodes_rise : (D : Design) → Rises (design_graph D).nodes
unfolding design_graph
design_nodes_rise D = rises_upto D.nodes 0

-- where paths end in it: at its endpoints
one_is : (b : Bool) → T (eqb (one_if b) 1) ↔ T b
one_is true = (λ t. t, λ t. t)
one_is false = (λ t. t, λ t. t)

pub one_small : (b : Bool) → one_if b ≤ 1
one_small true = omega arith
one_small false = omega arith

endpoint_design : (D : Design) (c : ℕ) → c < D.nodes → endpoint_of (design_graph D) c ≡ one_if (is_endpoint D c)
unfolding design_graph
endpoint_design D c h =
    get_d_map (λ v. one_if (is_endpoint D v)) (upto D.nodes 0) 0 0 c (omega (arith, length_upto D.nodes 0))
    ∙ ap (λ (v : ℕ). one_if (is_endpoint D v)) (omega (arith, get_d_upto D.nodes 0 c 0 h))

pub ends_design : (D : Design) (c : ℕ) → c < D.nodes → T (ends_at (design_graph D) c) ↔ T (is_endpoint D c)
ends_design D c h = subst (λ (x : ℕ). T (eqb x 1) ↔ T (is_endpoint D c)) (sym (endpoint_design D c h)) (one_is (is_endpoint D c))

-- a list of numbers that are at most 1, by places
pub small_at : (l : List ℕ) (c : ℕ) → ((x : ℕ) → Memᴰ x l → x ≤ 1) → get_or l c 0 ≤ 1
small_at l c h = elim (dec_lt c (length l)) [
  | yes k ↦ h (get_or l c 0) (get_d_mem l c 0 k)
  | no k ↦ omega (arith, get_d_beyond l c k)
]
  where
    get_d_beyond : (l : List ℕ) (c : ℕ) → (c < length l → ⊥) → get_or l c 0 ≡ 0
    get_d_beyond [] c k = refl
    get_d_beyond (x ∷ l) zero k = absurd (k (omega arith))
    get_d_beyond (x ∷ l) (suc c) k = get_d_beyond l c (λ h. k (omega arith))

flags_design : (D : Design) (c : ℕ) → endpoint_of (design_graph D) c ≤ 1
unfolding design_graph
flags_design D c =
    small_at (map (λ v. one_if (is_endpoint D v)) (upto D.nodes 0)) c (λ x m.
    let r = Memᴰ.of_map (λ v. one_if (is_endpoint D v)) (upto D.nodes 0) m in
    subst (λ (y : ℕ). y ≤ 1) r.2 (one_small (is_endpoint D r.0)))

-- a sink is a node that no edge leaves
pub sink_out : (D : Design) (v : ℕ) → is_sink D v ≡ is_nil (edges_out (design_graph D) v)
unfolding design_graph edges_out
sink_out D v = refl

no_sink : (D : Design) (v : ℕ) → is_sink D v ≡ false → (e : Edge) × Memᴰ e (design_graph D).edges × (e.start ≡ v)
no_sink D v q = first (edges_out (design_graph D) v) (sym (sink_out D v) ∙ q) (λ e m. (mem_out (design_graph D) v e).0 m)
  where
    first : (l : List Edge) → is_nil l ≡ false → ((e : Edge) → Memᴰ e l → Memᴰ e (design_graph D).edges × (e.start ≡ v))
        → (e : Edge) × Memᴰ e (design_graph D).edges × (e.start ≡ v)
    first [] z f = absurd (subst T z tt)
    first (e ∷ l) z f = let r = f e (Memᴰ.head refl) in (e, r.0, r.1)

pub fits_legal : (D : Design) → DesignFits D → Legal D (design_graph D)
fits_legal D fit =
    record {
      rising = record { up = λ e m. go_up e (of_design_edges D e m); inside = λ e m. omega (arith, length_design D, end_in e m) };
      onward = onward;
      one_start = λ e f m n p q. (of_design_edges D e m).1 ∙ ap (design_edge D) q ∙ sym (of_design_edges D f n).1;
      one_end = λ c d h k s t q. sym (self c h) ∙ q ∙ self d k;
      starts = λ e m. node_design D e.start (start_in e m) ∙ ap (λ (x : Edge). x.start) (of_design_edges D e m).1;
      ends = λ e m. node_design D e.end (end_in e m) ∙ ap (λ (x : Edge). x.end) (of_design_edges D e m).1;
      named = λ e m. (of_design_edges D e m).0;
      below = design_nodes_in D;
      order = design_nodes_rise D;
      sources = λ c h t. subst (λ (x : ℕ). T (starts_at (design_graph D) x)) (sym (self c h)) t;
      endpoints = λ c h t. subst (λ (x : ℕ). T (is_endpoint D x)) (sym (self c h)) ((ends_design D c (rw (length_design D) at h)).0 t);
      flags = flags_design D;
    }
  where
    -- from a node that is no endpoint, and so no sink, an edge leads on
    onward : Onward (design_graph D)
    onward c h = go (is_sink D c) refl
      where
        go : (b : Bool) → is_sink D c ≡ b → T (ends_at (design_graph D) c) ⊎ ((e : Edge) × Memᴰ e (design_graph D).edges × (e.start ≡ c))
        go true q = inl ((ends_design D c (rw (length_design D) at h)).1 (or_left (is_sink D c) _ (rw q tt)))
        go false q = inr (no_sink D c q)

    go_up : (e : Edge) → (e.name < length D.starts) × (e ≡ design_edge D e.name) → e.start < e.end
    go_up e r = omega (arith, fit.rises e.name r.0, ap (λ (x : Edge). x.start) r.1, ap (λ (x : Edge). x.end) r.1)

    start_in : (e : Edge) → Memᴰ e (design_graph D).edges → e.start < D.nodes
    start_in e m = let r = of_design_edges D e m in omega (arith, fit.starts_in e.name r.0, ap (λ (x : Edge). x.start) r.1)

    end_in : (e : Edge) → Memᴰ e (design_graph D).edges → e.end < D.nodes
    end_in e m = let r = of_design_edges D e m in omega (arith, fit.ends_in e.name r.0, ap (λ (x : Edge). x.end) r.1)

    self : (c : ℕ) → c < length (design_graph D).nodes → node_of (design_graph D) c ≡ c
    self c h = node_design D c (omega (arith, length_design D))

pub design_legal : (D : Design) → design_sizes D ≡ Passed → design_tests D ≡ Passed → Legal D (design_graph D)
design_legal D s t = fits_legal D (design_fits D s t)

-- a list that never falls, by places
rises_get_d : (l : List ℕ) (i j : ℕ) → Rises l → i ≤ j → j < length l → get_or l i 0 ≤ get_or l j 0
rises_get_d [] i j r h k = absurd (omega arith)
rises_get_d (x ∷ l) zero zero r h k = omega arith
rises_get_d (x ∷ l) zero (suc j) r h k = r.0 (get_or l j 0) (get_d_mem l j 0 (omega arith))
rises_get_d (x ∷ l) (suc i) zero r h k = absurd (omega arith)
rises_get_d (x ∷ l) (suc i) (suc j) r h k = rises_get_d l i j r.1 (omega arith) (omega arith)

-- two members of a sorted list are one or in order
sorted_two : {A : Type 0} (lt : A → A → Bool) (l : List A) → Sorted lt l → (x y : A) → Memᴰ x l → Memᴰ y l → (x ≡ y) ⊎ (T (lt x y) ⊎ T (lt y x))
sorted_two lt [] s x y m n = absurd (Memᴰ.not-nil m)
sorted_two {A} lt (z ∷ l) s x y m n = go (Memᴰ.cases_cons m) (Memᴰ.cases_cons n) (λ m' n'. sorted_two lt l s.1 x y m' n')
  where
    go : (x ≡ z) ⊎ Memᴰ x l → (y ≡ z) ⊎ Memᴰ y l
        → (Memᴰ x l → Memᴰ y l → (x ≡ y) ⊎ (T (lt x y) ⊎ T (lt y x))) → (x ≡ y) ⊎ (T (lt x y) ⊎ T (lt y x))
    go (inl e) (inl f) below = inl (e ∙ sym f)
    go (inl e) (inr k) below = inr (inl (subst (λ (u : A). T (lt u y)) (sym e) (s.0 y k)))
    go (inr h) (inl f) below = inr (inr (subst (λ (u : A). T (lt u x)) (sym f) (s.0 x h)))
    go (inr h) (inr k) below = below h k

-- the order of edges, as a statement
abbrev EdgeRises : Edge → Edge → Type 0
EdgeRises e f = (e.end < f.end) ⊎ ((e.end ≡ f.end) × (e.name < f.name))

edge_rises_sound : (e f : Edge) → T (edge_rises e f) → EdgeRises e f
edge_rises_sound e f t =
    ⊎_elim
    (λ h. inl (ltb→lt e.end f.end h))
    (λ h. inr (eqb→eq e.end f.end (and_left (eqb e.end f.end) (ltb e.name f.name) h), ltb→lt e.name f.name (and_right (eqb e.end f.end) (ltb e.name f.name) h)))
    (or_cases (ltb e.end f.end) (eqb e.end f.end && ltb e.name f.name) t)

edge_rises_complete : (e f : Edge) → EdgeRises e f → T (edge_rises e f)
edge_rises_complete e f (inl h) = or_left (ltb e.end f.end) (eqb e.end f.end && ltb e.name f.name) (lt→ltb e.end f.end h)
edge_rises_complete e f (inr h) =
    or_right (ltb e.end f.end) (eqb e.end f.end && ltb e.name f.name)
    (and_intro (eqb e.end f.end) (ltb e.name f.name) (rw h.0 (eqb_refl f.end)) (lt→ltb e.name f.name h.1))

EdgeRises-trans : (e f g : Edge) → EdgeRises e f → EdgeRises f g → EdgeRises e g
EdgeRises-trans e f g (inl h) (inl k) = inl (omega arith)
EdgeRises-trans e f g (inl h) (inr k) = inl (omega arith)
EdgeRises-trans e f g (inr h) (inl k) = inl (omega arith)
EdgeRises-trans e f g (inr h) (inr k) = inr (omega arith, omega arith)

EdgeRises-ends : (e f : Edge) → EdgeRises e f → e.end ≡ f.end → e.name ≡ f.name → ⊥
EdgeRises-ends e f (inl h) p q = omega arith
EdgeRises-ends e f (inr h) p q = omega arith

-- the edges of a well-formed graph rise strictly, so that end and name tell them apart
rises_one : (l : List Edge) → T (each_next edge_rises l) → (e f : Edge) → Memᴰ e l → Memᴰ f l → e.end ≡ f.end → e.name ≡ f.name → e ≡ f
rises_one l t e f m n p q =
    ⊎_elim
    (λ h. h)
    (λ h.
    ⊎_elim
    (λ k. absurd (EdgeRises-ends e f (edge_rises_sound e f k) p q))
    (λ k. absurd (EdgeRises-ends f e (edge_rises_sound f e k) (sym p) (sym q)))
    h)
    (sorted_two edge_rises l
    (next_sorted edge_rises (λ x y z a b. edge_rises_complete x z (EdgeRises-trans x y z (edge_rises_sound x y a) (edge_rises_sound y z b))) l t)
    e f m n)

-- where a test holds or another fails, and that other holds too
or_not : (a b : Bool) → T (a || not b) → T b → T a
or_not true b t h = tt
or_not false true t h = t
or_not false false t h = h

not_or : (a b : Bool) → T (not a || b) → T a → T b
not_or true b t h = t
not_or false b t h = absurd h

pub formed_legal : (D : Design) (G : Graph) → DesignFits D → Formed D G → Legal D G
formed_legal D G fit w =
    record {
      rising = record { up = up; inside = λ e m. (w.fits e m).end_in };
      onward = onward;
      one_start = rises_one G.edges w.rises;
      one_end = one_end_lem;
      starts = λ e m. (w.fits e m).starts;
      ends = λ e m. (w.fits e m).ends;
      named = λ e m. (w.fits e m).named;
      below = under;
      order = order;
      sources = λ c h t. or_not (is_source D (node_of G c)) (starts_at G c) (copy c h).2 t;
      endpoints = λ c h t. not_or (ends_at G c) (is_endpoint D (node_of G c)) (copy c h).0 t;
      flags = λ c. small_at G.endpoints c (λ x m. leb→le x 1 (all_of_elim (λ x. leb x 1) G.endpoints w.flags m));
    }
  where
    under : (v : ℕ) → Memᴰ v G.nodes → v < D.nodes
    under v m = ltb→lt v D.nodes (all_of_elim (λ v. ltb v D.nodes) G.nodes w.below m)

    order : Rises G.nodes
    order = (rises_next G.nodes).1 w.order

    -- the clauses for a copy
    copy : (c : ℕ) → c < length G.nodes → T (ends_only_at_endpoints D G c) × T (sink_ends D G c) × T (entered_or_source D G c) × T (left_or_endpoint G c)
    copy c h =
        let x = ends_only_at_endpoints D G c in
        let y = sink_ends D G c in
        let u = entered_or_source D G c in
        let v = left_or_endpoint G c in
        let t = w.copies c h in
        let t₁ = and_left (x && y && u) v t in
        let t₂ = and_left (x && y) u t₁ in
        (and_left x y t₂, and_right x y t₂, and_right (x && y) u t₁, and_right (x && y && u) v t)

    onward : Onward G
    onward c h =
        ⊎_elim
        inl
        (λ t. inr (first (edges_out G c) t (λ e m. (mem_out G c e).0 m)))
        (or_cases (ends_at G c) (not (is_nil (edges_out G c))) (copy c h).3)
      where
        first : (l : List Edge) → T (not (is_nil l)) → ((e : Edge) → Memᴰ e l → Memᴰ e G.edges × (e.start ≡ c))
            → (e : Edge) × Memᴰ e G.edges × (e.start ≡ c)
        first [] t f = absurd t
        first (e ∷ l) t f = let r = f e (Memᴰ.head refl) in (e, r.0, r.1)

    one_end_lem : (c d : ℕ) → c < length G.nodes → d < length G.nodes → T (ends_at G c) → T (ends_at G d) → node_of G c ≡ node_of G d → c ≡ d
    one_end_lem c d h k s t q =
        elim (ℕ_discrete c d) [
          | yes e ↦ e
          | no f ↦
              let v = node_of G d in
              let p : ℕ → Bool = λ c. eqb (node_of G c) v && ends_at G c in
              let few = leb→le (count_of p (upto (length G.nodes) 0)) 1 (w.one_end_lem v (under v (get_d_mem G.nodes d 0 k))) in
              let two = count_two p {x = c} {y = d} (upto (length G.nodes) 0) (mem_upto (length G.nodes) 0 c (omega arith) (omega arith)) (mem_upto (length G.nodes) 0 d (omega arith) (omega arith))
              (and_intro (eqb (node_of G c) v) (ends_at G c) (rw q (eqb_refl v)) s) (and_intro (eqb v v) (ends_at G d) (eqb_refl v) t) f in
              absurd (omega arith)
        ]

    -- nodes rise along an edge, and never fall along copies
    up : (e : Edge) → Memᴰ e G.edges → e.start < e.end
    up e m =
        let k = w.fits e m in
        elim (dec_lt e.start e.end) [
          | yes h ↦ h
          | no h ↦
              absurd
              (omega
              (arith, k.starts, k.ends, fit.rises e.name k.named, rises_get_d G.nodes e.end e.start order (omega arith) k.start_in))
        ]

pub well_formed_legal : (D : Design) (G : Graph) → design_sizes D ≡ Passed → design_tests D ≡ Passed → T (well_formed D G) → Legal D G
well_formed_legal D G s t w = formed_legal D G (design_fits D s t) (formed D G w)
