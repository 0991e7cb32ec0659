-- What is shown: the copies and the joins of a graph and a list, as statements about permitted complete paths.
use Prim.Native.Nat.{ℕ, ◌<◌}
use mathlib.Core.Path.{◌≡◌, refl, sym, ap, ◌∙◌, subst}
use mathlib.Core.Logic.{⊎_elim, ◌↔◌}
use mathlib.Core.Bool.{Bool, true, false, not, ◌||◌}
use mathlib.Core.List.Memᴰ
use mathlib.Core.List.{List, [], ◌∷◌, ◌++◌, flat_map, Memᴰ, append_assoc}
use lib.Dec.{T}
use lib.ListN.{length}
use Rattle.timing.specs.Graphs.{Edge, edge, Graph, starts_at, Run, complete_runs, names}
use Rattle.timing.specs.Marks.{permitted, mark}
use Rattle.timing.specs.TrueGraphs.{Copy, Join, copy_before, edge_before, same_copy, copy_at, copies_on, joins_on, last_on, permitted_runs, copies, path_ends, joins}
use Rattle.theorems.proofs.Lists.{any_of_intro, any_of_elim, mem_flat_map, of_flat_map, mem_keep, of_keep}
use Rattle.theorems.proofs.Marks.{begins, mark_reads, splice, permitted_rest, permitted_front, front_permitted}
use Rattle.theorems.proofs.Sorting.{Linear, by_key, sort_mem}
use Rattle.theorems.proofs.Runs.{Rising, Leads, Way, leads_then, way_then, complete_runs_lem}

-- a permitted complete path that passes c: `head` leads from where paths start to c, and q goes on to where they end
pub record Passes (G : Graph) (L : List (List ℕ)) (c : ℕ) (q : List Edge) : Type 0 where
  pub first : ℕ
  pub head : List Edge
  pub inside : first < length G.nodes
  pub starts : T (starts_at G first)
  pub leads : Leads G first head c
  pub way : Way G c q
  pub permits : T (permitted L (names (head ++ q)))

-- some permitted complete path shows this copy
abbrev pub Shown : Graph → List (List ℕ) → Copy → Type 0
Shown G L p = (q : List Edge) × Passes G L p.at q × (p.mark ≡ mark L (names q))

-- some permitted complete path goes along this join
abbrev pub Joined : Graph → List (List ℕ) → Join → Type 0
Joined G L j =
    (e : Edge) × (q : List Edge) × Passes G L e.start (e ∷ q)
    × (j ≡ record { start = copy_at L e.start (e ∷ q); end = copy_at L e.end q; name = e.name })

-- the orders of copies and of edges are linear
pub copy_order : Linear copy_before
copy_order = by_key (λ (c : Copy). c.at ∷ length c.mark ∷ c.mark) same
  where
    same : (c d : Copy) → ◌≡◌ {A = List ℕ} (c.at ∷ length c.mark ∷ c.mark) (d.at ∷ length d.mark ∷ d.mark) → c ≡ d
    same c d e =
        let a : c.at ≡ d.at = cc in
        let m : c.mark ≡ d.mark = cc in
        λ i. record { at = a i; mark = m i }

pub edge_order : Linear edge_before
edge_order = by_key (λ (e : Edge). e.end ∷ e.name ∷ e.start ∷ []) same
  where
    same : (e f : Edge) → ◌≡◌ {A = List ℕ} (e.end ∷ e.name ∷ e.start ∷ []) (f.end ∷ f.name ∷ f.start ∷ []) → e ≡ f
    same e f q =
        let s : e.start ≡ f.start = cc in
        let t : e.end ≡ f.end = cc in
        let k : e.name ≡ f.name = cc in
        λ i. record { start = s i; end = t i; name = k i }

-- two copies of which neither comes before the other are one
neither : (a b : Bool) → T (not (a || b)) → (T a → ⊥) × (T b → ⊥)
neither true b t = absurd t
neither false true t = absurd t
neither false false t = (λ h. h, λ h. h)

both_fail : (a b : Bool) → (T a → ⊥) → (T b → ⊥) → T (not (a || b))
both_fail true b f g = f tt
both_fail false true f g = g tt
both_fail false false f g = tt

same_copy_lem : (c d : Copy) → T (same_copy c d) → c ≡ d
same_copy_lem c d t = let r = neither (copy_before c d) (copy_before d c) t in copy_order.total c d r.0 r.1

copy_same : (c : Copy) → T (same_copy c c)
copy_same c = both_fail (copy_before c c) (copy_before c c) (copy_order.irrefl c) (copy_order.irrefl c)

-- names of a path in two parts
pub names_append : (p q : List Edge) → names (p ++ q) ≡ names p ++ names q
names_append [] q = refl
names_append (e ∷ p) q = ap (λ (x : List ℕ). e.name ∷ x) (names_append p q)

-- one edge of the rest goes over to the head
pub pass_on : {G : Graph} {L : List (List ℕ)} {c : ℕ} {e : Edge} {q : List Edge} → Passes G L c (e ∷ q) → Passes G L e.end q
pass_on {G} {L} {c} {e} {q} p =
    record {
      first = p.first;
      head = p.head ++ (e ∷ []);
      inside = p.inside;
      starts = p.starts;
      leads = leads_then G p.first c e.end p.head (e ∷ []) p.leads (p.way.0, p.way.1, refl);
      way = p.way.2;
      permits = subst (λ (x : List Edge). T (permitted L (names x))) (sym (append_assoc p.head (e ∷ []) q)) p.permits;
    }

-- what a path shows from c on
pub on_copies : (G : Graph) (L : List (List ℕ)) (c : ℕ) (q : List Edge) → Passes G L c q → (p : Copy) → Memᴰ p (copies_on L c q) → Shown G L p
on_copies G L c [] s p m =
    ⊎_elim (λ e. subst (Shown G L) (sym e) ([], s, refl)) (λ h. absurd (Memᴰ.not-nil h)) (Memᴰ.cases_cons m)
on_copies G L c (e ∷ q) s p m =
    ⊎_elim (λ x. subst (Shown G L) (sym x) (e ∷ q, s, refl)) (λ h. on_copies G L e.end q (pass_on s) p h) (Memᴰ.cases_cons m)

pub on_joins : (G : Graph) (L : List (List ℕ)) (c : ℕ) (q : List Edge) → Passes G L c q → (j : Join) → Memᴰ j (joins_on L c q) → Joined G L j
on_joins G L c [] s j m = absurd (Memᴰ.not-nil m)
on_joins G L c (e ∷ q) s j m =
    ⊎_elim (λ x. here s.way.1 x) (λ h. on_joins G L e.end q (pass_on s) j h) (Memᴰ.cases_cons m)
  where
    here : e.start ≡ c → j ≡ record { start = copy_at L c (e ∷ q); end = copy_at L e.end q; name = e.name } → Joined G L j
    here a x = (
      e,
      q,
      subst (λ (y : ℕ). Passes G L y (e ∷ q)) (sym a) s,
      x ∙ ap (λ (y : ℕ). record { start = copy_at L y (e ∷ q); end = copy_at L e.end q; name = e.name }) (sym a),
    )

-- and what it shows at the end of a head
pub copies_on_lem : (G : Graph) (L : List (List ℕ)) (a c : ℕ) (p q : List Edge) → Leads G a p c → Memᴰ (copy_at L c q) (copies_on L a (p ++ q))
copies_on_lem G L a c [] [] l = Memᴰ.head (ap (λ (x : ℕ). copy_at L x []) (sym l))
copies_on_lem G L a c [] (e ∷ q) l = Memᴰ.head (ap (λ (x : ℕ). copy_at L x (e ∷ q)) (sym l))
copies_on_lem G L a c (e ∷ p) q l = Memᴰ.tail (copies_on_lem G L e.end c p q l.2)

pub joins_on_lem : (G : Graph) (L : List (List ℕ)) (a : ℕ) (e : Edge) (p q : List Edge) → Leads G a p e.start
    → Memᴰ (record { start = copy_at L e.start (e ∷ q); end = copy_at L e.end q; name = e.name }) (joins_on L a (p ++ (e ∷ q)))
joins_on_lem G L a e [] q l = Memᴰ.head (ap (λ (x : ℕ). record { start = copy_at L x (e ∷ q); end = copy_at L e.end q; name = e.name }) (sym l))
joins_on_lem G L a e (f ∷ p) q l = Memᴰ.tail (joins_on_lem G L f.end e p q l.2)

module _ (G : Graph) (L : List (List ℕ)) (up : Rising G) where
  -- a permitted run passes its first copy, and a path that passes a copy is a permitted run
  pub run_passes : (r : Run) → Memᴰ r (permitted_runs L G) → Passes G L r.first r.edges
  unfolding permitted_runs
  run_passes r m =
      let k = of_keep (λ (r : Run). permitted L (names r.edges)) (complete_runs G) m in
      let w = (complete_runs_lem G up r).0 k.0 in
      record { first = r.first; head = []; inside = w.0; starts = w.1; leads = refl; way = w.2; permits = k.1 }

  pub passes_run : (c : ℕ) (q : List Edge) (p : Passes G L c q) → Memᴰ (record { first = p.first; edges = p.head ++ q }) (permitted_runs L G)
  unfolding permitted_runs
  passes_run c q p =
      let r : Run = record { first = p.first; edges = p.head ++ q } in
      mem_keep (λ (r : Run). permitted L (names r.edges)) ((complete_runs_lem G up r).1 (p.inside, p.starts, way_then G p.first c p.head q p.leads p.way)) p.permits

  -- the copies are what is shown
  pub mem_copies : (p : Copy) → Memᴰ p (copies L G) ↔ Shown G L p
  unfolding copies
  mem_copies p = (there, back)
    where
      on : Run → List Copy
      on r = copies_on L r.first r.edges

      there : Memᴰ p (copies L G) → Shown G L p
      there m =
          let r = of_flat_map on {y = p} (permitted_runs L G) ((sort_mem copy_before copy_order p (flat_map on (permitted_runs L G))).0 m) in
          on_copies G L r.0.first r.0.edges (run_passes r.0 r.1) p r.2

      back : Shown G L p → Memᴰ p (copies L G)
      back s =
          let q = s.0 in
          let c = copies_on_lem G L s.1.first p.at s.1.head q s.1.leads in
          let e : copy_at L p.at q ≡ p = λ i. record { at = p.at; mark = sym s.2 i } in
          (sort_mem copy_before copy_order p (flat_map on (permitted_runs L G))).1
          (mem_flat_map on (passes_run p.at q s.1) (subst (λ (x : Copy). Memᴰ x (copies_on L s.1.first (s.1.head ++ q))) e c))

  pub mem_joins : (j : Join) → Memᴰ j (joins L G) ↔ Joined G L j
  unfolding joins
  mem_joins j = (there, back)
    where
      on : Run → List Join
      on r = joins_on L r.first r.edges

      there : Memᴰ j (joins L G) → Joined G L j
      there m =
          let r = of_flat_map on {y = j} (permitted_runs L G) m in
          on_joins G L r.0.first r.0.edges (run_passes r.0 r.1) j r.2

      back : Joined G L j → Memᴰ j (joins L G)
      back s =
          let p = s.2 in
          mem_flat_map on (passes_run s.0.start (s.0 ∷ s.1) p)
          (subst (λ (x : Join). Memᴰ x (joins_on L p.first (p.head ++ (s.0 ∷ s.1)))) (sym s.3) (joins_on_lem G L p.first s.0 p.head s.1 p.leads))

-- Where paths end: the copy that a permitted path shows last has a path that passes it with nothing left to go, and the other way round.
module _ (G : Graph) (L : List (List ℕ)) (up : Rising G) where
  last_passes : (c : ℕ) (q : List Edge) → Passes G L c q → (d : ℕ) × Passes G L d [] × (last_on L c q ≡ copy_at L d [])
  last_passes c [] p = (c, p, refl)
  last_passes c (e ∷ q) p = last_passes e.end q (pass_on p)

  last_leads : (a c : ℕ) (p : List Edge) → Leads G a p c → last_on L a (p ++ []) ≡ copy_at L c []
  last_leads a c [] l = ap (λ (x : ℕ). copy_at L x []) l
  last_leads a c (e ∷ p) l = last_leads e.end c p l.2

  pub path_ends_lem : (p : Copy) → T (path_ends L G p) ↔ (Passes G L p.at [] × (p.mark ≡ mark L []))
  unfolding path_ends
  path_ends_lem p = (there, back)
    where
      ends : Run → Bool
      ends r = same_copy (last_on L r.first r.edges) p

      there : T (path_ends L G p) → Passes G L p.at [] × (p.mark ≡ mark L [])
      there t =
          let r = any_of_elim ends (permitted_runs L G) t in
          let w = last_passes r.0.first r.0.edges (run_passes G L up r.0 r.1) in
          let e : copy_at L w.0 [] ≡ p = sym w.2 ∙ same_copy_lem (last_on L r.0.first r.0.edges) p r.2 in
          (subst (λ (x : Copy). Passes G L x.at []) e w.1, ap (λ (x : Copy). x.mark) (sym e))

      back : Passes G L p.at [] × (p.mark ≡ mark L []) → T (path_ends L G p)
      back (s, m) =
          let e : copy_at L p.at [] ≡ p = λ i. record { at = p.at; mark = sym m i } in
          any_of_intro ends (passes_run G L up p.at [] s)
          (subst (λ (x : Copy). T (same_copy x p)) (sym (last_leads s.first p.at s.head s.leads ∙ e)) (copy_same p))

-- A join taken apart: it goes along an edge between two shown copies, no listed path begins at it, and the mark at its start
-- is read off the edge and the mark at its end. (Splicing gives the way back: the head of a path that shows the start, the
-- edge, and the rest of a path that shows the end.)
pub record Link (G : Graph) (L : List (List ℕ)) (j : Join) : Type 0 where
  pub along : Memᴰ (edge j.start.at j.end.at j.name) G.edges
  pub from : Shown G L j.start
  pub to : Shown G L j.end
  pub live : begins L (j.name ∷ j.end.mark) ≡ false
  pub marks : j.start.mark ≡ mark L (j.name ∷ j.end.mark)

pub rest_permitted : {G : Graph} {L : List (List ℕ)} {c : ℕ} {q : List Edge} → Passes G L c q → T (permitted L (names q))
rest_permitted {G} {L} {c} {q} p = permitted_rest L (names p.head) (names q) (subst (λ (x : List ℕ). T (permitted L x)) (names_append p.head q) p.permits)

pub joined_link : (G : Graph) (L : List (List ℕ)) (j : Join) → Joined G L j → Link G L j
joined_link G L j (e, q, p, x) =
    subst (Link G L) (sym x)
    (record {
      along = p.way.0;
      from = (e ∷ q, p, refl);
      to = (q, pass_on p, refl);
      live = (front_permitted L e.name (names q) (rest_permitted p)).0;
      marks = mark_reads L e.name (names q);
    })

pub link_joined : (G : Graph) (L : List (List ℕ)) (j : Join) → Link G L j → Joined G L j
link_joined G L j k =
    let e : Edge = edge j.start.at j.end.at j.name in
    let s = k.from.1 in
    let t = k.to.1 in
    let q = k.to.0 in
    let m : mark L (j.name ∷ names q) ≡ j.start.mark =
    mark_reads L j.name (names q) ∙ ap (λ (x : List ℕ). mark L (j.name ∷ x)) (sym k.to.2) ∙ sym k.marks in
    let b : begins L (j.name ∷ mark L (names q)) ≡ false = ap (λ (x : List ℕ). begins L (j.name ∷ x)) (sym k.to.2) ∙ k.live in
    let v : T (permitted L (j.name ∷ names q)) = permitted_front L j.name (names q) b (rest_permitted t) in
    let w = splice L (names k.from.0) (j.name ∷ names q) (sym k.from.2 ∙ sym m) v (names s.head)
    (subst (λ (x : List ℕ). T (permitted L x)) (names_append s.head k.from.0) s.permits) in (
      e,
      q,
      record {
        first = s.first;
        head = s.head;
        inside = s.inside;
        starts = s.starts;
        leads = s.leads;
        way = (k.along, refl, t.way);
        permits = subst (λ (x : List ℕ). T (permitted L x)) (sym (names_append s.head (e ∷ q))) w.0;
      },
      λ i. record {
        start = record { at = j.start.at; mark = sym m i };
        end = record { at = j.end.at; mark = k.to.2 i };
        name = j.name;
      },
    )
