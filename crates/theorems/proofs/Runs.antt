-- Runs as statements: what `runs_to`, `runs_from` and `complete_runs` list, in a graph whose edges rise.
use Prim.Native.Nat.{ℕ, zero, suc, ◌+◌, ◌≤◌, ◌<◌}
use mathlib.Core.Path.{◌≡◌, refl, sym, ap, subst}
use mathlib.Core.Logic.{◌⊎◌, ⊎_elim, ◌↔◌}
use mathlib.Core.Bool.{Bool, true, false, cond}
use mathlib.Core.List.Memᴰ
use mathlib.Core.List.{List, [], ◌∷◌, ◌++◌, map, flat_map, Memᴰ}
use native.Mathlib.Omega.{arith}
use lib.Dec.{T, eqb, eqb→eq, eqb_refl}
use lib.ListN.{length, length-append}
use Rattle.timing.specs.Lists.{keep, upto}
use Rattle.timing.specs.Graphs.{Edge, Graph, graph, edges_in, edges_out, starts_at, ends_at, runs_to, runs_from, Run, complete_runs}
use Rattle.theorems.proofs.Lists.{mem_flat_map, of_flat_map, mem_keep, of_keep, mem_upto, of_upto}

-- what the theory asks of a graph: every edge joins existing copies and goes up
pub record Rising (G : Graph) : Type 0 where
  pub up : (e : Edge) → Memᴰ e G.edges → e.start < e.end
  pub inside : (e : Edge) → Memᴰ e G.edges → e.end < length G.nodes

-- and where no path ends an edge leads on
abbrev pub Onward : Graph → Type 0
Onward G = (c : ℕ) → c < length G.nodes → T (ends_at G c) ⊎ ((e : Edge) × Memᴰ e G.edges × (e.start ≡ c))

-- es leads from a to c
abbrev pub Leads : Graph → ℕ → List Edge → ℕ → Type 0
Leads G a [] c = a ≡ c
Leads G a (e ∷ es) c = Memᴰ e G.edges × (e.start ≡ a) × Leads G e.end es c

-- es leads from c to where paths end
abbrev pub Way : Graph → ℕ → List Edge → Type 0
Way G c [] = T (ends_at G c)
Way G c (e ∷ es) = Memᴰ e G.edges × (e.start ≡ c) × Way G e.end es

-- edges in and out of a copy
pub mem_out : (G : Graph) (c : ℕ) (e : Edge) → Memᴰ e (edges_out G c) ↔ (Memᴰ e G.edges × (e.start ≡ c))
unfolding edges_out
mem_out G c e = (
  λ m. let r = of_keep (λ e. eqb e.start c) G.edges m in (r.0, eqb→eq e.start c r.1),
  λ r. mem_keep (λ e. eqb e.start c) r.0 (rw r.1 (eqb_refl c)),
)

pub mem_in : (G : Graph) (c : ℕ) (e : Edge) → Memᴰ e (edges_in G c) ↔ (Memᴰ e G.edges × (e.end ≡ c))
unfolding edges_in
mem_in G c e = (
  λ m. let r = of_keep (λ e. eqb e.end c) G.edges m in (r.0, eqb→eq e.end c r.1),
  λ r. mem_keep (λ e. eqb e.end c) r.0 (rw r.1 (eqb_refl c)),
)

-- the empty run, where it is there
mem_empty : {A : Type 0} (b : Bool) (x : A) {y : A} → Memᴰ y (cond b (x ∷ []) []) → (T b) × (y ≡ x)
mem_empty true x m = ⊎_elim (λ e. (tt, e)) (λ h. absurd (Memᴰ.not-nil h)) (Memᴰ.cases_cons m)
mem_empty false x m = absurd (Memᴰ.not-nil m)

empty_mem : {A : Type 0} (b : Bool) (x : A) → T b → Memᴰ x (cond b (x ∷ []) [])
empty_mem true x t = Memᴰ.head refl
empty_mem false x t = absurd t

-- membership in a map within a flat_map
of_steps : {A B : Type 0} (f : A → List B) (g : A → B → B) (l : List A) (y : B) → Memᴰ y (flat_map (λ x. map (g x) (f x)) l)
    → (x : A) × (z : B) × Memᴰ x l × Memᴰ z (f x) × (y ≡ g x z)
of_steps f g l y m =
    let r = of_flat_map (λ x. map (g x) (f x)) {y = y} l m in
    let q = Memᴰ.of_map (g r.0) (f r.0) r.2 in
    (r.0, q.0, r.1, q.1, sym q.2)

-- runs from a copy
pub runs_from_sound : (G : Graph) (k c : ℕ) (es : List Edge) → Memᴰ es (runs_from G k c) → Way G c es
unfolding runs_from
runs_from_sound G zero c es m = absurd (Memᴰ.not-nil m)
runs_from_sound G (suc k) c es m =
    ⊎_elim
    (λ h. let r = mem_empty (ends_at G c) [] h in subst (Way G c) (sym r.1) r.0)
    (λ h.
    let r = of_steps (λ e. runs_from G k e.end) (λ e r. e ∷ r) (edges_out G c) es h in
    let o = (mem_out G c r.0).0 r.2 in
    subst (Way G c) (sym r.4) (o.0, o.1, runs_from_sound G k r.0.end r.1 r.3))
    (Memᴰ.append_cases (cond (ends_at G c) ([] ∷ []) []) m)

pub runs_from_complete : (G : Graph) (k c : ℕ) (es : List Edge) → Way G c es → length es < k → Memᴰ es (runs_from G k c)
unfolding runs_from
runs_from_complete G zero c es w h = absurd (omega arith)
runs_from_complete G (suc k) c [] w h = Memᴰ.append_left _ (empty_mem (ends_at G c) [] w)
runs_from_complete G (suc k) c (e ∷ es) w h =
    Memᴰ.append_right (cond (ends_at G c) ([] ∷ []) [])
    (mem_flat_map (λ e. map (λ r. e ∷ r) (runs_from G k e.end)) ((mem_out G c e).1 (w.0, w.1)) (Memᴰ.map (λ r. e ∷ r) (runs_from_complete G k e.end es w.2 (omega arith))))

-- runs to a copy
pub leads_then : (G : Graph) (a b c : ℕ) (es fs : List Edge) → Leads G a es b → Leads G b fs c → Leads G a (es ++ fs) c
leads_then G a b c [] fs p q = subst (λ (x : ℕ). Leads G x fs c) (sym p) q
leads_then G a b c (e ∷ es) fs p q = (p.0, p.1, leads_then G e.end b c es fs p.2 q)

pub runs_to_sound : (G : Graph) (k c : ℕ) (es : List Edge) → Memᴰ es (runs_to G k c) → (a : ℕ) × T (starts_at G a) × Leads G a es c
unfolding runs_to
runs_to_sound G zero c es m = absurd (Memᴰ.not-nil m)
runs_to_sound G (suc k) c es m =
    ⊎_elim
    (λ h. let r = mem_empty (starts_at G c) [] h in (c, r.0, subst (λ (x : List Edge). Leads G c x c) (sym r.1) refl))
    (λ h.
    let r = of_steps (λ e. runs_to G k e.start) (λ e r. r ++ (e ∷ [])) (edges_in G c) es h in
    let o = (mem_in G c r.0).0 r.2 in
    let p = runs_to_sound G k r.0.start r.1 r.3 in
    (p.0, p.1, subst (λ (x : List Edge). Leads G p.0 x c) (sym r.4) (leads_then G p.0 r.0.start c r.1 (r.0 ∷ []) p.2 (o.0, refl, o.1))))
    (Memᴰ.append_cases (cond (starts_at G c) ([] ∷ []) []) m)

-- a run that is not empty has a last edge
pub leads_last : (G : Graph) (a c : ℕ) (e : Edge) (es : List Edge) → Leads G a (e ∷ es) c
    → (fs : List Edge) × (f : Edge) × (e ∷ es ≡ fs ++ (f ∷ [])) × Leads G a fs f.start × Memᴰ f G.edges × (f.end ≡ c)
leads_last G a c e [] p = ([], e, refl, sym p.1, p.0, p.2)
leads_last G a c e (f ∷ es) p =
    let r = leads_last G e.end c f es p.2 in
    (e ∷ r.0, r.1, ap (λ (x : List Edge). e ∷ x) r.2, (p.0, p.1, r.3), r.4, r.5)

pub runs_to_complete : (G : Graph) (k a c : ℕ) (es : List Edge) → T (starts_at G a) → Leads G a es c → length es < k → Memᴰ es (runs_to G k c)
unfolding runs_to
runs_to_complete G zero a c es t p h = absurd (omega arith)
runs_to_complete G (suc k) a c [] t p h = Memᴰ.append_left _ (empty_mem (starts_at G c) [] (subst (λ (x : ℕ). T (starts_at G x)) p t))
runs_to_complete G (suc k) a c (e ∷ es) t p h =
    let r = leads_last G a c e es p in
    let l : length r.0 < k = omega (arith, ap length r.2, length-append r.0 (r.1 ∷ [])) in
    subst (λ (x : List Edge). Memᴰ x (runs_to G (suc k) c)) (sym r.2)
    (Memᴰ.append_right (cond (starts_at G c) ([] ∷ []) [])
    (mem_flat_map (λ e. map (λ r. r ++ (e ∷ [])) (runs_to G k e.start)) ((mem_in G c r.1).1 (r.4, r.5)) (Memᴰ.map (λ r'. r' ++ (r.1 ∷ [])) (runs_to_complete G k a r.1.start r.0 t r.3 l))))

-- in a graph that rises a run has fewer edges than there are copies
module _ (G : Graph) (up : Rising G) where
  pub leads_up : (a c : ℕ) (es : List Edge) → Leads G a es c → a + length es ≤ c
  leads_up a c [] p = omega arith
  leads_up a c (e ∷ es) p = omega (arith, up.up e p.0, p.1, leads_up e.end c es p.2)

  pub way_short : (c : ℕ) (es : List Edge) → c < length G.nodes → Way G c es → c + length es < length G.nodes
  way_short c [] h w = omega arith
  way_short c (e ∷ es) h w = omega (arith, up.up e w.0, w.1, way_short e.end es (up.inside e w.0) w.2)

  -- so these lists hold all runs
  pub runs_from_lem : (c : ℕ) (es : List Edge) → c < length G.nodes → Memᴰ es (runs_from G (length G.nodes) c) ↔ Way G c es
  runs_from_lem c es h = (runs_from_sound G (length G.nodes) c es, λ w. runs_from_complete G (length G.nodes) c es w (omega (arith, way_short c es h w)))

  pub runs_to_lem : (c : ℕ) (es : List Edge) → c < length G.nodes → Memᴰ es (runs_to G (length G.nodes) c) ↔ ((a : ℕ) × T (starts_at G a) × Leads G a es c)
  runs_to_lem c es h = (
    runs_to_sound G (length G.nodes) c es,
    λ p. runs_to_complete G (length G.nodes) p.0 c es p.1 p.2 (omega (arith, leads_up p.0 c es p.2)),
  )

  -- a complete path starts at a copy where paths start, and goes on to where they end
  pub complete_runs_lem : (r : Run) → Memᴰ r (complete_runs G) ↔ ((r.first < length G.nodes) × T (starts_at G r.first) × Way G r.first r.edges)
  unfolding complete_runs
  complete_runs_lem r = (
    λ m.
        let q = of_flat_map from {y = r} starts m in
        let o = Memᴰ.of_map (λ (es : List Edge). let x : Run = record { first = q.0; edges = es } in x) (runs_from G (length G.nodes) q.0) q.2 in
        let s = of_keep (starts_at G) (upto (length G.nodes) 0) q.1 in
        let u = of_upto (length G.nodes) 0 q.0 s.0 in
        let e : q.0 ≡ r.first = ap (λ (x : Run). x.first) o.2 in
        let f : o.0 ≡ r.edges = ap (λ (x : Run). x.edges) o.2 in
        let w : Way G q.0 o.0 = runs_from_sound G (length G.nodes) q.0 o.0 o.1 in (
          subst (λ (x : ℕ). x < length G.nodes) e (omega (arith, u.1)),
          subst (λ (x : ℕ). T (starts_at G x)) e s.1,
          subst (λ (x : ℕ). Way G x r.edges) e (subst (Way G q.0) f w),
        ),
    λ p.
        mem_flat_map from (mem_keep (starts_at G) (mem_upto (length G.nodes) 0 r.first (omega arith) (omega (arith, p.0))) p.1)
        (Memᴰ.map (λ es. record { first = r.first; edges = es }) ((runs_from_lem r.first r.edges p.0).1 p.2)),
  )
    where
      starts : List ℕ
      starts = keep (starts_at G) (upto (length G.nodes) 0)

      from : ℕ → List Run
      from c = map (λ es. record { first = c; edges = es }) (runs_from G (length G.nodes) c)

-- a path from a copy on, put behind a run to it, and a path cut at a copy that it passes
pub way_then : (G : Graph) (a c : ℕ) (es fs : List Edge) → Leads G a es c → Way G c fs → Way G a (es ++ fs)
way_then G a c [] fs p w = subst (λ (x : ℕ). Way G x fs) (sym p) w
way_then G a c (e ∷ es) fs p w = (p.0, p.1, way_then G e.end c es fs p.2 w)

-- which runs lead to a copy is no matter of where paths end
pub runs_to_ends : (nodes ends fins : List ℕ) (es : List Edge) (k c : ℕ) → runs_to (graph nodes ends es) k c ≡ runs_to (graph nodes fins es) k c
unfolding runs_to edges_in
runs_to_ends nodes ends fins es zero c = refl
runs_to_ends nodes ends fins es (suc k) c =
    λ i.
    cond (starts_at (graph nodes ends es) c) ([] ∷ []) []
    ++ flat_map (λ e. map (λ r. r ++ (e ∷ [])) (runs_to_ends nodes ends fins es k e.start i)) (edges_in (graph nodes ends es) c)
