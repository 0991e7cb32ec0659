-- Laws of the row of one copy: the patches of its reached slots, one slot after the other, and then the defaults of the edges that are not covered by all of them. No
-- slot is counted twice at an edge, so an edge that fewer slots cover than are reached has a reached slot that leads it to its default.
use Prim.Native.Nat.{ℕ, zero, suc, ◌+◌, ◌≤◌, ◌<◌}
use native.Mathlib.Omega.{arith}
use native.Mathlib.Decide.{ℕ_discrete}
use mathlib.Core.Path.{◌≡◌, refl, sym, ◌∙◌, ap, subst}
use mathlib.Core.Logic.{◌⊎◌, inl, inr, ⊎_elim}
use mathlib.Core.Bool.{true}
use mathlib.Core.List.{List, ◌∷◌}
use lib.ListN.{length, get_or, take}
use Rattle.timing.specs.Graphs.{Design, Graph}
use Rattle.timing.specs.Marks.{PathList, paths_of}
use Rattle.theorems.proofs.Marks.{begins}
use Rattle.removal.specs.declared.rows.Layout.{Layout}
use Rattle.removal.specs.Slots.{slots, slot_marks}
use Rattle.removal.specs.Rows.{slots_in, slot_place, dead_place, InRun, run_from, run_to, start_in, name_in, default_in, target, Tabled, Ready, Idle}
use Rattle.removal.specs.Patches.{Rowed, Collected, patch_at}
use Rattle.removal.specs.Reach.{flag_of, LiveIs, Pushes, Uncovered, CopyPushed}
use Rattle.removal.specs.Push.{Lands, cover_at, HitOnly, Settled, PatchHit, MarkHit, DefaultHit, Pushable, PatchesPushed, EdgePushed, MarkPushed, CoverFits, HitFrom, MarksPushed, Marking, Defaulting, DefaultsPushed}
use Rattle.removal.proofs.Reaching.RowLaws.{slots_apart, place_one, place_inside, slot_inside, ready_same, names_same}
use Rattle.removal.proofs.Reaching.TargetLaws.{dead_low, edge_inside, start_low, target_live, target_cases, target_below}
use Rattle.removal.proofs.Reaching.PushLaws.{hit_none, hit_join, settled_keeps}
use Rattle.removal.proofs.Reaching.CopyLaws.{slot_at}

-- a number is among the first k, or it is not
pub found : (f : ℕ → ℕ) (q k : ℕ) → ((i : ℕ) × (i < k) × (f i ≡ q)) ⊎ ((i : ℕ) → i < k → f i ≡ q → ⊥)
found f q zero = inr (λ i h e. omega arith)
found f q (suc k) =
    ⊎_elim
    (λ (z : (i : ℕ) × (i < k) × (f i ≡ q)). inl (z.0, omega (arith, z.1), z.2))
    (λ (g : (i : ℕ) → i < k → f i ≡ q → ⊥).
    elim (ℕ_discrete (f k) q) [
      | yes e ↦ inl (k, omega arith, e)
      | no n ↦ inr (λ i h e. elim (ℕ_discrete i k) [ yes o ↦ n (ap f (sym o) ∙ e) | no o ↦ g i (omega arith) e ])
    ])
    (found f q k)

-- where edges lead
module _ (D : Design) (L : PathList) (G : Graph) (l : Layout) (s : List ℕ) (x : Tabled D L G l (take l.slots s)) (r : Ready l s) (c q j : ℕ) (copy : c < l.copies) (edge : InRun l (take l.slots s) c q) where
  abbrev edge_tables : List ℕ
  edge_tables = take l.slots s

  abbrev leads_to : ℕ
  leads_to = target D L G l edge_tables c j q

  abbrev LiveTo : Type 0
  LiveTo = (i : ℕ) × LiveIs L (slot_marks D L G) (slots_in l edge_tables) (start_in l edge_tables q) (name_in l edge_tables q ∷ slot_marks D L G c j) i × (leads_to ≡ slot_place l edge_tables (start_in l edge_tables q) i)

  pub target_lands : Lands l (target D L G l (take l.slots s) c j q)
  target_lands f =
      ⊎_elim
      (λ (z : (begins (paths_of L) (name_in l edge_tables q ∷ slot_marks D L G c j) ≡ true) × (leads_to ≡ dead_place l)). absurd (f z.1))
      (λ (z : LiveTo). (omega (arith, z.2), target_below D L G l s x c q j copy edge r))
      (target_cases D L G l edge_tables x c q copy edge j)

  -- to no slot of the copy itself, or of a higher one
  pub target_lower : (d i : ℕ) → c ≤ d → (slot_place l (take l.slots s) d i ≡ dead_place l → ⊥) → slot_place l (take l.slots s) d i ≡ target D L G l (take l.slots s) c j q → ⊥
  target_lower d i h f e =
      ⊎_elim
      (λ (z : (begins (paths_of L) (name_in l edge_tables q ∷ slot_marks D L G c j) ≡ true) × (leads_to ≡ dead_place l)). f (e ∙ z.1))
      (λ (z : LiveTo).
      omega (arith, e, z.2, slots_apart (slots_in l edge_tables) (start_in l edge_tables q) d z.0 i (omega (arith, start_low D L G l edge_tables x c q copy edge)) z.1.inside))
      (target_cases D L G l edge_tables x c q copy edge j)

-- the patches of one slot
module _ (l : Layout) (s pos : List ℕ) (c j p0 p1 : ℕ) (r : Rowed l s pos c j p0 p1) (m : List ℕ) (k : ℕ) (a : Collected l s m c j k) where
  abbrev row_tables : List ℕ
  row_tables = take l.slots s

  cover_m : (q : ℕ) → q < l.edges → cover_at l m q ≡ cover_at l s q
  cover_m q h = a.below (l.cover + q) (omega (arith, r.ready.work.cover))

  mark_inside : (q : ℕ) → InRun l row_tables c q → q < l.edges
  mark_inside q e = edge_inside r.ready.design r.ready.list r.ready.graph l row_tables r.ready.tabled c q r.copy e

  pub mark_pushable : CoverFits l s c → Pushable l m k
  mark_pushable fits =
      record {
        ready = ready_same l s m a.size a.tables r.ready;
        few = omega (arith, a.patched.few, r.ready.tabled.within c r.copy);
        edges = λ i h. mark_inside (patch_at l m i) (a.patched.edges i h);
        apart = a.patched.apart;
        fits = λ i h. omega (arith, fits (patch_at l m i) (a.patched.edges i h), cover_m (patch_at l m i) (mark_inside (patch_at l m i) (a.patched.edges i h)));
        lands = λ i h.
            subst (λ (y : ℕ). Lands l y) (sym (a.patched.leads r.ready.design r.ready.list r.ready.graph r.ready.tabled i h))
            (target_lands r.ready.design r.ready.list r.ready.graph l s r.ready.tabled r.ready c (patch_at l m i) j r.copy (a.patched.edges i h));
      }

  module _ (t : List ℕ) (b : PatchesPushed l m t k) where
    mark_each : (q : ℕ) → InRun l row_tables c q → EdgePushed l row_tables s t c j q
    mark_each q e =
        ⊎_elim
        (λ (z : (i : ℕ) × (i < k) × (patch_at l m i ≡ q)).
        inl (
          subst (λ (y : ℕ). cover_at l t y ≡ suc (cover_at l m y)) z.2 (b.once z.0 z.1) ∙ ap suc (cover_m q (mark_inside q e)),
          λ D L G x.
              subst (λ (y : ℕ). Settled l t y) (a.patched.leads D L G x z.0 z.1 ∙ ap (λ (y : ℕ). target D L G l row_tables c j y) z.2) (b.settled z.0 z.1),
        ))
        (λ (z : (i : ℕ) → i < k → patch_at l m i ≡ q → ⊥).
        inr (b.other q (mark_inside q e) z ∙ cover_m q (mark_inside q e), λ D L G x. a.patched.rest D L G x q e z))
        (found (patch_at l m) q k)

    pub mark_pushed : MarkPushed l (take l.slots s) s t c j
    mark_pushed =
        record {
          size = b.size ∙ a.size;
          tables = b.tables ∙ a.tables;
          seen = λ i h n. b.seen i h n ∙ a.below i (omega (arith, r.ready.work.cover));
          only = hit_join l s m t (PatchHit l m k) (PatchHit l m k) (MarkHit l row_tables c j)
              (hit_none l s m (PatchHit l m k) (λ y h. a.below y (omega (arith, r.ready.work.seen, r.ready.work.cover))))
              b.only
              (λ y z D L G x. (patch_at l m z.0, a.patched.edges z.0 z.1, z.2 ∙ a.patched.leads D L G x z.0 z.1))
              (λ y z D L G x. (patch_at l m z.0, a.patched.edges z.0 z.1, z.2 ∙ a.patched.leads D L G x z.0 z.1));
          each = mark_each;
          other = λ q h f. b.other q h (λ i n e. f (subst (λ (y : ℕ). InRun l row_tables c y) e (a.patched.edges i n))) ∙ cover_m q h;
        }

-- the slots of copy c, one after the other
module _ (l : Layout) (s : List ℕ) (c : ℕ) (r : Ready l s) (copy : c < l.copies) where
  abbrev p : List ℕ
  p = take l.slots s

  pub marks_start : Uncovered l s (run_to l (take l.slots s) c) → flag_of l (take l.slots s) s c 0 ≤ 1 → (v n : ℕ) → v ≡ flag_of l (take l.slots s) s c 0 → n ≡ 1
      → MarksPushed l (take l.slots s) s s c n v
  marks_start none small v n e one =
      record {
        size = refl;
        tables = refl;
        seen = λ i h k. refl;
        only = λ x h. inl refl;
        other = λ q h f. refl;
        few = omega arith;
        low = λ q i. omega (arith, none q i.to);
        least = λ q i h D L G x. (0, omega arith, omega (arith, h), x.defaults c copy q i);
        most = λ q i k h f D L G x.
            let z : k ≡ 0 = omega arith in
            inr (
              omega (arith, none q i.to, subst (λ (y : ℕ). 0 < flag_of l p s c y) z f),
              subst (λ (y : ℕ). default_in l p q ≡ target D L G l p c y q) (sym z) (x.defaults c copy q i),
            );
      }

  -- the flags of the copy and of higher ones stay
  pub hit_higher : (t : List ℕ) (n : ℕ) → HitOnly l s t (HitFrom l (take l.slots s) s c n) → (d i : ℕ) → c ≤ d → d < l.copies → i < slots (slots_in l (take l.slots s)) d
      → flag_of l (take l.slots s) t d i ≡ flag_of l (take l.slots s) s d i
  hit_higher t n a d i h k m =
      ⊎_elim
      (λ (q : flag_of l p t d i ≡ flag_of l p s d i). q)
      (λ (z : (flag_of l p t d i ≡ 1) × (slot_place l p d i ≡ dead_place l → ⊥) × HitFrom l p s c n (slot_place l p d i)).
      let w = z.2 r.design r.list r.graph r.tabled in
      absurd (target_lower r.design r.list r.graph l s r.tabled r c w.0 w.1 copy w.2 d i h z.1 w.5))
      (a (slot_place l p d i) (place_inside l s r d i k m))

  module _ (t : List ℕ) (n v : ℕ) (m : MarksPushed l (take l.slots s) s t c n v) where
    -- a slot that is not reached
    pub marks_skip : flag_of l (take l.slots s) s c n ≡ 0 → (o : ℕ) → o ≡ suc n → MarksPushed l (take l.slots s) s t c o v
    marks_skip off o e =
        record {
          size = m.size;
          tables = m.tables;
          seen = m.seen;
          only = hit_join l s t t (HitFrom l p s c n) (HitFrom l p s c n) (HitFrom l p s c o) m.only (hit_none l t t (HitFrom l p s c n) (λ y h. refl)) wider wider;
          other = m.other;
          few = omega (arith, m.few);
          low = m.low;
          least = λ q i h D L G x. let w = m.least q i h D L G x in (w.0, omega (arith, w.1), w.2, w.3);
          most = λ q i k h f D L G x.
              elim (ℕ_discrete k n) [
                | yes z ↦ absurd (omega (arith, off, subst (λ (y : ℕ). 0 < flag_of l p s c y) z f))
                | no z ↦ m.most q i k (omega arith) f D L G x
              ];
        }
      where
        wider : (x : ℕ) → HitFrom l p s c n x → HitFrom l p s c o x
        wider x z D L G y = let w = z D L G y in (w.0, w.1, w.2, omega (arith, w.3), w.4, w.5)

    -- a reached slot
    module _ (u : List ℕ) (on : 0 < flag_of l (take l.slots s) s c n) (b : MarkPushed l (take l.slots s) t u c n) where
      abbrev Patch : ℕ → Type 0
      Patch q = (cover_at l u q ≡ suc (cover_at l t q)) × ((D : Design) (L : PathList) (G : Graph) → Tabled D L G l p → Settled l u (target D L G l p c n q))

      abbrev Rest : ℕ → Type 0
      Rest q = (cover_at l u q ≡ cover_at l t q) × ((D : Design) (L : PathList) (G : Graph) → Tabled D L G l p → default_in l p q ≡ target D L G l p c n q)

      low : (q : ℕ) → InRun l p c q → cover_at l u q ≤ suc v
      low q i = ⊎_elim (λ (z : Patch q). omega (arith, z.0, m.low q i)) (λ (z : Rest q). omega (arith, z.0, m.low q i)) (b.each q i)

      less : (q : ℕ) → InRun l p c q → cover_at l t q < v → cover_at l u q < suc v
      less q i h = ⊎_elim (λ (z : Patch q). omega (arith, z.0)) (λ (z : Rest q). omega (arith, z.0)) (b.each q i)

      least : (q : ℕ) → InRun l p c q → cover_at l u q < suc v → (D : Design) (L : PathList) (G : Graph) → Tabled D L G l p
          → (k : ℕ) × (k < suc n) × (0 < flag_of l p s c k) × (default_in l p q ≡ target D L G l p c k q)
      least q i h D L G x =
          ⊎_elim
          (λ (z : Patch q). let w = m.least q i (omega (arith, z.0)) D L G x in (w.0, omega (arith, w.1), w.2, w.3))
          (λ (z : Rest q). (n, omega arith, on, z.1 D L G x))
          (b.each q i)

      abbrev Most : (D : Design) (L : PathList) (G : Graph) → ℕ → ℕ → Type 0
      Most D L G q k = Settled l u (target D L G l p c k q) ⊎ ((cover_at l u q < suc v) × (default_in l p q ≡ target D L G l p c k q))

      most : (q : ℕ) → InRun l p c q → (k : ℕ) → k < suc n → 0 < flag_of l p s c k → (D : Design) (L : PathList) (G : Graph) → Tabled D L G l p → Most D L G q k
      most q i k h f D L G x =
          elim (ℕ_discrete k n) [
            | yes e ↦
                subst (λ (y : ℕ). Most D L G q y) (sym e)
                (⊎_elim
                (λ (z : Patch q). inl (z.1 D L G x))
                (λ (z : Rest q). inr (omega (arith, z.0, m.low q i), z.1 D L G x))
                (b.each q i))
            | no e ↦
                ⊎_elim
                (λ (z : Settled l t (target D L G l p c k q)).
                inl (settled_keeps l t u (MarkHit l p c n) b.only (target D L G l p c k q) (target_lands D L G l s x r c q k copy i) z))
                (λ (z : (cover_at l t q < v) × (default_in l p q ≡ target D L G l p c k q)). inr (less q i z.0, z.1))
                (m.most q i k (omega arith) f D L G x)
          ]

      marks_next : MarksPushed l p s u c (suc n) (suc v)
      marks_next =
          record {
            size = b.size ∙ m.size;
            tables = b.tables ∙ m.tables;
            seen = λ i h k. b.seen i h k ∙ m.seen i h k;
            only = hit_join l s t u (HitFrom l p s c n) (MarkHit l p c n) (HitFrom l p s c (suc n)) m.only b.only
                (λ y z D L G x. let w = z D L G x in (w.0, w.1, w.2, omega (arith, w.3), w.4, w.5))
                (λ y z D L G x. let w = z D L G x in (w.0, n, w.1, omega arith, on, w.2));
            other = λ q h f. b.other q h f ∙ m.other q h f;
            few = omega (arith, m.few);
            low = low;
            least = least;
            most = most;
          }

      pub marks_turn : (o w : ℕ) → o ≡ suc n → w ≡ suc v → MarksPushed l (take l.slots s) s u c o w
      marks_turn o w e z = subst (λ (y : ℕ). MarksPushed l p s u c y w) (sym e) (subst (λ (y : ℕ). MarksPushed l p s u c (suc n) y) (sym z) marks_next)

    -- then the defaults
    module _ (p0 p1 : ℕ) (all : n ≡ slots (slots_in l (take l.slots s)) c) (from : p0 ≡ run_from l (take l.slots s) c) (to : p1 ≡ run_to l (take l.slots s) c) where
      ready_t : Ready l t
      ready_t = ready_same l s t m.size m.tables r

      pub marks_defaulting : Defaulting l t p0 p1
      marks_defaulting =
          record {
            ready = ready_t;
            up = omega (arith, r.tabled.up c copy);
            within = omega (arith, r.tabled.within c copy);
            lands = λ q h k.
                let edge : InRun l p c q = record { from = omega arith; to = omega arith } in
                subst (λ (y : List ℕ). Lands l (default_in l y q)) (sym m.tables)
                (subst (λ (y : ℕ). Lands l y) (sym (r.tabled.defaults c copy q edge)) (target_lands r.design r.list r.graph l s r.tabled r c q 0 copy edge));
          }

      module _ (idle : Idle l s) (none : Uncovered l s (run_to l (take l.slots s) c)) (u : List ℕ) (b : DefaultsPushed l (take l.slots t) t u p0 p1 v) where
        d : DefaultsPushed l p t u p0 p1 v
        d = subst (λ (y : List ℕ). DefaultsPushed l y t u p0 p1 v) m.tables b

        in_run : (q : ℕ) → p0 ≤ q → q < p1 → InRun l p c q
        in_run q h k = record { from = omega arith; to = omega arith }

        hits : HitOnly l s u (HitFrom l p s c n)
        hits =
            hit_join l s t u (HitFrom l p s c n) (DefaultHit l p t p0 p1 v) (HitFrom l p s c n) m.only d.only
            (λ y z. z)
            (λ y z D L G x.
            let edge = in_run z.0 z.1 z.2 in
            let w = m.least z.0 edge z.3 D L G x in
            (z.0, w.0, edge, w.1, w.2, z.4 ∙ w.3))

        abbrev Hit : ℕ → ℕ → Type 0
        Hit e i = (flag_of l p u e i ≡ 1) × (slot_place l p e i ≡ dead_place l → ⊥) × HitFrom l p s c n (slot_place l p e i)

        abbrev Live : (D : Design) (L : PathList) (G : Graph) → ℕ → ℕ → Type 0
        Live D L G q k = (i : ℕ) × LiveIs L (slot_marks D L G) (slots_in l p) (start_in l p q) (name_in l p q ∷ slot_marks D L G c k) i × (target D L G l p c k q ≡ slot_place l p (start_in l p q) i)

        module _ (D : Design) (L : PathList) (G : Graph) (x : Tabled D L G l p) where
          pushes : (e i : ℕ) → i < slots (slots_in l p) e → Hit e i → (q : ℕ) × (k : ℕ) × Pushes D L G l p s c e i q k
          pushes e i h z =
              let w = z.2 D L G x in
              let q : ℕ = w.0 in
              let k : ℕ = w.1 in (
                q,
                k,
                ⊎_elim
                    (λ (y : (begins (paths_of L) (name_in l p q ∷ slot_marks D L G c k) ≡ true) × (target D L G l p c k q ≡ dead_place l)). absurd (z.1 (w.5 ∙ y.1)))
                    (λ (y : Live D L G q k).
                    let o = place_one (slots_in l p) e (start_in l p q) i y.0 h y.1.inside (omega (arith, w.5, y.2)) in
                    record {
                      edge = w.2;
                      start = sym o.0;
                      slot = omega (arith, w.3);
                      reached = w.4;
                      leads = subst (λ (g : ℕ). LiveIs L (slot_marks D L G) (slots_in l p) g (name_in l p q ∷ slot_marks D L G c k) i) (sym o.0)
                          (subst (λ (g : ℕ). LiveIs L (slot_marks D L G) (slots_in l p) (start_in l p q) (name_in l p q ∷ slot_marks D L G c k) g) (sym o.1) y.1);
                    })
                    (target_cases D L G l p x c q copy w.2 k),
              )

          complete : (e i q k : ℕ) → Pushes D L G l p s c e i q k → 0 < flag_of l p u e i
          complete e i q k y =
              let lands = target_lands D L G l s x r c q k copy y.edge in
              let at : target D L G l p c k q ≡ slot_place l p e i
              = target_live D L G l p x c q copy y.edge k i (subst (λ (g : ℕ). LiveIs L (slot_marks D L G) (slots_in l p) g (name_in l p q ∷ slot_marks D L G c k) i) (sym y.start) y.leads)
              ∙ ap (λ (g : ℕ). slot_place l p g i) y.start in
              let z : Settled l u (target D L G l p c k q)
              = ⊎_elim
              (λ (g : Settled l t (target D L G l p c k q)). settled_keeps l t u (DefaultHit l p t p0 p1 v) d.only (target D L G l p c k q) lands g)
              (λ (g : (cover_at l t q < v) × (default_in l p q ≡ target D L G l p c k q)).
              subst (λ (f : ℕ). Settled l u f) g.1 (d.settled q (omega (arith, y.edge.from)) (omega (arith, y.edge.to)) g.0))
              (m.most q y.edge k (omega (arith, y.slot)) y.reached D L G x) in
              ⊎_elim
              (λ (g : target D L G l p c k q ≡ dead_place l). absurd (omega (arith, dead_low D L G l p x)))
              (λ (g : 0 < get_or u (target D L G l p c k q) 0). subst (λ (f : ℕ). 0 < get_or u f 0) at g)
              z

        pub copy_pushed : CopyPushed l (take l.slots s) s u c
        copy_pushed =
            record {
              still = record { size = d.size ∙ m.size; tables = d.tables ∙ m.tables };
              idle = λ q h. d.above (l.seen + q) (omega arith) ∙ m.seen (l.seen + q) (omega arith) (omega (arith, r.work.seen)) ∙ idle q h;
              uncovered = λ q h.
                  d.above (l.cover + q) (omega (arith, r.work.seen))
                  ∙ m.other q (omega (arith, r.tabled.up c copy, r.tabled.within c copy)) (λ i. omega (arith, i.from))
                  ∙ none q (omega (arith, r.tabled.up c copy));
              higher = λ e i h k o. hit_higher u n hits e i h k o;
              small = λ e i h k.
                  ⊎_elim (λ (z : flag_of l p u e i ≡ flag_of l p s e i). inl z) (λ (z : Hit e i). inr z.0) (hits (slot_place l p e i) (place_inside l s r e i h k));
              sound = λ D L G x e i h k f.
                  ⊎_elim
                  (λ (z : flag_of l p u e i ≡ flag_of l p s e i). inl (omega arith))
                  (λ (z : Hit e i). inr (pushes D L G x e i k z))
                  (hits (slot_place l p e i) (place_inside l s r e i h k));
              complete = λ D L G x e i q k h y. complete D L G x e i q k y;
            }

-- what the next slot asks
module _ (l : Layout) (s pos t : List ℕ) (c count p0 p1 n v : ℕ) (a : Marking l s pos c count p0 p1) (m : MarksPushed l (take l.slots s) s t c n v) (h : n < count) where
  pub marks_rowed : Rowed l t pos c n p0 p1
  marks_rowed =
      record {
        ready = ready_same l s t m.size m.tables a.ready;
        idle = λ q k. m.seen (l.seen + q) (omega arith) (omega (arith, a.ready.work.seen)) ∙ a.idle q k;
        names = names_same l s t (length pos) m.tables a.names;
        noted = subst (λ (y : List ℕ). (q : ℕ) → InRun l y c q → get_or pos (name_in l y q) 0 ≡ q) (sym m.tables) a.noted;
        copy = a.copy;
        slot = subst (λ (y : List ℕ). n < slots (slots_in l y) c) (sym m.tables) (omega (arith, a.all));
        from = subst (λ (y : List ℕ). p0 ≡ run_from l y c) (sym m.tables) a.from;
        to = subst (λ (y : List ℕ). p1 ≡ run_to l y c) (sym m.tables) a.to;
      }

  pub reached_fits : v < 4294967294
  reached_fits = omega (arith, m.few, a.all, a.ready.few, slot_inside (slots_in l (take l.slots s)) c n l.copies a.copy (omega (arith, a.all)))

  pub marks_fits : CoverFits l t c
  marks_fits = subst (λ (y : List ℕ). (q : ℕ) → InRun l y c q → cover_at l t q < 4294967295) (sym m.tables) (λ q e. omega (arith, m.low q e, reached_fits))

-- what is read at slot n: its flag, which has not changed
pub marks_read : (l : Layout) (s pos t : List ℕ) (c count p0 p1 n v : ℕ) (a : Marking l s pos c count p0 p1) → MarksPushed l (take l.slots s) s t c n v → n < count
    → get_or t (get_or s (l.base + c) 0 + n) 0 ≡ flag_of l (take l.slots s) s c n
marks_read l s pos t c count p0 p1 n v a m h =
    ap (λ (i : ℕ). get_or t i 0) (slot_at l s a.ready c a.copy n) ∙ hit_higher l s c a.ready a.copy t n m.only c n (omega arith) a.copy (omega (arith, a.all))
