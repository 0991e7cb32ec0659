-- The edges into a slot: the row of slot 0 is patched, its edges are those that come from shown slots, and then it is as before.
use Prim.Native.Nat.{ℕ, zero, suc, ◌+◌, ◌-◌, ◌≤◌, ◌<◌}
use native.Mathlib.Omega.{arith}
use native.Mathlib.Decide.{ℕ_discrete}
use mathlib.Core.Path.{◌≡◌, refl, sym, ap, ap₂, ◌∙◌, subst}
use mathlib.Core.Logic.{◌⊎◌, inl, inr, ⊎_elim}
use mathlib.Core.Bool.{Bool, true, false, cond}
use mathlib.Core.List.{List, [], ◌∷◌, map, Memᴰ}
use lib.Dec.{ltb}
use lib.ListN.{length, get_or, take, length-map}
use lib.Seq.{get_or-take}
use borrow.Author.Tests.{ltb-true}
use Rattle.timing.specs.Lists.{keep, upto}
use Rattle.timing.specs.Graphs.{Design, Edge, edge, Graph, edges_in}
use Rattle.timing.specs.Marks.{PathList}
use Rattle.theorems.proofs.Lists.{of_upto}
use Rattle.removal.specs.declared.rows.Layout.{Layout}
use Rattle.removal.specs.Slots.{slot_marks}
use Rattle.removal.specs.Rows.{slots_in, Tabled, Ready, InRun, run, run_from, run_to, name_in, default_in, edge_in, target, flag_in}
use Rattle.removal.specs.Patches.{patch_at, lead_at}
use Rattle.removal.specs.Show.{from_shown, start_flag, shown_by, edges_to, EdgesMeet}
use Rattle.removal.specs.Fill.{Edged, shown_flag, comes_at, RowRoom, RowWritten, default_at, row_edge, row_edges, RowRead, EdgesRoom, flag_edges, EdgesFilled}
use Rattle.removal.proofs.Reaching.TargetLaws.{edge_inside, target_below, comes_flag}
use Rattle.removal.proofs.Showing.ShowLaws.{start_shown}

-- a flag that is shown is at least 2
shown_two : (v : ℕ) → (shown_flag v ≡ 0 → ⊥) → 2 ≤ shown_flag v
shown_two v f = go (ltb 1 v) refl f
  where
    go : (b : Bool) → ltb 1 v ≡ b → (cond b v 0 ≡ 0 → ⊥) → 2 ≤ cond b v 0
    go true q g = omega (arith, ltb-true 1 v q)
    go false q g = absurd (g refl)

-- a number is among the first k, or not
find : (e : ℕ → ℕ) (q k : ℕ) → ((i : ℕ) × (i < k) × (e i ≡ q)) ⊎ ((i : ℕ) → i < k → e i ≡ q → ⊥)
find e q zero = inr (λ i h z. omega arith)
find e q (suc k) =
    elim (ℕ_discrete (e k) q) [
      | yes z ↦ inl (k, omega arith, z)
      | no f ↦
          ⊎_elim
          (λ (x : (i : ℕ) × (i < k) × (e i ≡ q)). inl (x.0, omega (arith, x.1), x.2))
          (λ (g : (i : ℕ) → i < k → e i ≡ q → ⊥). inr (λ i h z. elim (ℕ_discrete i k) [
            | yes y ↦ f (ap e (sym y) ∙ z)
            | no y ↦ g i (omega arith) z
          ]))
          (find e q k)
    ]

-- kept numbers and kept edges
made_same : (f : ℕ → Edge) (p : ℕ → Bool) (g : Edge → Edge) (r : Edge → Bool) (a : ℕ → Edge) (qs : List ℕ) → ((q : ℕ) → Memᴰ q qs → p q ≡ r (a q)) → ((q : ℕ) → Memᴰ q qs → f q ≡ g (a q))
    → map f (keep p qs) ≡ map g (keep r (map a qs))
made_same f p g r a [] h k = refl
made_same f p g r a (q ∷ qs) h k =
    go (p q) (r (a q)) (h q (Memᴰ.head refl)) (k q (Memᴰ.head refl)) (made_same f p g r a qs (λ x m. h x (Memᴰ.tail m)) (λ x m. k x (Memᴰ.tail m)))
  where
    go : (b d : Bool) → b ≡ d → f q ≡ g (a q) → map f (keep p qs) ≡ map g (keep r (map a qs)) → map f (cond b (q ∷ keep p qs) (keep p qs)) ≡ map g (cond d (a q ∷ keep r (map a qs)) (keep r (map a qs)))
    go true d e x y = rw (sym e) (ap₂ (λ (u : Edge) (v : List Edge). u ∷ v) x y)
    go false d e x y = rw (sym e) y

module _ (l : Layout) (s : List ℕ) (r : Ready l s) where
  -- the row stands after all that it is made of
  pub row_laid : (l.slots ≤ l.seen) × (l.seen ≤ l.comes) × (l.default + l.edges ≤ l.slots) × (l.name + l.edges ≤ l.slots) × (l.patch + l.edges ≤ l.comes) × (l.lead + l.edges ≤ l.comes) × (l.comes + l.edges ≤ length s)
  row_laid =
      let w = r.work in
      let d = r.tabled.laid in
      (omega (arith, w.slots), omega (arith, w.seen, w.cover, w.patch, w.lead), omega (arith, d.default), omega (arith, d.name, d.default), omega (arith, w.patch, w.lead), omega (arith, w.lead), w.comes)

module _ {l : Layout} {s : List ℕ} {c j p0 p1 patches : ℕ} {room-from room-to room-via : List ℕ} {k : ℕ} (x : EdgesRoom l s c j p0 p1 patches room-from room-to room-via k) where
  abbrev p : List ℕ
  p = take l.slots s

  abbrev r : Ready l s
  r = x.ready

  few_patches : patches ≤ l.edges
  few_patches = omega (arith, x.patched.few, r.tabled.within c x.copy)

  patch_inside : (i : ℕ) → i < patches → patch_at l s i < l.edges
  patch_inside i h = edge_inside r.design r.list r.graph l p r.tabled c (patch_at l s i) x.copy (x.patched.edges i h)

  pub patch_room : RowRoom l s patches (patch_at l s) (lead_at l s)
  patch_room =
      let d = row_laid l s r in
      record {
        slots = omega (arith, d.0, d.1);
        default = omega (arith, d.0, d.1, d.2);
        patch = d.4;
        lead = d.5;
        comes = d.6;
        few = few_patches;
        edges = patch_inside;
        places = λ i h.
            omega (
              arith,
              d.1,
              x.patched.leads r.design r.list r.graph r.tabled i h,
              target_below r.design r.list r.graph l s r.tabled c (patch_at l s i) j x.copy (x.patched.edges i h) r,
            );
        apart = x.patched.apart;
      }

  module _ {t : List ℕ} (y : RowWritten l s t patches (patch_at l s) (lead_at l s)) where
    -- each edge comes from the flag at its target
    comes_target : (D : Design) (L : PathList) (G : Graph) → Tabled D L G l p → (q : ℕ) → InRun l p c q → comes_at l t q ≡ shown_flag (get_or s (target D L G l p c j q) 0)
    comes_target D L G g q m =
        ⊎_elim
        (λ (f : (i : ℕ) × (i < patches) × (patch_at l s i ≡ q)).
        ap (comes_at l t) (sym f.2) ∙ y.new f.0 f.1
        ∙ ap (λ (w : ℕ). shown_flag (get_or s w 0)) (x.patched.leads D L G g f.0 f.1 ∙ ap (target D L G l p c j) f.2))
        (λ (f : (i : ℕ) → i < patches → patch_at l s i ≡ q → ⊥).
        y.rest q f ∙ x.loaded q m ∙ ap (λ (w : ℕ). shown_flag (get_or s w 0)) (x.patched.rest D L G g q m f))
        (find (patch_at l s) q patches)

    comes_start : (D : Design) (L : PathList) (G : Graph) → Tabled D L G l p → (q : ℕ) → InRun l p c q → comes_at l t q ≡ start_flag L (slot_marks D L G) (slots_in l p) (flag_in l s) c j (edge_in l p c q)
    comes_start D L G g q m = comes_target D L G g q m ∙ comes_flag D L G l s g c q j x.copy m

    name_read : (q : ℕ) → q < l.edges → get_or t (l.name + q) 0 ≡ name_in l p q
    name_read q h =
        let d = row_laid l s r in
        sym (get_or-take l.slots t (l.name + q) 0 (omega (arith, d.3))) ∙ ap (λ (w : List ℕ). get_or w (l.name + q) 0) y.tables

    in_run : (q : ℕ) → Memᴰ q (run l p c) → InRun l p c q
    in_run q m = let u = of_upto (run_to l p c - run_from l p c) (run_from l p c) q m in record { from = u.0; to = omega (arith, u.0, u.1) }

    -- the edges of the row are those that come from shown slots
    edges_are : (number : ℕ) (D : Design) (L : PathList) (G : Graph) → Tabled D L G l p
        → row_edges l t number (run l p c) ≡ flag_edges G L (slot_marks D L G) (slots_in l p) (flag_in l s) c j number
    edges_are number D L G g =
        let marks = slot_marks D L G in
        let B = slots_in l p in
        made_same (row_edge l t number) (λ q. ltb 0 (comes_at l t q)) (λ (e : Edge). edge (start_flag L marks B (flag_in l s) c j e - 2) number e.name) (from_shown L marks B (shown_by (flag_in l s)) c j) (edge_in l p c) (run l p c)
        (λ q m. ap (ltb 0) (comes_start D L G g q (in_run q m)) ∙ start_shown L marks B (flag_in l s) c j (edge_in l p c q))
        (λ q m.
        let u = in_run q m in
        ap₂ (λ (v n : ℕ). edge (v - 2) number n) (comes_start D L G g q u) (name_read q (edge_inside D L G l p g c q x.copy u)))
        ∙ ap (λ (es : List Edge). map (λ (e : Edge). edge (start_flag L marks B (flag_in l s) c j e - 2) number e.name) (keep (from_shown L marks B (shown_by (flag_in l s)) c j) es)) (sym (g.into c x.copy))

    run_is : upto (p1 - p0) p0 ≡ run l p c
    run_is = ap₂ (λ (a b : ℕ). upto (b - a) a) x.from x.to

    row_edges_lem : (number : ℕ) (D : Design) (L : PathList) (G : Graph) → Tabled D L G l p
        → row_edges l t number (upto (p1 - p0) p0) ≡ flag_edges G L (slot_marks D L G) (slots_in l p) (flag_in l s) c j number
    row_edges_lem number D L G g = ap (row_edges l t number) run_is ∙ edges_are number D L G g

    row_count : (number : ℕ) (D : Design) (L : PathList) (G : Graph) → Tabled D L G l p
        → length (row_edges l t number (upto (p1 - p0) p0)) ≡ edges_to G L (slot_marks D L G) (slots_in l p) (shown_by (flag_in l s)) c j
    row_count number D L G g =
        ap length (row_edges_lem number D L G g)
        ∙ length-map (keep (from_shown L (slot_marks D L G) (slots_in l p) (shown_by (flag_in l s)) c j) (edges_in G c)) (λ (e : Edge). edge (start_flag L (slot_marks D L G) (slots_in l p) (flag_in l s) c j e - 2) number e.name)

    pub read_room : {number : ℕ} → RowRead l t p0 p1 number room-from room-to room-via k
    read_room {number} =
        let d = row_laid l s r in
        record {
          name = omega (arith, d.0, d.1, d.3, d.6, y.size);
          comes = omega (arith, d.6, y.size);
          up = omega (arith, x.from, x.to, r.tabled.up c x.copy);
          within = omega (arith, x.to, r.tabled.within c x.copy);
          two = λ q a b f.
              let m : InRun l p c q = record { from = omega (arith, x.from); to = omega (arith, x.to) } in
              let e = comes_target r.design r.list r.graph r.tabled q m in
              omega (arith, e, shown_two (get_or s (target r.design r.list r.graph l p c j q) 0) (λ z. f (e ∙ z)));
          same = x.same;
          fit = omega (arith, x.fit, row_count number r.design r.list r.graph r.tabled);
        }

    pub row_meets : (number : ℕ) {n : ℕ} → EdgesMeet l s c j n → length (row_edges l t number (upto (p1 - p0) p0)) ≡ n
    row_meets number m = row_count number r.design r.list r.graph r.tabled ∙ sym (m.counts r.design r.list r.graph r.tabled)

    -- the row of slot 0 again
    patch_same : (i : ℕ) → i < patches → patch_at l t i ≡ patch_at l s i
    patch_same i h = y.below (l.patch + i) (omega (arith, (row_laid l s r).4, few_patches))

    default_same : (q : ℕ) → q < l.edges → get_or t (l.default + q) 0 ≡ default_in l p q
    default_same q h =
        sym (get_or-take l.slots t (l.default + q) 0 (omega (arith, (row_laid l s r).2))) ∙ ap (λ (w : List ℕ). get_or w (l.default + q) 0) y.tables

    default_low : (q : ℕ) → InRun l p c q → default_in l p q < l.seen
    default_low q m =
        omega (arith, r.tabled.defaults c x.copy q m, target_below r.design r.list r.graph l s r.tabled c q 0 x.copy m r)

    default_is : (i : ℕ) → i < patches → default_at l t i ≡ default_in l p (patch_at l s i)
    default_is i h = ap (λ (q : ℕ). get_or t (l.default + q) 0) (patch_same i h) ∙ default_same (patch_at l s i) (patch_inside i h)

    pub unpatch_room : RowRoom l t patches (patch_at l t) (default_at l t)
    unpatch_room =
        let d = row_laid l s r in
        record {
          slots = omega (arith, d.0, d.1);
          default = omega (arith, d.0, d.1, d.2);
          patch = d.4;
          lead = d.5;
          comes = omega (arith, d.6, y.size);
          few = few_patches;
          edges = λ i h. omega (arith, patch_same i h, patch_inside i h);
          places = λ i h. omega (arith, d.1, default_is i h, default_low (patch_at l s i) (x.patched.edges i h));
          apart = λ i h a b e. x.patched.apart i h a b (sym (patch_same i (omega arith)) ∙ e ∙ patch_same h b);
        }

    module _ {u room-from' room-to' room-via' : List ℕ} {number : ℕ} (z : RowWritten l t u patches (patch_at l t) (default_at l t))
        (w : Edged (row_edges l t number (upto (p1 - p0) p0)) k room-from room-to room-via room-from' room-to' room-via' (k + length (row_edges l t number (upto (p1 - p0) p0)))) where
      pub edges_filled : EdgesFilled l s u c j number room-from room-to room-via room-from' room-to' room-via' k
      edges_filled =
          record {
            size = z.size ∙ y.size;
            tables = z.tables ∙ y.tables;
            below = λ i h. z.below i h ∙ y.below i h;
            comes = λ q m.
                ⊎_elim
                (λ (f : (i : ℕ) × (i < patches) × (patch_at l t i ≡ q)).
                let e : patch_at l s f.0 ≡ q = sym (patch_same f.0 f.1) ∙ f.2 in
                let a : default_at l t f.0 ≡ default_in l p q = default_is f.0 f.1 ∙ ap (default_in l p) e in
                ap (comes_at l u) (sym f.2) ∙ z.new f.0 f.1
                ∙ ap (λ (i : ℕ). shown_flag (get_or t i 0)) a
                ∙ ap shown_flag (y.below (default_in l p q) (omega (arith, default_low q m, (row_laid l s r).1)))
                ∙ sym (x.loaded q m))
                (λ (f : (i : ℕ) → i < patches → patch_at l t i ≡ q → ⊥).
                z.rest q f ∙ y.rest q (λ i h e. f i h (patch_same i h ∙ e)))
                (find (patch_at l t) q patches);
            written = λ D L G g.
                let n : k + length (row_edges l t number (upto (p1 - p0) p0)) ≡ k + edges_to G L (slot_marks D L G) (slots_in l p) (shown_by (flag_in l s)) c j = ap (λ (i : ℕ). k + i) (row_count number D L G g) in
                subst (λ (es : List Edge). Edged es k room-from room-to room-via room-from' room-to' room-via' (k + edges_to G L (slot_marks D L G) (slots_in l p) (shown_by (flag_in l s)) c j)) (row_edges_lem number D L G g)
                (subst (λ (i : ℕ). Edged (row_edges l t number (upto (p1 - p0) p0)) k room-from room-to room-via room-from' room-to' room-via' i) n w);
          }
