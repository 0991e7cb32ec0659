-- What `fill_slot` asks of the functions that it calls, and what it makes of what they give.
use Prim.Native.Nat.{ℕ, ◌+◌, ◌≤◌, ◌<◌}
use native.Mathlib.Omega.{arith}
use mathlib.Core.Path.{◌≡◌, refl, sym, ap, ◌∙◌, subst}
use mathlib.Core.Logic.{⊎_elim}
use mathlib.Core.List.{List, ◌∷◌}
use lib.ListN.{length, get_or, take, set}
use Rattle.removal.specs.declared.rows.Layout.{Layout}
use Rattle.removal.specs.Slots.{slots, slot_marks}
use Rattle.removal.specs.Rows.{slots_in, Tabled, Ready, Idle, InRun, run_from, run_to, name_in, start_in, default_in, slot_place, flag_in, target}
use Rattle.removal.specs.Reach.{LiveIs}
use Rattle.removal.specs.Patches.{Patched, patch_at, lead_at}
use Rattle.removal.specs.Result.{slot_at, slot_endpoint}
use Rattle.removal.specs.Show.{shown_by, edges_to, EdgesMeet, RowLent, RowMet, SlotRoom, SlotShown, WorkKept}
use Rattle.removal.specs.Fill.{shown_flag, comes_at, EdgesRoom, EdgesFilled, Filled, one_slot, Filling, RowHeld, RowKept}
use Rattle.removal.proofs.Reaching.RowLaws.{slot_inside, slots_apart, place_inside, ready_same}
use Rattle.removal.proofs.Reaching.TargetLaws.{dead_low, start_low, target_cases, target_below}
use Rattle.removal.proofs.Showing.ShowSteps.{not_reached, meets_same, slot_after}
use Rattle.removal.proofs.Showing.RowSteps.{flag_read, row_room}
use Rattle.removal.proofs.Filling.EdgeLaws.{row_laid}
use Rattle.removal.proofs.Filling.StepLaws.{slot_off, slot_fits, slot_on}

-- patches stand in the tables of work
patched_same : (l : Layout) (p t u : List ℕ) (c j k : ℕ) → ((i : ℕ) → i < k → patch_at l u i ≡ patch_at l t i) → ((i : ℕ) → i < k → lead_at l u i ≡ lead_at l t i) → Patched l p t c j k → Patched l p u c j k
patched_same l p t u c j k a b x =
    record {
      few = x.few;
      edges = λ i h. subst (λ (q : ℕ). InRun l p c q) (sym (a i h)) (x.edges i h);
      apart = λ i h m n e. x.apart i h m n (sym (a i (omega arith)) ∙ e ∙ a h n);
      leads = λ D L G g i h. b i h ∙ x.leads D L G g i h ∙ ap (target D L G l p c j) (sym (a i h));
      rest = λ D L G g q m f. x.rest D L G g q m (λ i h e. f i h (a i h ∙ e));
    }

-- the flag of a slot of a lower copy and the default of an edge are other places than a slot's
module _ (l : Layout) (s : List ℕ) (r : Ready l s) (c j : ℕ) (copy : c < l.copies) where
  abbrev p : List ℕ
  p = take l.slots s

  default_place : (q : ℕ) → InRun l (take l.slots s) c q → (default_in l (take l.slots s) q < l.seen) × (default_in l (take l.slots s) q ≡ slot_place l (take l.slots s) c j → ⊥)
  default_place q m =
      let D = r.design in
      let L = r.list in
      let G = r.graph in
      let g = r.tabled in
      let e = g.defaults c copy q m in (
        omega (arith, e, target_below D L G l s g c q 0 copy m r),
        λ z.
            ⊎_elim
            (λ x. omega (arith, x.1, e, z, dead_low D L G l p g))
            (λ (x : (i : ℕ) × LiveIs L (slot_marks D L G) (slots_in l p) (start_in l p q) (name_in l p q ∷ slot_marks D L G c 0) i × (target D L G l p c 0 q ≡ slot_place l p (start_in l p q) i)).
            omega (arith, x.2, e, z, slots_apart (slots_in l p) (start_in l p q) c x.0 j (start_low D L G l p g c q copy m) x.1.inside))
            (target_cases D L G l p g c q copy m 0),
      )

-- the row of slot 0 is at hand while flags of the copy change
pub row_next : {l : Layout} {s t pos : List ℕ} {c j p0 p1 defaults : ℕ} → Ready l s → take l.slots t ≡ take l.slots s → RowKept l s t c j → RowHeld l s pos c p0 p1 defaults → RowHeld l t pos c p0 p1 defaults
row_next {l} {s} {t} {pos} {c} {j} {p0} {p1} {defaults} r tables k h =
    let q = take l.slots s in
    record {
      noted = subst (λ (w : List ℕ). 1 < slots (slots_in l w) c → (e : ℕ) → InRun l w c e → get_or pos (name_in l w e) 0 ≡ e) (sym tables) h.noted;
      copy = h.copy;
      from = h.from ∙ ap (λ (w : List ℕ). run_from l w c) (sym tables);
      to = h.to ∙ ap (λ (w : List ℕ). run_to l w c) (sym tables);
      meets = meets_same l s t c 0 defaults tables
          (λ d i a b.
          ap (λ (w : List ℕ). get_or t (slot_place l w d i) 0) tables
          ∙ k.others (slot_place l q d i) (place_inside l s r d i (omega (arith, h.copy)) b) (λ e. omega (arith, slots_apart (slots_in l q) d c i j a b))) h.meets;
      loaded = subst (λ (w : List ℕ). (e : ℕ) → InRun l w c e → comes_at l t e ≡ shown_flag (get_or t (default_in l w e) 0)) (sym tables)
          (λ e m.
          let d = default_place l s r c j h.copy e m in
          k.comes e m ∙ h.loaded e m ∙ ap shown_flag (sym (k.others (default_in l q e) d.0 d.1)));
    }

module _ {l : Layout} {nodes endpoint s pos room-nodes room-endpoint room-from room-to room-via : List ℕ} {c j copies edges p0 p1 defaults : ℕ}
    (z : Filling l nodes endpoint s (length pos) room-nodes room-endpoint room-from room-to room-via c j copies edges)
    (h : RowHeld l s pos c p0 p1 defaults) (slot : j < slots (slots_in l (take l.slots s)) c) where
  abbrev r : Ready l s
  r = z.ready

  pub few_numbers : copies + 2 < 4294967296
  few_numbers = omega (arith, z.few_copies, slot_inside (slots_in l (take l.slots s)) c j l.copies h.copy slot, r.few)

  pub row_lent : RowLent l s pos c j p0 p1 defaults
  row_lent =
      record {
        ready = r;
        idle = z.idle;
        names = z.names;
        noted = λ a. h.noted (omega arith);
        copy = h.copy;
        slot = slot;
        from = h.from;
        to = h.to;
        meets = h.meets;
      }

  -- the slot is not reached
  pub slot_none : get_or s (get_or s (l.base + c) 0 + j) 0 ≡ 0
      → Filled l nodes endpoint s s c j copies edges c (j + 1) copies edges (one_slot c j) room-nodes room-endpoint room-from room-to room-via room-nodes room-endpoint room-from room-to room-via × RowKept l s s c j
  slot_none e = (
    slot_off l nodes endpoint s (length pos) room-nodes room-endpoint room-from room-to room-via c j copies edges z h.copy slot s copies edges (not_reached l s c j copies edges z.few_edges (sym (flag_read row_lent) ∙ e)) refl z.idle,
    record { others = λ i a f. refl; comes = λ q m. refl },
  )

  module _ {t : List ℕ} {patches n : ℕ} (m : RowMet l s t c j patches n) where
    low : (i : ℕ) → i < l.seen → get_or t i 0 ≡ get_or s i 0
    low i a = m.collected.below i (omega (arith, r.work.seen, r.work.cover))

    pub show_asks : (get_or s (get_or s (l.base + c) 0 + j) 0 ≡ 0 → ⊥) → SlotRoom l t c j p0 p1 copies edges × EdgesMeet l t c j n
    show_asks f = row_room row_lent m f z.few_copies z.few_edges

    module _ {u : List ℕ} {more links : ℕ} (y : SlotShown l t u c j copies edges more links × WorkKept l t u) where
      shown : SlotShown l s u c j copies edges more links
      shown = slot_after l s t r m.collected.tables low u c j copies edges more links m.collected.size h.copy slot y.0

      idle : Idle l u
      idle q a =
          y.1 (l.seen + q) (omega arith) ∙ m.collected.below (l.seen + q) (omega (arith, r.work.seen, r.work.cover)) ∙ z.idle q a

      kept : RowKept l s u c j
      kept =
          record {
            others = shown.others;
            comes = λ q a. y.1 (l.comes + q) (omega (arith, (row_laid l s r).1)) ∙ m.collected.above (l.comes + q) (omega arith);
          }

      -- as many edges come to it as before
      pub meets_after : EdgesMeet l u c j n
      meets_after =
          meets_same l s u c j n shown.tables
          (λ d i a b.
          ap (λ (w : List ℕ). get_or u (slot_place l w d i) 0) shown.tables
          ∙ shown.others (slot_place l (take l.slots s) d i) (place_inside l s r d i (omega (arith, h.copy)) b)
          (λ e. omega (arith, slots_apart (slots_in l (take l.slots s)) d c i j a b))) m.meets

      -- the slot is not shown
      pub slot_hidden : more ≡ copies
          → Filled l nodes endpoint s u c j copies edges c (j + 1) copies edges (one_slot c j) room-nodes room-endpoint room-from room-to room-via room-nodes room-endpoint room-from room-to room-via × RowKept l s u c j
      slot_hidden e = (slot_off l nodes endpoint s (length pos) room-nodes room-endpoint room-from room-to room-via c j copies edges z h.copy slot u more links shown e idle, kept)

      -- and if it is
      module _ (f : more ≡ copies → ⊥) where
        pub room_left : (copies < length room-nodes) × (copies < length room-endpoint)
        room_left =
            let a = (slot_fits l nodes endpoint s (length pos) room-nodes room-endpoint room-from room-to room-via c j copies edges z h.copy slot u more links shown f).0 in
            (a, omega (arith, a, z.same.0))

        pub edges_room : EdgesRoom l u c j p0 p1 patches room-from room-to room-via edges
        edges_room =
            let q = shown.tables in
            let held = row_next r q kept h in
            record {
              ready =
                  let again = ready_same l s u shown.size q r in
                  record {
                    design = r.design;
                    list = r.list;
                    graph = r.graph;
                    tabled = subst (λ (w : List ℕ). Tabled r.design r.list r.graph l w) (sym q) r.tabled;
                    work = again.work;
                    few = again.few;
                  };
              copy = h.copy;
              from = held.from;
              to = held.to;
              patched = subst (λ (w : List ℕ). Patched l w u c j patches) (sym q)
                  (patched_same l (take l.slots s) t u c j patches
                  (λ i a. y.1 (l.patch + i) (omega (arith, r.work.seen, r.work.cover)))
                  (λ i a. y.1 (l.lead + i) (omega (arith, r.work.seen, r.work.cover, r.work.patch))) m.collected.patched);
              loaded = held.loaded;
              same = z.same.1;
              fit = subst (λ (w : List ℕ). edges + edges_to r.graph r.list (slot_marks r.design r.list r.graph) (slots_in l w) (shown_by (flag_in l u)) c j ≤ length room-from) (sym q)
                  (slot_fits l nodes endpoint s (length pos) room-nodes room-endpoint room-from room-to room-via c j copies edges z h.copy slot u more links shown f).1;
            }

        module _ {v room-from' room-to' room-via' : List ℕ} {number end : ℕ} (w : EdgesFilled l u v c j number room-from room-to room-via room-from' room-to' room-via' edges) where
          pub slot_filled : number ≡ copies → end ≡ slot_endpoint endpoint (slot_at c j)
              → Filled l nodes endpoint s v c j copies edges c (j + 1) more links (one_slot c j) room-nodes room-endpoint room-from room-to room-via
              (set room-nodes copies (get_or nodes c 0)) (set room-endpoint copies end) room-from' room-to' room-via' × RowKept l s v c j
          slot_filled e d =
              let under : (i : ℕ) → i < l.seen → get_or v i 0 ≡ get_or u i 0 = λ i a. w.below i (omega (arith, (row_laid l s r).1)) in (
                slot_on l nodes endpoint s (length pos) room-nodes room-endpoint room-from room-to room-via c j copies edges z h.copy slot u more links shown f v
                    (set room-nodes copies (get_or nodes c 0)) (set room-endpoint copies end) room-from' room-to' room-via' number w e
                    (λ q a. w.below (l.seen + q) (omega (arith, r.work.seen, r.work.cover, r.work.patch, r.work.lead)) ∙ idle q a)
                    refl (ap (set room-endpoint copies) d),
                record {
                  others = λ i a b. under i a ∙ shown.others i a b;
                  comes = λ q a. w.comes q (subst (λ (o : List ℕ). InRun l o c q) (sym shown.tables) a) ∙ kept.comes q a;
                },
              )
