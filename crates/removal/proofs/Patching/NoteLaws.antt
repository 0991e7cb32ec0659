-- Patches as they are noted: each once, so that there is room for all, and nothing else changes.
use Prim.Native.Nat.{ℕ, ◌+◌, ◌-◌, ◌/◌, ◌%◌, ◌≤◌, ◌<◌}
use native.Mathlib.Omega.{arith}
use native.Mathlib.Decide.{ℕ_discrete, dec_lt}
use mathlib.Core.Path.{◌≡◌, refl, sym, ◌∙◌, ap, subst}
use mathlib.Core.Logic.{◌⊎◌, inl, inr, ⊎_elim}
use mathlib.Core.List.{List, ◌∷◌, map, Memᴰ}
use lib.ListN.{length, get_or, take, set, length-set, length-map}
use lib.Seq.{get_or-set_same, get_or-set_other, take-set-le, get_or-take}
use Rattle.timing.specs.Lists.{upto}
use Rattle.timing.specs.Graphs.{Design, Graph}
use Rattle.timing.specs.Marks.{PathList}
use Rattle.theorems.proofs.Lists.{mem_upto, of_upto, length_upto}
use Rattle.theorems.proofs.Counting.{Nodup, nodup_map, nodup_upto, length_le}
use Rattle.removal.specs.declared.rows.Layout.{Layout}
use Rattle.removal.specs.Rows.{Tabled, WorkLaid, Ready, InRun, run_from, run_to, name_in, target}
use Rattle.removal.specs.Patches.{NamesIn, patch_at, lead_at, Placed, Unseen, Gathered, Kept, Searching, Telling, Tried, Forgettable, Forgotten}
use Rattle.removal.proofs.Reaching.RowLaws.{ready_same, names_same, words}
use Rattle.removal.proofs.Reaching.TargetLaws.{dead_low, start_inside}
use Rattle.removal.proofs.Patching.ChainLaws.{target_small}

-- numbers that differ are not more than the numbers between their bounds
module _ (g : ℕ → ℕ) (k a b : ℕ) (inside : (i : ℕ) → i < k → (a ≤ g i) × (g i < b)) (apart : (i h : ℕ) → i < h → h < k → g i ≡ g h → ⊥) where
  one_place : (i h : ℕ) → i < k → h < k → g i ≡ g h → Dec (i < h) → Dec (h < i) → i ≡ h
  one_place i h x y e (yes m) d = absurd (apart i h m y e)
  one_place i h x y e (no m) (yes n) = absurd (apart h i n x (sym e))
  one_place i h x y e (no m) (no n) = omega arith

  each_once : Nodup (map g (upto k 0))
  each_once =
      nodup_map g (upto k 0)
      (λ i h x y e. one_place i h (omega (arith, (of_upto k 0 i x).1)) (omega (arith, (of_upto k 0 h y).1)) e (dec_lt i h) (dec_lt h i)) (nodup_upto k 0)

  each_inside : (x : ℕ) → Memᴰ x (map g (upto k 0)) → Memᴰ x (upto (b - a) a)
  each_inside x m =
      let r = mathlib.Core.List.Memᴰ.of_map g (upto k 0) m in
      let h = inside r.0 (omega (arith, (of_upto k 0 r.0 r.1).1)) in
      mem_upto (b - a) a x (omega (arith, h.0, r.2)) (omega (arith, h.0, h.1, r.2))

  size : length (map g (upto k 0)) ≡ k
  size = length-map (upto k 0) g ∙ length_upto k 0

  pub apart_few : k ≤ b - a
  apart_few = omega (arith, length_le (map g (upto k 0)) (upto (b - a) a) each_once each_inside, size, length_upto (b - a) a)

  -- and fewer where there is one more
  pub apart_room : (q : ℕ) → a ≤ q → q < b → ((i : ℕ) → i < k → g i ≡ q → ⊥) → k < b - a
  apart_room q least most other =
      let fresh : Memᴰ q (map g (upto k 0)) → ⊥ =
      λ m. let r = mathlib.Core.List.Memᴰ.of_map g (upto k 0) m in other r.0 (omega (arith, (of_upto k 0 r.0 r.1).1)) r.2 in
      omega (
        arith,
        length_le (q ∷ map g (upto k 0)) (upto (b - a) a) (fresh, each_once)
            (λ x m. ⊎_elim (λ (e : x ≡ q). mem_upto (b - a) a x (omega arith) (omega arith)) (λ h. each_inside x h) (mathlib.Core.List.Memᴰ.cases_cons m)),
        size,
        length_upto (b - a) a,
      )

module _ (l : Layout) (p t : List ℕ) (c j k : ℕ) (g : Gathered l p t c j k) where
  pub gathered_few : k ≤ run_to l p c - run_from l p c
  gathered_few = apart_few (patch_at l t) k (run_from l p c) (run_to l p c) (λ i h. ((g.edges i h).from, (g.edges i h).to)) g.apart

  -- an edge that is not seen is no patch, so that there is room for one more
  pub unseen_other : (q : ℕ) → Unseen l t q → (i : ℕ) → i < k → patch_at l t i ≡ q → ⊥
  unseen_other q u i h e = g.marked i h (subst (λ (x : ℕ). Unseen l t x) (sym e) u)

  pub gathered_room : (q : ℕ) → InRun l p c q → Unseen l t q → k < run_to l p c - run_from l p c
  gathered_room q r u =
      apart_room (patch_at l t) k (run_from l p c) (run_to l p c) (λ i h. ((g.edges i h).from, (g.edges i h).to)) g.apart q r.from r.to (unseen_other q u)

-- nothing is noted at first
pub gathered_none : (l : Layout) (p t : List ℕ) (c j : ℕ) → ((q : ℕ) → q < l.edges → Unseen l t q) → Gathered l p t c j 0
gathered_none l p t c j idle =
    record {
      edges = λ i h. absurd (omega arith);
      apart = λ i h m n. absurd (omega arith);
      leads = λ i h. absurd (omega arith);
      marked = λ i h. absurd (omega arith);
      seen = λ q h. inl (idle q h);
    }

pub kept_refl : (l : Layout) (s : List ℕ) → Kept l s s
kept_refl l s = record { size = refl; low = λ i h. refl; middle = λ i h k. refl; above = λ i h. refl; tables = refl }

pub kept_trans : (l : Layout) (s t u : List ℕ) → Kept l s t → Kept l t u → Kept l s u
kept_trans l s t u a b =
    record {
      size = b.size ∙ a.size;
      low = λ i h. b.low i h ∙ a.low i h;
      middle = λ i h k. b.middle i h k ∙ a.middle i h k;
      above = λ i h. b.above i h ∙ a.above i h;
      tables = b.tables ∙ a.tables;
    }

-- the search goes on from what is noted by then
pub searching_next : (l : Layout) (s t pos : List ℕ) (c j p0 p1 k r : ℕ) → Searching l s pos c j p0 p1 k → Kept l s t → Gathered l (take l.slots s) t c j r
    → Searching l t pos c j p0 p1 r
searching_next l s t pos c j p0 p1 k r a b g =
    record {
      ready = ready_same l s t b.size b.tables a.ready;
      names = names_same l s t (length pos) b.tables a.names;
      noted = subst (λ (p : List ℕ). (q : ℕ) → InRun l p c q → get_or pos (name_in l p q) 0 ≡ q) (sym b.tables) a.noted;
      copy = a.copy;
      from = subst (λ (p : List ℕ). p0 ≡ run_from l p c) (sym b.tables) a.from;
      to = subst (λ (p : List ℕ). p1 ≡ run_to l p c) (sym b.tables) a.to;
      gathered = subst (λ (p : List ℕ). Gathered l p t c j r) (sym b.tables) g;
    }

-- edge q stands in the tables
module _ (l : Layout) (s : List ℕ) (r : Ready l s) (q : ℕ) (h : q < l.edges) where
  pub edge_places : (l.start + q < l.slots) × (l.name + q < l.slots) × (l.slots ≤ length s) × (l.seen + q < length s) × (q < 65536)
  edge_places =
      let t = r.tabled in
      let w = r.work in (
        omega (arith, t.laid.start, t.laid.name, t.laid.default),
        omega (arith, t.laid.name, t.laid.default),
        words l s r,
        omega (arith, w.seen, w.cover, w.patch, w.lead, w.comes),
        omega (arith, t.few_edges),
      )

  pub name_read : get_or s (l.name + q) 0 ≡ name_in l (take l.slots s) q
  name_read = sym (get_or-take l.slots s (l.name + q) 0 edge_places.1)

-- where the names of the edges into copy c stand, of those before edge q
pub record NotedTo (l : Layout) (s old pos : List ℕ) (c q : ℕ) : Type 0 where
  pub size : length pos ≡ length old
  pub least : run_from l (take l.slots s) c ≤ q
  pub most : q ≤ run_to l (take l.slots s) c
  pub each : (h : ℕ) → run_from l (take l.slots s) c ≤ h → h < q → get_or pos (name_in l (take l.slots s) h) 0 ≡ h

module _ (l : Layout) (s old : List ℕ) (c : ℕ) (r : Ready l s) (names : NamesIn l s (length old)) (copy : c < l.copies) where
  module _ (pos : List ℕ) (q : ℕ) (a : NotedTo l s old pos c q) (more : q < run_to l (take l.slots s) c) where
    pub noted_edge : q < l.edges
    noted_edge = omega (arith, r.tabled.within c copy)

    pub noted_room : get_or s (l.name + q) 0 < length pos
    noted_room = omega (arith, names q noted_edge, name_read l s r q noted_edge, a.size)

    pub noted_next : NotedTo l s old (set pos (get_or s (l.name + q) 0) q) c (q + 1)
    noted_next =
        record {
          size = length-set pos (get_or s (l.name + q) 0) q ∙ a.size;
          least = omega (arith, a.least);
          most = omega arith;
          each = λ h m n. go h m n (ℕ_discrete h q);
        }
      where
        go : (h : ℕ) → run_from l (take l.slots s) c ≤ h → h < q + 1 → Dec (h ≡ q) → get_or (set pos (get_or s (l.name + q) 0) q) (name_in l (take l.slots s) h) 0 ≡ h
        go h m n (yes e) =
            ap (λ (x : ℕ). get_or (set pos (get_or s (l.name + q) 0) q) x 0) (ap (name_in l (take l.slots s)) e ∙ sym (name_read l s r q noted_edge))
            ∙ get_or-set_same pos (get_or s (l.name + q) 0) q 0 noted_room ∙ sym e
        go h m n (no f) =
            let up = r.tabled.rises c copy h q (record { from = m; to = omega arith }) (record { from = a.least; to = more }) (omega arith) in
            get_or-set_other pos (get_or s (l.name + q) 0) (name_in l (take l.slots s) h) q 0 (λ e. omega (arith, name_read l s r q noted_edge)) ∙ a.each h m (omega arith)

-- a word whose edge is no edge into the copy, or one that is seen
module _ (l : Layout) (s pos : List ℕ) (c j p0 p1 k w : ℕ) (a : Searching l s pos c j p0 p1 k) where
  abbrev p : List ℕ
  p = take l.slots s

  pub run_inside : (q : ℕ) → InRun l (take l.slots s) c q → q < l.edges
  run_inside q r = omega (arith, r.to, a.ready.tabled.within c a.copy)

  pub name_there : (q : ℕ) → InRun l (take l.slots s) c q → get_or s (l.name + q) 0 ≡ name_in l (take l.slots s) q
  name_there q r = name_read l s a.ready q (run_inside q r)

  pub missed : (w / 32768 < length pos → (q : ℕ) → q ≡ get_or pos (w / 32768) 0 → InRun l (take l.slots s) c q → name_in l (take l.slots s) q ≡ w / 32768 → Unseen l s q → ⊥)
      → Tried l s s c j w k
  missed none =
      record {
        kept = kept_refl l s;
        gathered = a.gathered;
        less = λ q h u. u;
        none = λ q r u e.
            none (subst (λ (x : ℕ). x < length pos) e (a.names q (run_inside q r))) q (sym (a.noted q r) ∙ ap (λ (x : ℕ). get_or pos x 0) e) r e u;
      }

  -- where an edge that is not seen has the name, it is noted
  module _ (q : ℕ) (run : InRun l (take l.slots s) c q) (unseen : Unseen l s q) (is : q ≡ get_or pos (w / 32768) 0) (name : name_in l (take l.slots s) q ≡ w / 32768) where
    work : WorkLaid l (take l.slots s) (length s)
    work = a.ready.work

    pub room : (q < l.edges) × (k < l.edges)
    room = (run_inside q run, omega (arith, gathered_room l p s c j k a.gathered q run unseen, a.ready.tabled.within c a.copy))

    pub store_room : (l.seen + q < length s) × (l.patch + k < length s) × (l.lead + k < length s)
    store_room = (
      omega (arith, room.0, work.seen, work.cover, work.patch, work.lead, work.comes),
      omega (arith, room.1, work.patch, work.lead, work.comes),
      omega (arith, room.1, work.lead, work.comes),
    )

    -- what the place is read from stands in the tables
    pub placed : Telling l (take l.slots s) s c j w → Placed l s (w % 32768) q
    placed x =
        let r = a.ready in
        let t = r.tabled in
        let at = edge_places l s r q (run_inside q run) in
        record {
          room = at.2;
          class = x.place;
          edge = at.0;
          start = omega (arith, start_inside r.design r.list r.graph l p t c q a.copy run, t.laid.base, t.laid.into, t.laid.start, t.laid.name, t.laid.default);
          small = omega (arith, x.leads q run unseen name r.design r.list r.graph t, target_small r.design r.list r.graph l p t c q j a.copy run, r.few);
          dead = omega (arith, dead_low r.design r.list r.graph l p t, r.few);
        }

    -- it leads where its place says
    module _ (v : ℕ) (leads : (D : Design) (L : PathList) (G : Graph) → Tabled D L G l (take l.slots s) → v ≡ target D L G l (take l.slots s) c j q) where
      abbrev new : List ℕ
      new = set (set (set s (l.seen + q) 1) (l.patch + k) q) (l.lead + k) v

      size_1 : length (set s (l.seen + q) 1) ≡ length s
      size_1 = length-set s (l.seen + q) 1

      size_2 : length (set (set s (l.seen + q) 1) (l.patch + k) q) ≡ length s
      size_2 = length-set (set s (l.seen + q) 1) (l.patch + k) q ∙ size_1

      size_3 : length new ≡ length s
      size_3 = length-set (set (set s (l.seen + q) 1) (l.patch + k) q) (l.lead + k) v ∙ size_2

      new_other : (i : ℕ) → (i ≡ l.seen + q → ⊥) → (i ≡ l.patch + k → ⊥) → (i ≡ l.lead + k → ⊥) → get_or new i 0 ≡ get_or s i 0
      new_other i x y z =
          get_or-set_other (set (set s (l.seen + q) 1) (l.patch + k) q) (l.lead + k) i v 0 z
          ∙ get_or-set_other (set s (l.seen + q) 1) (l.patch + k) i q 0 y
          ∙ get_or-set_other s (l.seen + q) i 1 0 x

      new_seen : get_or new (l.seen + q) 0 ≡ 1
      new_seen =
          get_or-set_other (set (set s (l.seen + q) 1) (l.patch + k) q) (l.lead + k) (l.seen + q) v 0 (λ e. omega (arith, room.0, work.seen, work.cover, work.patch))
          ∙ get_or-set_other (set s (l.seen + q) 1) (l.patch + k) (l.seen + q) q 0 (λ e. omega (arith, room.0, work.seen, work.cover))
          ∙ get_or-set_same s (l.seen + q) 1 0 (omega (arith, room.0, work.seen, work.cover, work.patch, work.lead, work.comes))

      new_patch : patch_at l new k ≡ q
      new_patch =
          get_or-set_other (set (set s (l.seen + q) 1) (l.patch + k) q) (l.lead + k) (l.patch + k) v 0 (λ e. omega (arith, room.1, work.patch))
          ∙ get_or-set_same (set s (l.seen + q) 1) (l.patch + k) q 0 (omega (arith, size_1, room.1, work.patch, work.lead, work.comes))

      new_lead : lead_at l new k ≡ v
      new_lead = get_or-set_same (set (set s (l.seen + q) 1) (l.patch + k) q) (l.lead + k) v 0 (omega (arith, size_2, room.1, work.lead, work.comes))

      old_patch : (i : ℕ) → i < k → patch_at l new i ≡ patch_at l s i
      old_patch i h = new_other (l.patch + i) (λ e. omega (arith, room.0, work.seen, work.cover)) (λ e. omega arith) (λ e. omega (arith, room.1, work.patch))

      old_lead : (i : ℕ) → i < k → lead_at l new i ≡ lead_at l s i
      old_lead i h = new_other (l.lead + i) (λ e. omega (arith, room.0, work.seen, work.cover, work.patch)) (λ e. omega (arith, room.1, work.patch)) (λ e. omega arith)

      old_seen : (h : ℕ) → h < l.edges → (h ≡ q → ⊥) → get_or new (l.seen + h) 0 ≡ get_or s (l.seen + h) 0
      old_seen h m f =
          new_other (l.seen + h) (λ e. f (omega arith)) (λ e. omega (arith, work.seen, work.cover)) (λ e. omega (arith, work.seen, work.cover, work.patch))

      kept : Kept l s new
      kept =
          record {
            size = size_3;
            low = λ i h. new_other i (λ e. omega arith) (λ e. omega (arith, work.seen, work.cover)) (λ e. omega (arith, work.seen, work.cover, work.patch));
            middle = λ i h m. new_other i (λ e. omega (arith, room.0)) (λ e. omega arith) (λ e. omega (arith, work.patch));
            above = λ i h. new_other i (λ e. omega (arith, room.0, work.seen, work.cover, work.patch, work.lead)) (λ e. omega (arith, room.1, work.patch, work.lead)) (λ e. omega (arith, room.1, work.lead));
            tables =
                take-set-le l.slots (set (set s (l.seen + q) 1) (l.patch + k) q) (l.lead + k) v (omega (arith, work.slots, work.seen, work.cover, work.patch))
                ∙ take-set-le l.slots (set s (l.seen + q) 1) (l.patch + k) q (omega (arith, work.slots, work.seen, work.cover))
                ∙ take-set-le l.slots s (l.seen + q) 1 (omega (arith, work.slots));
          }

      less : (h : ℕ) → h < l.edges → Unseen l new h → Unseen l s h
      less h m u = go (ℕ_discrete h q)
        where
          go : Dec (h ≡ q) → Unseen l s h
          go (yes e) = subst (λ (x : ℕ). Unseen l s x) (sym e) unseen
          go (no f) = sym (old_seen h m f) ∙ u

      other : (i : ℕ) → i < k → patch_at l s i ≡ q → ⊥
      other = unseen_other l p s c j k a.gathered q unseen

      gathered : Gathered l (take l.slots s) new c j (k + 1)
      gathered =
          record {
            edges = λ i h. edge i h (dec_lt i k);
            apart = λ i h m n. apart i h m n (dec_lt h k);
            leads = λ i h. lead i h (dec_lt i k);
            marked = λ i h. mark i h (dec_lt i k);
            seen = λ h m. see h m (ℕ_discrete h q) (a.gathered.seen h m);
          }
        where
          last : (i : ℕ) → i < k + 1 → (i < k → ⊥) → patch_at l new i ≡ q
          last i h f = let e : i ≡ k = omega arith in ap (patch_at l new) e ∙ new_patch

          edge : (i : ℕ) → i < k + 1 → Dec (i < k) → InRun l p c (patch_at l new i)
          edge i h (yes m) = subst (λ (x : ℕ). InRun l p c x) (sym (old_patch i m)) (a.gathered.edges i m)
          edge i h (no f) = subst (λ (x : ℕ). InRun l p c x) (sym (last i h f)) run

          apart : (i h : ℕ) → i < h → h < k + 1 → Dec (h < k) → patch_at l new i ≡ patch_at l new h → ⊥
          apart i h m n (yes x) e = a.gathered.apart i h m x (sym (old_patch i (omega arith)) ∙ e ∙ old_patch h x)
          apart i h m n (no f) e = other i (omega arith) (sym (old_patch i (omega arith)) ∙ e ∙ last h n f)

          lead : (i : ℕ) → i < k + 1 → Dec (i < k) → (D : Design) (L : PathList) (G : Graph) → Tabled D L G l p → lead_at l new i ≡ target D L G l p c j (patch_at l new i)
          lead i h (yes m) D L G x = old_lead i m ∙ a.gathered.leads i m D L G x ∙ ap (target D L G l p c j) (sym (old_patch i m))
          lead i h (no f) D L G x =
              let e : i ≡ k = omega arith in
              ap (lead_at l new) e ∙ new_lead ∙ leads D L G x ∙ ap (target D L G l p c j) (sym (last i h f))

          mark : (i : ℕ) → i < k + 1 → Dec (i < k) → Unseen l new (patch_at l new i) → ⊥
          mark i h (yes m) u =
              a.gathered.marked i m (less (patch_at l s i) (run_inside (patch_at l s i) (a.gathered.edges i m)) (subst (λ (x : ℕ). Unseen l new x) (old_patch i m) u))
          mark i h (no f) u = omega (arith, new_seen, subst (λ (x : ℕ). Unseen l new x) (last i h f) u)

          see : (h : ℕ) → h < l.edges → Dec (h ≡ q) → Unseen l s h ⊎ ((i : ℕ) × (i < k) × (patch_at l s i ≡ h)) → Unseen l new h ⊎ ((i : ℕ) × (i < k + 1) × (patch_at l new i ≡ h))
          see h m (yes e) x = inr (k, omega arith, new_patch ∙ sym e)
          see h m (no f) (inl u) = inl (old_seen h m f ∙ u)
          see h m (no f) (inr x) = inr (x.0, omega (arith, x.1), old_patch x.0 x.1 ∙ x.2)

      pub found : Tried l s (set (set (set s (l.seen + q) 1) (l.patch + k) q) (l.lead + k) v) c j w (k + 1)
      found =
          record {
            kept = kept;
            gathered = gathered;
            less = less;
            none = λ h r u e. gone h r u e (sym (a.noted h r) ∙ ap (λ (x : ℕ). get_or pos x 0) e ∙ sym is);
          }
        where
          gone : (h : ℕ) → InRun l p c h → Unseen l new h → name_in l p h ≡ w / 32768 → h ≡ q → ⊥
          gone h r u e x = omega (arith, new_seen, subst (λ (y : ℕ). Unseen l new y) x u)

-- patches are forgotten one after the other
module _ (l : Layout) (s t : List ℕ) (k i : ℕ) (a : Forgettable l s k) (f : Forgotten l s t i) (h : i < k) where
  pub forget_patch : patch_at l t i ≡ patch_at l s i
  forget_patch = f.above (l.patch + i) (omega (arith, a.seen))

  pub forget_room : (l.patch + i < length t) × (l.seen + patch_at l t i < length t)
  forget_room = (omega (arith, a.room, f.size), omega (arith, a.edges i h, forget_patch, a.seen, a.room, f.size))

  abbrev after : List ℕ
  after = set t (l.seen + patch_at l t i) 0

  still : (q : ℕ) → Unseen l t q → Unseen l after q
  still q u = go (ℕ_discrete (l.seen + q) (l.seen + patch_at l t i))
    where
      go : Dec (l.seen + q ≡ l.seen + patch_at l t i) → Unseen l after q
      go (yes e) = ap (λ (x : ℕ). get_or after x 0) e ∙ get_or-set_same t (l.seen + patch_at l t i) 0 0 forget_room.1
      go (no n) = get_or-set_other t (l.seen + patch_at l t i) (l.seen + q) 0 0 n ∙ u

  pub forget_next : Forgotten l s (set t (l.seen + patch_at l t i) 0) (i + 1)
  forget_next =
      record {
        size = length-set t (l.seen + patch_at l t i) 0 ∙ f.size;
        low = λ x m. get_or-set_other t (l.seen + patch_at l t i) x 0 0 (λ e. omega arith) ∙ f.low x m;
        above = λ x m. get_or-set_other t (l.seen + patch_at l t i) x 0 0 (λ e. omega (arith, a.edges i h, forget_patch)) ∙ f.above x m;
        tables = take-set-le l.slots t (l.seen + patch_at l t i) 0 (omega (arith, a.tables)) ∙ f.tables;
        still = λ q m u. still q (f.still q m u);
        done = λ x m. go x m (dec_lt x i);
      }
    where
      go : (x : ℕ) → x < i + 1 → Dec (x < i) → Unseen l after (patch_at l s x)
      go x m (yes n) = still (patch_at l s x) (f.done x n)
      go x m (no n) =
          let e : x ≡ i = omega arith in
          ap (λ (y : ℕ). get_or after (l.seen + y) 0) (ap (patch_at l s) e ∙ sym forget_patch) ∙ get_or-set_same t (l.seen + patch_at l t i) 0 0 forget_room.1
