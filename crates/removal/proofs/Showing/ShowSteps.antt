-- Pass 2 from slot to slot: what a store of a flag leaves, and how the pass goes on.
use Prim.Native.Nat.{ℕ, suc, ◌+◌, ◌*◌, ◌-◌, ◌≤◌, ◌<◌}
use native.Mathlib.Omega.{arith}
use native.Mathlib.Decide.{ℕ_discrete, dec_lt}
use mathlib.Core.Path.{◌≡◌, refl, sym, ap, ap₂, ◌∙◌, subst}
use mathlib.Core.Logic.{◌⊎◌, ⊎_elim}
use mathlib.Core.Bool.{Bool, true, false, cond, ◌&&◌, ◌||◌}
use mathlib.Core.List.{List, map}
use lib.Dec.{ltb}
use lib.ListN.{length, get_or, take, set, length-set}
use lib.Seq.{take-set-le, get_or-set_same, get_or-set_other}
use borrow.Author.Tests.{lt-ltb}
use Rattle.timing.specs.Lists.{one_if, is_nil, upto}
use Rattle.timing.specs.Graphs.{Design, Graph, starts_at}
use Rattle.timing.specs.Marks.{PathList}
use Rattle.removal.specs.declared.rows.Layout.{Layout}
use Rattle.removal.specs.Slots.{slots, slot_base, slot_marks}
use Rattle.removal.specs.Rows.{slots_in, Tabled, Ready, slot_place, flag_in, run_from, run_to, edge_in}
use Rattle.removal.specs.Show.{reached_by, shown_by, edges_to, shows, Passed, EdgesMeet, SlotRoom, SlotRule, SlotShown, WorkKept, PassedTo, AllShown}
use Rattle.removal.proofs.Reaching.RowLaws.{base_next, base_up, base_read, slots_apart, place_inside, ready_same}
use Rattle.removal.proofs.Reaching.SlotLaws.{setting_of}
use Rattle.removal.proofs.Showing.ShowLaws.{edges_same, shows_same, pass_start, pass_slot, pass_copy, end_rows, end_numbers, end_copies, end_edges}

-- the slots, as the scratch has them
abbrev bounds_of : Layout → List ℕ → ℕ → ℕ
bounds_of l s = slots_in l (take l.slots s)

-- the rule by its tests
rule_none : (v : ℕ) (b : Bool) → v ≡ 0 → (ltb 0 v && b) ≡ false
rule_none v b e = ap (λ (x : ℕ). ltb 0 x && b) e

rule_cut : (a b : Bool) (n : ℕ) → b ≡ false → n ≡ 0 → (a && (b || ltb 0 n)) ≡ false
rule_cut true b n p q = ap₂ (λ (x : Bool) (k : ℕ). x || ltb 0 k) p q
rule_cut false b n p q = refl

rule_edges : (v n : ℕ) (b : Bool) → 0 < v → (n ≡ 0 → ⊥) → (ltb 0 v && (b || ltb 0 n)) ≡ true
rule_edges v n b p q = go b (lt-ltb 0 v p) (lt-ltb 0 n (omega arith))
  where
    go : (b : Bool) → ltb 0 v ≡ true → ltb 0 n ≡ true → (ltb 0 v && (b || ltb 0 n)) ≡ true
    go true x y = ap (λ (z : Bool). z && true) x
    go false x y = ap₂ (λ (z w : Bool). z && w) x y

rule_starts : (v n : ℕ) (b : Bool) → 0 < v → b ≡ true → (ltb 0 v && (b || ltb 0 n)) ≡ true
rule_starts v n b p q = ap₂ (λ (z w : Bool). z && (w || ltb 0 n)) (lt-ltb 0 v p) q

module _ (G : Graph) (L : PathList) (marks : ℕ → ℕ → List ℕ) (B : ℕ → ℕ) (flags : ℕ → ℕ → ℕ) (c j copies edges : ℕ) where
  rule_off : shows G L marks B (reached_by flags) (shown_by flags) c j ≡ false → SlotRule G L marks B flags (flags c j) c j copies edges copies edges
  rule_off q =
      record {
        flag_is = sym (ap (λ (b : Bool). cond b (2 + copies) (flags c j)) q);
        more_is = omega (arith, ap one_if q);
        links_is = omega (arith, ap (λ (b : Bool). cond b (edges_to G L marks B (shown_by flags) c j) 0) q);
      }

  rule_on : (flag more links n : ℕ) → shows G L marks B (reached_by flags) (shown_by flags) c j ≡ true → flag ≡ copies + 2 → more ≡ copies + 1 → links ≡ edges + n
      → n ≡ edges_to G L marks B (shown_by flags) c j → SlotRule G L marks B flags flag c j copies edges more links
  rule_on flag more links n q f m k e =
      record {
        flag_is = omega (arith, ap (λ (b : Bool). cond b (2 + copies) (flags c j)) q);
        more_is = omega (arith, ap one_if q);
        links_is = omega (arith, ap (λ (b : Bool). cond b (edges_to G L marks B (shown_by flags) c j) 0) q);
      }

  -- the rule, by flags that are the same
  rule_same : (after : ℕ → ℕ → ℕ) (flag more links : ℕ) → flags c j ≡ after c j
      → shows G L marks B (reached_by flags) (shown_by flags) c j ≡ shows G L marks B (reached_by after) (shown_by after) c j
      → edges_to G L marks B (shown_by flags) c j ≡ edges_to G L marks B (shown_by after) c j
      → SlotRule G L marks B flags flag c j copies edges more links → SlotRule G L marks B after flag c j copies edges more links
  rule_same after flag more links f q e x =
      record {
        flag_is = x.flag_is ∙ ap₂ (λ (b : Bool) (v : ℕ). cond b (2 + copies) v) q f;
        more_is = x.more_is ∙ ap (λ (b : Bool). copies + one_if b) q;
        links_is = x.links_is ∙ ap₂ (λ (b : Bool) (n : ℕ). edges + cond b n 0) q e;
      }

-- where a run is empty, paths start
module _ (D : Design) (L : PathList) (G : Graph) (l : Layout) (p : List ℕ) (t : Tabled D L G l p) (c : ℕ) (inside : c < l.copies) where
  starts_here : run_to l p c ≤ run_from l p c → starts_at G c ≡ true
  starts_here h =
      let z : run_to l p c - run_from l p c ≡ 0 = omega arith in
      ap is_nil (t.into c inside) ∙ ap (λ (n : ℕ). is_nil (map (edge_in l p c) (upto n (run_from l p c)))) z

  starts_not : run_from l p c < run_to l p c → starts_at G c ≡ false
  starts_not h =
      let z : run_to l p c - run_from l p c ≡ suc (run_to l p c - run_from l p c - 1) = omega arith in
      ap is_nil (t.into c inside) ∙ ap (λ (n : ℕ). is_nil (map (edge_in l p c) (upto n (run_from l p c)))) z

-- a slot that is not shown stays
kept : (l : Layout) (s : List ℕ) (c j copies edges : ℕ) → edges ≤ copies * 65536
    → ((D : Design) (L : PathList) (G : Graph) → Tabled D L G l (take l.slots s)
    → shows G L (slot_marks D L G) (bounds_of l s) (reached_by (flag_in l s)) (shown_by (flag_in l s)) c j ≡ false)
    → SlotShown l s s c j copies edges copies edges
kept l s c j copies edges few off =
    record {
      size = refl;
      tables = refl;
      others = λ i h f. refl;
      few_copies = omega arith;
      few_edges = few;
      meets = λ D L G t. rule_off G L (slot_marks D L G) (bounds_of l s) (flag_in l s) c j copies edges (off D L G t);
    }

-- as one that is not reached does
pub not_reached : (l : Layout) (s : List ℕ) (c j copies edges : ℕ) → edges ≤ copies * 65536 → flag_in l s c j ≡ 0 → SlotShown l s s c j copies edges copies edges
unfolding shows
not_reached l s c j copies edges few z =
    kept l s c j copies edges few
    (λ D L G t. rule_none (flag_in l s c j) (starts_at G c || ltb 0 (edges_to G L (slot_marks D L G) (bounds_of l s) (shown_by (flag_in l s)) c j)) z)

-- a slot, shown or not
module _ {l : Layout} {s : List ℕ} {c j p0 p1 copies edges : ℕ} (room : SlotRoom l s c j p0 p1 copies edges) where
  pub few_numbers : copies + 2 < 4294967296
  few_numbers = omega (arith, room.few_copies, room.slot, room.ready.few, base_up (bounds_of l s) c l.copies room.copy)

  slot_place_lem : slot_place l (take l.slots s) c j < l.seen
  slot_place_lem = place_inside l s room.ready c j room.copy room.slot

  slot_word : slot_place l (take l.slots s) c j < length s
  slot_word = omega (arith, slot_place_lem, room.ready.work.seen, room.ready.work.cover, room.ready.work.patch, room.ready.work.lead, room.ready.work.comes)

  pub not_shown : {n : ℕ} → EdgesMeet l s c j n → n ≡ 0 → p0 < p1 → SlotShown l s s c j copies edges copies edges
  unfolding shows
  not_shown {n} m z f =
      kept l s c j copies edges room.few_edges
      (λ D L G t.
      rule_cut (reached_by (flag_in l s) c j) (starts_at G c) (edges_to G L (slot_marks D L G) (bounds_of l s) (shown_by (flag_in l s)) c j)
      (starts_not D L G l (take l.slots s) t c room.copy (omega (arith, room.from, room.to))) (sym (m.counts D L G t) ∙ z))

  is_shown : (n : ℕ) → EdgesMeet l s c j n → ((n ≡ 0) × (p1 ≤ p0)) ⊎ (n ≡ 0 → ⊥)
      → SlotShown l s (set s (slot_place l (take l.slots s) c j) (copies + 2)) c j copies edges (copies + 1) (edges + n)
  unfolding shows
  is_shown n m g =
      let B = bounds_of l s in
      let p = slot_place l (take l.slots s) c j in
      record {
        size = length-set s p (copies + 2);
        tables = take-set-le l.slots s p (copies + 2) (omega arith);
        others = λ i k h. get_or-set_other s p i (copies + 2) 0 h;
        few_copies = omega arith;
        few_edges = omega (arith, room.few_edges, m.few, room.ready.tabled.few_edges);
        meets = λ D L G t.
            rule_on G L (slot_marks D L G) B (flag_in l s) c j copies edges (get_or (set s p (copies + 2)) p 0) (copies + 1) (edges + n) n
            (⊎_elim
            (λ (q : (n ≡ 0) × (p1 ≤ p0)).
            rule_starts (flag_in l s c j) (edges_to G L (slot_marks D L G) B (shown_by (flag_in l s)) c j) (starts_at G c) room.reached
            (starts_here D L G l (take l.slots s) t c room.copy (omega (arith, q.1, room.from, room.to))))
            (λ (q : n ≡ 0 → ⊥).
            rule_edges (flag_in l s c j) (edges_to G L (slot_marks D L G) B (shown_by (flag_in l s)) c j) (starts_at G c) room.reached (λ z. q (m.counts D L G t ∙ z)))
            g)
            (get_or-set_same s p (copies + 2) 0 slot_word) refl refl (m.counts D L G t);
      }

  work_kept : (v : ℕ) → WorkKept l s (set s (slot_place l (take l.slots s) c j) v)
  work_kept v i h = get_or-set_other s (slot_place l (take l.slots s) c j) i v 0 (λ e. omega (arith, slot_place_lem))

  -- the base of the copy tells where the slot's flag stands
  pub flag_set : {n : ℕ} → EdgesMeet l s c j n → ((n ≡ 0) × (p1 ≤ p0)) ⊎ (n ≡ 0 → ⊥)
      → SlotShown l s (set s (get_or s (l.base + c) 0 + j) (copies + 2)) c j copies edges (copies + 1) (edges + n)
      × WorkKept l s (set s (get_or s (l.base + c) 0 + j) (copies + 2))
  flag_set {n} m g =
      let here : get_or s (l.base + c) 0 + j ≡ slot_place l (take l.slots s) c j = omega (arith, base_read l s room.ready c (omega (arith, room.copy))) in
      rw here (is_shown n m g, work_kept (copies + 2))

-- slots have places of their own
apart : (l : Layout) (p : List ℕ) (c d i j : ℕ) → i < slots (slots_in l p) d → j < slots (slots_in l p) c → (d ≡ c → i ≡ j → ⊥)
    → slot_place l p d i ≡ slot_place l p c j → ⊥
apart l p c d i j h k f q =
    elim (ℕ_discrete d c) [
      | yes e ↦ f e (omega (arith, ap (slot_base (slots_in l p)) e))
      | no e ↦
          elim (dec_lt d c) [
            | yes a ↦ omega (arith, slots_apart (slots_in l p) d c i j a h)
            | no a ↦ omega (arith, slots_apart (slots_in l p) c d j i (omega arith) k)
          ]
    ]

-- what comes to a slot is the same where the flags of the lower copies are
pub meets_same : (l : Layout) (s t : List ℕ) (c j n : ℕ) → take l.slots t ≡ take l.slots s
    → ((d i : ℕ) → d < c → i < slots (bounds_of l s) d → flag_in l t d i ≡ flag_in l s d i) → EdgesMeet l s c j n → EdgesMeet l t c j n
meets_same l s t c j n q same m =
    record {
      few = m.few;
      counts = λ D L G g.
          let h : Tabled D L G l (take l.slots s) = subst (λ (w : List ℕ). Tabled D L G l w) q g in
          m.counts D L G h
          ∙ sym (edges_same D G L (slot_marks D L G) (bounds_of l s) (setting_of D L G l (take l.slots s) h) (shown_by (flag_in l s)) (shown_by (flag_in l t)) c
          (λ d i a b. ap (ltb 1) (same d i a b)) j)
          ∙ ap (λ (w : List ℕ). edges_to G L (slot_marks D L G) (slots_in l w) (shown_by (flag_in l t)) c j) (sym q);
    }

-- a scratch that is the same up to the tables of work has the same flags
module _ (l : Layout) (s t : List ℕ) (r : Ready l s) (tables : take l.slots t ≡ take l.slots s) (alike : (i : ℕ) → i < l.seen → get_or t i 0 ≡ get_or s i 0) where
  pub flags_alike : (d i : ℕ) → d < l.copies → i < slots (bounds_of l s) d → flag_in l t d i ≡ flag_in l s d i
  flags_alike d i h k =
      ap (λ (w : List ℕ). get_or t (slot_place l w d i) 0) tables ∙ alike (slot_place l (take l.slots s) d i) (place_inside l s r d i h k)

  pub meets_alike : (c j n : ℕ) → c < l.copies → EdgesMeet l s c j n → EdgesMeet l t c j n
  meets_alike c j n h m = meets_same l s t c j n tables (λ d i a b. flags_alike d i (omega arith) b) m

  pub meets_back : (c j n : ℕ) → c < l.copies → EdgesMeet l t c j n → EdgesMeet l s c j n
  meets_back c j n h m =
      meets_same l t s c j n (sym tables)
      (λ d i a b. sym (flags_alike d i (omega arith) (subst (λ (w : List ℕ). i < slots (slots_in l w) d) tables b))) m

  -- so a slot is shown from one as from the other
  pub slot_after : (u : List ℕ) (c j copies edges more links : ℕ) → length t ≡ length s → c < l.copies → j < slots (bounds_of l s) c
      → SlotShown l t u c j copies edges more links → SlotShown l s u c j copies edges more links
  slot_after u c j copies edges more links size h k y =
      record {
        size = y.size ∙ size;
        tables = y.tables ∙ tables;
        others = λ i a f. y.others i a (subst (λ (w : List ℕ). i ≡ slot_place l w c j → ⊥) (sym tables) f) ∙ alike i a;
        few_copies = y.few_copies;
        few_edges = y.few_edges;
        meets = λ D L G g.
            let S = setting_of D L G l (take l.slots s) g in
            let B = bounds_of l s in
            let low : (d i : ℕ) → d < c → i < slots B d → shown_by (flag_in l t) d i ≡ shown_by (flag_in l s) d i = λ d i a b. ap (ltb 1) (flags_alike d i (omega arith) b) in
            rule_same G L (slot_marks D L G) B (flag_in l t) c j copies edges (flag_in l s) (get_or u (slot_place l (take l.slots s) c j) 0) more links
            (flags_alike c j h k)
            (shows_same D G L (slot_marks D L G) B S (shown_by (flag_in l s)) (shown_by (flag_in l t)) c low (reached_by (flag_in l s)) (reached_by (flag_in l t)) j
            (ap (ltb 0) (flags_alike c j h k)))
            (edges_same D G L (slot_marks D L G) B S (shown_by (flag_in l s)) (shown_by (flag_in l t)) c low j)
            (subst (λ (w : List ℕ). SlotRule G L (slot_marks D L G) (slots_in l w) (flag_in l t) (get_or u (slot_place l w c j) 0) c j copies edges more links) tables
            (y.meets D L G (subst (λ (w : List ℕ). Tabled D L G l w) (sym tables) g)));
      }

-- and what changes in the tables of work afterwards is nothing to it
pub slot_before : (l : Layout) (s t u : List ℕ) (c j copies edges more links : ℕ) → Ready l s → c < l.copies → j < slots (bounds_of l s) c
    → length u ≡ length t → take l.slots u ≡ take l.slots t → ((i : ℕ) → i < l.seen → get_or u i 0 ≡ get_or t i 0)
    → SlotShown l s t c j copies edges more links → SlotShown l s u c j copies edges more links
slot_before l s t u c j copies edges more links r h k size tables alike y =
    record {
      size = size ∙ y.size;
      tables = tables ∙ y.tables;
      others = λ i a f. alike i a ∙ y.others i a f;
      few_copies = y.few_copies;
      few_edges = y.few_edges;
      meets = λ D L G g.
          subst (λ (v : ℕ). SlotRule G L (slot_marks D L G) (bounds_of l s) (flag_in l s) v c j copies edges more links)
          (sym (alike (slot_place l (take l.slots s) c j) (place_inside l s r c j h k))) (y.meets D L G g);
    }

-- what comes to a slot of the copy is the same after one of its slots is shown or not
module _ (l : Layout) (s t : List ℕ) (c j copies edges more links : ℕ) (r : Ready l s) (copy : c < l.copies) (slot : j < slots (bounds_of l s) c)
    (y : SlotShown l s t c j copies edges more links) where
  pub flags_other : (d i : ℕ) → d < l.copies → i < slots (bounds_of l s) d → (d ≡ c → i ≡ j → ⊥) → flag_in l t d i ≡ flag_in l s d i
  flags_other d i h k f =
      ap (λ (w : List ℕ). get_or t (slot_place l w d i) 0) y.tables
      ∙ y.others (slot_place l (take l.slots s) d i) (place_inside l s r d i h k) (apart l (take l.slots s) c d i j k slot f)

  pub meets_shown : (i n : ℕ) → EdgesMeet l s c i n → EdgesMeet l t c i n
  meets_shown i n m = meets_same l s t c i n y.tables (λ d i a b. flags_other d i (omega arith) b (λ p q. omega arith)) m

module _ {l : Layout} {s t : List ℕ} {c copies edges : ℕ} where
  -- one slot more
  pub to_slot : {u : List ℕ} {j more links most all : ℕ} → Ready l s → c < l.copies → j < slots (bounds_of l s) c
      → PassedTo l s t c copies edges c j more links
      → SlotShown l t u c j more links most all
      → PassedTo l s u c copies edges c (j + 1) most all
  to_slot {u} {j} {more} {links} {most} {all} ready inside slot x y =
      let here : j < slots (bounds_of l t) c = subst (λ (p : List ℕ). j < slots (slots_in l p) c) (sym x.tables) slot in
      record {
        size = y.size ∙ x.size;
        tables = y.tables ∙ x.tables;
        few_copies = omega (arith, x.few_copies, y.few_copies);
        few_edges = y.few_edges;
        meets = λ D L G g first p.
            let h : Tabled D L G l (take l.slots t) = subst (λ (w : List ℕ). Tabled D L G l w) (sym x.tables) g in
            let n : suc j ≡ j + 1 = omega arith in
            let z : Passed G L (slot_marks D L G) (bounds_of l t) first (flag_in l t) c j more links =
            subst (λ (w : List ℕ). Passed G L (slot_marks D L G) (slots_in l w) first (flag_in l t) c j more links) (sym x.tables) (x.meets D L G g first p) in
            let rule = y.meets D L G h in
            subst (λ (w : List ℕ). Passed G L (slot_marks D L G) (slots_in l w) first (flag_in l u) c (j + 1) most all) x.tables
            (subst (λ (k : ℕ). Passed G L (slot_marks D L G) (bounds_of l t) first (flag_in l u) c k most all) n
            (pass_slot D G L (slot_marks D L G) (bounds_of l t) (setting_of D L G l (take l.slots t) h) first (flag_in l t) (flag_in l u) c j more links
            (omega (arith, g.copies)) here z most all
            (λ d i a b f. flags_other l t u c j more links most all (ready_same l s t x.size x.tables ready) inside here y d i (omega (arith, a, g.copies)) b f)
            (ap (λ (w : List ℕ). get_or u (slot_place l w c j) 0) y.tables ∙ rule.flag_is)
            rule.more_is rule.links_is));
      }

  -- one copy more
  pub to_copy : {j more links : ℕ} → j ≡ slots (bounds_of l s) c → PassedTo l s t c copies edges c j more links
      → PassedTo l s t c copies edges (c + 1) 0 more links
  to_copy {j} {more} {links} e x =
      let n : suc c ≡ c + 1 = omega arith in
      record {
        size = x.size;
        tables = x.tables;
        few_copies = omega (arith, x.few_copies, base_next (bounds_of l s) c, ap (slot_base (bounds_of l s)) n);
        few_edges = x.few_edges;
        meets = λ D L G g first p.
            subst (λ (k : ℕ). Passed G L (slot_marks D L G) (bounds_of l s) first (flag_in l t) k 0 more links) n
            (pass_copy D G L (slot_marks D L G) (bounds_of l s) (setting_of D L G l (take l.slots s) g) first (flag_in l t) c more links
            (subst (λ (k : ℕ). Passed G L (slot_marks D L G) (bounds_of l s) first (flag_in l t) c k more links) e (x.meets D L G g first p)));
      }

-- at the end
module _ {l : Layout} {s t : List ℕ} {c copies edges : ℕ} (e : c ≡ l.copies) (x : PassedTo l s t 0 0 0 c 0 copies edges) where
  abbrev LowFlags : Type 0
  LowFlags = (c j : ℕ) → c < l.copies → j < slots (bounds_of l s) c → flag_in l s c j ≤ 1

  passed_all : (D : Design) (L : PathList) (G : Graph) → Tabled D L G l (take l.slots s) → LowFlags
      → Passed G L (slot_marks D L G) (bounds_of l s) (flag_in l s) (flag_in l t) (length G.nodes) 0 copies edges
  passed_all D L G g low =
      let marks = slot_marks D L G in
      let B = bounds_of l s in
      let S = setting_of D L G l (take l.slots s) g in
      subst (λ (k : ℕ). Passed G L marks B (flag_in l s) (flag_in l t) k 0 copies edges) (e ∙ sym g.copies)
      (x.meets D L G g (flag_in l s) (pass_start D G L marks B S (flag_in l s) (λ d i h k. low d i (omega (arith, g.copies)) k)))

  pub to_all : AllShown l s t copies edges
  to_all =
      record {
        size = x.size;
        tables = x.tables;
        few_copies = omega (arith, x.few_copies, ap (slot_base (bounds_of l s)) e);
        few_edges = x.few_edges;
        passed = passed_all;
        meets = λ D L G g low.
            let marks = slot_marks D L G in
            let B = bounds_of l s in
            let S = setting_of D L G l (take l.slots s) g in
            let p = passed_all D L G g low in
            record {
              numbers = end_numbers D G L marks B S (flag_in l s) (flag_in l t) copies edges p;
              copies_are = end_copies D G L marks B S (flag_in l s) (flag_in l t) copies edges p;
              edges_are = end_edges D G L marks B S (flag_in l s) (flag_in l t) copies edges p;
            };
        rows = λ D L G g low reached c h.
            end_rows D G L (slot_marks D L G) (bounds_of l s) (setting_of D L G l (take l.slots s) g) (flag_in l s) (flag_in l t) copies edges (passed_all D L G g low)
            (λ d k. reached d (omega (arith, g.copies))) c (omega (arith, g.copies));
      }

-- what the next slot and the next copy ask
module _ {l : Layout} {s t : List ℕ} {c copies edges d j more links : ℕ} (x : PassedTo l s t c copies edges d j more links) where
  pub to_next : (more ≤ slot_base (bounds_of l t) d + j) × (links ≤ more * 65536)
  to_next = (subst (λ (p : List ℕ). more ≤ slot_base (slots_in l p) d + j) (sym x.tables) x.few_copies, x.few_edges)
