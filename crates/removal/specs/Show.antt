-- Pass 2 over the slots: which are shown. A slot that is reached is shown where paths start, and where an edge into its copy
-- comes from a shown slot.
use Rattle.std.specs.Prelude.{ℕ, zero, suc, ◌+◌, ◌*◌, ◌≤◌, ◌<◌, ◌≡◌, Bool, true, false, cond, not, ◌&&◌, ◌||◌, List, ◌++◌, map, ltb, length, get_or, take}
use Rattle.timing.specs.Lists.{one_if, count_of, sum}
use Rattle.timing.specs.Graphs.{Design, Edge, Graph, edges_in, starts_at}
use Rattle.timing.specs.Marks.{PathList}
use Rattle.removal.specs.declared.rows.Layout.{Layout}
use Rattle.removal.specs.Slots.{slots, slot_base, slot_marks, dead_along, start_slot}
use Rattle.removal.specs.Rows.{slots_in, Tabled, Ready, Idle, slot_place, flag_in, run_from, run_to}
use Rattle.removal.specs.Patches.{NamesIn, Noted, Patched, Collected}
use Rattle.removal.specs.Flags.{ReachedRow, ShownRow}
use Rattle.removal.specs.Result.{Slot, shown_in, shown_below, number_of, shown_slots, shown_edges}

module _ (L : PathList) (marks : ℕ → ℕ → List ℕ) (B : ℕ → ℕ) where
  -- whether the slot to which edge e leads from slot j at its end is shown
  unfoldable pub from_shown : (ℕ → ℕ → Bool) → ℕ → ℕ → Edge → Bool
  from_shown shown c j e = not (dead_along L marks B c j e) && shown e.start (start_slot L marks B c j e)

  -- its flag if it is shown, and else 0
  unfoldable pub start_flag : (ℕ → ℕ → ℕ) → ℕ → ℕ → Edge → ℕ
  start_flag flags c j e = cond (dead_along L marks B c j e) 0 (cond (ltb 1 (flags e.start (start_slot L marks B c j e))) (flags e.start (start_slot L marks B c j e)) 0)

-- what the flags say
abbrev pub reached_by : (ℕ → ℕ → ℕ) → ℕ → ℕ → Bool
reached_by flags c j = ltb 0 (flags c j)

abbrev pub shown_by : (ℕ → ℕ → ℕ) → ℕ → ℕ → Bool
shown_by flags c j = ltb 1 (flags c j)

module _ (G : Graph) (L : PathList) (marks : ℕ → ℕ → List ℕ) (B : ℕ → ℕ) where
  -- how many edges come to a slot from shown slots
  abbrev pub edges_to : (ℕ → ℕ → Bool) → ℕ → ℕ → ℕ
  edges_to shown c j = count_of (from_shown L marks B shown c j) (edges_in G c)

  -- whether a slot is shown, by the flags of lower copies
  unfoldable pub shows : (ℕ → ℕ → Bool) → (ℕ → ℕ → Bool) → ℕ → ℕ → Bool
  shows reached shown c j = reached c j && (starts_at G c || ltb 0 (edges_to shown c j))

  -- so which slots are shown, where these are reached: the copies below n first
  unfoldable pub shown_to : (ℕ → ℕ → Bool) → ℕ → ℕ → ℕ → Bool
  shown_to reached zero c j = false
  shown_to reached (suc n) c j = shows reached (shown_to reached n) c j

  abbrev pub finally : (ℕ → ℕ → Bool) → ℕ → ℕ → Bool
  finally reached c j = shown_to reached (suc c) c j

  -- how many edges come to the shown slots before slot j of copy c
  abbrev pub edges_before : (ℕ → ℕ → Bool) → ℕ → ℕ → ℕ
  edges_before shown c j = sum (map (λ (s : Slot). edges_to shown s.copy s.slot) (shown_below B shown c ++ shown_in shown c j))

  -- the flag that a slot gets
  abbrev pub final_flag : (ℕ → ℕ → ℕ) → ℕ → ℕ → ℕ
  final_flag first c j = cond (finally (reached_by first) c j) (2 + number_of B (finally (reached_by first)) c j) (first c j)

  -- the pass has come from the flags `first` to slot j of copy c, with so many copies and edges
  pub record Passed (first flags : ℕ → ℕ → ℕ) (c j copies edges : ℕ) : Type 0 where
    pub low : (d i : ℕ) → d < length G.nodes → i < slots B d → first d i ≤ 1
    pub lower : (d i : ℕ) → d < c → i < slots B d → flags d i ≡ final_flag first d i
    pub here : (i : ℕ) → i < j → i < slots B c → flags c i ≡ final_flag first c i
    pub rest : (i : ℕ) → j ≤ i → c < length G.nodes → i < slots B c → flags c i ≡ first c i
    pub higher : (d i : ℕ) → c < d → d < length G.nodes → i < slots B d → flags d i ≡ first d i
    pub numbered : copies ≡ number_of B (finally (reached_by first)) c j
    pub counted : edges ≡ edges_before (finally (reached_by first)) c j

-- whether the slot at a place is shown
abbrev pub shown_at : List ℕ → ℕ → Bool
shown_at s i = ltb 1 (get_or s i 0)

-- how many edges come to a slot from shown ones
pub record EdgesMeet (l : Layout) (s : List ℕ) (c j r : ℕ) : Type 0 where
  pub few : r ≤ l.edges
  pub counts : (D : Design) (L : PathList) (G : Graph) → Tabled D L G l (take l.slots s)
      → r ≡ edges_to G L (slot_marks D L G) (slots_in l (take l.slots s)) (shown_by (flag_in l s)) c j

-- slot j of copy c, whose edges stand from p0 on and before p1, where so many edges come to slot 0 from shown slots; only a row with
-- patches asks where names stand
pub record RowLent (l : Layout) (s pos : List ℕ) (c j p0 p1 defaults : ℕ) : Type 0 where
  pub ready : Ready l s
  pub idle : Idle l s
  pub names : NamesIn l s (length pos)
  pub noted : 0 < j → Noted l s pos c
  pub copy : c < l.copies
  pub slot : j < slots (slots_in l (take l.slots s)) c
  pub from : p0 ≡ run_from l (take l.slots s) c
  pub to : p1 ≡ run_to l (take l.slots s) c
  pub meets : EdgesMeet l s c 0 defaults

-- the k patches of slot j of copy c are collected, and so many edges come to slot 0 from shown slots
pub record PatchedRow (l : Layout) (s : List ℕ) (c j k defaults : ℕ) : Type 0 where
  pub ready : Ready l s
  pub copy : c < l.copies
  pub patched : Patched l (take l.slots s) s c j k
  pub meets : EdgesMeet l s c 0 defaults

-- the row of slot j of copy c: its patches are collected, and so many edges come to it from shown slots
pub record RowMet (l : Layout) (s t : List ℕ) (c j patches edges : ℕ) : Type 0 where
  pub collected : Collected l s t c j patches
  pub meets : EdgesMeet l s c j edges

-- there is a slot, which is reached, and no more copies and edges so far than the slots before it can have
pub record SlotRoom (l : Layout) (s : List ℕ) (c j p0 p1 copies edges : ℕ) : Type 0 where
  pub ready : Ready l s
  pub copy : c < l.copies
  pub slot : j < slots (slots_in l (take l.slots s)) c
  pub from : p0 ≡ run_from l (take l.slots s) c
  pub to : p1 ≡ run_to l (take l.slots s) c
  pub reached : 0 < flag_in l s c j
  pub few_copies : copies ≤ slot_base (slots_in l (take l.slots s)) c + j
  pub few_edges : edges ≤ copies * 65536

-- a slot gets the next number if it is shown
pub record SlotRule (G : Graph) (L : PathList) (marks : ℕ → ℕ → List ℕ) (B : ℕ → ℕ) (flags : ℕ → ℕ → ℕ) (flag c j copies edges more links : ℕ) : Type 0 where
  pub flag_is : flag ≡ cond (shows G L marks B (reached_by flags) (shown_by flags) c j) (2 + copies) (flags c j)
  pub more_is : more ≡ copies + one_if (shows G L marks B (reached_by flags) (shown_by flags) c j)
  pub links_is : links ≡ edges + cond (shows G L marks B (reached_by flags) (shown_by flags) c j) (edges_to G L marks B (shown_by flags) c j) 0

pub record SlotShown (l : Layout) (s t : List ℕ) (c j copies edges more links : ℕ) : Type 0 where
  pub size : length t ≡ length s
  pub tables : take l.slots t ≡ take l.slots s
  pub others : (i : ℕ) → i < l.seen → (i ≡ slot_place l (take l.slots s) c j → ⊥) → get_or t i 0 ≡ get_or s i 0
  pub few_copies : more ≤ copies + 1
  pub few_edges : links ≤ more * 65536
  pub meets : (D : Design) (L : PathList) (G : Graph) → Tabled D L G l (take l.slots s)
      → SlotRule G L (slot_marks D L G) (slots_in l (take l.slots s)) (flag_in l s) (get_or t (slot_place l (take l.slots s) c j) 0) c j copies edges more links

-- the tables that the passes work in stay
abbrev pub WorkKept : Layout → List ℕ → List ℕ → Type 0
WorkKept l s t = (i : ℕ) → l.seen ≤ i → get_or t i 0 ≡ get_or s i 0

-- the row of a slot is met, and the slot shown or not; no row is at hand any more, and what comes to slot 0 of the copy is the same
pub record RowShown (l : Layout) (s t : List ℕ) (c j defaults copies edges more links : ℕ) : Type 0 where
  pub shown : SlotShown l s t c j copies edges more links
  pub idle : Idle l t
  pub meets : EdgesMeet l t c 0 defaults

-- the pass has gone on over slots, up to slot j of copy d
pub record PassedTo (l : Layout) (s t : List ℕ) (c copies edges d j more links : ℕ) : Type 0 where
  pub size : length t ≡ length s
  pub tables : take l.slots t ≡ take l.slots s
  pub few_copies : more ≤ slot_base (slots_in l (take l.slots s)) d + j
  pub few_edges : links ≤ more * 65536
  pub meets : (D : Design) (L : PathList) (G : Graph) → Tabled D L G l (take l.slots s) → (first : ℕ → ℕ → ℕ)
      → Passed G L (slot_marks D L G) (slots_in l (take l.slots s)) first (flag_in l s) c 0 copies edges
      → Passed G L (slot_marks D L G) (slots_in l (take l.slots s)) first (flag_in l t) d j more links

-- at the end the flags of shown slots are 2 and their numbers; and so many slots are shown, with so many edges between them
pub record ShowsAll (G : Graph) (L : PathList) (marks : ℕ → ℕ → List ℕ) (B : ℕ → ℕ) (flags : ℕ → ℕ → ℕ) (copies edges : ℕ) : Type 0 where
  pub numbers : (c j : ℕ) → c < length G.nodes → j < slots B c → shown_by flags c j ≡ true → flags c j ≡ 2 + number_of B (shown_by flags) c j
  pub copies_are : copies ≡ length (shown_slots G B (shown_by flags))
  pub edges_are : edges ≡ length (shown_edges G B (shown_by flags) (edges_in G) (from_shown L marks B (shown_by flags)) (start_slot L marks B))

-- pass 2 from the flags of s to those of t, where the flags of s are 0 or 1; where they say what is reached, those of t say what paths show
pub record AllShown (l : Layout) (s t : List ℕ) (copies edges : ℕ) : Type 0 where
  pub size : length t ≡ length s
  pub tables : take l.slots t ≡ take l.slots s
  pub few_copies : copies ≤ slot_base (slots_in l (take l.slots s)) l.copies
  pub few_edges : edges ≤ copies * 65536
  pub passed : (D : Design) (L : PathList) (G : Graph) → Tabled D L G l (take l.slots s)
      → ((c j : ℕ) → c < l.copies → j < slots (slots_in l (take l.slots s)) c → flag_in l s c j ≤ 1)
      → Passed G L (slot_marks D L G) (slots_in l (take l.slots s)) (flag_in l s) (flag_in l t) (length G.nodes) 0 copies edges
  pub meets : (D : Design) (L : PathList) (G : Graph) → Tabled D L G l (take l.slots s)
      → ((c j : ℕ) → c < l.copies → j < slots (slots_in l (take l.slots s)) c → flag_in l s c j ≤ 1)
      → ShowsAll G L (slot_marks D L G) (slots_in l (take l.slots s)) (flag_in l t) copies edges
  pub rows : (D : Design) (L : PathList) (G : Graph) → Tabled D L G l (take l.slots s)
      → ((c j : ℕ) → c < l.copies → j < slots (slots_in l (take l.slots s)) c → flag_in l s c j ≤ 1)
      → ((c : ℕ) → c < l.copies → ReachedRow G L (slot_marks D L G) (slots_in l (take l.slots s)) (reached_by (flag_in l s)) c)
      → (c : ℕ) → c < l.copies → ShownRow G L (slot_marks D L G) (slots_in l (take l.slots s)) (shown_by (flag_in l t)) c

-- every flag that is not 0 is 1 again, and nothing else has changed but slots
pub record FlagsReset (l : Layout) (s t : List ℕ) : Type 0 where
  pub size : length t ≡ length s
  pub tables : take l.slots t ≡ take l.slots s
  pub above : (i : ℕ) → l.seen ≤ i → get_or t i 0 ≡ get_or s i 0
  pub flags : (c j : ℕ) → c < l.copies → j < slots (slots_in l (take l.slots s)) c → flag_in l t c j ≡ one_if (ltb 0 (flag_in l s c j))
