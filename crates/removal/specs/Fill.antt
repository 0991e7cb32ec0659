-- Pass 3 over the slots: it shows them as pass 2 does, and writes those that are shown to the room, as the copies of the result, with the edges that come to them
-- from shown slots.
use Rattle.std.specs.Prelude.{ℕ, suc, ◌+◌, ◌-◌, ◌*◌, ◌≤◌, ◌<◌, ◌≡◌, Bool, cond, ltb, length, get_or, take, set}
use mathlib.Core.List.{List, [], ◌∷◌, map, flat_map}
use Rattle.timing.specs.Lists.{placed, keep, upto}
use Rattle.timing.specs.Graphs.{Design, Edge, edge, Graph, edges_in}
use Rattle.timing.specs.Marks.{PathList, paths_of}
use Rattle.timing.specs.TrueGraphs.{true_graph}
use Rattle.removal.specs.declared.rows.Layout.{Layout}
use Rattle.removal.specs.Slots.{slots, slot_base, slot_marks, start_slot}
use Rattle.removal.specs.Flags.{ReachedRow}
use Rattle.removal.specs.Rows.{slots_in, Tabled, Ready, Idle, InRun, run_from, run_to, default_in, slot_place, flag_in}
use Rattle.removal.specs.Patches.{NamesIn, Noted, patch_at, Patched}
use Rattle.removal.specs.Edges.{EdgesInto}
use Rattle.removal.specs.Result.{Slot, slot_at, slot_endpoint, slot_edges, shown_slots, shown_in, shown_below}
use Rattle.removal.specs.Show.{from_shown, start_flag, reached_by, shown_by, edges_to, finally, edges_before, Passed, EdgesMeet}

-- a list written into a room from place k on
abbrev pub put : ℕ → List ℕ → List ℕ → List ℕ
put k [] room = room
put k (x ∷ xs) room = put (suc k) xs (set room k x)

-- edges are written from place k on, and r is the next place
pub record Edged (es : List Edge) (k : ℕ) (room-from room-to room-via room-from' room-to' room-via' : List ℕ) (r : ℕ) : Type 0 where
  pub starts : room-from' ≡ put k (map (λ (e : Edge). e.start) es) room-from
  pub ends : room-to' ≡ put k (map (λ (e : Edge). e.end) es) room-to
  pub names : room-via' ≡ put k (map (λ (e : Edge). e.name) es) room-via
  pub next : r ≡ k + length es

-- the three rooms of edges are equally long, and so are the two of copies
abbrev pub SameRooms : List ℕ → List ℕ → List ℕ → Type 0
SameRooms room-from room-to room-via = (length room-to ≡ length room-from) × (length room-via ≡ length room-from)

abbrev pub RoomsAlike : List ℕ → List ℕ → List ℕ → List ℕ → List ℕ → Type 0
RoomsAlike room-nodes room-endpoint room-from room-to room-via = (length room-endpoint ≡ length room-nodes) × SameRooms room-from room-to room-via

-- The row at hand: for each edge into a copy the flag from which it comes.

-- a flag where its slot is shown, and else 0
abbrev pub shown_flag : ℕ → ℕ
shown_flag v = cond (ltb 1 v) v 0

-- the flag from which edge q comes
abbrev pub comes_at : Layout → List ℕ → ℕ → ℕ
comes_at l s q = get_or s (l.comes + q) 0

-- what writing n flags to the row asks, where flag i is that of the slot at place w i, and is written for edge e i
pub record RowRoom (l : Layout) (s : List ℕ) (n : ℕ) (e w : ℕ → ℕ) : Type 0 where
  pub slots : l.slots ≤ l.comes
  pub default : l.default + l.edges ≤ l.comes
  pub patch : l.patch + l.edges ≤ l.comes
  pub lead : l.lead + l.edges ≤ l.comes
  pub comes : l.comes + l.edges ≤ length s
  pub few : n ≤ l.edges
  pub edges : (i : ℕ) → i < n → e i < l.edges
  pub places : (i : ℕ) → i < n → w i < l.comes
  pub apart : (i h : ℕ) → i < h → h < n → e i ≡ e h → ⊥

-- and what it leaves
pub record RowWritten (l : Layout) (s t : List ℕ) (n : ℕ) (e w : ℕ → ℕ) : Type 0 where
  pub size : length t ≡ length s
  pub tables : take l.slots t ≡ take l.slots s
  pub below : (i : ℕ) → i < l.comes → get_or t i 0 ≡ get_or s i 0
  pub new : (i : ℕ) → i < n → comes_at l t (e i) ≡ shown_flag (get_or s (w i) 0)
  pub rest : (q : ℕ) → ((i : ℕ) → i < n → e i ≡ q → ⊥) → comes_at l t q ≡ comes_at l s q

-- the places of the flags: those of the defaults from p0 on, those to which patches lead, and their defaults
abbrev pub default_from : Layout → List ℕ → ℕ → ℕ → ℕ
default_from l s p0 i = get_or s (l.default + (p0 + i)) 0

abbrev pub default_at : Layout → List ℕ → ℕ → ℕ
default_at l s i = get_or s (l.default + patch_at l s i) 0

-- the edges of the row at hand, into a copy of the result with this number
abbrev pub row_edge : Layout → List ℕ → ℕ → ℕ → Edge
row_edge l s number q = edge (comes_at l s q - 2) number (get_or s (l.name + q) 0)

abbrev pub row_edges : Layout → List ℕ → ℕ → List ℕ → List Edge
row_edges l s number qs = map (row_edge l s number) (keep (λ q. ltb 0 (comes_at l s q)) qs)

-- what writing them asks
pub record RowRead (l : Layout) (s : List ℕ) (p0 p1 number : ℕ) (room-from room-to room-via : List ℕ) (k : ℕ) : Type 0 where
  pub name : l.name + l.edges ≤ length s
  pub comes : l.comes + l.edges ≤ length s
  pub up : p0 ≤ p1
  pub within : p1 ≤ l.edges
  pub two : (q : ℕ) → p0 ≤ q → q < p1 → (comes_at l s q ≡ 0 → ⊥) → 2 ≤ comes_at l s q
  pub same : SameRooms room-from room-to room-via
  pub fit : k + length (row_edges l s number (upto (p1 - p0) p0)) ≤ length room-from

-- every edge of the row comes from a shown slot
abbrev pub RowFull : Layout → List ℕ → ℕ → ℕ → Type 0
RowFull l s p0 p1 = (q : ℕ) → p0 ≤ q → q < p1 → comes_at l s q ≡ 0 → ⊥

-- the row of slot 0 of copy c is at hand
abbrev pub RowLoaded : Layout → List ℕ → ℕ → Type 0
RowLoaded l s c = (q : ℕ) → InRun l (take l.slots s) c q → comes_at l s q ≡ shown_flag (get_or s (default_in l (take l.slots s) q) 0)

-- What writing the edges into slot j of copy c asks: the row of slot 0 is at hand, the patches of slot j are collected, and there is room.
pub record EdgesRoom (l : Layout) (s : List ℕ) (c j p0 p1 patches : ℕ) (room-from room-to room-via : List ℕ) (k : ℕ) : Type 0 where
  pub ready : Ready l s
  pub copy : c < l.copies
  pub from : p0 ≡ run_from l (take l.slots s) c
  pub to : p1 ≡ run_to l (take l.slots s) c
  pub patched : Patched l (take l.slots s) s c j patches
  pub loaded : RowLoaded l s c
  pub same : SameRooms room-from room-to room-via
  pub fit : k + edges_to ready.graph ready.list (slot_marks ready.design ready.list ready.graph) (slots_in l (take l.slots s)) (shown_by (flag_in l s)) c j ≤ length room-from

-- the edges into a slot from shown slots, by the flags of these
abbrev pub flag_edges : Graph → PathList → (ℕ → ℕ → List ℕ) → (ℕ → ℕ) → (ℕ → ℕ → ℕ) → ℕ → ℕ → ℕ → List Edge
flag_edges G L marks B flags c j number =
    map (λ (e : Edge). edge (start_flag L marks B flags c j e - 2) number e.name) (keep (from_shown L marks B (shown_by flags) c j) (edges_in G c))

-- they are written, and the row is as before
pub record EdgesFilled (l : Layout) (s t : List ℕ) (c j number : ℕ) (room-from room-to room-via room-from' room-to' room-via' : List ℕ) (k : ℕ) : Type 0 where
  pub size : length t ≡ length s
  pub tables : take l.slots t ≡ take l.slots s
  pub below : (i : ℕ) → i < l.comes → get_or t i 0 ≡ get_or s i 0
  pub comes : (q : ℕ) → InRun l (take l.slots s) c q → comes_at l t q ≡ comes_at l s q
  pub written : (D : Design) (L : PathList) (G : Graph) → Tabled D L G l (take l.slots s)
      → Edged (flag_edges G L (slot_marks D L G) (slots_in l (take l.slots s)) (flag_in l s) c j number) k room-from room-to room-via room-from' room-to' room-via'
      (k + edges_to G L (slot_marks D L G) (slots_in l (take l.slots s)) (shown_by (flag_in l s)) c j)

-- some slots are written, with the edges into them: their numbers begin at `copies`, and those of their edges at `edges`
pub record SlotsWritten (G : Graph) (L : PathList) (marks : ℕ → ℕ → List ℕ) (B : ℕ → ℕ) (shown : ℕ → ℕ → Bool) (nodes endpoint : List ℕ) (which : List Slot) (copies edges more links : ℕ)
    (room-nodes room-endpoint room-from room-to room-via room-nodes' room-endpoint' room-from' room-to' room-via' : List ℕ) : Type 0 where
  pub nodes_put : room-nodes' ≡ put copies (map (λ (s : Slot). get_or nodes s.copy 0) which) room-nodes
  pub endpoints_put : room-endpoint' ≡ put copies (map (slot_endpoint endpoint) which) room-endpoint
  pub edges_put : Edged (flat_map (slot_edges B shown (edges_in G) (from_shown L marks B shown) (start_slot L marks B)) which) edges room-from room-to room-via room-from' room-to' room-via' links
  pub next : more ≡ copies + length which

-- the pass has gone from slot j of copy c to slot i of copy d, and has written `which` of them
pub record Filled (l : Layout) (nodes endpoint s t : List ℕ) (c j copies edges d i more links : ℕ) (which : (ℕ → ℕ → Bool) → List Slot)
    (room-nodes room-endpoint room-from room-to room-via room-nodes' room-endpoint' room-from' room-to' room-via' : List ℕ) : Type 0 where
  pub size : length t ≡ length s
  pub tables : take l.slots t ≡ take l.slots s
  pub idle : Idle l t
  pub few_copies : more ≤ slot_base (slots_in l (take l.slots s)) d + i
  pub few_edges : links ≤ more * 65536
  pub written : (D : Design) (L : PathList) (G : Graph) → Tabled D L G l (take l.slots s) → (first : ℕ → ℕ → ℕ)
      → Passed G L (slot_marks D L G) (slots_in l (take l.slots s)) first (flag_in l s) c j copies edges
      → Passed G L (slot_marks D L G) (slots_in l (take l.slots s)) first (flag_in l t) d i more links
      × SlotsWritten G L (slot_marks D L G) (slots_in l (take l.slots s)) (finally G L (slot_marks D L G) (slots_in l (take l.slots s)) (reached_by first)) nodes endpoint
      (which (finally G L (slot_marks D L G) (slots_in l (take l.slots s)) (reached_by first))) copies edges more links
      room-nodes room-endpoint room-from room-to room-via room-nodes' room-endpoint' room-from' room-to' room-via'

-- the slots of copy c below n; all below copy n; and one slot
abbrev pub slots_to : ℕ → ℕ → (ℕ → ℕ → Bool) → List Slot
slots_to c n shown = shown_in shown c n

abbrev pub slots_below : Layout → List ℕ → ℕ → (ℕ → ℕ → Bool) → List Slot
slots_below l s n shown = shown_below (slots_in l (take l.slots s)) shown n

abbrev pub one_slot : ℕ → ℕ → (ℕ → ℕ → Bool) → List Slot
one_slot c j shown = cond (shown c j) (slot_at c j ∷ []) []

-- The pass stands at slot j of copy c: the flags have come there from the flags `first`, and there is room for all that will be shown.
pub record Filling (l : Layout) (nodes endpoint s : List ℕ) (names-below : ℕ) (room-nodes room-endpoint room-from room-to room-via : List ℕ) (c j copies edges : ℕ) : Type 0 where
  pub ready : Ready l s
  pub idle : Idle l s
  pub names : NamesIn l s names-below
  pub nodes_size : length nodes ≡ l.copies
  pub endpoint_size : length endpoint ≡ l.copies
  pub same : RoomsAlike room-nodes room-endpoint room-from room-to room-via
  pub few_copies : copies ≤ slot_base (slots_in l (take l.slots s)) c + j
  pub few_edges : edges ≤ copies * 65536
  pub first : ℕ → ℕ → ℕ
  pub passed : (D : Design) (L : PathList) (G : Graph) → Tabled D L G l (take l.slots s)
      → Passed G L (slot_marks D L G) (slots_in l (take l.slots s)) first (flag_in l s) c j copies edges
  pub fits : (D : Design) (L : PathList) (G : Graph) → Tabled D L G l (take l.slots s)
      → (length (shown_slots G (slots_in l (take l.slots s)) (finally G L (slot_marks D L G) (slots_in l (take l.slots s)) (reached_by first))) ≤ length room-nodes)
      × (edges_before G L (slot_marks D L G) (slots_in l (take l.slots s)) (finally G L (slot_marks D L G) (slots_in l (take l.slots s)) (reached_by first)) (length G.nodes) 0 ≤ length room-from)

-- the row of slot 0 of copy c is at hand, and so many edges come to it from shown slots
pub record RowHeld (l : Layout) (s pos : List ℕ) (c p0 p1 defaults : ℕ) : Type 0 where
  pub noted : 1 < slots (slots_in l (take l.slots s)) c → Noted l s pos c
  pub copy : c < l.copies
  pub from : p0 ≡ run_from l (take l.slots s) c
  pub to : p1 ≡ run_to l (take l.slots s) c
  pub meets : EdgesMeet l s c 0 defaults
  pub loaded : RowLoaded l s c

-- the flags but that of a slot are as before, and so is the row
pub record RowKept (l : Layout) (s t : List ℕ) (c j : ℕ) : Type 0 where
  pub others : (i : ℕ) → i < l.seen → (i ≡ slot_place l (take l.slots s) c j → ⊥) → get_or t i 0 ≡ get_or s i 0
  pub comes : (q : ℕ) → InRun l (take l.slots s) c q → comes_at l t q ≡ comes_at l s q

-- the flags say what is reached, of a graph with these endpoint numbers, and no more
module _ (l : Layout) (s : List ℕ) where
  abbrev pub LowFlags : Type 0
  LowFlags = (c j : ℕ) → c < l.copies → j < slots (slots_in l (take l.slots s)) c → flag_in l s c j ≤ 1

  unfoldable pub RowsFlagged : List ℕ → Type 0
  RowsFlagged endpoint =
      (D : Design) (L : PathList) (G : Graph) → Tabled D L G l (take l.slots s) → G.endpoints ≡ endpoint
      → (c : ℕ) → c < l.copies → ReachedRow G L (slot_marks D L G) (slots_in l (take l.slots s)) (reached_by (flag_in l s)) c

  -- there is room for all slots that will be shown, and for the edges between them
  unfoldable pub Fits : ℕ → ℕ → Type 0
  Fits copies edges =
      (D : Design) (L : PathList) (G : Graph) → Tabled D L G l (take l.slots s)
      → (length (shown_slots G (slots_in l (take l.slots s)) (finally G L (slot_marks D L G) (slots_in l (take l.slots s)) (reached_by (flag_in l s)))) ≤ copies)
      × (edges_before G L (slot_marks D L G) (slots_in l (take l.slots s)) (finally G L (slot_marks D L G) (slots_in l (take l.slots s)) (reached_by (flag_in l s))) (length G.nodes) 0 ≤ edges)

-- what filling the room asks
pub record Fillable (l : Layout) (nodes endpoint s pos room-nodes room-endpoint room-from room-to room-via : List ℕ) : Type 0 where
  pub ready : Ready l s
  pub idle : Idle l s
  pub names : NamesIn l s (length pos)
  pub nodes_size : length nodes ≡ l.copies
  pub endpoint_size : length endpoint ≡ l.copies
  pub low : LowFlags l s
  pub same : RoomsAlike room-nodes room-endpoint room-from room-to room-via
  pub fits : Fits l s (length room-nodes) (length room-from)

-- the whole result stands at the front of the room
pub record Result (H : Graph) (room-nodes room-endpoint room-from room-to room-via room-nodes' room-endpoint' room-from' room-to' room-via' : List ℕ) : Type 0 where
  pub nodes : room-nodes' ≡ placed H.nodes room-nodes
  pub endpoints : room-endpoint' ≡ placed H.endpoints room-endpoint
  pub starts : room-from' ≡ placed (map (λ (e : Edge). e.start) H.edges) room-from
  pub ends : room-to' ≡ placed (map (λ (e : Edge). e.end) H.edges) room-to
  pub names : room-via' ≡ placed (map (λ (e : Edge). e.name) H.edges) room-via

unfoldable pub ResultFilled : Layout → List ℕ → List ℕ → List ℕ → List ℕ → List ℕ → List ℕ → List ℕ → List ℕ → List ℕ → List ℕ → List ℕ → List ℕ → List ℕ → Type 0
ResultFilled l nodes endpoint s room-nodes room-endpoint room-from room-to room-via room-nodes' room-endpoint' room-from' room-to' room-via' =
    (D : Design) (L : PathList) (G : Graph) → Tabled D L G l (take l.slots s) → G.nodes ≡ nodes → G.endpoints ≡ endpoint → EdgesInto G (edges_in G)
    → Result (true_graph G (paths_of L)) room-nodes room-endpoint room-from room-to room-via room-nodes' room-endpoint' room-from' room-to' room-via'
