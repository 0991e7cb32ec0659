-- What the tables hold while the slots are flagged. The tables that do not change any more stand in the words below `slots`: `p` is these words. After
-- the slots stand the tables that the passes work in.
use Rattle.std.specs.Prelude.{ℕ, zero, suc, ◌+◌, ◌-◌, ◌≤◌, ◌<◌, ◌≡◌, cond, List, map, length, get_or, take}
use Rattle.timing.specs.Lists.{upto}
use Rattle.timing.specs.Graphs.{Design, Edge, edge, Graph, edges_in, node_of}
use Rattle.timing.specs.Marks.{PathList, paths_of}
use Rattle.theorems.proofs.Legal.{Legal}
use Rattle.theorems.proofs.Tested.{ListFits}
use Rattle.removal.specs.Tables.{list_words, marks_below, Automaton}
use Rattle.removal.specs.declared.rows.Layout.{Layout}
use Rattle.removal.specs.Slots.{slot_base, slot_marks, slots_of, dead_along, start_slot}

-- how many slots each copy has, as the tables say: one for the empty mark, whatever the words are, and the others up to the next base
abbrev pub slots_in : Layout → List ℕ → ℕ → ℕ
slots_in l p c = suc (get_or p (l.base + suc c) 0 - suc (get_or p (l.base + c) 0))

-- where slot j of copy c stands in the scratch, and what it holds
abbrev pub slot_place : Layout → List ℕ → ℕ → ℕ → ℕ
slot_place l p c j = l.slots + slot_base (slots_in l p) c + j

abbrev pub flag_in : Layout → List ℕ → ℕ → ℕ → ℕ
flag_in l s c j = get_or s (slot_place l (take l.slots s) c j) 0

-- the place that stands for what is dead: it is no slot's, and 0 stands there, as at a slot that is not reached
abbrev pub dead_place : Layout → ℕ
dead_place l = l.lists.loc

-- the edges into copy c have these numbers: from here on, and before there
abbrev pub run_from : Layout → List ℕ → ℕ → ℕ
run_from l p zero = 0
run_from l p (suc c) = get_or p (l.into + c) 0

abbrev pub run_to : Layout → List ℕ → ℕ → ℕ
run_to l p c = get_or p (l.into + c) 0

abbrev pub run : Layout → List ℕ → ℕ → List ℕ
run l p c = upto (run_to l p c - run_from l p c) (run_from l p c)

pub record InRun (l : Layout) (p : List ℕ) (c q : ℕ) : Type 0 where
  pub from : run_from l p c ≤ q
  pub to : q < run_to l p c

-- edge q: the copy where it starts, the design edge that it names, and where the empty mark at its end leads; and as an edge into copy c
abbrev pub start_in : Layout → List ℕ → ℕ → ℕ
start_in l p q = get_or p (l.start + q) 0

abbrev pub name_in : Layout → List ℕ → ℕ → ℕ
name_in l p q = get_or p (l.name + q) 0

abbrev pub default_in : Layout → List ℕ → ℕ → ℕ
default_in l p q = get_or p (l.default + q) 0

abbrev pub edge_in : Layout → List ℕ → ℕ → ℕ → Edge
edge_in l p c q = edge (start_in l p q) c (name_in l p q)

-- The place to which edge q leads from slot j of copy c, its end: of the slot at its start with the mark of the edge and slot j's mark, or
-- the dead place where these begin with a listed path.
unfoldable pub target : Design → PathList → Graph → Layout → List ℕ → ℕ → ℕ → ℕ → ℕ
target D L G l p c j q =
    cond (dead_along L (slot_marks D L G) (slots_in l p) c j (edge_in l p c q)) (dead_place l)
    (slot_place l p (start_in l p q) (start_slot L (slot_marks D L G) (slots_in l p) c j (edge_in l p c q)))

-- the tables stand one after the other, and the slots after them
pub record Laid (l : Layout) (p : List ℕ) : Type 0 where
  pub list : list_words l.lists.edges ≤ l.first
  pub first : l.first + l.copies ≤ l.base
  pub base : l.base + suc l.copies ≤ l.into
  pub into : l.into + l.copies ≤ l.start
  pub start : l.start + l.edges ≤ l.name
  pub name : l.name + l.edges ≤ l.default
  pub default : l.default + l.edges ≤ l.slots
  pub size : length p ≡ l.slots

-- the tables are those of a design, a list and a graph
pub record Tabled (D : Design) (L : PathList) (G : Graph) (l : Layout) (p : List ℕ) : Type 0 where
  pub legal : Legal D G
  pub fits : ListFits D L
  pub copies : length G.nodes ≡ l.copies
  pub few_copies : l.copies ≤ 16384
  pub few_edges : l.edges ≤ 65536
  pub few_nodes : (c : ℕ) → c < l.copies → node_of G c < 4096
  pub laid : Laid l p
  pub automaton : Automaton D.starts (paths_of L) l.lists p
  pub firsts : (c : ℕ) → c < l.copies → get_or p (l.first + c) 0 ≡ marks_below D.starts (paths_of L) (node_of G c)
  pub slots_are : (c : ℕ) → c < l.copies → slots_in l p c ≡ slots_of D L G c
  pub bases : (c : ℕ) → c ≤ l.copies → get_or p (l.base + c) 0 ≡ l.slots + slot_base (slots_in l p) c
  pub up : (c : ℕ) → c < l.copies → run_from l p c ≤ run_to l p c
  pub within : (c : ℕ) → c < l.copies → run_to l p c ≤ l.edges
  pub into : (c : ℕ) → c < l.copies → edges_in G c ≡ map (edge_in l p c) (run l p c)
  pub rises : (c : ℕ) → c < l.copies → (a b : ℕ) → InRun l p c a → InRun l p c b → a < b → name_in l p a < name_in l p b
  pub defaults : (c : ℕ) → c < l.copies → (q : ℕ) → InRun l p c q → default_in l p q ≡ target D L G l p c 0 q

-- the tables that the passes work in stand after the slots, in a scratch of so many words
pub record WorkLaid (l : Layout) (p : List ℕ) (words : ℕ) : Type 0 where
  pub slots : l.slots + slot_base (slots_in l p) l.copies ≤ l.seen
  pub seen : l.seen + l.edges ≤ l.cover
  pub cover : l.cover + l.edges ≤ l.patch
  pub patch : l.patch + l.edges ≤ l.lead
  pub lead : l.lead + l.edges ≤ l.comes
  pub comes : l.comes + l.edges ≤ words

-- and the scratch has room for all of it; the places of slots, and the numbers in them, are numbers of 32 bits
pub record Ready (l : Layout) (s : List ℕ) : Type 0 where
  pub design : Design
  pub list : PathList
  pub graph : Graph
  pub tabled : Tabled design list graph l (take l.slots s)
  pub work : WorkLaid l (take l.slots s) (length s)
  pub few : l.slots + slot_base (slots_in l (take l.slots s)) l.copies + 2 < 4294967296

-- no edge is seen: no patches are being collected
abbrev pub Idle : Layout → List ℕ → Type 0
Idle l s = (q : ℕ) → q < l.edges → get_or s (l.seen + q) 0 ≡ 0
