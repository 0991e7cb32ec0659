-- Where the tables are put, what filling them asks, and what it gives.
use Rattle.std.specs.Prelude.{ℕ, suc, ◌+◌, ◌-◌, ◌*◌, ◌≤◌, ◌<◌, ◌≡◌, List, length, get_or, take}
use Rattle.timing.specs.Graphs.{Design, Graph, edges_of, edges_in}
use Rattle.timing.specs.Marks.{PathList, path_list}
use Rattle.timing.specs.Tests.{candidates}
use Rattle.theorems.proofs.Legal.{Legal}
use Rattle.theorems.proofs.Tested.{ListFits}
use Rattle.removal.specs.Table.{Frame}
use Rattle.removal.specs.Tables.{Laid as LaidLists}
use Rattle.removal.specs.declared.rows.Layout.{Layout}
use Rattle.removal.specs.Slots.{slot_base}
use Rattle.removal.specs.Rows.{Tabled, Ready, Idle}
use Rattle.removal.specs.Patches.{NamesIn}
use Rattle.removal.specs.Reach.{AllZero, Uncovered}
use Rattle.removal.specs.Edges.{EdgesInto}

-- the words that the tables for c copies, e edges and n listed edges take before the slots, and after them
abbrev pub table_words : ℕ → ℕ → ℕ → ℕ
table_words c e n = 6 * n + 3 * c + 3 * e + 4

abbrev pub work_words : ℕ → ℕ
work_words e = 5 * e

-- these tables one after the other, with room for k slots between
pub record LaidOut (c e n k : ℕ) (l : Layout) : Type 0 where
  pub copies : l.copies ≡ c
  pub edges : l.edges ≡ e
  pub list_edges : l.lists.edges ≡ n
  pub lists : LaidLists l.lists
  pub first : l.first ≡ 6 * n + 3
  pub base : l.base ≡ 6 * n + c + 3
  pub into : l.into ≡ 6 * n + 2 * c + 4
  pub start : l.start ≡ 6 * n + 3 * c + 4
  pub name : l.name ≡ 6 * n + 3 * c + e + 4
  pub default : l.default ≡ 6 * n + 3 * c + 2 * e + 4
  pub slots : l.slots ≡ table_words c e n
  pub seen : l.seen ≡ table_words c e n + k
  pub cover : l.cover ≡ table_words c e n + k + e
  pub patch : l.patch ≡ table_words c e n + k + 2 * e
  pub lead : l.lead ≡ table_words c e n + k + 3 * e
  pub comes : l.comes ≡ table_words c e n + k + 4 * e

-- the slots of each copy, by how many marks there are at the nodes below each
abbrev pub slots_from : List ℕ → List ℕ → ℕ → ℕ
slots_from firsts nodes c = suc (get_or firsts (suc (get_or nodes c 0)) 0 - get_or firsts (get_or nodes c 0) 0)

-- what filling in the bases asks, and what it gives
pub record Baseable (l : Layout) (nodes firsts s : List ℕ) : Type 0 where
  pub copies : l.copies ≡ length nodes
  pub base : l.base ≡ l.first + l.copies
  pub room : l.base + suc l.copies ≤ length s
  pub few_copies : length nodes ≤ 16384
  pub few_words : l.slots ≤ 1000000
  pub size : length firsts ≡ 4097
  pub nodes_below : (c : ℕ) → c < length nodes → get_or nodes c 0 < 4096
  pub rises : (v : ℕ) → v < 4096 → get_or firsts v 0 ≤ get_or firsts (suc v) 0
  pub few : (v : ℕ) → v ≤ 4096 → get_or firsts v 0 ≤ 16384

pub record Based (l : Layout) (nodes firsts s t : List ℕ) : Type 0 where
  pub frame : Frame s t l.first (l.copies + suc l.copies)
  pub firsts_are : (c : ℕ) → c < l.copies → get_or t (l.first + c) 0 ≡ get_or firsts (get_or nodes c 0) 0
  pub bases : (c : ℕ) → c ≤ l.copies → get_or t (l.base + c) 0 ≡ l.slots + slot_base (slots_from firsts nodes) c

-- what the lent slices are: a design's starts, a list that fits it, and a legal graph of it, all small enough
pub record Given (D : Design) (L : PathList) (G : Graph) (starts listed lengths nodes from to via : List ℕ) : Type 0 where
  pub legal : Legal D G
  pub fits : ListFits D L
  pub design : D.starts ≡ starts
  pub list : L ≡ path_list listed lengths
  pub copies : G.nodes ≡ nodes
  pub edges : G.edges ≡ edges_of from to via
  pub ends : length to ≡ length from
  pub names : length via ≡ length from
  pub few_copies : length nodes ≤ 16384
  pub few_edges : length from ≤ 65536
  pub into : EdgesInto G (edges_in G)

-- they are this of some design, and the tables fit the scratch, with a slot for each candidate
pub record Buildable (starts listed lengths nodes from to via : List ℕ) (k : ℕ) (s : List ℕ) : Type 0 where
  pub design : Design
  pub list : PathList
  pub graph : Graph
  pub given : Given design list graph starts listed lengths nodes from to via
  pub starts_below : (k : ℕ) → get_or starts k 0 < 4096
  pub nodes_below : (c : ℕ) → c < length nodes → get_or nodes c 0 < 4096
  pub edges_below : length starts ≤ 16384
  pub counted : k ≡ candidates design graph list
  pub room : table_words (length nodes) (length from) (length listed) + k + work_words (length from) ≤ length s

-- the tables are filled for whatever design the slices are given of, no slot is flagged, and no row is at hand
pub record Built (starts listed lengths nodes from to via : List ℕ) (k : ℕ) (s t : List ℕ) (l : Layout) : Type 0 where
  pub size : length t ≡ length s
  pub laid : LaidOut (length nodes) (length from) (length listed) k l
  pub clear : AllZero l (take l.slots t) t
  pub idle : Idle l t
  pub uncovered : Uncovered l t l.edges
  pub names : NamesIn l t (length starts)
  pub tabled : (D : Design) (L : PathList) (G : Graph) → Given D L G starts listed lengths nodes from to via → Tabled D L G l (take l.slots t)
  pub ready : (D : Design) (L : PathList) (G : Graph) → Given D L G starts listed lengths nodes from to via → Ready l t
