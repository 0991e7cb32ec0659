-- The patches of a row: edges into a copy that may lead elsewhere than to their default from the mark of a slot. Every other edge leads to its default.
use Rattle.std.specs.Prelude.{ℕ, ◌+◌, ◌-◌, ◌/◌, ◌%◌, ◌≤◌, ◌<◌, ◌≡◌, ◌⊎◌, cond, List, eqb, length, get_or, take}
use Rattle.timing.specs.Graphs.{Design, Graph}
use Rattle.timing.specs.Marks.{PathList}
use Rattle.removal.specs.declared.rows.Layout.{Layout}
use Rattle.removal.specs.Tables.{dead_word}
use Rattle.removal.specs.Slots.{slots}
use Rattle.removal.specs.Rows.{slots_in, dead_place, Tabled, Ready, Idle, InRun, run_from, run_to, start_in, name_in, default_in, target}

-- every name of an edge is below n
abbrev pub NamesIn : Layout → List ℕ → ℕ → Type 0
NamesIn l s n = (q : ℕ) → q < l.edges → name_in l (take l.slots s) q < n

-- for the edges into copy c it is noted where each name stands
abbrev pub Noted : Layout → List ℕ → List ℕ → ℕ → Type 0
Noted l s pos c = (q : ℕ) → InRun l (take l.slots s) c q → get_or pos (name_in l (take l.slots s) q) 0 ≡ q

-- slot j of copy c, whose edges stand from p0 on and before p1
pub record Rowed (l : Layout) (s pos : List ℕ) (c j p0 p1 : ℕ) : Type 0 where
  pub ready : Ready l s
  pub idle : Idle l s
  pub names : NamesIn l s (length pos)
  pub noted : Noted l s pos c
  pub copy : c < l.copies
  pub slot : j < slots (slots_in l (take l.slots s)) c
  pub from : p0 ≡ run_from l (take l.slots s) c
  pub to : p1 ≡ run_to l (take l.slots s) c

-- the edge of patch i, and the place to which it leads
abbrev pub patch_at : Layout → List ℕ → ℕ → ℕ
patch_at l s i = get_or s (l.patch + i) 0

abbrev pub lead_at : Layout → List ℕ → ℕ → ℕ
lead_at l s i = get_or s (l.lead + i) 0

-- k patches stand in `patch` and `lead` of t: all those of slot j of copy c. The tables are p. Every other edge leads to its default.
pub record Patched (l : Layout) (p t : List ℕ) (c j k : ℕ) : Type 0 where
  pub few : k ≤ run_to l p c - run_from l p c
  pub edges : (i : ℕ) → i < k → InRun l p c (patch_at l t i)
  pub apart : (i h : ℕ) → i < h → h < k → patch_at l t i ≡ patch_at l t h → ⊥
  pub leads : (D : Design) (L : PathList) (G : Graph) → Tabled D L G l p → (i : ℕ) → i < k → lead_at l t i ≡ target D L G l p c j (patch_at l t i)
  pub rest : (D : Design) (L : PathList) (G : Graph) → Tabled D L G l p → (q : ℕ) → InRun l p c q → ((i : ℕ) → i < k → patch_at l t i ≡ q → ⊥)
      → default_in l p q ≡ target D L G l p c j q

-- what collecting leaves: nothing else has changed
pub record Collected (l : Layout) (s t : List ℕ) (c j k : ℕ) : Type 0 where
  pub size : length t ≡ length s
  pub below : (i : ℕ) → i < l.patch → get_or t i 0 ≡ get_or s i 0
  pub above : (i : ℕ) → l.comes ≤ i → get_or t i 0 ≡ get_or s i 0
  pub tables : take l.slots t ≡ take l.slots s
  pub patched : Patched l (take l.slots s) t c j k

-- the place to which edge q leads where it and the mark at its end begin with class u, and no longer one
abbrev pub child_place : Layout → List ℕ → ℕ → ℕ → ℕ
child_place l p u q =
    cond (eqb (get_or p (l.lists.loc + u) 0) dead_word) (dead_place l) (get_or p (l.base + start_in l p q) 0 + get_or p (l.lists.loc + u) 0)

-- what that place is read from stands in the tables, and it is a number of 32 bits
pub record Placed (l : Layout) (s : List ℕ) (u q : ℕ) : Type 0 where
  pub room : l.slots ≤ length s
  pub class : l.lists.loc + u < l.slots
  pub edge : l.start + q < l.slots
  pub start : l.base + start_in l (take l.slots s) q < l.slots
  pub small : child_place l (take l.slots s) u q < 4294967296
  pub dead : dead_place l < 4294967296

-- no class has patched edge q yet
abbrev pub Unseen : Layout → List ℕ → ℕ → Type 0
Unseen l t q = get_or t (l.seen + q) 0 ≡ 0

-- k patches of slot j of copy c are noted in t, and seen
pub record Gathered (l : Layout) (p t : List ℕ) (c j k : ℕ) : Type 0 where
  pub edges : (i : ℕ) → i < k → InRun l p c (patch_at l t i)
  pub apart : (i h : ℕ) → i < h → h < k → patch_at l t i ≡ patch_at l t h → ⊥
  pub leads : (i : ℕ) → i < k → (D : Design) (L : PathList) (G : Graph) → Tabled D L G l p → lead_at l t i ≡ target D L G l p c j (patch_at l t i)
  pub marked : (i : ℕ) → i < k → Unseen l t (patch_at l t i) → ⊥
  pub seen : (q : ℕ) → q < l.edges → Unseen l t q ⊎ ((i : ℕ) × (i < k) × (patch_at l t i ≡ q))

-- while patches are gathered nothing else changes
pub record Kept (l : Layout) (s t : List ℕ) : Type 0 where
  pub size : length t ≡ length s
  pub low : (i : ℕ) → i < l.seen → get_or t i 0 ≡ get_or s i 0
  pub middle : (i : ℕ) → l.seen + l.edges ≤ i → i < l.patch → get_or t i 0 ≡ get_or s i 0
  pub above : (i : ℕ) → l.comes ≤ i → get_or t i 0 ≡ get_or s i 0
  pub tables : take l.slots t ≡ take l.slots s

-- the search for patches has noted k
pub record Searching (l : Layout) (s pos : List ℕ) (c j p0 p1 k : ℕ) : Type 0 where
  pub ready : Ready l s
  pub names : NamesIn l s (length pos)
  pub noted : Noted l s pos c
  pub copy : c < l.copies
  pub from : p0 ≡ run_from l (take l.slots s) c
  pub to : p1 ≡ run_to l (take l.slots s) c
  pub gathered : Gathered l (take l.slots s) s c j k

-- word w, that of a child, tells where an edge that is not seen yet leads
pub record Telling (l : Layout) (p s : List ℕ) (c j w : ℕ) : Type 0 where
  pub place : l.lists.loc + w % 32768 < l.slots
  pub leads : (q : ℕ) → InRun l p c q → Unseen l s q → name_in l p q ≡ w / 32768
      → (D : Design) (L : PathList) (G : Graph) → Tabled D L G l p → child_place l p (w % 32768) q ≡ target D L G l p c j q

-- after that the edge of w is seen, if it comes into the copy
pub record Tried (l : Layout) (s t : List ℕ) (c j w k : ℕ) : Type 0 where
  pub kept : Kept l s t
  pub gathered : Gathered l (take l.slots s) t c j k
  pub less : (q : ℕ) → q < l.edges → Unseen l t q → Unseen l s q
  pub none : (q : ℕ) → InRun l (take l.slots s) c q → Unseen l t q → name_in l (take l.slots s) q ≡ w / 32768 → ⊥

-- where the children of class u stand, as the tables say
abbrev pub kids_from : Layout → List ℕ → ℕ → ℕ
kids_from l p u = get_or p (l.lists.kid + u - 1) 0

abbrev pub kids_to : Layout → List ℕ → ℕ → ℕ
kids_to l p u = get_or p (l.lists.kid + u) 0

abbrev pub kid_word : Layout → List ℕ → ℕ → ℕ
kid_word l p i = get_or p (l.lists.kids + i) 0

-- each child of class u, from child i on, tells where its edge leads
pub record KidsTell (l : Layout) (p s : List ℕ) (c j u i : ℕ) : Type 0 where
  pub some : 0 < u
  pub place : l.lists.kid + u < l.slots
  pub within : l.lists.kids + kids_to l p u ≤ l.slots
  pub each : (h : ℕ) → i ≤ h → h < kids_to l p u → Telling l p s c j (kid_word l p h)

-- no edge that is not seen is that of a child of class u before child i
abbrev pub NoKid : Layout → List ℕ → List ℕ → ℕ → ℕ → ℕ → Type 0
NoKid l p t c u i =
    (q : ℕ) → InRun l p c q → Unseen l t q → (h : ℕ) → kids_from l p u ≤ h → h < i → name_in l p q ≡ kid_word l p h / 32768 → ⊥

pub record TriedKids (l : Layout) (s t : List ℕ) (c j u i k : ℕ) : Type 0 where
  pub kept : Kept l s t
  pub gathered : Gathered l (take l.slots s) t c j k
  pub less : (q : ℕ) → q < l.edges → Unseen l t q → Unseen l s q
  pub none : NoKid l (take l.slots s) t c u i

-- u is the class of the mark of slot j of copy c
pub record MarkClass (l : Layout) (p : List ℕ) (c j u : ℕ) : Type 0 where
  pub some : 0 < j
  pub slot : j < slots (slots_in l p) c
  pub is : u ≡ get_or p (l.lists.marks + (get_or p (l.first + c) 0 + j)) 0

-- all patches of slot j of copy c are gathered
pub record All (l : Layout) (s t : List ℕ) (c j k : ℕ) : Type 0 where
  pub kept : Kept l s t
  pub gathered : Gathered l (take l.slots s) t c j k
  pub rest : (D : Design) (L : PathList) (G : Graph) → Tabled D L G l (take l.slots s) → (q : ℕ) → InRun l (take l.slots s) c q
      → Unseen l t q → default_in l (take l.slots s) q ≡ target D L G l (take l.slots s) c j q

-- k patches can be forgotten
pub record Forgettable (l : Layout) (s : List ℕ) (k : ℕ) : Type 0 where
  pub tables : l.slots ≤ l.seen
  pub seen : l.seen + l.edges ≤ l.patch
  pub room : l.patch + k ≤ length s
  pub edges : (i : ℕ) → i < k → patch_at l s i < l.edges

-- and are: the first k are not seen any more, no other edge is seen that was not, and nothing but `seen` has changed
pub record Forgotten (l : Layout) (s t : List ℕ) (k : ℕ) : Type 0 where
  pub size : length t ≡ length s
  pub low : (i : ℕ) → i < l.seen → get_or t i 0 ≡ get_or s i 0
  pub above : (i : ℕ) → l.seen + l.edges ≤ i → get_or t i 0 ≡ get_or s i 0
  pub tables : take l.slots t ≡ take l.slots s
  pub still : (q : ℕ) → q < l.edges → Unseen l s q → Unseen l t q
  pub done : (i : ℕ) → i < k → Unseen l t (patch_at l s i)
