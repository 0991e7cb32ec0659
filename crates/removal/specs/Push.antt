-- What the parts of flagging do in the row of one copy. Edge q is covered by the reached slots that patch it: from them it may lead elsewhere than to its default. So
-- its default is reached where there are more reached slots than cover it.
use Rattle.std.specs.Prelude.{ℕ, suc, ◌+◌, ◌≤◌, ◌<◌, ◌≡◌, ◌⊎◌, cond, List, eqb, length, get_or, take, set}
use Rattle.timing.specs.Graphs.{Design, Graph}
use Rattle.timing.specs.Marks.{PathList}
use Rattle.removal.specs.declared.rows.Layout.{Layout}
use Rattle.removal.specs.Slots.{slots}
use Rattle.removal.specs.Rows.{slots_in, dead_place, Tabled, Ready, Idle, InRun, run_from, run_to, default_in, target}
use Rattle.removal.specs.Patches.{NamesIn, Noted, patch_at, lead_at}
use Rattle.removal.specs.Reach.{flag_of, Uncovered}

-- a place is flagged, unless it is the dead one
abbrev pub flag_set : Layout → List ℕ → ℕ → List ℕ
flag_set l s x = cond (eqb x (dead_place l)) s (set s x 1)

-- a place is the dead one, or one of a slot
abbrev pub Lands : Layout → ℕ → Type 0
Lands l x = (x ≡ dead_place l → ⊥) → (l.slots ≤ x) × (x < l.seen)

-- how many reached slots patch edge q
abbrev pub cover_at : Layout → List ℕ → ℕ → ℕ
cover_at l s q = get_or s (l.cover + q) 0

-- of the words before `seen`, some at places that are hit are 1 now, and the others are as they were
abbrev pub HitOnly : Layout → List ℕ → List ℕ → (ℕ → Type 0) → Type 0
HitOnly l s t Hit = (x : ℕ) → x < l.seen → (get_or t x 0 ≡ get_or s x 0) ⊎ ((get_or t x 0 ≡ 1) × (x ≡ dead_place l → ⊥) × Hit x)

-- a place is dead, or flagged
abbrev pub Settled : Layout → List ℕ → ℕ → Type 0
Settled l t x = (x ≡ dead_place l) ⊎ (0 < get_or t x 0)

-- place x is where one of the first k patches leads
abbrev pub PatchHit : Layout → List ℕ → ℕ → ℕ → Type 0
PatchHit l s k x = (i : ℕ) × (i < k) × (x ≡ lead_at l s i)

-- it is the target of an edge from slot j of copy c
abbrev pub MarkHit : Layout → List ℕ → ℕ → ℕ → ℕ → Type 0
MarkHit l p c j x = (D : Design) (L : PathList) (G : Graph) → Tabled D L G l p → (q : ℕ) × InRun l p c q × (x ≡ target D L G l p c j q)

-- it is the default of an edge from p0 on and before n that fewer than r slots cover
abbrev pub DefaultHit : Layout → List ℕ → List ℕ → ℕ → ℕ → ℕ → ℕ → Type 0
DefaultHit l p s p0 n r x = (q : ℕ) × (p0 ≤ q) × (q < n) × (cover_at l s q < r) × (x ≡ default_in l p q)

-- k patches that can be flagged
pub record Pushable (l : Layout) (s : List ℕ) (k : ℕ) : Type 0 where
  pub ready : Ready l s
  pub few : k ≤ l.edges
  pub edges : (i : ℕ) → i < k → patch_at l s i < l.edges
  pub apart : (i h : ℕ) → i < h → h < k → patch_at l s i ≡ patch_at l s h → ⊥
  pub fits : (i : ℕ) → i < k → cover_at l s (patch_at l s i) < 4294967295
  pub lands : (i : ℕ) → i < k → Lands l (lead_at l s i)

-- the first k patches are flagged and counted
pub record PatchesPushed (l : Layout) (s t : List ℕ) (k : ℕ) : Type 0 where
  pub size : length t ≡ length s
  pub tables : take l.slots t ≡ take l.slots s
  pub seen : (i : ℕ) → l.seen ≤ i → i < l.cover → get_or t i 0 ≡ get_or s i 0
  pub above : (i : ℕ) → l.patch ≤ i → get_or t i 0 ≡ get_or s i 0
  pub only : HitOnly l s t (PatchHit l s k)
  pub settled : (i : ℕ) → i < k → Settled l t (lead_at l s i)
  pub once : (i : ℕ) → i < k → cover_at l t (patch_at l s i) ≡ suc (cover_at l s (patch_at l s i))
  pub other : (q : ℕ) → q < l.edges → ((i : ℕ) → i < k → patch_at l s i ≡ q → ⊥) → cover_at l t q ≡ cover_at l s q

-- edge q, followed from slot j of copy c: it is a patch and counted, and its target is flagged; or it leads to its default
abbrev pub EdgePushed : Layout → List ℕ → List ℕ → List ℕ → ℕ → ℕ → ℕ → Type 0
EdgePushed l p s t c j q =
    ((cover_at l t q ≡ suc (cover_at l s q)) × ((D : Design) (L : PathList) (G : Graph) → Tabled D L G l p → Settled l t (target D L G l p c j q)))
    ⊎ ((cover_at l t q ≡ cover_at l s q) × ((D : Design) (L : PathList) (G : Graph) → Tabled D L G l p → default_in l p q ≡ target D L G l p c j q))

-- the patches of slot j of copy c are flagged and counted
pub record MarkPushed (l : Layout) (p s t : List ℕ) (c j : ℕ) : Type 0 where
  pub size : length t ≡ length s
  pub tables : take l.slots t ≡ take l.slots s
  pub seen : (i : ℕ) → l.seen ≤ i → i < l.cover → get_or t i 0 ≡ get_or s i 0
  pub only : HitOnly l s t (MarkHit l p c j)
  pub each : (q : ℕ) → InRun l p c q → EdgePushed l p s t c j q
  pub other : (q : ℕ) → q < l.edges → (InRun l p c q → ⊥) → cover_at l t q ≡ cover_at l s q

-- the words of the run of copy c in `cover` can be counted up once more
abbrev pub CoverFits : Layout → List ℕ → ℕ → Type 0
CoverFits l s c = (q : ℕ) → InRun l (take l.slots s) c q → cover_at l s q < 4294967295

-- place x is the target of edge q from slot k, which is reached and one of the first n
abbrev pub HitFrom : Layout → List ℕ → List ℕ → ℕ → ℕ → ℕ → Type 0
HitFrom l p s c n x =
    (D : Design) (L : PathList) (G : Graph) → Tabled D L G l p
    → (q : ℕ) × (k : ℕ) × InRun l p c q × (k < n) × (0 < flag_of l p s c k) × (x ≡ target D L G l p c k q)

-- The patches of the reached ones of the first n slots of copy c are flagged and counted: r of these slots are reached. An edge that fewer slots cover
-- leads to its default from one of them.
pub record MarksPushed (l : Layout) (p s t : List ℕ) (c n r : ℕ) : Type 0 where
  pub size : length t ≡ length s
  pub tables : take l.slots t ≡ take l.slots s
  pub seen : (i : ℕ) → l.seen ≤ i → i < l.cover → get_or t i 0 ≡ get_or s i 0
  pub only : HitOnly l s t (HitFrom l p s c n)
  pub other : (q : ℕ) → q < l.edges → (InRun l p c q → ⊥) → cover_at l t q ≡ cover_at l s q
  pub few : r ≤ n
  pub low : (q : ℕ) → InRun l p c q → cover_at l t q ≤ r
  pub least : (q : ℕ) → InRun l p c q → cover_at l t q < r → (D : Design) (L : PathList) (G : Graph) → Tabled D L G l p
      → (k : ℕ) × (k < n) × (0 < flag_of l p s c k) × (default_in l p q ≡ target D L G l p c k q)
  pub most : (q : ℕ) → InRun l p c q → (k : ℕ) → k < n → 0 < flag_of l p s c k → (D : Design) (L : PathList) (G : Graph) → Tabled D L G l p
      → Settled l t (target D L G l p c k q) ⊎ ((cover_at l t q < r) × (default_in l p q ≡ target D L G l p c k q))

-- what following the slots of copy c asks, of which there are so many, and whose edges stand from p0 on and before p1
pub record Marking (l : Layout) (s pos : List ℕ) (c count p0 p1 : ℕ) : Type 0 where
  pub ready : Ready l s
  pub idle : Idle l s
  pub names : NamesIn l s (length pos)
  pub noted : Noted l s pos c
  pub copy : c < l.copies
  pub all : count ≡ slots (slots_in l (take l.slots s)) c
  pub from : p0 ≡ run_from l (take l.slots s) c
  pub to : p1 ≡ run_to l (take l.slots s) c
  pub none : Uncovered l s (run_to l (take l.slots s) c)
  pub small : flag_of l (take l.slots s) s c 0 ≤ 1

-- edges whose defaults can be flagged
pub record Defaulting (l : Layout) (s : List ℕ) (p0 p1 : ℕ) : Type 0 where
  pub ready : Ready l s
  pub up : p0 ≤ p1
  pub within : p1 ≤ l.edges
  pub lands : (q : ℕ) → p0 ≤ q → q < p1 → Lands l (default_in l (take l.slots s) q)

-- the defaults of the edges from p0 on and before n are flagged where fewer than r slots cover them
pub record DefaultsPushed (l : Layout) (p s t : List ℕ) (p0 n r : ℕ) : Type 0 where
  pub size : length t ≡ length s
  pub tables : take l.slots t ≡ take l.slots s
  pub above : (i : ℕ) → l.seen ≤ i → get_or t i 0 ≡ get_or s i 0
  pub only : HitOnly l s t (DefaultHit l p s p0 n r)
  pub settled : (q : ℕ) → p0 ≤ q → q < n → cover_at l s q < r → Settled l t (default_in l p q)
