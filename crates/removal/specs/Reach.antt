-- What flagging the reached slots does: the flags of lower copies are set by steps against edges, from slots that are reached. The
-- words before the slots are p throughout.
use Rattle.std.specs.Prelude.{ℕ, ◌+◌, ◌≤◌, ◌<◌, ◌≡◌, ◌⊎◌, Bool, false, cond, List, ◌∷◌, eqb, ltb, length, get_or, take, set}
use Rattle.timing.specs.Graphs.{Design, Graph}
use Rattle.timing.specs.Marks.{PathList, paths_of, mark}
use Rattle.theorems.proofs.Marks.{begins}
use Rattle.removal.specs.declared.rows.Layout.{Layout}
use Rattle.removal.specs.Slots.{slots, slot_marks, Used}
use Rattle.removal.specs.Rows.{slots_in, slot_place, Tabled, Idle, InRun, run_from, start_in, name_in}
use Rattle.removal.specs.Flags.{ReachedRow}

-- the flag of a slot where p are the words before the slots, and whether it is reached; `flag_in l s` is `flag_of l (take l.slots s) s`
abbrev pub flag_of : Layout → List ℕ → List ℕ → ℕ → ℕ → ℕ
flag_of l p s c j = get_or s (slot_place l p c j) 0

abbrev pub reached_of : Layout → List ℕ → List ℕ → ℕ → ℕ → Bool
reached_of l p s c j = ltb 0 (flag_of l p s c j)

-- the tables that do not change are as they were
pub record Still (l : Layout) (s t : List ℕ) : Type 0 where
  pub size : length t ≡ length s
  pub tables : take l.slots t ≡ take l.slots s

-- slot j of copy c is that of the mark of w, and no listed path is what w begins with
pub record LiveIs (L : PathList) (marks : ℕ → ℕ → List ℕ) (B : ℕ → ℕ) (c : ℕ) (w : List ℕ) (j : ℕ) : Type 0 where
  pub alive : begins (paths_of L) w ≡ false
  pub inside : j < slots B c
  pub is : marks c j ≡ mark (paths_of L) w
  pub used : Used marks c j

-- slot i of copy d is reached over edge q into copy c from slot k of c, which is reached
pub record Pushes (D : Design) (L : PathList) (G : Graph) (l : Layout) (p s : List ℕ) (c d i q k : ℕ) : Type 0 where
  pub edge : InRun l p c q
  pub start : start_in l p q ≡ d
  pub slot : k < slots (slots_in l p) c
  pub reached : 0 < flag_of l p s c k
  pub leads : LiveIs L (slot_marks D L G) (slots_in l p) d (name_in l p q ∷ slot_marks D L G c k) i

-- of the first n edges none is covered: no mark is known to patch it
abbrev pub Uncovered : Layout → List ℕ → ℕ → Type 0
Uncovered l s n = (q : ℕ) → q < n → get_or s (l.cover + q) 0 ≡ 0

-- The slots of copy c are followed over the edges into it. Each flag is as it was or 1.
pub record CopyPushed (l : Layout) (p s t : List ℕ) (c : ℕ) : Type 0 where
  pub still : Still l s t
  pub idle : Idle l t
  pub uncovered : Uncovered l t (run_from l p c)
  pub higher : (d i : ℕ) → c ≤ d → d < l.copies → i < slots (slots_in l p) d → flag_of l p t d i ≡ flag_of l p s d i
  pub small : (d i : ℕ) → d < l.copies → i < slots (slots_in l p) d → (flag_of l p t d i ≡ flag_of l p s d i) ⊎ (flag_of l p t d i ≡ 1)
  pub sound : (D : Design) (L : PathList) (G : Graph) → Tabled D L G l p → (d i : ℕ) → d < l.copies → i < slots (slots_in l p) d → 0 < flag_of l p t d i
      → (0 < flag_of l p s d i) ⊎ ((q : ℕ) × (k : ℕ) × Pushes D L G l p s c d i q k)
  pub complete : (D : Design) (L : PathList) (G : Graph) → Tabled D L G l p → (d i q k : ℕ) → d < l.copies
      → Pushes D L G l p s c d i q k → 0 < flag_of l p t d i

-- slot 0 of copy c is set where its endpoint number is 1
abbrev pub end_set : Layout → List ℕ → List ℕ → ℕ → List ℕ
end_set l endpoint s c = cond (eqb (get_or endpoint c 0) 1) (set s (slot_place l (take l.slots s) c 0) 1) s

-- rows from copy c on are right, of a graph with these endpoint numbers
pub record RowsReached (l : Layout) (endpoint p s t : List ℕ) (c : ℕ) : Type 0 where
  pub still : Still l s t
  pub small : (d i : ℕ) → d < l.copies → i < slots (slots_in l p) d → flag_of l p t d i ≤ 1
  pub rows : (D : Design) (L : PathList) (G : Graph) → Tabled D L G l p → G.endpoints ≡ endpoint
      → (d : ℕ) → c ≤ d → d < l.copies → ReachedRow G L (slot_marks D L G) (slots_in l p) (reached_of l p t) d

-- all slots are 0
abbrev pub AllZero : Layout → List ℕ → List ℕ → Type 0
AllZero l p s = (d i : ℕ) → d < l.copies → i < slots (slots_in l p) d → flag_of l p s d i ≡ 0
