-- The slots of a copy: one for each mark that paths may have at its node, in order. The first is that of the empty mark.
use Rattle.std.specs.Prelude.{ℕ, zero, suc, ◌<◌, ◌≡◌, Bool, true, false, cond, ◌&&◌, List, [], ◌∷◌, map, eqb, length, get_or}
use Rattle.timing.specs.Lists.{sum, upto}
use Rattle.timing.specs.Graphs.{Design, Edge, Graph, node_of}
use Rattle.timing.specs.Marks.{PathList, paths_of, mark}
use Rattle.theorems.proofs.Marks.{begins}
use Rattle.removal.specs.Classes.{marks_at}

-- the mark of slot j of copy c
unfoldable pub slot_marks : Design → PathList → Graph → ℕ → ℕ → List ℕ
slot_marks D L G c j = get_or (marks_at D.starts (paths_of L) (node_of G c)) j []

-- how many slots copy c has
unfoldable pub slots_of : Design → PathList → Graph → ℕ → ℕ
slots_of D L G c = length (marks_at D.starts (paths_of L) (node_of G c))

-- how many slots a copy has, where B says how many each has
abbrev pub slots : (ℕ → ℕ) → ℕ → ℕ
slots B c = B c

-- where the slots of a copy stand among all slots
abbrev pub slot_base : (ℕ → ℕ) → ℕ → ℕ
slot_base B c = sum (map (slots B) (upto c 0))

-- the first slot of the copy with its mark
abbrev pub Used : (ℕ → ℕ → List ℕ) → ℕ → ℕ → Type 0
Used marks c j = (i : ℕ) → i < j → marks c i ≡ marks c j → ⊥

abbrev pub same_mark : List ℕ → List ℕ → Bool
same_mark [] [] = true
same_mark [] (y ∷ ys) = false
same_mark (x ∷ xs) [] = false
same_mark (x ∷ xs) (y ∷ ys) = eqb x y && same_mark xs ys

-- the first number from i on, of n, that passes a test
abbrev pub first_from : (ℕ → Bool) → ℕ → ℕ → ℕ
first_from p zero i = i
first_from p (suc n) i = cond (p i) i (first_from p n (suc i))

-- the slot of copy a that has mark m
unfoldable pub slot_of : (ℕ → ℕ → List ℕ) → (ℕ → ℕ) → ℕ → List ℕ → ℕ
slot_of marks B a m = first_from (λ i. same_mark (marks a i) m) (slots B a) 0

module _ (L : PathList) (marks : ℕ → ℕ → List ℕ) (B : ℕ → ℕ) where
  -- whether slot j of copy c and edge e before it begin with a listed path; and else to which slot at the start of e they lead
  abbrev pub dead_along : ℕ → ℕ → Edge → Bool
  dead_along c j e = begins (paths_of L) (e.name ∷ marks c j)

  abbrev pub start_slot : ℕ → ℕ → Edge → ℕ
  start_slot c j e = slot_of marks B e.start (mark (paths_of L) (e.name ∷ marks c j))
