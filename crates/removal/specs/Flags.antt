-- Rows of flags over the slots, and what a pass makes of them.
use Rattle.std.specs.Prelude.{ℕ, ◌<◌, ◌≡◌, ◌⊎◌, ◌↔◌, Bool, true, false, T}
use mathlib.Core.List.{List, ◌∷◌, Memᴰ}
use Rattle.timing.specs.Graphs.{Edge, Graph, starts_at, ends_at}
use Rattle.timing.specs.Marks.{PathList, paths_of, mark}
use Rattle.theorems.proofs.Marks.{begins}
use Rattle.theorems.proofs.Copies.{Shown}
use Rattle.theorems.proofs.Back.{Reached}
use Rattle.removal.specs.Slots.{slots, Used}

module _ (G : Graph) (L : PathList) (marks : ℕ → ℕ → List ℕ) (B : ℕ → ℕ) where
  -- a row that is right: its flags are the used slots with a permitted rest, or the used slots that a path shows
  abbrev pub ReachedRow : (ℕ → ℕ → Bool) → ℕ → Type 0
  ReachedRow reached c = (j : ℕ) → j < slots B c → (reached c j ≡ true) ↔ (Used marks c j × Reached G (paths_of L) c (marks c j))

  abbrev pub ShownRow : (ℕ → ℕ → Bool) → ℕ → Type 0
  ShownRow shown c = (j : ℕ) → j < slots B c → (shown c j ≡ true) ↔ (Used marks c j × Shown G (paths_of L) (record { at = c; mark = marks c j }))

  -- edge e out of copy c takes slot k of its end to a slot of c with this mark
  abbrev pub StepBack : (ℕ → ℕ → Bool) → ℕ → Edge → ℕ → List ℕ → Type 0
  StepBack reached c e k m =
      Memᴰ e G.edges × (e.start ≡ c) × (k < slots B e.end) × (reached e.end k ≡ true)
      × (begins (paths_of L) (e.name ∷ marks e.end k) ≡ false) × (m ≡ mark (paths_of L) (e.name ∷ marks e.end k))

  -- pass 1 at copy c: each flag comes from the end of a path or from a flag of a higher copy, and each of these sets its flag
  pub record Backward (reached : ℕ → ℕ → Bool) (c : ℕ) : Type 0 where
    pub sound : (j : ℕ) → j < slots B c → reached c j ≡ true
        → Used marks c j × ((T (ends_at G c) × (j ≡ 0)) ⊎ ((e : Edge) × (k : ℕ) × StepBack reached c e k (marks c j)))
    pub ends : T (ends_at G c) → reached c 0 ≡ true
    pub steps : (e : Edge) (k : ℕ) (j : ℕ) → j < slots B c → Used marks c j → StepBack reached c e k (marks c j) → reached c j ≡ true

  -- edge e into copy c comes from slot k of its start, which has the mark that slot j of c makes
  abbrev pub StepOn : (ℕ → ℕ → Bool) → ℕ → ℕ → Edge → ℕ → Type 0
  StepOn shown c j e k =
      Memᴰ e G.edges × (e.end ≡ c) × (begins (paths_of L) (e.name ∷ marks c j) ≡ false)
      × (k < slots B e.start) × (marks e.start k ≡ mark (paths_of L) (e.name ∷ marks c j)) × (shown e.start k ≡ true)

  -- pass 2 at copy c: a slot that is reached is shown where paths start, or from a slot of a lower copy that is shown
  pub record Forward (reached shown : ℕ → ℕ → Bool) (c : ℕ) : Type 0 where
    pub sound : (j : ℕ) → j < slots B c → shown c j ≡ true
        → (reached c j ≡ true) × (T (starts_at G c) ⊎ ((e : Edge) × (k : ℕ) × StepOn shown c j e k))
    pub starts : (j : ℕ) → j < slots B c → reached c j ≡ true → T (starts_at G c) → shown c j ≡ true
    pub steps : (j : ℕ) → j < slots B c → reached c j ≡ true → (e : Edge) (k : ℕ) → StepOn shown c j e k → shown c j ≡ true
