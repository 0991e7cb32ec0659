-- The deck that a writer is lent, and its last numbers.
use Rattle.std.specs.Prelude.{ℕ, ◌≤◌, ◌≡◌, List, [], ◌∷◌, ◌++◌, ℤ, length}
use Rattle.timing.specs.Lists.{sum}
use Rattle.timing.specs.Graphs.{design}
use Rattle.timing.specs.Marks.{path_list}
use Rattle.timing.specs.Decks.{Deck}

-- the deck that a writer is lent
abbrev pub deck_of : ℕ → List ℕ → List ℕ → List ℤ → List ℤ → List ℕ → List ℕ → List ℕ → ℕ → Deck
deck_of n starts ends early late marked listed lengths allowed =
    record { design = design n starts ends early late marked; list = path_list listed lengths; allowed = allowed }

-- what the writer's tests say of a deck
pub record Fit (d : Deck) : Type 0 where
  pub ends : length d.design.ends ≡ length d.design.starts
  pub early : length d.design.early ≡ length d.design.starts
  pub late : length d.design.late ≡ length d.design.starts
  pub adds : sum d.list.lengths ≡ length d.list.edges
  pub nodes : d.design.nodes ≤ 4096
  pub edges : length d.design.starts ≤ 16384
  pub paths : length d.list.lengths ≤ 1024
  pub listed : length d.list.edges ≤ 8192
  pub marked : length d.design.marked ≤ d.design.nodes

-- the marked nodes behind their count, and T
abbrev pub tail_numbers : List ℕ → ℕ → List ℕ
tail_numbers marked allowed = (length marked ∷ marked) ++ (allowed ∷ [])
