-- What a step with a mark asks.
use Rattle.std.specs.Prelude.{ℕ, ◌+◌, ◌<◌, ◌≡◌, List}
use Rattle.removal.specs.declared.classes.Lists.{Lists}
use Rattle.removal.specs.Tables.{marks_for, marks_below, Automaton}

-- f is the number of mark j at node v
pub record Marked (starts : List ℕ) (L : List (List ℕ)) (l : Lists) (s : List ℕ) (v j f : ℕ) : Type 0 where
  pub tables : Automaton starts L l s
  pub node : v < 4096
  pub there : j < marks_for starts L v
  pub number : f ≡ marks_below starts L v + j + 1
