-- Reading in two goes. A look: where a reader stops, whatever it found. A fill: the numbers that stand at a place, taken without a test,
-- since the look passed.
use Rattle.std.specs.Prelude.{ℕ, List, Result, Ok, Err}
use Rattle.timing.specs.Answers.{Value}
use Rattle.timing.specs.declared.Taken.{Taken}
use Rattle.timing.specs.declared.Refusal.{Refusal}
use Rattle.timing.specs.Numbers.{read_number}
use Rattle.timing.specs.Parsing.{Parsed, found, stopped, Row}

-- where a reader stopped, and whether it did
abbrev pub looked : {A : Type 0} → Parsed A → Result ℕ Refusal
looked (found x at) = Ok at
looked (stopped r) = Err r

abbrev pub number_of : Parsed ℕ → Result Taken Refusal
number_of (found x at) = Value x at
number_of (stopped r) = Err r

-- the number at a place and the place behind it; where none can be read, 0 and the place
abbrev pub value_of : Result Taken Refusal → ℕ
value_of (Ok t) = t.value
value_of (Err r) = 0

abbrev pub next_of : ℕ → Result Taken Refusal → ℕ
next_of at (Ok t) = t.next
next_of at (Err r) = at

unfoldable pub value_at : List ℕ → ℕ → ℕ
value_at s at = value_of (read_number s at)

unfoldable pub next_at : List ℕ → ℕ → ℕ
next_at s at = next_of at (read_number s at)

-- three numbers
abbrev pub row_at : List ℕ → ℕ → Row
row_at s at = record { first = value_at s at; second = value_at s (next_at s at); third = value_at s (next_at s (next_at s at)) }

abbrev pub row_end : List ℕ → ℕ → ℕ
row_end s at = next_at s (next_at s (next_at s at))
