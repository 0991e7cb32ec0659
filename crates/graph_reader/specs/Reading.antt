-- Reading in two goes, a look and a fill (`Looks` of `timing`).
use Rattle.std.specs.Prelude.{ℕ, zero, suc, List, [], ◌∷◌, leb, Result, Err}
use Rattle.timing.specs.Answers.{Counts}
use Rattle.timing.specs.declared.GraphCounts.{GraphCounts}
use Rattle.timing.specs.declared.Refusal.{Refusal}
use Rattle.timing.specs.Refusals.{unless, ◌then◌}
use Rattle.timing.specs.Parsing.{Parsed, found, stopped, Reader, ◌>>=◌, ◌>>◌, return, tested, number, repeated, Row, row, ended}
use Rattle.timing.specs.GraphBytes.{CopyRow}
use Rattle.timing.specs.Looks.{value_at, next_at, row_at, row_end}

-- a count: 32 above a limit, then the number of its room
abbrev pub count_in : List ℕ → ℕ → ℕ → ℕ → Reader ℕ
count_in s limit full room = do
  n ← number s
  tested (unless 32 (leb n limit) then unless full (leb n room))
  return n

-- an endpoint number
abbrev pub endpoint_in : List ℕ → Reader ℕ
endpoint_in s = do
  x ← number s
  tested (unless 32 (leb x 1))
  return x

-- the edges, for their count alone
abbrev pub edges_in : List ℕ → ℕ → Reader ℕ
edges_in s edges = do
  m ← count_in s 65536 34 edges
  rows ← repeated m (row s)
  ended s
  return m

abbrev pub made_of : ℕ → Parsed ℕ → Result GraphCounts Refusal
made_of n (found m at) = Counts n m
made_of n (stopped r) = Err r

-- k things from a place on, and the place behind them
module _ {A : Type 0} where
  abbrev pub things_from : (ℕ → A) → (ℕ → ℕ) → ℕ → ℕ → List A
  things_from thing next zero at = []
  things_from thing next (suc k) at = thing at ∷ things_from thing next k (next at)

abbrev pub place_after : (ℕ → ℕ) → ℕ → ℕ → ℕ
place_after next zero at = at
place_after next (suc k) at = place_after next k (next at)

-- copies, of two numbers each
abbrev pub copy_at : List ℕ → ℕ → CopyRow
copy_at s at = record { node = value_at s at; endpoint = value_at s (next_at s at) }

abbrev pub copy_end : List ℕ → ℕ → ℕ
copy_end s at = next_at s (next_at s at)

abbrev pub copies_from : List ℕ → ℕ → ℕ → List CopyRow
copies_from s k at = things_from (copy_at s) (copy_end s) k at

abbrev pub copies_end : List ℕ → ℕ → ℕ → ℕ
copies_end s k at = place_after (copy_end s) k at

-- and rows of three
abbrev pub rows_from : List ℕ → ℕ → ℕ → List Row
rows_from s k at = things_from (row_at s) (row_end s) k at

-- where the rows begin, behind n copies and the count of edges
abbrev pub rows_place : List ℕ → ℕ → ℕ
rows_place s n = next_at s (copies_end s n (next_at s 0))
