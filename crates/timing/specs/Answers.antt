-- What calls answer, in the types of `src/lib.rt`: `Ok` and what was found, or `Err` and the refusal.
use Rattle.std.specs.Prelude.{ℕ, ℤ, Option, Result, Ok, Some, None}
use Rattle.timing.specs.declared.Groups.{Groups}
use Rattle.timing.specs.declared.Times.{Times}
use Rattle.timing.specs.declared.Refusal.{Refusal}
use Rattle.timing.specs.declared.NoNumber.{NoNumber}
use Rattle.timing.specs.declared.Taken.{Taken}
use Rattle.timing.specs.declared.DeckCounts.{DeckCounts}
use Rattle.timing.specs.declared.GraphCounts.{GraphCounts}

-- a test
abbrev pub Verdict : Type 0
Verdict = Result (Unit {0}) Refusal

pattern abbrev pub Passed : Verdict
Passed = Ok tt

-- a number that bytes begin with, and one that was read at a place
abbrev pub Number : ℕ → ℕ → Result Groups NoNumber
Number value size = Ok (record { value = value; size = size })

abbrev pub Value : ℕ → ℕ → Result Taken Refusal
Value value next = Ok (record { value = value; next = next })

-- a deck that was read
abbrev pub DeckFound : ℕ → ℕ → ℕ → ℕ → ℕ → ℕ → Result DeckCounts Refusal
DeckFound nodes edges listed paths marked allowed =
    Ok
    (record { nodes = nodes; edges = edges; listed = listed; paths = paths; marked = marked; allowed = allowed })

-- a graph that was made, by its counts
abbrev pub Counts : ℕ → ℕ → Result GraphCounts Refusal
Counts copies edges = Ok (record { copies = copies; edges = edges })

-- "Either its three times or the answer none": the times
abbrev pub SomeTimes : ℤ → ℤ → ℤ → ℤ → Option Times
SomeTimes arrival required slack earliest =
    Some
    (record { arrival = arrival; required = required; slack = slack; earliest = earliest })

-- late, by the copy, or on time
pattern abbrev pub Late : ℕ → Result (Option ℕ) Refusal
Late copy = Ok (Some copy)

pattern abbrev pub OnTime : Result (Option ℕ) Refusal
OnTime = Ok None
