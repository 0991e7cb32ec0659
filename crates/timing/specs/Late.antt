-- "Late or not" (02, request 10): what the answer of `late_or_not` says of the full times and of the paths. Crate `called` shows it of calls.
use Rattle.std.specs.Prelude.{ℕ, ◌<◌, T, ℤ, pos, length, get_or, Option, Result, Err}
use mathlib.Core.List.{List, Memᴰ}
use Rattle.std.specs.Int.Signed.{lt_z}
use Rattle.timing.specs.Answers.{Late, OnTime}
use Rattle.timing.specs.declared.Refusal.{Refusal}
use Rattle.timing.specs.Graphs.{Run, delay_along}

-- there is no refusal, and "the answer [is] late if and only if" P
abbrev pub LateIff : Result (Option ℕ) Refusal → Type 0 → Type 0
LateIff (Late c) P = P
LateIff OnTime P = P → ⊥
LateIff (Err r) P = ⊥

-- "a negative slack somewhere", where a slice has the slack of each copy or of each node; a node without times has 0 there, which is not negative
abbrev pub SomeNegative : List ℤ → Type 0
SomeNegative slacks = (i : ℕ) × (i < length slacks) × T (lt_z (get_or slacks i (pos 0)) (pos 0))

-- one of some paths takes "longer than T", for any delay d of a design edge
abbrev pub SomeLonger : (ℕ → ℤ) → ℤ → List Run → Type 0
SomeLonger d t paths = (r : Run) × Memᴰ r paths × T (lt_z t (delay_along d r.edges))
