-- A slice of a case: how many numbers are stored, how many more there are, and the stored numbers. Each further number
-- is above the one before by a rise, which is 0 or stands behind the two counts.
use Rattle.std.specs.Prelude.{ℕ, zero, suc, ◌+◌, ◌-◌, min, List, [], ◌∷◌, ◌≡◌, length}
use Rattle.std.proofs.lemmas.List.Edits.{sets}
use Rattle.timing.specs.Looks.{value_at, next_at}
use Rattle.cases.specs.declared.Slice.{Slice}

-- the next value and the place behind it: a stored number, or where none is left the one above the value
abbrev pub step_value : List ℕ → ℕ → ℕ → ℕ → ℕ → ℕ
step_value s rise zero value at = min (value + rise) 4294967295
step_value s rise (suc left) value at = value_at s at

abbrev pub step_next : List ℕ → ℕ → ℕ → ℕ
step_next s zero at = at
step_next s (suc left) at = next_at s at

-- n values, and the place behind them
abbrev pub values : List ℕ → ℕ → ℕ → ℕ → ℕ → ℕ → List ℕ
values s rise zero left value at = []
values s rise (suc n) left value at =
    let v = step_value s rise left value at in
    v ∷ values s rise n (left - 1) v (step_next s left at)

abbrev pub values_end : List ℕ → ℕ → ℕ → ℕ → ℕ
values_end s zero left at = at
values_end s (suc n) left at = values_end s n (left - 1) (step_next s left at)

-- r is the slice whose stored numbers are at a place, and was put into a table
unfoldable pub Filled : List ℕ → ℕ → ℕ → ℕ → ℕ → List ℕ → List ℕ → Slice → Type 0
Filled s at stored more rise before after r =
    let len = min (stored + more) (length before) in
    (r.len ≡ len) × (r.next ≡ values_end s len stored at) × (after ≡ sets before 0 (values s rise len stored 0 at))

-- the same where the counts are at the place
abbrev pub IsSlice : List ℕ → ℕ → List ℕ → List ℕ → Slice → Type 0
IsSlice s at before after r =
    let second = next_at s at in
    Filled s (next_at s second) (value_at s at) (value_at s second) 0 before after r

-- and the rise behind them
abbrev pub IsRising : List ℕ → ℕ → List ℕ → List ℕ → Slice → Type 0
IsRising s at before after r =
    let second = next_at s at in
    let third = next_at s second in
    Filled s (next_at s third) (value_at s at) (value_at s second) (value_at s third) before after r
