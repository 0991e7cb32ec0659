-- Going over several numbers at once, where each takes one or two bytes.
use Rattle.std.specs.Prelude.{ℕ, ◌+◌, ◌-◌, ◌≤◌, ◌<◌, cond, ◌⊎◌, ◌≡◌, List, ltb, eqb, get_or}
use Rattle.timing.specs.Parsing.{number, repeated}
use Rattle.timing.specs.Looks.{looked}

-- a look from a place on answers what a look from the next place does, at as many numbers fewer
abbrev pub Skips : List ℕ → ℕ → ℕ → ℕ → Type 0
Skips s at count next = (k : ℕ) → looked (repeated (count + k) (number s) at) ≡ looked (repeated k (number s) next)

-- 1 for a byte that ends a number
abbrev pub ending : ℕ → ℕ
ending b = cond (ltb b 128) 1 0

-- 1 for a byte that another has to follow, and the next one ends no number of two bytes in shortest form
abbrev pub unended : ℕ → ℕ → ℕ
unended b next = cond (ltb b 128) 0 (cond (eqb next 0) 1 (cond (ltb next 128) 0 1))

-- i bytes behind a place, in which so many numbers end: a number starts there, or one of two bytes ends there
abbrev pub Scanned : List ℕ → ℕ → ℕ → ℕ → Type 0
Scanned s at i count =
    ((1 ≤ i → get_or s (at + i - 1) 0 < 128) × Skips s at count (at + i))
    ⊎ ((1 ≤ i) × (128 ≤ get_or s (at + i - 1) 0) × (0 < get_or s (at + i) 0) × (get_or s (at + i) 0 < 128) × Skips s at count (at + i - 1))
