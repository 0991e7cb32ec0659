-- The pass over the copies. Edges stand by end copy: those into copy c, its *fanin*, are a run of places `first`, `first` + 1, ..., behind those
-- into the copies before it.
use Rattle.std.specs.Prelude.{ℕ, ◌-◌, ◌≤◌, ◌<◌, ◌≡◌, Bool, ◌&&◌, List, map, eqb, ltb, ℤ, pos, ◌+ℤ◌, length, get_or}
use Rattle.timing.specs.Lists.{upto}
use Rattle.times.specs.Passes.{delay_of, Over}

-- what edge k gives its end: the time at its start, and its delay
abbrev pub over : List ℤ → List ℕ → List ℕ → List ℤ → ℕ → ℤ
over delays from via times k = get_or times (get_or from k 0) (pos 0) +ℤ delay_of delays (get_or via k 0)

-- the best over the edges from `first` to before `last`: the largest for arrivals, the smallest for earliest arrivals
abbrev pub best_over : (List ℤ → ℤ) → List ℤ → List ℕ → List ℕ → List ℤ → ℕ → ℕ → ℤ
best_over best delays from via times first last = best (map (over delays from via times) (upto (last - first) first))

-- edge k is there and ends at copy c
abbrev pub ends_here : List ℕ → ℕ → ℕ → Bool
ends_here to k c = ltb k (length to) && eqb (get_or to k 0) c

-- the edges into copy c stand from `first` to before `last`
pub record Fanin (to : List ℕ) (c first last : ℕ) : Type 0 where
  pub begins : first ≤ last
  pub within : last ≤ length to
  pub into : (k : ℕ) → first ≤ k → k < last → get_or to k 0 ≡ c
  pub beyond : (k : ℕ) → last ≤ k → k < length to → c < get_or to k 0

-- edges stand by end copy, those before `first` end before copy c, and the others do not
pub record FaninFrom (to : List ℕ) (c first : ℕ) : Type 0 where
  pub order : (j k : ℕ) → j ≤ k → k < length to → get_or to j 0 ≤ get_or to k 0
  pub within : first ≤ length to
  pub behind : (k : ℕ) → k < first → get_or to k 0 < c
  pub ahead : (k : ℕ) → first ≤ k → k < length to → c ≤ get_or to k 0

-- copy c can be given its time: it has a place, its fanin stands from `first` on, and every edge of that can be passed
pub record Ready (delays : List ℤ) (from to via : List ℕ) (times : List ℤ) (c first : ℕ) : Type 0 where
  pub place : c < length times
  pub fanin : FaninFrom to c first
  pub passed : (k : ℕ) → k < length to → get_or to k 0 ≡ c → Over delays from via times k
