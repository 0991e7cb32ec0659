-- A slice's values one by one, as a loop puts them into a table.
use Prim.Native.Nat.{ℕ, suc, ◌+◌, ◌-◌, ◌≤◌, ◌<◌}
use native.Mathlib.Omega.{arith}
use native.Mathlib.Numerals.{add-one}
use mathlib.Core.Path.{◌≡◌}
use mathlib.Core.List.{List, map}
use lib.IntN.{ℤ}
use lib.ListN.{length, get_or, take, drop, set}
use lib.Seq.{sets, drop-cons}
use Rattle.timing.specs.Delays.{delay_of}
use Rattle.cases.specs.Slices.{step_value, step_next, values, values_end}

module _ (s : List ℕ) (rise len k left value at v a l : ℕ) (h : k < len) (vi : v ≡ step_value s rise left value at) (ai : a ≡ step_next s left at) (li : l ≡ left - 1) where
  pub values_turn : (t : List ℕ)
      → sets (set t k v) (k + 1) (values s rise (len - (k + 1)) l v a) ≡ sets t k (values s rise (len - k) left value at)
  values_turn t =
      let d : len - k ≡ suc (len - (k + 1)) = omega arith in
      rw (d, vi, ai, li, add-one k)

  pub end_turn : values_end s (len - (k + 1)) l a ≡ values_end s (len - k) left at
  end_turn =
      let d : len - k ≡ suc (len - (k + 1)) = omega arith in
      rw (d, ai, li)

-- delays, one by one
pub delays_turn : (codes : List ℕ) (len k : ℕ) (t : List ℤ) → k < len → len ≤ length codes
    → sets (set t k (delay_of (get_or codes k 0))) (k + 1) (map delay_of (take (len - (k + 1)) (drop (k + 1) codes))) ≡ sets t k (map delay_of (take (len - k) (drop k codes)))
delays_turn codes len k t h m =
    let d : len - k ≡ suc (len - (k + 1)) = omega arith in
    rw (d, drop-cons codes k 0 (omega arith), add-one k)
