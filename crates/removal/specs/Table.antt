-- A table is the n words of the scratch from base on; a frame says that nothing else changed.
use Rattle.std.specs.Prelude.{ℕ, ◌+◌, ◌≤◌, ◌≡◌, List, length, take, drop}

unfoldable pub table : List ℕ → ℕ → ℕ → List ℕ
table s base n = take n (drop base s)

-- t is s but for the n words from base on
pub record Frame (s t : List ℕ) (base n : ℕ) : Type 0 where
  pub size : length t ≡ length s
  pub below : (b m : ℕ) → b + m ≤ base → table t b m ≡ table s b m
  pub above : (b m : ℕ) → base + n ≤ b → table t b m ≡ table s b m
