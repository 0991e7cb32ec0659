-- Writing numbers one after the other, where the room is known to have the bytes for them.
use Rattle.std.specs.Prelude.{ℕ, ◌+◌, ◌≤◌, ◌≡◌, length}
use mathlib.Core.List.{List, flat_map}
use Rattle.std.proofs.lemmas.List.Edits.{sets}
use Rattle.timing.specs.Numbers.{packed}

-- the packed forms of numbers, one after the other, and how many bytes they are
unfoldable pub bytes_of : List ℕ → List ℕ
bytes_of xs = flat_map packed xs

abbrev pub size : List ℕ → ℕ
size xs = length (bytes_of xs)

-- the numbers xs were written from a place on, up to the next
pub record Wrote (before after : List ℕ) (at next : ℕ) (xs : List ℕ) : Type 0 where
  pub end : next ≡ at + size xs
  pub is : after ≡ sets before at (bytes_of xs)

-- of the numbers `all`, which go into a room from a place on, `rest` are left to be written
pub record Left (room₀ : List ℕ) (at₀ : ℕ) (all room : List ℕ) (at : ℕ) (rest : List ℕ) : Type 0 where
  pub long : length room ≡ length room₀
  pub fits : at₀ + size all ≤ length room₀
  pub end : at + size rest ≡ at₀ + size all
  pub is : sets room at (bytes_of rest) ≡ sets room₀ at₀ (bytes_of all)
