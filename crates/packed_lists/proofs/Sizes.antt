-- How many bytes numbers take.
use Prim.Native.Nat.{ℕ, suc, ◌+◌, ◌*◌, ◌≤◌, ◌<◌}
use native.Mathlib.Omega.{arith}
use native.Mathlib.Numerals.{add-one}
use mathlib.Core.Path.{◌≡◌, refl, sym}
use mathlib.Core.List.{List, [], ◌∷◌, ◌++◌, flat_map, append_assoc}
use lib.ListN.{length, get_or, drop, length-append, drop_of_length-le}
use lib.Seq.{drop-cons}
use Rattle.timing.specs.Numbers.{packed}
use Rattle.packed.proofs.Numbers.{packed_size}

-- the packed forms of numbers, one after the other
pub bytes_append : (xs ys : List ℕ) → flat_map packed (xs ++ ys) ≡ flat_map packed xs ++ flat_map packed ys
unfolding flat_map
bytes_append [] ys = refl
bytes_append (x ∷ xs) ys = rw (bytes_append xs ys) (sym (append_assoc (packed x) (flat_map packed xs) (flat_map packed ys)))

pub size_append : (xs ys : List ℕ) → length (flat_map packed (xs ++ ys)) ≡ length (flat_map packed xs) + length (flat_map packed ys)
size_append xs ys = rw (bytes_append xs ys) (length-append (flat_map packed xs) (flat_map packed ys))

pub size_none : length (flat_map packed []) ≡ 0
unfolding flat_map
size_none = refl

pub size_cons : (x : ℕ) (xs : List ℕ) → length (flat_map packed (x ∷ xs)) ≡ length (packed x) + length (flat_map packed xs)
unfolding flat_map
size_cons x xs = length-append (packed x) (flat_map packed xs)

-- one by one
pub size_drop : (s : List ℕ) (k : ℕ) → k < length s → length (flat_map packed (drop k s)) ≡ length (packed (get_or s k 0)) + length (flat_map packed (drop (k + 1) s))
size_drop s k h = rw (drop-cons s k 0 h, add-one k) (size_cons (get_or s k 0) (drop (suc k) s))

pub size_done : (s : List ℕ) (k : ℕ) → length s ≤ k → length (flat_map packed (drop k s)) ≡ 0
size_done s k h = rw (drop_of_length-le s h) size_none

-- five bytes at most for each
pub size_most : (s : List ℕ) → length (flat_map packed s) ≤ 5 * length s
size_most [] = omega (arith, size_none)
size_most (x ∷ s) = omega (arith, size_cons x s, (packed_size 4 x).1, size_most s)
