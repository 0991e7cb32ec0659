-- Plain functions on lists that the definitions are made of; they stand for no term of document 01.
use Rattle.std.specs.Prelude.{ℕ, zero, suc, ◌+◌, Bool, true, false, cond, ◌&&◌, ◌||◌, List, [], ◌∷◌, ◌++◌, length, drop}

module _ {A : Type 0} where
  abbrev pub is_nil : List A → Bool
  is_nil [] = true
  is_nil (x ∷ xs) = false

  abbrev pub any_of : (A → Bool) → List A → Bool
  any_of p [] = false
  any_of p (x ∷ xs) = p x || any_of p xs

  abbrev pub all_of : (A → Bool) → List A → Bool
  all_of p [] = true
  all_of p (x ∷ xs) = p x && all_of p xs

  abbrev pub keep : (A → Bool) → List A → List A
  keep p [] = []
  keep p (x ∷ xs) = cond (p x) (x ∷ keep p xs) (keep p xs)

  -- how many of a list pass a test
  abbrev pub count_of : (A → Bool) → List A → ℕ
  count_of p xs = length (keep p xs)

  -- each element passes a test with the one after it
  abbrev pub each_next : (A → A → Bool) → List A → Bool
  each_next p [] = true
  each_next p (x ∷ []) = true
  each_next p (x ∷ y ∷ xs) = p x y && each_next p (y ∷ xs)

  -- a result at the front of a room, whose places past the result are unchanged
  abbrev pub placed : List A → List A → List A
  placed xs room = xs ++ drop (length xs) room

-- 1 where something holds, and 0 where not
abbrev pub one_if : Bool → ℕ
one_if b = cond b 1 0

-- n numbers from i on
abbrev pub upto : ℕ → ℕ → List ℕ
upto zero i = []
upto (suc n) i = i ∷ upto n (suc i)

abbrev pub sum : List ℕ → ℕ
sum [] = 0
sum (x ∷ xs) = x + sum xs
