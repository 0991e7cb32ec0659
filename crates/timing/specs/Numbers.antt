-- Packed form, the numbers: "0 to 4,294,967,295 in groups of seven bits, lowest group first, the top bit of a byte
-- set when more follow, shortest form only; a fifth byte above hexadecimal 0F is too large even as the last byte".
-- g is how many groups may follow the first one: 4 for the numbers of document 01, and left open in every law.
use Rattle.std.specs.Prelude.{ℕ, zero, suc, ◌+◌, ◌-◌, ◌*◌, ◌/◌, ◌%◌, cond, List, [], ◌∷◌, ◌++◌, ltb, leb, eqb, length, take, drop, Result, Ok, Err}
use Rattle.timing.specs.Answers.{Number, Value}
use Rattle.timing.specs.declared.Groups.{Groups}
use Rattle.timing.specs.declared.NoNumber.{NoNumber}
use Rattle.timing.specs.declared.Taken.{Taken}
use Rattle.timing.specs.declared.Refusal.{Refusal}
use Rattle.timing.specs.declared.NoNumber.TheVariants.{Ended, Unfit}
use Rattle.timing.specs.Refusals.{refusal}

-- the packed form of x, with at most g groups after its first
unfoldable pub packed_in : ℕ → ℕ → List ℕ
packed_in zero x = x ∷ []
packed_in (suc g) x = cond (ltb x 128) (x ∷ []) ((x % 128 + 128) ∷ packed_in g (x / 128))

-- the packed form of a number of document 01
abbrev pub packed : ℕ → List ℕ
packed x = packed_in 4 x

-- a byte b with its top bit set, in front of the groups that follow: a highest group of 0 is not shortest
abbrev pub followed : ℕ → Result Groups NoNumber → Result Groups NoNumber
followed b (Ok m) = cond (eqb m.value 0) (Err Unfit) (Number (b - 128 + 128 * m.value) (m.size + 1))
followed b (Err Ended) = (Err Ended)
followed b (Err Unfit) = (Err Unfit)

-- the number that the bytes begin with; the last group that may follow is at most top, with no top bit
unfoldable pub groups_in : ℕ → ℕ → List ℕ → Result Groups NoNumber
groups_in top zero [] = (Err Ended)
groups_in top zero (b ∷ s) = cond (leb b top) (Number b 1) (Err Unfit)
groups_in top (suc g) [] = (Err Ended)
groups_in top (suc g) (b ∷ s) = cond (ltb b 128) (Number b 1) (followed b (groups_in top g s))

-- 1: the bytes end inside a number, offset their length; 2: it is not shortest or too large, offset of its first byte
abbrev pub number_answer : ℕ → ℕ → Result Groups NoNumber → Result Taken Refusal
number_answer len at (Ok m) = Value m.value (at + m.size)
number_answer len at (Err Ended) = Err (refusal 1 len)
number_answer len at (Err Unfit) = Err (refusal 2 at)

-- reading a number at a place of the bytes
unfoldable pub read_number : List ℕ → ℕ → Result Taken Refusal
read_number s at = number_answer (length s) at (groups_in 15 4 (drop at s))

-- 35: the packed result bs, written from a place on, is longer than its room
unfoldable pub write_answer : List ℕ → ℕ → List ℕ → Result ℕ Refusal
write_answer room at bs = cond (leb (at + length bs) (length room)) (Ok (at + length bs)) (Err (refusal 35 0))

-- the room afterwards: bs from the place on and all else unchanged, or, on a refusal, as it was
unfoldable pub written_room : List ℕ → ℕ → List ℕ → List ℕ
written_room room at bs =
    cond (leb (at + length bs) (length room)) (take at room ++ (bs ++ drop (at + length bs) room)) room
