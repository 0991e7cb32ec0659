-- Numbers written by one call after the other, each behind the one before: after a refusal nothing more is written. The writer of a graph
-- writes no such chain (it knows beforehand that all fits); `proofs/Chain` says that it would come to the same.
use Rattle.std.specs.Prelude.{ℕ, Result, Ok, Err}
use mathlib.Core.List.{List, [], ◌∷◌}
use Rattle.timing.specs.declared.Refusal.{Refusal}
use Rattle.timing.specs.Numbers.{packed, write_answer, written_room}

abbrev pub wrote_next : Result ℕ Refusal → List ℕ → ℕ → Result ℕ Refusal
wrote_next (Ok at) room x = write_answer room at (packed x)
wrote_next (Err r) room x = Err r

abbrev pub room_next : Result ℕ Refusal → List ℕ → ℕ → List ℕ
room_next (Ok at) room x = written_room room at (packed x)
room_next (Err r) room x = room

abbrev pub wrote_all : Result ℕ Refusal → List ℕ → List ℕ → Result ℕ Refusal
wrote_all w room [] = w
wrote_all w room (x ∷ xs) = wrote_all (wrote_next w room x) (room_next w room x) xs

abbrev pub room_all : Result ℕ Refusal → List ℕ → List ℕ → List ℕ
room_all w room [] = room
room_all w room (x ∷ xs) = room_all (wrote_next w room x) (room_next w room x) xs
