-- Bytes put into a room from a place on, where they fit and where they do not.
use Prim.Native.Nat.{ℕ, suc, ◌+◌, ◌≤◌, ◌<◌}
use native.Mathlib.Omega.{arith}
use mathlib.Core.Path.{◌≡◌, refl, sym, ◌∙◌, ap}
use mathlib.Core.Bool.{Bool, true, false, cond}
use mathlib.Core.List.{List, [], ◌∷◌, ◌++◌, flat_map, append_assoc, append-nil}
use Rattle.std.specs.Prelude.{Ok, Err}
use lib.Dec.{leb}
use lib.ListN.{length, take, drop, set, length-append, length-drop}
use lib.Seq.{sets, sets-eq, length-sets, length-take-le}
use borrow.Author.Tests.{leb-true, le-leb, lt-leb}
use Rattle.timing.specs.Refusals.{refusal}
use Rattle.timing.specs.Numbers.{packed, write_answer, written_room}

-- a writer leaves a room of the same length
pub written_length : (room : List ℕ) (at : ℕ) (bs : List ℕ) → length (written_room room at bs) ≡ length room
unfolding written_room
written_length room at bs = go (leb (at + length bs) (length room)) refl
  where
    go : (b : Bool) → leb (at + length bs) (length room) ≡ b → length (cond b (take at room ++ (bs ++ drop (at + length bs) room)) room) ≡ length room
    go true e =
        let h = leb-true (at + length bs) (length room) e in
        let k : at ≤ length room = omega arith in
        omega (
          arith,
          length-append (take at room) (bs ++ drop (at + length bs) room),
          length-append bs (drop (at + length bs) room),
          length-take-le at room k,
          length-drop (at + length bs) room,
        )
    go false e = refl

-- bytes one list after the other
pub sets_append : {A : Type 0} (l : List A) (i : ℕ) (xs ys : List A) → sets l i (xs ++ ys) ≡ sets (sets l i xs) (i + length xs) ys
sets_append l i [] ys = ap (λ (k : ℕ). sets l k ys) (omega arith)
sets_append {A} l i (a ∷ xs) ys =
    let d : suc i + length xs ≡ i + suc (length xs) = omega arith in
    sets_append (set l i a) (suc i) xs ys ∙ ap (λ (k : ℕ). sets (sets (set l i a) (suc i) xs) k ys) d

-- where the bytes fit, the room that a writer leaves and its answer
pub written_sets : (room : List ℕ) (at : ℕ) (bs : List ℕ) → at + length bs ≤ length room → written_room room at bs ≡ sets room at bs
unfolding written_room
written_sets room at bs h = rw (le-leb (at + length bs) (length room) h) (sym (sets-eq bs room at h ∙ append_assoc (take at room) bs (drop (at + length bs) room)))

pub answer_fits : (room : List ℕ) (at : ℕ) (bs : List ℕ) → at + length bs ≤ length room → write_answer room at bs ≡ Ok (at + length bs)
unfolding write_answer
answer_fits room at bs h = rw (le-leb (at + length bs) (length room) h)

-- a room that has more bytes left has these
pub left_fewer : (len at n size : ℕ) → leb (at + n) len ≡ true → size ≤ n → leb (at + size) len ≡ true
left_fewer len at n size e h = let l = leb-true (at + n) len e in le-leb (at + size) len (omega arith)

-- where they do not
pub too_long : (room bs : List ℕ) (at : ℕ) → length room < at + length bs → (write_answer room at bs ≡ Err (refusal 35 0)) × (written_room room at bs ≡ room)
unfolding write_answer written_room
too_long room bs at h = rw (lt-leb (at + length bs) (length room) h) (refl, refl)

-- bytes written one list after the other
pub written_append : (room : List ℕ) (at : ℕ) (xs ys : List ℕ) → at + length (xs ++ ys) ≤ length room
    → written_room (written_room room at xs) (at + length xs) ys ≡ written_room room at (xs ++ ys)
written_append room at xs ys h =
    let n = length-append xs ys in
    let x = written_sets room at xs (omega arith) in
    rw x
    (written_sets (sets room at xs) (at + length xs) ys (omega (arith, length-sets room at xs)) ∙ sym (sets_append room at xs ys) ∙ sym (written_sets room at (xs ++ ys) h))

-- three numbers one after the other
pub row_bytes : (a b c : ℕ) → flat_map packed (a ∷ b ∷ c ∷ []) ≡ (packed a ++ packed b) ++ packed c
unfolding flat_map
row_bytes a b c = ap (λ (l : List ℕ). packed a ++ (packed b ++ l)) (append-nil (packed c)) ∙ sym (append_assoc (packed a) (packed b) (packed c))

pub row_size : (a b c : ℕ) → length (flat_map packed (a ∷ b ∷ c ∷ [])) ≡ length (packed a) + length (packed b) + length (packed c)
row_size a b c = rw (row_bytes a b c) (omega (arith, length-append (packed a ++ packed b) (packed c), length-append (packed a) (packed b)))
