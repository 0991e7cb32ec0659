-- What the two packed forms have in common: numbers read back from where they were written, and numbers that were read, written
-- again; and what a writer leaves at the front of its room.
use Prim.Native.Nat.{ℕ, zero, suc, ◌+◌, ◌≤◌, ◌<◌}
use native.Mathlib.Omega.{arith}
use mathlib.Core.Path.{◌≡◌, refl, sym, ◌∙◌, ap}
use mathlib.Core.Bool.{Bool, true, false, cond}
use mathlib.Core.List.{List, [], ◌∷◌, ◌++◌, flat_map, append_assoc, append-nil}
use Rattle.std.specs.Prelude.{Result, Ok, Err}
use Rattle.timing.specs.Answers.{Verdict, Passed, Number}
use Rattle.timing.specs.declared.Groups.{Groups}
use Rattle.timing.specs.declared.NoNumber.{NoNumber}
use Rattle.timing.specs.declared.NoNumber.TheVariants.{Ended, Unfit}
use lib.Dec.{leb}
use lib.ListN.{length, take, drop, take-append-drop, drop_of_length-le}
use lib.Seq.{drop-drop, drop-append_seam, take-append_seam}
use borrow.Author.Tests.{le-leb, leb-true}
use Rattle.timing.specs.Numbers.{packed, groups_in, number_answer, read_number, write_answer, written_room}
use Rattle.timing.specs.Refusals.{refusal}
use Rattle.timing.specs.Parsing.{found, stopped, Reader, onward, ◌>>=◌, return, parsed_number, number, repeated, ended}
use Rattle.timing.specs.Calls.{writing, room_after_writing}
use Rattle.packed.proofs.Numbers.{cap_32, Bytes, bytes_drop, read_packed, Back, packed_read}
use Rattle.packed_lists.specs.Writing.{bytes_of}
use Rattle.packed_lists.proofs.Writing.{bytes_append, bytes_one}
use Rattle.deck_reader.proofs.Reading.{Is, is_onward}

-- numbers that fit 32 bits
abbrev pub Small : List ℕ → Type 0
Small [] = Unit {0}
Small (x ∷ xs) = (x < 4294967296) × Small xs

pub small_append : (xs ys : List ℕ) → Small (xs ++ ys) → Small xs × Small ys
small_append [] ys h = (tt, h)
small_append (x ∷ xs) ys h = let g = small_append xs ys h.1 in ((h.0, g.0), g.1)

-- 1. Reading what was written. A reader at a place finds x, and behind it the bytes are those of the numbers ys.
pub record There {A : Type 0} (s : List ℕ) (p : Reader A) (at : ℕ) (x : A) (ys : List ℕ) : Type 0 where
  pub next : ℕ
  pub reads : p at ≡ found x next
  pub left : drop next s ≡ bytes_of ys

pub number_there : (s : List ℕ) (at x : ℕ) (ys : List ℕ) → x < 4294967296 → drop at s ≡ bytes_of (x ∷ ys) → There s (number s) at x ys
unfolding read_number bytes_of flat_map
number_there s at x ys h e =
    let g : groups_in 15 4 (drop at s) ≡ Number x (length (packed x)) = rw e (read_packed 15 4 x (bytes_of ys) (rw cap_32 h)) in
    record {
      next = at + length (packed x);
      reads = rw g;
      left = sym (drop-drop (length (packed x)) at s) ∙ ap (λ (l : List ℕ). drop (length (packed x)) l) e ∙ drop-append_seam (packed x) (bytes_of ys);
    }

pub numbers_there : (s : List ℕ) (at : ℕ) (xs ys : List ℕ) → Small xs → drop at s ≡ bytes_of (xs ++ ys) → There s (repeated (length xs) (number s)) at xs ys
numbers_there s at [] ys h e = record { next = at; reads = refl; left = e }
numbers_there s at (x ∷ xs) ys h e =
    let t = number_there s at x (xs ++ ys) h.0 e in
    let u = numbers_there s t.next xs ys h.1 t.left in
    record { next = u.next; reads = rw (t.reads, u.reads); left = u.left }

-- 2. Writing what was read. The bytes from a place up to the next are those of the numbers xs.
abbrev pub Took : List ℕ → ℕ → List ℕ → ℕ → Type 0
Took s at xs next = drop at s ≡ bytes_of xs ++ drop next s

pub took_both : (s : List ℕ) (at mid next : ℕ) (xs ys : List ℕ) → Took s at xs mid → Took s mid ys next → Took s at (xs ++ ys) next
took_both s at mid next xs ys f g =
    f ∙ ap (λ (l : List ℕ). bytes_of xs ++ l) g ∙ sym (append_assoc (bytes_of xs) (bytes_of ys) (drop next s)) ∙ ap (λ (l : List ℕ). l ++ drop next s) (sym (bytes_append xs ys))

pub took_none : (s : List ℕ) (at : ℕ) → Took s at [] at
unfolding bytes_of flat_map
took_none s at = refl

module _ (s : List ℕ) (bytes : Bytes s) where
  pub took_number : (at : ℕ) → Is (λ x next. Took s at (x ∷ []) next) (number s at)
  unfolding read_number
  took_number at = by (groups_in 15 4 (drop at s)) (packed_read 15 4 (drop at s) (bytes_drop s at bytes))
    where
      by : (g : Result Groups NoNumber) → Back 4 (drop at s) g → Is (λ x next. Took s at (x ∷ []) next) (parsed_number (number_answer (length s) at g))
      by (Ok m) k = sym (take-append-drop m.size (drop at s)) ∙ rw (k, bytes_one m.value, drop-drop m.size at s)
      by (Err Ended) k = tt
      by (Err Unfit) k = tt

  abbrev pub TookNumbers : ℕ → ℕ → List ℕ → ℕ → Type 0
  TookNumbers k at xs next = Took s at xs next × (length xs ≡ k)

  pub took_numbers : (k at : ℕ) → Is (TookNumbers k at) (repeated k (number s) at)
  took_numbers zero at = (took_none s at, refl)
  took_numbers (suc k) at =
      is_onward (λ x next. Took s at (x ∷ []) next) (TookNumbers (suc k) at) (number s at) (λ x. repeated k (number s) >>= (λ xs. return (x ∷ xs))) (took_number at)
      (λ x a f. is_onward (TookNumbers k a) (TookNumbers (suc k) at) (repeated k (number s) a) (λ xs. return (x ∷ xs)) (took_numbers k a)
      (λ xs b g. (took_both s at a b (x ∷ []) xs f g.0, ap suc g.1)))

  -- one number more, behind the numbers xs
  pub took_next : {A : Type 0} (Q : A → ℕ → Type 0) (from at : ℕ) (xs : List ℕ) (f : ℕ → Reader A) → Took s from xs at → ((x a : ℕ) → Took s from (xs ++ (x ∷ [])) a → Is Q (f x a)) → Is Q (onward (number s at) f)
  took_next Q from at xs f h k = is_onward (λ x next. Took s at (x ∷ []) next) Q (number s at) f (took_number at) (λ x a g. k x a (took_both s from at a xs (x ∷ []) h g))

  pub is_ended : (at : ℕ) → Is (λ u next. length s ≤ at) (ended s at)
  is_ended at = by (leb (length s) at) refl
    where
      by : (t : Bool) → leb (length s) at ≡ t → Is (λ u next. length s ≤ at) (cond t (found (tt {0}) at) (stopped (refusal 3 at)))
      by true e = leb-true (length s) at e
      by false e = tt

  pub whole : (next : ℕ) (xs : List ℕ) → Took s 0 xs next → length s ≤ next → bytes_of xs ≡ s
  whole next xs f h = sym (f ∙ ap (λ (l : List ℕ). bytes_of xs ++ l) (drop_of_length-le s h) ∙ append-nil (bytes_of xs))

-- 3. A writer whose tests pass and whose room is long enough answers the length and leaves the bytes at the front of the room;
-- and where it answers a length, it has done so.
pub left_front : (v : Verdict) (room bs : List ℕ) → v ≡ Passed → length bs ≤ length room
    → (writing v room bs ≡ Ok (length bs)) × (take (length bs) (room_after_writing v room bs) ≡ bs)
unfolding write_answer written_room
left_front v room bs e h =
    let d : 0 + length bs ≡ length bs = omega arith in
    rw (e, d, le-leb (length bs) (length room) h) (refl, take-append_seam bs (drop (length bs) room))

pub front_left : (v : Verdict) (room bs : List ℕ) (n : ℕ) → writing v room bs ≡ Ok n → (v ≡ Passed) × (take n (room_after_writing v room bs) ≡ bs)
unfolding write_answer
front_left (Err r) room bs n e = absurd (let z : ◌≡◌ {A = ℕ} 0 1 = cc in omega arith)
front_left Passed room bs n e = (refl, go (leb (0 + length bs) (length room)) refl e)
  where
    go : (b : Bool) → leb (0 + length bs) (length room) ≡ b → cond b (Ok (0 + length bs)) (Err (refusal 35 0)) ≡ Ok n → take n (written_room room 0 bs) ≡ bs
    go true t f =
        let d : 0 + length bs ≡ n = cc in
        let k : n ≡ length bs = omega arith in
        rw k (left_front Passed room bs refl (omega (arith, leb-true (0 + length bs) (length room) t))).1
    go false t f = absurd (let z : ◌≡◌ {A = ℕ} 0 1 = cc in omega arith)
