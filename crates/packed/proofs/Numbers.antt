-- Laws of packed numbers, for a group count g left open and, of the reader, any largest highest group `top`.
-- Document 01's numbers are g = 4 and top = 15.
use Prim.Native.Nat.{ℕ, zero, suc, ◌+◌, ◌-◌, ◌*◌, ◌/◌, ◌%◌, ◌≤◌, ◌<◌}
use native.Mathlib.Omega.{arith}
use native.Mathlib.Numerals.{add-one}
use mathlib.Core.Path.{◌≡◌, refl, sym, ◌∙◌, ap}
use mathlib.Core.Bool.{Bool, true, false, cond}
use mathlib.Core.List.{List, [], ◌∷◌, ◌++◌}
use Rattle.std.specs.Prelude.{Result, Ok, Err}
use Rattle.timing.specs.Answers.{Number, Value}
use Rattle.timing.specs.declared.Groups.{Groups}
use Rattle.timing.specs.declared.NoNumber.{NoNumber}
use Rattle.timing.specs.declared.Taken.{Taken}
use Rattle.timing.specs.declared.Refusal.{Refusal}
use Rattle.timing.specs.declared.NoNumber.TheVariants.{Ended, Unfit}
use lib.Dec.{ltb, leb, eqb}
use lib.ListN.{length, get_or, take, drop, drop_of_length-le}
use lib.Seq.{drop-cons, get_or-drop, drop_at, length-take-le}
use borrow.Author.Tests.{ltb-true, ltb-false, leb-true, eqb-false, lt-ltb, le-ltb, le-leb, ne_eqb}
use Rattle.timing.specs.Numbers.{packed_in, packed, followed, groups_in, number_answer, read_number, written_room}
use Rattle.timing.proofs.Choice.{cond_elim}

-- how many numbers there are of at most g groups after the first
unfoldable pub cap : ℕ → ℕ → ℕ
cap top zero = top + 1
cap top (suc g) = 128 * cap top g

-- document 01's numbers are those up to 4,294,967,295
pub cap_32 : cap 15 4 ≡ 4294967296
unfolding cap
cap_32 = refl

pub cap_le : (g : ℕ) → g ≤ 4 → cap 15 g ≤ 4294967296
unfolding cap
cap_le zero h = omega arith
cap_le (suc zero) h = omega arith
cap_le (suc (suc zero)) h = omega arith
cap_le (suc (suc (suc zero))) h = omega arith
cap_le (suc (suc (suc (suc zero)))) h = omega arith
cap_le (suc (suc (suc (suc (suc g))))) h = absurd (omega arith)

cap_pos : (top g : ℕ) → 1 ≤ cap top g
unfolding cap
cap_pos top zero = omega arith
cap_pos top (suc g) = omega (arith, cap_pos top g)

abbrev pub Bytes : List ℕ → Type 0
Bytes s = (i : ℕ) → get_or s i 0 < 256

pub bytes_drop : (s : List ℕ) (at : ℕ) → Bytes s → Bytes (drop at s)
bytes_drop s at h i = rw get_or-drop (h (at + i))

-- 1. Reading what was packed gives the number and its size, whatever follows.
pub read_packed : (top g x : ℕ) (rest : List ℕ) → x < cap top g → groups_in top g (packed_in g x ++ rest) ≡ Number x (length (packed_in g x))
unfolding groups_in packed_in cap
read_packed top zero x rest h = rw (le-leb x top (omega arith))
read_packed top (suc g) x rest h =
    cond_elim (λ (l : List ℕ). groups_in top (suc g) (l ++ rest) ≡ Number x (length l)) (ltb x 128)
    (λ e. rw e)
    (λ e. let l = ltb-false x 128 e in
    rw (le-ltb (x % 128 + 128) 128 (omega arith), read_packed top g (x / 128) rest (omega arith), ne_eqb (x / 128) 0 (λ q. omega arith), add-one)
    (ap (λ (y : ℕ). Number y (suc (length (packed_in g (x / 128))))) (omega arith)))

-- 2. Packing what was read gives the bytes that were read.
abbrev pub Back : ℕ → List ℕ → Result Groups NoNumber → Type 0
Back g s (Ok m) = take m.size s ≡ packed_in g m.value
Back g s (Err Ended) = Unit {0}
Back g s (Err Unfit) = Unit {0}

followed_back : (g a : ℕ) (s : List ℕ) (r : Result Groups NoNumber) → 128 ≤ a → a < 256 → Back g s r → Back (suc g) (a ∷ s) (followed a r)
unfolding packed_in
followed_back g a s (Ok m') l h k =
    cond_elim (Back (suc g) (a ∷ s)) (eqb m'.value 0) (λ e. tt)
    (λ e. let p : 1 ≤ m'.value = omega (arith, eqb-false m'.value 0 e) in
    let q : (a - 128 + 128 * m'.value) / 128 ≡ m'.value = omega arith in
    let m : (a - 128 + 128 * m'.value) % 128 + 128 ≡ a = omega arith in
    rw (add-one m'.size, le-ltb (a - 128 + 128 * m'.value) 128 (omega arith), q, m, k))
followed_back g a s (Err Ended) l h k = tt
followed_back g a s (Err Unfit) l h k = tt

pub packed_read : (top g : ℕ) (s : List ℕ) → Bytes s → Back g s (groups_in top g s)
unfolding groups_in packed_in
packed_read top zero [] h = tt
packed_read top (suc g) [] h = tt
packed_read top zero (a ∷ s) h = cond_elim (Back zero (a ∷ s)) (leb a top) (λ e. refl) (λ e. tt)
packed_read top (suc g) (a ∷ s) h =
    cond_elim (Back (suc g) (a ∷ s)) (ltb a 128)
    (λ e. rw e)
    (λ e. followed_back g a s (groups_in top g s) (ltb-false a 128 e) (h 0) (packed_read top g s (λ i. h (suc i))))

-- 3. What is read is below the bound and takes at most a byte for each group.
abbrev pub Below : ℕ → ℕ → Result Groups NoNumber → Type 0
Below m g (Ok m') = (m'.value < m) × (m'.size ≤ g + 1)
Below m g (Err Ended) = Unit {0}
Below m g (Err Unfit) = Unit {0}

followed_below : (m g b : ℕ) (r : Result Groups NoNumber) → b < 256 → Below m g r → Below (128 * m) (suc g) (followed b r)
followed_below m g b (Ok m') h k = cond_elim (Below (128 * m) (suc g)) (eqb m'.value 0) (λ e. tt) (λ e. (omega arith, omega arith))
followed_below m g b (Err Ended) h k = tt
followed_below m g b (Err Unfit) h k = tt

pub number_below : (top g : ℕ) (s : List ℕ) → Bytes s → Below (cap top g) g (groups_in top g s)
unfolding groups_in cap
number_below top zero [] h = tt
number_below top zero (b ∷ s) h = cond_elim (Below (top + 1) zero) (leb b top) (λ e. (omega (arith, leb-true b top e), omega arith)) (λ e. tt)
number_below top (suc g) [] h = tt
number_below top (suc g) (b ∷ s) h =
    cond_elim (Below (128 * cap top g) (suc g)) (ltb b 128)
    (λ e. (omega (arith, ltb-true b 128 e, cap_pos top g), omega arith))
    (λ e. followed_below (cap top g) g b (groups_in top g s) (h 0) (number_below top g s (λ i. h (suc i))))

-- 4. A number takes a byte at least, and no byte past the end.
abbrev pub Inside : List ℕ → Result Groups NoNumber → Type 0
Inside s (Ok m) = (1 ≤ m.size) × (m.size ≤ length s)
Inside s (Err Ended) = Unit {0}
Inside s (Err Unfit) = Unit {0}

followed_inside : (a : ℕ) (s : List ℕ) (r : Result Groups NoNumber) → Inside s r → Inside (a ∷ s) (followed a r)
followed_inside a s (Ok m) k = cond_elim (Inside (a ∷ s)) (eqb m.value 0) (λ e. tt) (λ e. (omega arith, omega arith))
followed_inside a s (Err Ended) k = tt
followed_inside a s (Err Unfit) k = tt

pub number_inside : (top g : ℕ) (s : List ℕ) → Inside s (groups_in top g s)
unfolding groups_in
number_inside top zero [] = tt
number_inside top (suc g) [] = tt
number_inside top zero (a ∷ s) = cond_elim (Inside (a ∷ s)) (leb a top) (λ e. (omega arith, omega arith)) (λ e. tt)
number_inside top (suc g) (a ∷ s) =
    cond_elim (Inside (a ∷ s)) (ltb a 128) (λ e. (omega arith, omega arith)) (λ e. followed_inside a s (groups_in top g s) (number_inside top g s))

-- The packed form of a number with no more groups, and of one with more; and where there are fewer groups than may be, it is the same.
pub packed_low : (g v : ℕ) → v < 128 → packed_in g v ≡ v ∷ []
unfolding packed_in
packed_low zero v h = refl
packed_low (suc g) v h = rw (lt-ltb v 128 h)

pub packed_high : (g v : ℕ) → 128 ≤ v → 1 ≤ g → packed_in g v ≡ (v % 128 + 128) ∷ packed_in (g - 1) (v / 128)
unfolding packed_in
packed_high zero v h l = absurd (omega arith)
packed_high (suc g) v h l =
    let d : suc g - 1 ≡ g = omega arith in
    rw (le-ltb v 128 h, d)

pub packed_fewer : (g v : ℕ) → v < cap 127 g → packed_in (suc g) v ≡ packed_in g v
unfolding packed_in cap
packed_fewer zero v h = rw (lt-ltb v 128 (omega arith))
packed_fewer (suc g) v h = ap (λ (l : List ℕ). cond (ltb v 128) (v ∷ []) ((v % 128 + 128) ∷ l)) (packed_fewer g (v / 128) (omega arith))

-- 5. Sizes: a packed form has 1 to g + 1 bytes, so 1 to 5 for document 01's numbers.
pub packed_size : (g x : ℕ) → (1 ≤ length (packed_in g x)) × (length (packed_in g x) ≤ g + 1)
unfolding packed_in
packed_size zero x = (omega arith, omega arith)
packed_size (suc g) x =
    cond_elim (λ (l : List ℕ). (1 ≤ length l) × (length l ≤ suc g + 1)) (ltb x 128)
    (λ e. (omega arith, omega arith))
    (λ e. (omega arith, omega (arith, (packed_size g (x / 128)).1)))

-- and one byte more for each of the g powers of 128 that the number reaches; here those of b times 128
unfoldable pub reached : ℕ → ℕ → ℕ → ℕ
reached zero b x = 0
reached (suc g) b x = cond (ltb x b) 0 1 + reached g (128 * b) x

reached_none : (g b x : ℕ) → x < b → reached g b x ≡ 0
unfolding reached
reached_none zero b x h = refl
reached_none (suc g) b x h = rw (lt-ltb x b h) (omega (arith, reached_none g (128 * b) x (omega arith)))

reached_next : (g b x : ℕ) → reached g b (x / 128) ≡ reached g (128 * b) x
unfolding reached
reached_next zero b x = refl
reached_next (suc g) b x = rw (same (ltb x (128 * b)) refl) (ap (λ (n : ℕ). cond (ltb x (128 * b)) 0 1 + n) (reached_next g (128 * b) x))
  where
    same : (t : Bool) → ltb x (128 * b) ≡ t → ltb (x / 128) b ≡ ltb x (128 * b)
    same true e = let l = ltb-true x (128 * b) e in lt-ltb (x / 128) b (omega arith) ∙ sym e
    same false e = let l = ltb-false x (128 * b) e in le-ltb (x / 128) b (omega arith) ∙ sym e

pub packed_reached : (g x : ℕ) → length (packed_in g x) ≡ 1 + reached g 128 x
unfolding packed_in reached
packed_reached zero x = refl
packed_reached (suc g) x =
    cond_elim (λ (l : List ℕ). length l ≡ 1 + (cond (ltb x 128) 0 1 + reached g (128 * 128) x)) (ltb x 128)
    (λ e. rw (e, reached_none g (128 * 128) x (omega (arith, ltb-true x 128 e))))
    (λ e. rw (e, packed_reached g (x / 128), reached_next g 128 x) (omega arith))

-- 6. Shortest: bytes in groups, all but the last with the top bit set, that come to x are at least as many as the packed form has.
abbrev pub Grouped : List ℕ → Type 0
Grouped [] = ⊥
Grouped (b ∷ []) = b < 128
Grouped (b ∷ c ∷ s) = (128 ≤ b) × (b < 256) × Grouped (c ∷ s)

-- what they come to
abbrev pub total : List ℕ → ℕ
total [] = 0
total (b ∷ s) = b % 128 + 128 * total s

pub packed_grouped : (g x : ℕ) → x < cap 127 g → Grouped (packed_in g x) × (total (packed_in g x) ≡ x)
unfolding packed_in cap
packed_grouped zero x h = (omega arith, omega arith)
packed_grouped (suc g) x h =
    cond_elim (λ (l : List ℕ). Grouped l × (total l ≡ x)) (ltb x 128)
    (λ e. (ltb-true x 128 e, omega (arith, ltb-true x 128 e)))
    (λ e. let k = packed_grouped g (x / 128) (omega arith) in
    (before (x % 128 + 128) (packed_in g (x / 128)) (omega arith) (omega arith) k.0, omega (arith, k.1)))
  where
    before : (b : ℕ) (s : List ℕ) → 128 ≤ b → b < 256 → Grouped s → Grouped (b ∷ s)
    before b [] l u k = absurd k
    before b (c ∷ s) l u k = (l, u, k)

pub packed_shortest : (g x : ℕ) (s : List ℕ) → Grouped s → total s ≡ x → length (packed_in g x) ≤ length s
unfolding packed_in
packed_shortest zero x [] k e = absurd k
packed_shortest (suc g) x [] k e = absurd k
packed_shortest zero x (b ∷ s) k e = omega arith
packed_shortest (suc g) x (b ∷ []) k e = rw (lt-ltb x 128 (omega arith)) (omega arith)
packed_shortest (suc g) x (b ∷ c ∷ s) k e =
    cond_elim (λ (l : List ℕ). length l ≤ length (b ∷ c ∷ s)) (ltb x 128)
    (λ q. omega arith)
    (λ q. omega (arith, packed_shortest g (x / 128) (c ∷ s) k.2 (omega arith)))

-- The cases at a place of a list, as the reader meets them.
pub number_end : (top g : ℕ) (s : List ℕ) (at : ℕ) → length s ≤ at → groups_in top g (drop at s) ≡ (Err Ended)
unfolding groups_in
number_end top zero s at h = rw (drop_of_length-le s h)
number_end top (suc g) s at h = rw (drop_of_length-le s h)

pub number_last : (top g : ℕ) (s : List ℕ) (at : ℕ) → at < length s → g ≡ 0 → groups_in top g (drop at s) ≡ cond (leb (get_or s at 0) top) (Number (get_or s at 0) 1) (Err Unfit)
unfolding groups_in
number_last top g s at h e = rw (e, drop-cons s at 0 h)

pub number_step : (top g : ℕ) (s : List ℕ) (at : ℕ) → at < length s → (g ≡ 0 → ⊥) → groups_in top g (drop at s) ≡ cond (ltb (get_or s at 0) 128) (Number (get_or s at 0) 1) (followed (get_or s at 0) (groups_in top (g - 1) (drop (at + 1) s)))
unfolding groups_in
number_step top zero s at h e = absurd (e refl)
number_step top (suc g) s at h e =
    let d : suc g - 1 ≡ g = omega arith in
    rw (drop-cons s at 0 h, add-one at, d)

-- A number of one byte, and one of two.
pub read_one : (s : List ℕ) (at : ℕ) → at < length s → get_or s at 0 < 128 → read_number s at ≡ Value (get_or s at 0) (at + 1)
unfolding read_number
read_one s at h l = rw (number_step 15 4 s at h (λ e. omega arith), lt-ltb (get_or s at 0) 128 l)

pub read_two : (s : List ℕ) (at : ℕ) → at + 1 < length s → 128 ≤ get_or s at 0 → 0 < get_or s (at + 1) 0 → get_or s (at + 1) 0 < 128
    → read_number s at ≡ Value (get_or s at 0 - 128 + 128 * get_or s (at + 1) 0) (at + 2)
unfolding read_number
read_two s at h m p l =
    rw (number_step 15 4 s at (omega arith) (λ e. omega arith), le-ltb (get_or s at 0) 128 m, number_step 15 3 s (at + 1) h (λ e. omega arith), lt-ltb (get_or s (at + 1) 0) 128 l, ne_eqb (get_or s (at + 1) 0) 0 (λ e. omega arith))

-- The two laws as the calls have them. Reading where a number was written gives it and the place behind it:
pub read_written : (room : List ℕ) (at x : ℕ) → x < 4294967296 → at + length (packed x) ≤ length room → read_number (written_room room at (packed x)) at ≡ Value x (at + length (packed x))
unfolding read_number written_room
read_written room at x l h =
    rw (le-leb (at + length (packed x)) (length room) h, drop_at (take at room) (packed x ++ drop (at + length (packed x)) room) at (length-take-le at room (omega arith)), read_packed 15 4 x (drop (at + length (packed x)) room) (rw cap_32 l))

-- and the bytes that were read as a number are its packed form.
abbrev pub SameBytes : List ℕ → ℕ → Result Taken Refusal → Type 0
SameBytes s at (Ok t) = take (t.next - at) (drop at s) ≡ packed t.value
SameBytes s at (Err r) = Unit {0}

pub written_read : (s : List ℕ) (at : ℕ) → Bytes s → SameBytes s at (read_number s at)
unfolding read_number
written_read s at h = by (groups_in 15 4 (drop at s)) (packed_read 15 4 (drop at s) (bytes_drop s at h))
  where
    by : (r : Result Groups NoNumber) → Back 4 (drop at s) r → SameBytes s at (number_answer (length s) at r)
    by (Ok m) k = let d : at + m.size - at ≡ m.size = omega arith in rw d k
    by (Err Ended) k = tt
    by (Err Unfit) k = tt
