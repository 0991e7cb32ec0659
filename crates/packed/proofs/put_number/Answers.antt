-- The first byte, and then the packed form of what is left.
use Prim.Native.Nat.{ℕ, ◌+◌, ◌/◌, ◌%◌, ◌≤◌, ◌<◌}
use native.Mathlib.Omega.{arith}
use native.Mathlib.Numerals.{add-one}
use mathlib.Core.Path.{◌≡◌, sym, ◌∙◌, ap}
use mathlib.Core.List.{List, ◌∷◌}
use lib.ListN.{length, set, length-set}
use Rattle.timing.specs.Numbers.{packed, written_room}
use Rattle.packed.proofs.Numbers.{cap, packed_size, packed_low, packed_high, packed_fewer}
use Rattle.packed.proofs.Rooms.{written_sets, written_length}
use Rattle.packed.proofs.put_number.Goals as goal

packed-next : (x : ℕ) → 128 ≤ x → x < 4294967296 → packed x ≡ (x % 128 + 128) ∷ packed (x / 128)
unfolding cap
packed-next x l h = packed_high 4 x l (omega arith) ∙ ap (λ (s : List ℕ). (x % 128 + 128) ∷ s) (sym (packed_fewer 3 (x / 128) (omega arith)))

-- one byte
alone : (room : List ℕ) (at x : ℕ) → at + length (packed x) ≤ length room → x < 128
    → (at + 1 ≡ at + length (packed x)) × (set room at x ≡ written_room room at (packed x))
alone room at x h l =
    let p = packed_low 4 x l in
    (omega (arith, ap length p), sym (written_sets room at (packed x) h ∙ rw p))

-- a byte, and behind it what is left
before : (room : List ℕ) (at x : ℕ) → at + length (packed x) ≤ length room → 128 ≤ x → x < 4294967296
    → (at + 1 + length (packed (x / 128)) ≡ at + length (packed x)) × (written_room (set room at (x % 128 + 128)) (at + 1) (packed (x / 128)) ≡ written_room room at (packed x))
before room at x h l u =
    let p = packed-next x l u in
    let n = ap length p in
    let r : at + 1 + length (packed (x / 128)) ≤ length (set room at (x % 128 + 128)) = simp length-set (omega arith) in
    (omega arith, written_sets (set room at (x % 128 + 128)) (at + 1) (packed (x / 128)) r ∙ rw add-one (sym (written_sets room at (packed x) h ∙ rw p)))

both : (room : List ℕ) (at x : ℕ) → at + length (packed x) ≤ length room → 128 ≤ x → x < 16384
    → (at + 2 ≡ at + length (packed x)) × (set (set room at (x % 128 + 128)) (at + 1) (x / 128) ≡ written_room room at (packed x))
both room at x h l u =
    let b = before room at x h l (omega arith) in
    let r : at + 1 + length (packed (x / 128)) ≤ length (set room at (x % 128 + 128)) = simp length-set (omega (arith, b.0)) in
    let a = alone (set room at (x % 128 + 128)) (at + 1) (x / 128) r (omega arith) in
    (omega (arith, a.0, b.0), a.1 ∙ b.1)

pub bounds-room-at : goal.bounds-room-at
bounds-room-at c = let a = c.args in omega (arith, c.requires, (packed_size 4 a.x).0)

pub returns-then-x-lt128 : goal.returns-then-x-lt128
returns-then-x-lt128 c = let a = c.args in alone a.room.now a.at a.x c.requires c.if-x-lt128.true

pub bounds-room-at-2 : goal.bounds-room-at-2
bounds-room-at-2 c = let a = c.args in omega (arith, c.requires, (packed_size 4 a.x).0)

pub bounds-room-at-then-x-lt16384 : goal.bounds-room-at-then-x-lt16384
bounds-room-at-then-x-lt16384 c =
    let a = c.args in
    simp length-set (omega (arith, c.requires, (both a.room.now a.at a.x c.requires (omega arith) c.if-x-lt16384.true).0))

pub returns-then-x-lt16384 : goal.returns-then-x-lt16384
returns-then-x-lt16384 c =
    let a = c.args in
    both a.room.now a.at a.x c.requires (omega arith) c.if-x-lt16384.true

pub put_groups-requires : goal.put_groups-requires
put_groups-requires c =
    let a = c.args in
    simp length-set (omega (arith, c.requires, (before a.room.now a.at a.x c.requires (omega arith) (omega arith)).0))

pub shape_of-room : goal.shape_of-room
shape_of-room c =
    let a = c.args in
    rw c.put_groups.ensures.1 (written_length (set a.room.now a.at (a.x % 128 + 128)) (a.at + 1) (packed (a.x / 128)) ∙ length-set a.room.now a.at (a.x % 128 + 128))

pub returns : goal.returns
returns c =
    let a = c.args in
    let b = before a.room.now a.at a.x c.requires (omega arith) (omega arith) in
    (c.put_groups.ensures.0 ∙ b.0, c.put_groups.ensures.1 ∙ b.1)
