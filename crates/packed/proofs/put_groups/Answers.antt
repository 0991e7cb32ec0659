use Prim.Native.Nat.{ℕ, zero, suc, ◌+◌, ◌-◌, ◌/◌, ◌%◌, ◌≤◌, ◌<◌}
use native.Mathlib.Omega.{arith}
use native.Mathlib.Numerals.{add-one}
use mathlib.Core.Path.{◌≡◌, refl, sym, ◌∙◌, ap}
use mathlib.Core.List.{List}
use lib.ListN.{length, set, length-set}
use lib.Seq.{sets}
use Rattle.timing.specs.Numbers.{packed}
use Rattle.packed.proofs.Numbers.{cap, packed_size, packed_low, packed_high}
use Rattle.packed.proofs.Rooms.{written_sets}
use Rattle.packed.proofs.put_groups.Invariants.{Left}
use Rattle.packed.proofs.put_groups.Goals as goal

cap-high : (g v : ℕ) → 128 ≤ v → v < cap 15 g → (1 ≤ g) × (v / 128 < cap 15 (g - 1))
unfolding cap
cap-high zero v h l = absurd (omega arith)
cap-high (suc g) v h l =
    let d : suc g - 1 ≡ g = omega arith in
    (omega arith, rw d (omega arith))

left-all : (room : List ℕ) (at x : ℕ) → x < 4294967296 → Left room at x room at x
unfolding cap
left-all room at x h =
    let d : at + 4 - at ≡ 4 = omega arith in
    record { from = omega arith; to = omega arith; small = rw d (omega arith); long = refl; end = rw d; whole = rw d }

left-turn : {room₀ : List ℕ} {at x : ℕ} {room : List ℕ} {next v : ℕ} → 128 ≤ v → Left room₀ at x room next v → Left room₀ at x (set room next (v % 128 + 128)) (next + 1) (v / 128)
left-turn {room₀} {at} {x} {room} {next} {v} h l =
    let k = cap-high (at + 4 - next) v h l.small in
    let p = packed_high (at + 4 - next) v h k.0 in
    let d : at + 4 - next - 1 ≡ at + 4 - (next + 1) = omega arith in
    record {
      from = omega (arith, l.from);
      to = omega (arith, k.0);
      small = rw (← d) k.1;
      long = simp length-set l.long;
      end = rw (← d) (omega (arith, l.end, ap length p));
      whole = rw (← d, add-one next) (rw p at l.whole);
    }

-- the last group is where what is left ends
last_end : {room₀ : List ℕ} {at x : ℕ} {room : List ℕ} {next v : ℕ} → v < 128 → Left room₀ at x room next v → (next + 1 ≡ at + length (packed x)) × (set room next v ≡ sets room₀ at (packed x))
last_end {room₀} {at} {x} {room} {next} {v} h l =
    let p = packed_low (at + 4 - next) v h in
    (omega (arith, l.end, ap length p), rw p at l.whole)

-- there is a place for the next group
inside : {room₀ : List ℕ} {at x : ℕ} {room : List ℕ} {next v : ℕ} → at + length (packed x) ≤ length room₀ → Left room₀ at x room next v → next < length room
inside {room₀} {at} {x} {room} {next} {v} h l = omega (arith, l.end, l.long, (packed_size (at + 4 - next) v).0)

pub loop-v-init : goal.loop-v-init
loop-v-init c = let a = c.args in left-all a.room.now a.at a.x (omega arith)

pub bounds-room-next : goal.bounds-room-next
bounds-room-next c = inside c.requires c.loop-v.invariant

pub loop-v-preserved : goal.loop-v-preserved
loop-v-preserved c = left-turn c.loop-v-test.true c.loop-v.invariant

pub bounds-room-next-2 : goal.bounds-room-next-2
bounds-room-next-2 c = inside c.requires c.loop-v.invariant

pub returns : goal.returns
returns c =
    let a = c.args in
    let e = last_end c.loop-v-test.false c.loop-v.invariant in
    (e.0, e.1 ∙ sym (written_sets a.room.now a.at (packed a.x) c.requires))
