-- The groups from this byte on are this byte before what the call gave; the highest group comes back first.
use Prim.Native.Nat.{ℕ, suc, ◌+◌, ◌-◌, ◌*◌, ◌<◌, ◌≤◌}
use native.Mathlib.Omega.{arith}
use mathlib.Core.Path.{◌≡◌, refl, sym, ◌∙◌, subst}
use mathlib.Core.List.{List}
use Rattle.std.specs.Prelude.{Result, Ok, Err}
use Rattle.timing.specs.declared.Groups.{Groups}
use Rattle.timing.specs.declared.NoNumber.{NoNumber}
use Rattle.timing.specs.declared.NoNumber.TheVariants.{Ended, Unfit}
use mir.Syntax.{w8}
use mir.Val.{Fits}
use lib.ListN.{get_or, drop}
use borrow.Author.Tests.{lt-ltb, le-ltb, le-leb, lt-leb, eq-eqb, ne_eqb}
use Rattle.timing.specs.Numbers.{followed, groups_in}
use Rattle.packed.proofs.Numbers.{cap, Below, number_below, bytes_drop, cap_le, number_end, number_last, number_step}
use Rattle.std.proofs.Common.{rules}
use Rattle.packed.proofs.+groups.Goals as goal

-- what the call gave is small, so the number and its length are in range
range_of : (s : List ℕ) → ((i : ℕ) → Fits w8 (get_or s i 0)) → (at g : ℕ) → 1 ≤ g → g ≤ 4 → (m : Groups) → groups_in 15 (g - 1) (drop (at + 1) s) ≡ Ok m → (128 * m.value + 127 < 4294967296) × (m.size ≤ 5)
unfolding cap
range_of s bytes at g h k m q =
    let b : Below (cap 15 (g - 1)) (g - 1) (Ok m) = subst (λ (r : Result Groups NoNumber). Below (cap 15 (g - 1)) (g - 1) r) q (number_below 15 (g - 1) (drop (at + 1) s) (bytes_drop s (at + 1) (λ i. (bytes i).fits))) in
    let l : cap 15 (suc (g - 1)) ≤ 4294967296 = cap_le (suc (g - 1)) (omega arith) in
    (omega (arith, b.0), omega (arith, b.1))

pub returns-then-s-at : goal.returns-then-s-at
returns-then-s-at t c = sym (number_end 15 c.args.g c.args.s.now c.args.at c.if-s-at.true)

pub returns-then-b-le15 : goal.returns-then-b-le15
returns-then-b-le15 t c = rw (number_last 15 c.args.g c.args.s.now c.args.at c.if-s-at.false c.if-g-eq0.true, le-leb _ _ c.if-b-le15.true)

pub returns-then-g-eq0 : goal.returns-then-g-eq0
returns-then-g-eq0 t c = rw (number_last 15 c.args.g c.args.s.now c.args.at c.if-s-at.false c.if-g-eq0.true, lt-leb _ _ c.if-b-le15.false)

pub returns-then-b-lt128 : goal.returns-then-b-lt128
returns-then-b-lt128 t c = rw (number_step 15 c.args.g c.args.s.now c.args.at c.if-s-at.false c.if-g-eq0.false, lt-ltb _ _ c.if-b-lt128.true)

-- what is no number stays what it is
kept : (b : ℕ) (e : NoNumber) → followed b (Err e) ≡ Err e
kept b Ended = refl
kept b Unfit = refl

pub returns-in_err-higher : goal.returns-in_err-higher
returns-in_err-higher t c =
    let why = c.in_err-higher.field-0.0 in
    let same : ◌≡◌ {A = Result Groups NoNumber} c.from_residual.result (Err why) = search rules in
    same
    ∙ sym (rw (number_step 15 c.args.g c.args.s.now c.args.at c.if-s-at.false c.if-g-eq0.false, le-ltb (get_or c.args.s.now c.args.at 0) 128 c.if-b-lt128.false, sym c.in_err-higher.ensures) (kept (get_or c.args.s.now c.args.at 0) why))

pub returns-then-higher-eq0 : goal.returns-then-higher-eq0
returns-then-higher-eq0 t c =
    rw (number_step 15 c.args.g c.args.s.now c.args.at c.if-s-at.false c.if-g-eq0.false, le-ltb (get_or c.args.s.now c.args.at 0) 128 c.if-b-lt128.false, sym c.in_ok-higher.ensures, eq-eqb _ _ c.if-higher-eq0.true)

pub overflow_mul-result : goal.overflow_mul-result
overflow_mul-result t c = omega (arith, range_of c.args.s.now c.type_inv.s c.args.at c.args.g (omega arith) (omega arith) c.in_ok-higher.higher (sym c.in_ok-higher.ensures))

pub overflow_add-result : goal.overflow_add-result
overflow_add-result t c = omega (arith, range_of c.args.s.now c.type_inv.s c.args.at c.args.g (omega arith) (omega arith) c.in_ok-higher.higher (sym c.in_ok-higher.ensures), c.type_inv.s c.args.at)

pub overflow_add-result-2 : goal.overflow_add-result-2
overflow_add-result-2 t c = omega (arith, range_of c.args.s.now c.type_inv.s c.args.at c.args.g (omega arith) (omega arith) c.in_ok-higher.higher (sym c.in_ok-higher.ensures))

pub returns : goal.returns
returns t c =
    rw (number_step 15 c.args.g c.args.s.now c.args.at c.if-s-at.false c.if-g-eq0.false, le-ltb (get_or c.args.s.now c.args.at 0) 128 c.if-b-lt128.false, sym c.in_ok-higher.ensures, ne_eqb _ _ c.if-higher-eq0.false)
