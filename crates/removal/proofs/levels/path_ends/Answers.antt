use Prim.Native.Nat.{ℕ, suc, ◌+◌, ◌<◌}
use native.Mathlib.Omega.{arith}
use native.Mathlib.Numerals.{add-one}
use mathlib.Core.Path.{◌≡◌, refl, sym, ◌∙◌, ap}
use lib.ListN.{length, get_or, take}
use Rattle.timing.specs.Lists.{sum}
use Rattle.theorems.proofs.Elements.{done_next}
use Rattle.removal.specs.Levels.{end_of}
use Rattle.removal.proofs.Listing.SumLaws.{sum_step, sum_take}
use Rattle.removal.proofs.levels.path_ends.Goals as goal

pub overflow_add-at : goal.overflow_add-at
overflow_add-at c =
    let a = c.args in
    omega (arith, sum_step a.lengths.now c.loop-k.k c.loop-k-test.true, sum_take a.lengths.now (suc c.loop-k.k))

pub loop-k-preserved : goal.loop-k-preserved
loop-k-preserved c =
    let a = c.args in
    let k = c.loop-k.k in
    let h : k < length a.lengths.now = c.loop-k-test.true in
    let e : c.loop-k.at + get_or a.lengths.now k 0 ≡ end_of a.lengths.now k = omega (arith, sum_step a.lengths.now k h) in (
      e ∙ ap (λ (n : ℕ). sum (take n a.lengths.now)) (sym (add-one k)),
      done_next 0 (end_of a.lengths.now) k a.ends.now c.loop-k.ends (c.loop-k.at + get_or a.lengths.now k 0) (omega arith) e c.loop-k.invariant.1,
      done_next 0 (λ (j : ℕ). j) k a.who.now c.loop-k.who k (omega arith) refl c.loop-k.invariant.2,
    )
