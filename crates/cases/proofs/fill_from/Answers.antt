use Prim.Native.Nat.{◌-◌}
use native.Mathlib.Omega.{arith}
use mathlib.Core.Path.{◌≡◌, refl, ◌∙◌}
use Rattle.cases.specs.Slices.{Filled}
use Rattle.cases.proofs.Slices.{values_turn, end_turn}
use Rattle.cases.proofs.fill_from.Goals as goal

pub loop-k-preserved : goal.loop-k-preserved
loop-k-preserved c =
    let s = c.args.s.now in
    let i = c.loop-k.invariant in
    let e = c.step-x.ensures in
    let k = c.loop-k.k in
    let len = c.least-len.result in
    let more = c.loop-k-test.true in
    let left = c.saturating_sub-left.ensures in (
      values_turn s c.args.rise len k c.loop-k.left c.loop-k.value c.loop-k.next _ _ _ more e.0 e.1 left c.loop-k.table ∙ i.0,
      end_turn s c.args.rise len k c.loop-k.left c.loop-k.value c.loop-k.next _ _ _ more e.0 e.1 left ∙ i.1,
    )

pub returns : goal.returns
unfolding Filled
returns c =
    let none : c.least-len.result - c.loop-k.k ≡ 0 = omega arith in
    let i = rw none at c.loop-k.invariant in
    rw (← c.least-len.ensures.0) (refl, i.1, i.0)
