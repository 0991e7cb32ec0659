use Prim.Native.Nat.{suc, ◌+◌}
use native.Mathlib.Omega.{arith}
use mathlib.Core.Path.{◌≡◌, ◌∙◌, ap}
use Rattle.removal.specs.Push.{flag_set}
use Rattle.removal.proofs.Reaching.PushLaws.{default_skip, default_turn, default_read, place_low}
use Rattle.removal.proofs.reach.push_defaults.Goals as goal
use Rattle.removal.proofs.reach.push_defaults.Goals.{else-scratch-l, then-scratch-l}

pub flag-requires : goal.flag-requires
flag-requires c =
    let a = c.args in
    let w = c.loop-q in
    place_low a.l a.scratch.now w.scratch a.p0 a.p1 w.q a.reached c.requires w.invariant w.auto.q c.loop-q-test.true

pub loop-q-preserved : goal.loop-q-preserved
loop-q-preserved c =
    let a = c.args in
    let s = a.scratch.now in
    let w = c.loop-q in
    let n : w.q + 1 ≡ suc w.q = omega arith in
    let more = c.loop-q-test.true in
    elim c.if-scratch-l.branch [
      | then-scratch-l z ↦ default_turn a.l s w.scratch a.p0 a.p1 w.q a.reached c.requires w.invariant w.auto.q more z.if-scratch-l.true c.if-scratch-l.scratch
          (z.scratch-is ∙ z.flag.ensures ∙ ap (flag_set a.l w.scratch) (default_read a.l s w.scratch a.p0 a.p1 w.q a.reached c.requires w.invariant more))
          (w.q + 1) n
      | else-scratch-l z ↦ rw z.scratch-is (default_skip a.l s w.scratch a.p0 a.p1 w.q a.reached c.requires w.invariant w.auto.q more (λ h. omega (arith, h, z.if-scratch-l.false)) (w.q + 1) n)
    ]
