use Prim.Native.Nat.{◌+◌}
use native.Mathlib.Omega.{arith}
use Rattle.removal.proofs.Reaching.PushLaws.{patch_turn}
use Rattle.removal.proofs.reach.push_patches.Goals as goal

pub loop-i-preserved : goal.loop-i-preserved
loop-i-preserved c =
    let a = c.args in
    let w = c.loop-i in
    patch_turn a.l a.scratch.now w.scratch a.k w.i c.requires w.invariant c.loop-i-test.true c.flag.new.scratch c.flag.ensures (w.i + 1) (omega arith)
