use Rattle.removal.proofs.Patching.NoteLaws.{forget_next}
use Rattle.removal.proofs.patches.forget.Goals as goal

pub loop-i-preserved : goal.loop-i-preserved
loop-i-preserved c =
    let w = c.loop-i in
    forget_next c.args.l c.args.scratch.now w.scratch c.args.k w.i c.requires w.invariant c.loop-i-test.true
