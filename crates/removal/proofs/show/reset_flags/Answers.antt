use native.Mathlib.Omega.{arith}
use Rattle.removal.proofs.Reaching.RowLaws.{base_read}
use Rattle.removal.proofs.Showing.ShowTables.{seen_inside}
use Rattle.removal.proofs.Showing.ResetLaws.{reset_end}
use Rattle.removal.proofs.show.reset_flags.Goals as goal

pub returns : goal.returns
returns c =
    let end = base_read c.args.l c.args.scratch.now c.requires c.args.l.copies (omega arith) in
    reset_end c.requires (omega (arith, end)) (omega (arith, end, c.requires.work.slots, seen_inside c.requires)) (omega arith) c.loop-flag.invariant (omega arith)
