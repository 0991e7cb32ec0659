use native.Mathlib.Omega.{arith}
use native.Mathlib.Numerals.{add-one}
use Rattle.removal.proofs.Building.CountLaws.{counting_turn, counting_done}
use Rattle.removal.proofs.build.count_path.Goals as goal

pub loop-i-preserved : goal.loop-i-preserved
loop-i-preserved c =
    let a = c.args in
    let w = c.loop-i in
    rw (c.start_at-v.ensures, add-one w.i) (counting_turn a.starts.now a.listed.now a.counts.now w.counts a.first a.end w.i c.requires w.invariant c.loop-i-test.true)

pub returns : goal.returns
returns c =
    let a = c.args in
    let w = c.loop-i in
    counting_done a.starts.now a.listed.now a.counts.now w.counts a.first a.end w.i w.invariant (omega arith)
