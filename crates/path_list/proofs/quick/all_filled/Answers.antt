use Prim.Native.Nat.{◌<◌}
use native.Mathlib.Omega.{arith}
use lib.Dec.{ltb}
use lib.ListN.{get_or}
use borrow.Author.Count.{below_more}
use borrow.Author.Tests.{ltb-true}
use Rattle.timing.proofs.Verdicts.{both_true}
use Rattle.path_list.proofs.Laws.{offset_next}
use Rattle.path_list.proofs.quick.all_filled.Goals as goal

pub loop-k-preserved : goal.loop-k-preserved
loop-k-preserved c =
    let a = c.args in
    let i = c.loop-k.k-index in
    let k = get_or a.lengths.now i 0 in (
      omega (arith, offset_next a.lengths.now i c.loop-k-test.true),
      omega (arith, c.type_inv.lengths i),
      λ e.
          let both = both_true c.loop-k.filled (ltb 0 k) e in
          below_more (λ q. 0 < get_or a.lengths.now q 0) i (c.loop-k.invariant.2 both.0) (ltb-true 0 k both.1),
    )
