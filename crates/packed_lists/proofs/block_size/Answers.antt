use native.Mathlib.Omega.{arith}
use lib.ListN.{get_or}
use Rattle.packed.proofs.Numbers.{packed_size}
use Rattle.packed_lists.proofs.Sizes.{size_drop, size_done}
use Rattle.packed_lists.proofs.block_size.Goals as goal

pub overflow_cast-total : goal.overflow_cast-total
overflow_cast-total c = omega (arith, c.number_size.ensures, packed_size 4 (get_or c.args.s.now c.loop-x.x-index 0))

pub overflow_add-total : goal.overflow_add-total
overflow_add-total c = omega (arith, c.number_size.ensures, packed_size 4 (get_or c.args.s.now c.loop-x.x-index 0))

pub loop-x-preserved : goal.loop-x-preserved
loop-x-preserved c =
    let s = c.args.s.now in
    let e = c.number_size.ensures in
    let p = packed_size 4 (get_or s c.loop-x.x-index 0) in
    let d = size_drop s c.loop-x.x-index (omega arith) in
    (omega arith, omega arith)

pub returns : goal.returns
returns c = omega (arith, size_done c.args.s.now c.loop-x.x-index (omega arith))
