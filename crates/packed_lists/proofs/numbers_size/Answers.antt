use Prim.Native.Nat.{ℕ, ◌+◌, ◌*◌, ◌≤◌}
use native.Mathlib.Omega.{arith}
use mathlib.Core.Path.{◌≡◌}
use mathlib.Core.List.{List, ◌++◌, flat_map}
use lib.ListN.{length, length-append}
use Rattle.timing.specs.Numbers.{packed}
use Rattle.packed_lists.proofs.Sizes.{size_append, size_most}
use Rattle.packed_lists.proofs.numbers_size.Goals as goal

-- a block, and what is left behind it
counted : (all block left : List ℕ) → all ≡ block ++ left
    → (length (flat_map packed block) + 5 * length left ≤ 5 * length all) × (length (flat_map packed block) + length (flat_map packed left) ≡ length (flat_map packed all))
counted all block left e = rw e (omega (arith, size_most block, length-append block left), omega (arith, size_append block left))

pub loop-block-preserved : goal.loop-block-preserved
loop-block-preserved c =
    let steps = c.in-Some.ensures.steps in
    let k = counted c.loop-block.block-iterator.rest.now c.in-Some.block.now c.next.new.self.rest.now steps.1.0 in
    (omega (arith, steps.0), omega arith, omega arith)

pub returns : goal.returns
returns c = omega (arith, size_most c.loop-block.block-iterator.rest.now, c.in-None.ensures.steps.1.0)
