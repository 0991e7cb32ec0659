use native.Mathlib.Omega.{arith}
use Rattle.packed_lists.proofs.Writing.{left_fits, left_turn, left_none}
use Rattle.deck_writer.proofs.Writing.{numbers_turn, numbers_done}
use Rattle.deck_writer.proofs.writer.put_numbers.Goals as goal

pub put-at-requires : goal.put-at-requires
put-at-requires c =
    left_fits _ _ _ _ _ (rw (numbers_turn c.args.s.now c.loop-x.x-index (omega arith)) at c.loop-x.invariant)

pub loop-x-preserved : goal.loop-x-preserved
loop-x-preserved c =
    left_turn _ _ _ _ _ (rw (numbers_turn c.args.s.now c.loop-x.x-index (omega arith)) at c.loop-x.invariant) c.put-at.ensures

pub returns : goal.returns
returns c = left_none _ _ _ (rw (numbers_done c.args.s.now c.loop-x.x-index (omega arith)) at c.loop-x.invariant)
