use native.Mathlib.Omega.{arith}
use mathlib.Core.Path.{◌∙◌}
use mir.Syntax.{w32}
use mir.Facts.{to_z-of_z}
use Rattle.cases.proofs.Slices.{delays_turn}
use Rattle.cases.proofs.unpack.Goals as goal

pub loop-i-preserved : goal.loop-i-preserved
loop-i-preserved c =
    rw (to_z-of_z {w = w32} {z = c.unpack_delay.result} (record { sfits = c.unpack_delay.type_inv }), c.unpack_delay.ensures)
    (delays_turn c.args.codes.now c.least-len.result c.loop-i.i c.loop-i.delays c.loop-i-test.true (omega arith)) ∙ c.loop-i.invariant
