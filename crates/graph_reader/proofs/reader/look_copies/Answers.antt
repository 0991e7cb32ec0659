use mathlib.Core.Path.{sym, ◌∙◌}
use Rattle.timing.specs.GraphBytes.{copy_row}
use Rattle.packed_lists.proofs.Looking.{looks_turn}
use Rattle.graph_reader.proofs.reader.look_copies.Goals as goal

pub loop-preserved : goal.loop-preserved
loop-preserved c =
    looks_turn (copy_row c.args.s.now) c.args.n c.loop.counter c.loop.here _ c.loop-test.true (sym c.in_ok-here.ensures) ∙ c.loop.invariant
