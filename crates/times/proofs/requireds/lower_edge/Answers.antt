-- What the machine reads back is each number itself.
use lib.IntN.{pos}
use lib.ListN.{get_or}
use mir.Syntax.{w32}
use mir.Facts.{to_z-of_z}
use Rattle.timing.proofs.Ints.{read_back}
use Rattle.times.specs.Passes.{lowered}
use Rattle.times.proofs.requireds.lower_edge.Goals as goal

pub returns : goal.returns
unfolding lowered
returns c =
    rw (read_back c.smaller.result c.smaller.type_inv, c.smaller.ensures, read_back (get_or c.args.requireds.now c.wide-a.result (pos 0)) c.smaller-arg-1.given, read_back c.sum-t.result c.sum-t.type_inv, c.sum-t.ensures, read_back c.negated.result c.negated.type_inv, c.negated.ensures, to_z-of_z {w = w32} {z = get_or c.args.delays.now c.wide-name.result (pos 0)} (record { sfits = c.negated-arg-1.given }), read_back (get_or c.args.requireds.now c.wide-b.result (pos 0)) c.sum-arg-1.given, c.wide-a.ensures, c.wide-b.ensures, c.wide-name.ensures)
