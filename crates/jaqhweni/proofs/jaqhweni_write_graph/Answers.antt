-- The answer as one number.
use native.Mathlib.Omega.{arith}
use Rattle.jaqhweni.proofs.Answers.{written_small, written_number}
use Rattle.jaqhweni.proofs.SmallProgram.{small_graph}
use Rattle.jaqhweni.proofs.jaqhweni_write_graph.Goals as goal

pub write_graph-written-requires : goal.write_graph-written-requires
write_graph-written-requires c = tt

pub written_number-requires : goal.written_number-requires
written_number-requires c =
    let a = c.args in
    let size = c.well_formed.1.1.1.1.1.0.1 in
    written_small c.write_graph-written.ensures.0 (small_graph a.room.now (omega (arith, size)) _)

pub returns : goal.returns
returns c =
    (written_number c.write_graph-written.ensures.0 c.written_number.result c.written_number.type_inv c.written_number.ensures, c.write_graph-written.ensures.1)
