-- The answer as one number.
use native.Mathlib.Omega.{arith}
use mathlib.Core.Path.{◌∙◌}
use Rattle.jaqhweni.proofs.Answers.{written_small, written_number}
use Rattle.jaqhweni.proofs.SmallProgram.{small_program, call_is, room_is}
use Rattle.jaqhweni.proofs.jaqhweni_true_graph.Goals as goal

pub pack-written-requires : goal.pack-written-requires
pack-written-requires c = tt

pub written_number-requires : goal.written_number-requires
written_number-requires c =
    let a = c.args in
    written_small c.pack-written.ensures.0 (small_program a.room.now (omega arith) a.deck.now)

pub returns : goal.returns
returns c =
    let a = c.args in
    (written_number c.pack-written.ensures.0 c.written_number.result c.written_number.type_inv c.written_number.ensures ∙ call_is a.deck.now a.room.now, c.pack-written.ensures.1 ∙ room_is a.deck.now a.room.now)
