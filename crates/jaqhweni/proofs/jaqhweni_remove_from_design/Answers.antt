-- The answer as one number.
use Rattle.true_graph.proofs.Small.{small_from_design}
use borrow.Author.Rules.{rules}
use Rattle.jaqhweni.proofs.Answers.{made_small, made_number}
use Rattle.jaqhweni.proofs.jaqhweni_remove_from_design.Goals as goal

pub remove_from_design-made-requires : goal.remove_from_design-made-requires
remove_from_design-made-requires c = tt

pub graph_number-requires : goal.graph_number-requires
graph_number-requires c =
    made_small c.remove_from_design-made.ensures.0 (small_from_design _ _)

pub shape_of-room_nodes : goal.shape_of-room_nodes
shape_of-room_nodes c = c.room_nodes-1.given

pub shape_of-room_endpoint : goal.shape_of-room_endpoint
shape_of-room_endpoint c = c.room_endpoint-1.given

pub shape_of-room_from : goal.shape_of-room_from
shape_of-room_from c = c.room_from-1.given

pub shape_of-room_to : goal.shape_of-room_to
shape_of-room_to c = c.room_to-1.given

pub shape_of-room_via : goal.shape_of-room_via
shape_of-room_via c = c.room_via-1.given

pub shape_of-scratch : goal.shape_of-scratch
shape_of-scratch c = c.scratch-1.given

pub returns : goal.returns
returns c =
    (made_number c.remove_from_design-made.ensures.0 c.graph_number.result c.graph_number.type_inv c.graph_number.ensures, search rules, search rules, search rules, search rules, search rules, search rules)
