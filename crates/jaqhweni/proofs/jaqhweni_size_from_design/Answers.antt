-- The answer as one number.
use Rattle.true_graph.proofs.Small.{small_size_design}
use borrow.Author.Rules.{rules}
use Rattle.jaqhweni.proofs.Answers.{made_small, made_number}
use Rattle.jaqhweni.proofs.jaqhweni_size_from_design.Goals as goal

pub size_from_design-told-requires : goal.size_from_design-told-requires
size_from_design-told-requires c = tt

pub graph_number-requires : goal.graph_number-requires
graph_number-requires c =
    made_small c.size_from_design-told.ensures.0 (small_size_design _ _ _)

pub shape_of-scratch : goal.shape_of-scratch
shape_of-scratch c = c.scratch-1.given

pub returns : goal.returns
returns c =
    (made_number c.size_from_design-told.ensures.0 c.graph_number.result c.graph_number.type_inv c.graph_number.ensures, search rules)
