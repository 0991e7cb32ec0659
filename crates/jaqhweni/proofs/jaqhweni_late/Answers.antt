-- The answer as one number.
use Rattle.true_graph.proofs.Small.{small_late}
use borrow.Author.Rules.{rules}
use Rattle.jaqhweni.proofs.Answers.{lateness_small, lateness_number_lem}
use Rattle.jaqhweni.proofs.jaqhweni_late.Goals as goal

pub late_or_not-answer-requires : goal.late_or_not-answer-requires
late_or_not-answer-requires c = tt

pub lateness_number-requires : goal.lateness_number-requires
lateness_number-requires c =
    lateness_small c.late_or_not-answer.ensures.0 (small_late _ _ _ _)

pub returns : goal.returns
returns c =
    (lateness_number_lem c.late_or_not-answer.ensures.0 c.lateness_number.result c.lateness_number.type_inv c.lateness_number.ensures, search rules)
