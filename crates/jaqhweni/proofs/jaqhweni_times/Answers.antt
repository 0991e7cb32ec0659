-- The verdict as one number.
use Rattle.true_graph.proofs.Small.{small_times}
use borrow.Author.Rules.{rules}
use Rattle.jaqhweni.proofs.Answers.{found_small, found_number}
use Rattle.jaqhweni.proofs.jaqhweni_times.Goals as goal

pub times-verdict-requires : goal.times-verdict-requires
times-verdict-requires c = tt

pub verdict_number-requires : goal.verdict_number-requires
verdict_number-requires c =
    found_small c.times-verdict.ensures.0 (small_times _ _ _ _ _ _ _)

pub returns : goal.returns
returns c =
    (found_number c.times-verdict.ensures.0 c.verdict_number.result c.verdict_number.type_inv c.verdict_number.ensures, search rules, search rules, search rules, search rules)
