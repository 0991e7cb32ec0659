-- Calls of `test_list` and `test_deck` as a caller has them, with the `ensures` of their contracts as the toolchain takes these from the
-- source.
use contract.Lifetimes.{Lfts}
use borrow.Fn.World.{ArgsD, ResD}
use denote.Triple.Clauses.{AtExit}
use Rattle.timing.specs.Graphs.{Design, design}
use Rattle.timing.specs.Marks.{PathList, path_list}
use Rattle.unfit.specs.contracts.test_list.{signature as list_signature, ended as list_ended}
use Rattle.unfit.proofs.test_list.Reads.{Learnt as ListLearnt}
use Rattle.unfit.specs.contracts.test_deck.{signature as deck_signature, ended as deck_ended}
use Rattle.unfit.proofs.test_deck.Reads.{Learnt as DeckLearnt}

-- a call of `test_list`
pub record ListTest : Type 0 where
  pub lifetimes : Lfts 7
  pub passed : ArgsD list_signature lifetimes
  pub answer : ResD list_signature lifetimes
  pub left : AtExit list_ended lifetimes
  pub learnt : ListLearnt lifetimes passed answer left

-- a call of `test_deck`
pub record DeckTest : Type 0 where
  pub lifetimes : Lfts 7
  pub passed : ArgsD deck_signature lifetimes
  pub answer : ResD deck_signature lifetimes
  pub left : AtExit deck_ended lifetimes
  pub learnt : DeckLearnt lifetimes passed answer left

-- What stands in their slices, parameter by parameter: n, starts, ends, early, late, marked; listed, lengths; of the second T.
abbrev pub list_design : ListTest → Design
list_design c = let a = c.passed in design a.0 a.1.0.now a.1.1.0.now a.1.1.1.0.now a.1.1.1.1.0.now a.1.1.1.1.1.0.now

abbrev pub list_tested : ListTest → PathList
list_tested c = let a = c.passed.1.1.1.1.1.1 in path_list a.0.now a.1.0.now

abbrev pub deck_design : DeckTest → Design
deck_design c = let a = c.passed in design a.0 a.1.0.now a.1.1.0.now a.1.1.1.0.now a.1.1.1.1.0.now a.1.1.1.1.1.0.now

abbrev pub deck_tested : DeckTest → PathList
deck_tested c = let a = c.passed.1.1.1.1.1.1 in path_list a.0.now a.1.0.now
