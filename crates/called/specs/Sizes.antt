-- Calls of `size_from_design` and `size_from_graph` as a caller has them, with the `ensures` of their contracts as the toolchain takes these
-- from the source.
use Rattle.std.proofs.Math.Option.{Option, none, some}
use contract.Lifetimes.{Lfts}
use borrow.Fn.World.{ArgsD, ResD}
use denote.Triple.Clauses.{AtExit}
use Rattle.timing.specs.Graphs.{Design, design}
use Rattle.timing.specs.Calls.{GraphSlices, graph_slices}
use Rattle.timing.specs.Told.{Telling}
use Rattle.removal.specs.contracts.size_from_design.{signature as design_signature, ended as design_ended}
use Rattle.removal.proofs.size_from_design.Reads.{Learnt as DesignLearnt}
use Rattle.removal.specs.contracts.size_from_graph.{signature as graph_signature, ended as graph_ended}
use Rattle.removal.proofs.size_from_graph.Reads.{Learnt as GraphLearnt}

-- a call of `size_from_design`
pub record DesignSizeCall : Type 0 where
  pub lifetimes : Lfts 8
  pub passed : ArgsD design_signature lifetimes
  pub answer : ResD design_signature lifetimes
  pub left : AtExit design_ended lifetimes
  pub learnt : DesignLearnt lifetimes passed answer left

-- a call of `size_from_graph`
pub record GraphSizeCall : Type 0 where
  pub lifetimes : Lfts 13
  pub passed : ArgsD graph_signature lifetimes
  pub answer : ResD graph_signature lifetimes
  pub left : AtExit graph_ended lifetimes
  pub learnt : GraphLearnt lifetimes passed answer left

pub data SizeCall : Type 0 where
  of_design : DesignSizeCall → SizeCall
  of_graph : GraphSizeCall → SizeCall

-- What stands in a call's slices, parameter by parameter: n, starts, ends, early, late, marked; listed, lengths; the earlier graph's
-- five; the scratch.
abbrev pub sized_design : SizeCall → Design
sized_design (of_design c) = let a = c.passed in design a.0 a.1.0.now a.1.1.0.now a.1.1.1.0.now a.1.1.1.1.0.now a.1.1.1.1.1.0.now
sized_design (of_graph c) = let a = c.passed in design a.0 a.1.0.now a.1.1.0.now a.1.1.1.0.now a.1.1.1.1.0.now a.1.1.1.1.1.0.now

-- the earlier graph that a call was lent
abbrev pub sized_earlier : SizeCall → Option GraphSlices
sized_earlier (of_design c) = none
sized_earlier (of_graph c) =
    let a = c.passed.1.1.1.1.1.1.1.1 in
    some (graph_slices a.0.now a.1.0.now a.1.1.0.now a.1.1.1.0.now a.1.1.1.1.0.now)

abbrev pub telling_of : SizeCall → Telling
telling_of (of_design c) =
    let list = c.passed.1.1.1.1.1.1 in
    record {
      listed = list.0.now;
      lengths = list.1.0.now;
      scratch = list.1.1.0.now;
      answer = c.answer;
      scratch_at = c.left.1.1.1.1.1.1.1.1.0.now;
    }
telling_of (of_graph c) =
    let list = c.passed.1.1.1.1.1.1 in
    record {
      listed = list.0.now;
      lengths = list.1.0.now;
      scratch = list.1.1.1.1.1.1.1.0.now;
      answer = c.answer;
      scratch_at = c.left.1.1.1.1.1.1.1.1.1.1.1.1.1.0.now;
    }
