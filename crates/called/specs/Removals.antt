-- Calls of the two removals as a caller has them: what was passed, what was answered, what is left of each lent slice, and the
-- `ensures` of the contract, which the toolchain takes from the source. A weaker contract would leave less to be shown from.
use Rattle.std.specs.Prelude.{ℕ, ◌≡◌, List, [], ◌∷◌}
use Rattle.std.proofs.Math.Option.{Option, none, some}
use contract.Lifetimes.{Lfts}
use borrow.Fn.World.{ArgsD, ResD}
use denote.Triple.Clauses.{AtExit}
use Rattle.timing.specs.Graphs.{Design, design, Graph}
use Rattle.timing.specs.Marks.{path_list, paths_of}
use Rattle.timing.specs.Calls.{GraphSlices, graph_slices}
use Rattle.timing.specs.Called.{Called, held_slices, graph_on}
use Rattle.removal.specs.contracts.remove_from_design.{signature as design_signature, ended as design_ended}
use Rattle.removal.proofs.remove_from_design.Reads.{Learnt as DesignLearnt}
use Rattle.removal.specs.contracts.remove_from_graph.{signature as graph_signature, ended as graph_ended}
use Rattle.removal.proofs.remove_from_graph.Reads.{Learnt as GraphLearnt}

-- a call of `remove_from_design`
pub record DesignCall : Type 0 where
  pub lifetimes : Lfts 13
  pub passed : ArgsD design_signature lifetimes
  pub answer : ResD design_signature lifetimes
  pub left : AtExit design_ended lifetimes
  pub learnt : DesignLearnt lifetimes passed answer left

-- a call of `remove_from_graph`
pub record GraphCall : Type 0 where
  pub lifetimes : Lfts 18
  pub passed : ArgsD graph_signature lifetimes
  pub answer : ResD graph_signature lifetimes
  pub left : AtExit graph_ended lifetimes
  pub learnt : GraphLearnt lifetimes passed answer left

pub data Call : Type 0 where
  on_design : DesignCall → Call
  on_graph : GraphCall → Call

-- What stands in a call's slices, parameter by parameter: n, starts, ends, early, late, marked; listed, lengths; the earlier graph's
-- five; the room's five; the scratch.
abbrev pub design_of : Call → Design
design_of (on_design c) = let a = c.passed in design a.0 a.1.0.now a.1.1.0.now a.1.1.1.0.now a.1.1.1.1.0.now a.1.1.1.1.1.0.now
design_of (on_graph c) = let a = c.passed in design a.0 a.1.0.now a.1.1.0.now a.1.1.1.0.now a.1.1.1.1.0.now a.1.1.1.1.1.0.now

-- the earlier graph that a call was lent
abbrev pub earlier_of : Call → Option GraphSlices
earlier_of (on_design c) = none
earlier_of (on_graph c) =
    let a = c.passed.1.1.1.1.1.1.1.1 in
    some (graph_slices a.0.now a.1.0.now a.1.1.0.now a.1.1.1.0.now a.1.1.1.1.0.now)

abbrev pub called_of : Call → Called
called_of (on_design c) =
    let list = c.passed.1.1.1.1.1.1 in
    let lent = list.1.1 in
    let left = c.left.1.1.1.1.1.1.1.1 in
    record {
      listed = list.0.now;
      lengths = list.1.0.now;
      room = graph_slices lent.0.now lent.1.0.now lent.1.1.0.now lent.1.1.1.0.now lent.1.1.1.1.0.now;
      scratch = lent.1.1.1.1.1.0.now;
      answer = c.answer;
      after = graph_slices left.0.now left.1.0.now left.1.1.0.now left.1.1.1.0.now left.1.1.1.1.0.now;
      scratch_at = left.1.1.1.1.1.0.now;
    }
called_of (on_graph c) =
    let list = c.passed.1.1.1.1.1.1 in
    let lent = list.1.1.1.1.1.1.1 in
    let left = c.left.1.1.1.1.1.1.1.1.1.1.1.1.1 in
    record {
      listed = list.0.now;
      lengths = list.1.0.now;
      room = graph_slices lent.0.now lent.1.0.now lent.1.1.0.now lent.1.1.1.0.now lent.1.1.1.1.0.now;
      scratch = lent.1.1.1.1.1.0.now;
      answer = c.answer;
      after = graph_slices left.0.now left.1.0.now left.1.1.0.now left.1.1.1.0.now left.1.1.1.1.0.now;
      scratch_at = left.1.1.1.1.1.0.now;
    }

-- the graph that a call works on, and its listed paths
abbrev pub worked_on : Call → Graph
worked_on c = graph_on (design_of c) (earlier_of c)

abbrev pub paths_in : Call → List (List ℕ)
paths_in c = paths_of (path_list (called_of c).listed (called_of c).lengths)

-- "A series is any number of removals, in order, over one design": each call is lent that design and what is held then
abbrev pub Follows : Design → Option GraphSlices → List Call → Type 0
Follows D held [] = Unit {0}
Follows D held (c ∷ cs) =
    (design_of c ≡ D)
    × (earlier_of c ≡ held)
    × Follows D (held_slices (called_of c).answer (called_of c).after held) cs
