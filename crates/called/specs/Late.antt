-- Calls of `late_or_not` as a caller has them, with the `ensures` of its contract as the toolchain takes this from the source; and which calls of
-- `times` they stand beside.
use Rattle.std.specs.Prelude.{ℕ, ◌≡◌, length}
use contract.Lifetimes.{Lfts}
use borrow.Fn.World.{ArgsD, ResD}
use denote.Triple.Clauses.{AtExit}
use Rattle.timing.specs.Graphs.{Design, design}
use Rattle.timing.specs.Calls.{GraphSlices, graph_slices}
use Rattle.late.specs.contracts.late_or_not.{signature as late_signature, ended as late_ended}
use Rattle.late.proofs.late_or_not.Reads.{Learnt as LateLearnt}
use Rattle.called.specs.Times.{TimesCall, timed_design, allowed_time, timed_graph}

-- a call of `late_or_not`
pub record LateCall : Type 0 where
  pub lifetimes : Lfts 11
  pub passed : ArgsD late_signature lifetimes
  pub answer : ResD late_signature lifetimes
  pub left : AtExit late_ended lifetimes
  pub learnt : LateLearnt lifetimes passed answer left

-- what stands in its slices: n, starts, ends, early, late, marked; T; the graph's five; the arrivals
abbrev pub late_design : LateCall → Design
late_design c = let a = c.passed in design a.0 a.1.0.now a.1.1.0.now a.1.1.1.0.now a.1.1.1.1.0.now a.1.1.1.1.1.0.now

abbrev pub late_allowed : LateCall → ℕ
late_allowed c = c.passed.1.1.1.1.1.1.0

abbrev pub late_graph : LateCall → GraphSlices
late_graph c = let a = c.passed.1.1.1.1.1.1.1 in graph_slices a.0.now a.1.0.now a.1.1.0.now a.1.1.1.0.now a.1.1.1.1.0.now

abbrev pub late_places : LateCall → ℕ
late_places c = length c.passed.1.1.1.1.1.1.1.1.1.1.1.1.0.now

-- it is lent the design, the graph and T of a call of `times`, and a place for each copy
pub record Beside (t : TimesCall) (c : LateCall) : Type 0 where
  pub design : late_design c ≡ timed_design t
  pub graph : late_graph c ≡ timed_graph t
  pub allowed : late_allowed c ≡ allowed_time t
  pub places : late_places c ≡ length (timed_graph t).nodes
