-- Calls of `times`, `node_record` and `node_records` as a caller has them, with the `ensures` of their contracts as the toolchain takes these from
-- the source.
use Rattle.std.specs.Prelude.{ℕ, ◌≡◌, List, ℤ, pos, get_or, Option}
use Rattle.timing.specs.Answers.{SomeTimes}
use Rattle.timing.specs.declared.Times.{Times}
use contract.Lifetimes.{Lfts}
use borrow.Fn.World.{ArgsD, ResD}
use denote.Triple.Clauses.{AtExit}
use Rattle.timing.specs.Graphs.{Design, design, edge_early, edge_late, Edge}
use Rattle.timing.specs.Calls.{GraphSlices, graph_slices}
use Rattle.timing.specs.Demands.{PathBest}
use Rattle.timing.specs.Extended.{times_in}
use Rattle.times.specs.contracts.times.{signature as times_signature, ended as times_ended}
use Rattle.times.proofs.times.Reads.{Learnt as TimesLearnt}
use Rattle.records.specs.contracts.node_record.{signature as record_signature, ended as record_ended}
use Rattle.records.proofs.node_record.Reads.{Learnt as RecordLearnt}
use Rattle.records.specs.contracts.node_records.{signature as records_signature, ended as records_ended}
use Rattle.records.proofs.node_records.Reads.{Learnt as RecordsLearnt}

-- a call of `times`
pub record TimesCall : Type 0 where
  pub lifetimes : Lfts 14
  pub passed : ArgsD times_signature lifetimes
  pub answer : ResD times_signature lifetimes
  pub left : AtExit times_ended lifetimes
  pub learnt : TimesLearnt lifetimes passed answer left

-- what stands in its slices: n, starts, ends, early, late, marked; T; the graph's five; the times' four
abbrev pub timed_design : TimesCall → Design
timed_design c = let a = c.passed in design a.0 a.1.0.now a.1.1.0.now a.1.1.1.0.now a.1.1.1.1.0.now a.1.1.1.1.1.0.now

abbrev pub allowed_time : TimesCall → ℕ
allowed_time c = c.passed.1.1.1.1.1.1.0

abbrev pub timed_graph : TimesCall → GraphSlices
timed_graph c = let a = c.passed.1.1.1.1.1.1.1 in graph_slices a.0.now a.1.0.now a.1.1.0.now a.1.1.1.0.now a.1.1.1.1.0.now

-- the slices of times, as they were lent and as they are left
abbrev pub arrivals_lent : TimesCall → List ℤ
arrivals_lent c = c.passed.1.1.1.1.1.1.1.1.1.1.1.1.0.now

abbrev pub requireds_lent : TimesCall → List ℤ
requireds_lent c = c.passed.1.1.1.1.1.1.1.1.1.1.1.1.1.0.now

abbrev pub slacks_lent : TimesCall → List ℤ
slacks_lent c = c.passed.1.1.1.1.1.1.1.1.1.1.1.1.1.1.0.now

abbrev pub earliests_lent : TimesCall → List ℤ
earliests_lent c = c.passed.1.1.1.1.1.1.1.1.1.1.1.1.1.1.1.0.now

abbrev pub arrivals_left : TimesCall → List ℤ
arrivals_left c = c.left.1.1.1.1.1.1.1.1.1.1.1.1.0.now

abbrev pub requireds_left : TimesCall → List ℤ
requireds_left c = c.left.1.1.1.1.1.1.1.1.1.1.1.1.1.0.now

abbrev pub slacks_left : TimesCall → List ℤ
slacks_left c = c.left.1.1.1.1.1.1.1.1.1.1.1.1.1.1.0.now

abbrev pub earliests_left : TimesCall → List ℤ
earliests_left c = c.left.1.1.1.1.1.1.1.1.1.1.1.1.1.1.1.0.now

-- the four times left at copy h
abbrev pub copy_left : TimesCall → ℕ → Option Times
copy_left c h = SomeTimes (get_or (arrivals_left c) h (pos 0)) (get_or (requireds_left c) h (pos 0)) (get_or (slacks_left c) h (pos 0)) (get_or (earliests_left c) h (pos 0))

-- the times left at copy h are those of the paths P, each cut into two parts
abbrev pub TimesLeft : TimesCall → ℕ → (List Edge → List Edge → Type 0) → Type 0
TimesLeft c h P =
    PathBest (edge_early (timed_design c)) (edge_late (timed_design c)) (pos (allowed_time c)) P
    (get_or (arrivals_left c) h (pos 0)) (get_or (requireds_left c) h (pos 0)) (get_or (slacks_left c) h (pos 0)) (get_or (earliests_left c) h (pos 0))

-- a call of `node_record`
pub record RecordCall : Type 0 where
  pub lifetimes : Lfts 5
  pub passed : ArgsD record_signature lifetimes
  pub answer : ResD record_signature lifetimes
  pub left : AtExit record_ended lifetimes
  pub learnt : RecordLearnt lifetimes passed answer left

-- the node that it asks for
abbrev pub asked_node : RecordCall → ℕ
asked_node c = c.passed.1.1.1.1.1.1.0

-- a call of `node_records`
pub record RecordsCall : Type 0 where
  pub lifetimes : Lfts 10
  pub passed : ArgsD records_signature lifetimes
  pub answer : ResD records_signature lifetimes
  pub left : AtExit records_ended lifetimes
  pub learnt : RecordsLearnt lifetimes passed answer left

-- the slack of each node, as it was lent and as it is left
abbrev pub node_slacks_lent : RecordsCall → List ℤ
node_slacks_lent c = c.passed.1.1.1.1.1.1.1.1.1.0.now

abbrev pub node_slacks_left : RecordsCall → List ℤ
node_slacks_left c = c.left.1.1.1.1.1.1.1.1.1.0.now

-- what it left of node v in its five slices: whether it has times, arrival, required time, slack, earliest arrival
abbrev pub node_times_left : RecordsCall → ℕ → Option Times
node_times_left c v = let l = c.left.1.1.1.1.1.1 in times_in l.0.now l.1.0.now l.1.1.0.now l.1.1.1.0.now l.1.1.1.1.0.now v

-- either is lent n, the nodes of the copies, and the times that a call of `times` left
pub record LentTimes (t : TimesCall) (n : ℕ) (vs : List ℕ) (ats rts sts ets : List ℤ) : Type 0 where
  pub nodes : n ≡ (timed_design t).nodes
  pub copies : vs ≡ (timed_graph t).nodes
  pub arrivals : ats ≡ arrivals_left t
  pub requireds : rts ≡ requireds_left t
  pub slacks : sts ≡ slacks_left t
  pub earliests : ets ≡ earliests_left t

abbrev pub RecordAfter : TimesCall → RecordCall → Type 0
RecordAfter t c = let a = c.passed in LentTimes t a.0 a.1.0.now a.1.1.0.now a.1.1.1.0.now a.1.1.1.1.0.now a.1.1.1.1.1.0.now

abbrev pub RecordsAfter : TimesCall → RecordsCall → Type 0
RecordsAfter t c = let a = c.passed in LentTimes t a.0 a.1.0.now a.1.1.0.now a.1.1.1.0.now a.1.1.1.1.0.now a.1.1.1.1.1.0.now
