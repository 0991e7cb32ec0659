-- What request 12 of document 02 compares: removals, or series of them, each with `times` on what it made; "no run compared is refused".
use Rattle.std.specs.Prelude.{ℕ, ◌<◌, ◌≡◌, List, map, length, get_or, Ok}
use Rattle.std.specs.Prelude.{Option as Maybe}
use Rattle.std.proofs.Math.Option.{Option, none, some}
use Rattle.timing.specs.Answers.{Passed, Counts}
use Rattle.timing.specs.declared.Times.{Times}
use Rattle.timing.specs.Graphs.{Design}
use Rattle.timing.specs.Calls.{GraphSlices}
use Rattle.timing.specs.Series.{whole_after}
use Rattle.timing.specs.Called.{removal_of, front, last_held}
use Rattle.timing.specs.Extended.{NoWorse}
use Rattle.called.specs.Removals.{Call, design_of, earlier_of, called_of, Follows}
use Rattle.called.specs.Times.{TimesCall, timed_design, allowed_time, timed_graph, copy_left, RecordCall, asked_node, RecordAfter, RecordsCall, node_times_left, RecordsAfter}

-- `times` with T on the slices S of a graph of D, not refused
pub record TimedOn (D : Design) (T : ℕ) (S : GraphSlices) : Type 0 where
  pub times : TimesCall
  pub design : timed_design times ≡ D
  pub graph : timed_graph times ≡ S
  pub allowed : allowed_time times ≡ T
  pub passed : times.answer ≡ Passed

-- a removal from D, or from the graph held, and then `times` on what it made, neither refused
pub record TimedRemoval (D : Design) (held : Option GraphSlices) (T : ℕ) : Type 0 where
  pub removal : Call
  pub design : design_of removal ≡ D
  pub earlier : earlier_of removal ≡ held
  pub copies : ℕ
  pub edges : ℕ
  pub answer : (called_of removal).answer ≡ Counts copies edges
  pub timed : TimedOn D T (front copies edges (called_of removal).after)

-- a series of removals over D, refused ones included, with the whole list K, and then `times` on what is held, not refused
pub record TimedSeries (D : Design) (K : List (List ℕ)) (T : ℕ) : Type 0 where
  pub removals : List Call
  pub follows : Follows D none removals
  pub whole : whole_after D none (map removal_of (map called_of removals)) ≡ some K
  pub slices : GraphSlices
  pub held : last_held none (map called_of removals) ≡ some slices
  pub timed : TimedOn D T slices

-- Nothing is worse in what u left than in what t left: of every node in what `node_records` then leaves; of any node in what `node_record` then answers,
-- which it does; and each copy of u's graph is no worse than some copy of the same node in t's.
pub record NothingWorse (t u : TimesCall) : Type 0 where
  pub nodes : (r s : RecordsCall) → RecordsAfter t r → RecordsAfter u s → r.answer ≡ Passed → s.answer ≡ Passed
      → (v : ℕ) → v < (timed_design t).nodes → NoWorse (node_times_left r v) (node_times_left s v)
  pub node : (r s : RecordCall) → RecordAfter t r → RecordAfter u s → asked_node r ≡ asked_node s
      → (x : Maybe Times) × (y : Maybe Times)
      × (r.answer ≡ Ok (record { node = asked_node r; times = x })) × (s.answer ≡ Ok (record { node = asked_node s; times = y })) × NoWorse x y
  pub copies : (h : ℕ) → h < length (timed_graph u).nodes
      → (g : ℕ) × (g < length (timed_graph t).nodes) × (get_or (timed_graph t).nodes g 0 ≡ get_or (timed_graph u).nodes h 0) × NoWorse (copy_left t g) (copy_left u h)
