-- Demand 2 as a statement, and what it says of times: those of a copy and of a node are those of the design's permitted
-- complete paths. Demand 3 stands in `Series`. The proofs are in `crates/theorems`, and
-- over calls in `crates/called`.
use Rattle.std.specs.Prelude.{ℕ, ◌≡◌, ◌↔◌, ℤ, pos, ◌-ℤ◌, length, get_or, Option, Result, Ok, Err, None}
use mathlib.Core.List.{List, [], ◌∷◌, ◌++◌, flat_map, Memᴰ}
use Rattle.timing.specs.Answers.{Verdict, Passed, SomeTimes}
use Rattle.timing.specs.declared.Times.{Times}
use Rattle.timing.specs.declared.NodeRecord.{NodeRecord}
use Rattle.timing.specs.declared.Refusal.{Refusal}
use Rattle.timing.specs.Graphs.{Design, edge_early, edge_late, Edge, Graph, Run, complete_runs, delay_along, taken_back}
use Rattle.timing.specs.Marks.{paths_of}
use Rattle.timing.specs.TrueGraphs.{permitted_runs}
use Rattle.timing.specs.Paths.{Largest, Smallest}
use Rattle.timing.specs.Calls.{Removal, slices_of, test_times, arrivals_after, requireds_after, slacks_after, earliests_after, record_of}

-- r in H and q in G are one path of the design, with one delay, whatever the delays of the design's edges: so with one early and one
-- late delay. "Two paths are one only if first node and edges agree, and a path taken back to the design keeps its first node";
-- "the rule that delays are unchanged now speaks of both delays" (02, request 1).
pub record SamePath (H G : Graph) (r q : Run) : Type 0 where
  pub path : taken_back H r ≡ taken_back G q
  pub delay : (d : ℕ → ℤ) → delay_along d r.edges ≡ delay_along d q.edges

-- Demand 2 for H, made of G by removing the listed paths L: H's complete paths, taken back to the design's edges, are
-- G's complete paths that contain no listed path: each once, no others, delays unchanged. The design is one G
-- (`design_graph`), an earlier true graph another: "its paths [stand in] for the complete paths".
pub record Demand2 (G : Graph) (L : List (List ℕ)) (H : Graph) : Type 0 where
  -- no others: every complete path of H is, taken back, a complete path that contains no listed path, with its delay
  pub sound : (r : Run) → Memᴰ r (complete_runs H) → (q : Run) × Memᴰ q (permitted_runs L G) × SamePath H G r q
  -- all of them: every complete path that contains no listed path is, taken back, a complete path of H, with its delay
  pub complete : (q : Run) → Memᴰ q (permitted_runs L G) → (r : Run) × Memᴰ r (complete_runs H) × SamePath H G r q
  -- each once: two complete paths of H that are, taken back, one path are one path of H
  pub once : (r s : Run) → Memᴰ r (complete_runs H) → Memᴰ s (complete_runs H) → taken_back H r ≡ taken_back H s → r ≡ s

-- The four times of the paths P, each cut into two parts: "arrival is the largest delay of a path from a source", here of the
-- part up to the cut; "required is the smallest of T less the delay of a path to" where paths end, of the part from there on; slack is the
-- smallest of T less the whole delay; the earliest arrival is "the smallest early delay of a path from a source", of the part up to the
-- cut. The first three go by the late delay, the last by the early one.
pub record PathBest (early late : ℕ → ℤ) (t : ℤ) (P : List Edge → List Edge → Type 0) (a r s e : ℤ) : Type 0 where
  pub arrival : Largest {A = (p : List Edge) × List Edge} (λ x. P x.0 x.1) (λ x. delay_along late x.0) a
  pub required : Smallest {A = (p : List Edge) × List Edge} (λ x. P x.0 x.1) (λ x. t -ℤ delay_along late x.1) r
  pub slack : Smallest {A = (p : List Edge) × List Edge} (λ x. P x.0 x.1) (λ x. t -ℤ delay_along late (x.0 ++ x.1)) s
  pub earliest : Smallest {A = (p : List Edge) × List Edge} (λ x. P x.0 x.1) (λ x. delay_along early x.0) e

-- x is the record of the paths P: "either its three times or the answer none", and with the times the earliest arrival; none exactly if
-- there is no such path
pub record PathTimes (early late : ℕ → ℤ) (t : ℤ) (P : List Edge → List Edge → Type 0) (x : Option Times) : Type 0 where
  pub none : (x ≡ None) ↔ ((p q : List Edge) → P p q → ⊥)
  pub some : (p q : List Edge) → P p q → (a : ℤ) × (r : ℤ) × (s : ℤ) × (e : ℤ) × (x ≡ SomeTimes a r s e) × PathBest early late t P a r s e

-- For demand 3 where no removal of a series is refused: the whole list is then all their lists, "in order, put end to end".
abbrev pub AllPassed : List Verdict → Type 0
AllPassed [] = Unit {0}
AllPassed (Passed ∷ vs) = AllPassed vs
AllPassed (Err x ∷ vs) = ⊥

unfoldable pub lists_of : List Removal → List (List ℕ)
lists_of rs = flat_map (λ r. paths_of r.list) rs

-- Over the calls one after the other, where H is what a removal made or what is held after a series: `times` leaves the times
-- of the copies of H in four slices, and `node_record` looks at them.
module _ (D : Design) (H : Graph) (t : ℕ) (ats rts sts ets : List ℤ) where
  -- what `times` leaves at copy h are the times of the paths P
  abbrev pub TimesOfPaths : ℕ → (List Edge → List Edge → Type 0) → Type 0
  TimesOfPaths h P =
      let S = slices_of H in
      let tested = test_times D S t (length ats) (length rts) (length sts) (length ets) in
      PathBest (edge_early D) (edge_late D) (pos t) P
      (get_or (arrivals_after D S t tested ats) h (pos 0))
      (get_or (requireds_after D S t tested rts) h (pos 0))
      (get_or (slacks_after D S t tested sts) h (pos 0))
      (get_or (earliests_after D S tested ets) h (pos 0))

  -- what `node_record` then answers of node v
  abbrev pub record_after : ℕ → Result NodeRecord Refusal
  record_after v =
      let S = slices_of H in
      let tested = test_times D S t (length ats) (length rts) (length sts) (length ets) in
      record_of D.nodes H.nodes (arrivals_after D S t tested ats) (requireds_after D S t tested rts) (slacks_after D S t tested sts)
      (earliests_after D S tested ets) v

  -- and that this is the record of the paths P
  pub record RecordOfPaths (v : ℕ) (P : List Edge → List Edge → Type 0) : Type 0 where
    pub times : Option Times
    pub answer : record_after v ≡ Ok (record { node = v; times = times })
    pub paths : PathTimes (edge_early D) (edge_late D) (pos t) P times
