-- Whose times `times` leaves and `node_record` answers, over the calls one after the other: removals, `times` on the slices that
-- they left, `node_record` or `node_records` on what that left.
use Prim.Native.Nat.{ℕ, ◌<◌}
use mathlib.Core.Path.{◌≡◌, refl, sym, ap, ◌∙◌, subst}
use mathlib.Core.Bool.{cond}
use mathlib.Core.List.{List, map}
use mathlib.Core.Option.{none, some}
use Rattle.std.specs.Prelude.{Option, Ok, Some, None}
use Rattle.timing.specs.Answers.{Verdict, Passed, Counts, SomeTimes}
use Rattle.timing.specs.declared.Times.{Times}
use native.Mathlib.Omega.{arith}
use lib.Dec.{eqb}
use lib.ListN.{length, get_or}
use lib.IntN.{ℤ, pos}
use lib.Signed.{◌≤ℤ◌}
use Rattle.timing.specs.Graphs.{Design, edge_early, edge_late, Edge, Graph, design_graph}
use Rattle.timing.specs.TrueGraphs.{true_graph}
use Rattle.timing.specs.Calls.{GraphSlices, slices_of, test_times, arrivals_after, requireds_after, slacks_after, earliests_after, record_of, records_after, has_times, arrival_of, required_of, slack_of, earliest_of}
use Rattle.timing.specs.Series.{whole_after, Renumbered}
use Rattle.timing.specs.Called.{removal_of, remove_on, front, last_held, graph_on}
use Rattle.timing.specs.Paths.{PassesAt, Shows, pair_of}
use Rattle.timing.specs.Demands.{PathBest, PathTimes, TimesOfPaths, record_after}
use Rattle.theorems.proofs.Nodes.{copy_times_at, node_times_at}
use Rattle.theorems.proofs.Records.{earliest_left, record_after_lem, records_after_lem, copy_after, removed_copy_times, series_copy_times}
use Rattle.theorems.proofs.Records.{series_record as held-record}
use Rattle.called.specs.Removals.{Call, design_of, earlier_of, called_of, worked_on, paths_in, Follows}
use Rattle.called.specs.Times.{TimesCall, timed_design, allowed_time, timed_graph, arrivals_lent, requireds_lent, slacks_lent, earliests_lent, arrivals_left, requireds_left, slacks_left, earliests_left, copy_left, TimesLeft, RecordCall, asked_node, RecordAfter, RecordsCall, node_times_left, RecordsAfter}
use Rattle.called.proofs.Demand2.{made_by, held_by_lem}

best_same : {early late : ℕ → ℤ} {t : ℤ} (h : ℕ) (P : List Edge → List Edge → Type 0) {a a' r r' s s' e e' : List ℤ} → a ≡ a' → r ≡ r' → s ≡ s' → e ≡ e'
    → PathBest early late t P (get_or a' h (pos 0)) (get_or r' h (pos 0)) (get_or s' h (pos 0)) (get_or e' h (pos 0))
    → PathBest early late t P (get_or a h (pos 0)) (get_or r h (pos 0)) (get_or s h (pos 0)) (get_or e h (pos 0))
best_same h P p q o l x = rw (p, q, o, l) x

-- A call of `times` that passed, on the slices of H: what it left is what the definitions say of H.
module _ (t : TimesCall) (H : Graph) (lent : timed_graph t ≡ slices_of H) (passed : t.answer ≡ Passed) where
  abbrev ats : List ℤ
  ats = arrivals_lent t

  abbrev rts : List ℤ
  rts = requireds_lent t

  abbrev sts : List ℤ
  sts = slacks_lent t

  abbrev ets : List ℤ
  ets = earliests_lent t

  abbrev D : Design
  D = timed_design t

  abbrev T : ℕ
  T = allowed_time t

  tested : test_times D (slices_of H) T (length ats) (length rts) (length sts) (length ets) ≡ Passed
  tested = sym (ap (λ (S : GraphSlices). test_times D S T (length ats) (length rts) (length sts) (length ets)) lent) ∙ sym t.learnt.0 ∙ passed

  arrivals_are : arrivals_left t ≡ arrivals_after D (slices_of H) T (test_times D (slices_of H) T (length ats) (length rts) (length sts) (length ets)) ats
  arrivals_are = t.learnt.1 ∙ ap (λ (S : GraphSlices). arrivals_after D S T (test_times D S T (length ats) (length rts) (length sts) (length ets)) ats) lent

  requireds_are : requireds_left t ≡ requireds_after D (slices_of H) T (test_times D (slices_of H) T (length ats) (length rts) (length sts) (length ets)) rts
  requireds_are = t.learnt.2 ∙ ap (λ (S : GraphSlices). requireds_after D S T (test_times D S T (length ats) (length rts) (length sts) (length ets)) rts) lent

  slacks_are : slacks_left t ≡ slacks_after D (slices_of H) T (test_times D (slices_of H) T (length ats) (length rts) (length sts) (length ets)) sts
  slacks_are = t.learnt.3 ∙ ap (λ (S : GraphSlices). slacks_after D S T (test_times D S T (length ats) (length rts) (length sts) (length ets)) sts) lent

  earliests_are : earliests_left t ≡ earliests_after D (slices_of H) (test_times D (slices_of H) T (length ats) (length rts) (length sts) (length ets)) ets
  earliests_are = t.learnt.4 ∙ ap (λ (S : GraphSlices). earliests_after D S (test_times D S T (length ats) (length rts) (length sts) (length ets)) ets) lent

  times_left : (h : ℕ) (P : List Edge → List Edge → Type 0) → TimesOfPaths D H T ats rts sts ets h P → TimesLeft t h P
  times_left h P x = best_same h P arrivals_are requireds_are slacks_are earliests_are x

  -- the four times that it left at a copy are those of H
  pub copy_left_lem : (h : ℕ) → h < length H.nodes → copy_left t h ≡ copy_times_at (edge_early D) (edge_late D) (pos T) H h
  copy_left_lem h k =
      (λ i. SomeTimes (get_or (arrivals_are i) h (pos 0)) (get_or (requireds_are i) h (pos 0)) (get_or (slacks_are i) h (pos 0)) (get_or (earliests_are i) h (pos 0)))
      ∙ copy_after D H T ats rts sts ets tested h k

  -- `node_record` on what that left answers what the definitions say of H
  record_is : (c : RecordCall) → RecordAfter t c → c.answer ≡ record_after D H T ats rts sts ets (asked_node c)
  record_is c a =
      c.learnt
      ∙ (λ i.
      record_of (a.nodes i) ((a.copies ∙ ap (λ (F : GraphSlices). F.nodes) lent) i) ((a.arrivals ∙ arrivals_are) i) ((a.requireds ∙ requireds_are) i)
      ((a.slacks ∙ slacks_are) i) ((a.earliests ∙ earliests_are) i) (asked_node c))

  pub record_answered : (c : RecordCall) → RecordAfter t c
      → c.answer ≡ Ok (record { node = asked_node c; times = node_times_at (edge_early D) (edge_late D) (pos T) H D.nodes (asked_node c) })
  record_answered c a = record_is c a ∙ record_after_lem D H T ats rts sts ets tested (asked_node c)

  -- and `node_records` leaves the same of every node
  pub records_left : (c : RecordsCall) → c.answer ≡ Passed → RecordsAfter t c
      → (v : ℕ) → v < D.nodes → node_times_left c v ≡ node_times_at (edge_early D) (edge_late D) (pos T) H D.nodes v
  records_left c p a v h =
      let passes = sym c.learnt.0 ∙ p in
      let known = told 0 has_times _ _ _ passes c.learnt.1 in
      let arrival = told (pos 0) arrival_of _ _ _ passes c.learnt.2 in
      let required = told (pos 0) required_of _ _ _ passes c.learnt.3 in
      let slack = told (pos 0) slack_of _ _ _ passes c.learnt.4 in
      let earliest = told (pos 0) earliest_of _ _ _ passes c.learnt.5 in
      (λ i. cond (eqb (known i) 1) (SomeTimes (arrival i) (required i) (slack i) (earliest i)) None) ∙ read_back x
    where
      x : Option Times
      x = node_times_at (edge_early D) (edge_late D) (pos T) H D.nodes v

      read_back : (x : Option Times) → cond (eqb (has_times x) 1) (SomeTimes (arrival_of x) (required_of x) (slack_of x) (earliest_of x)) None ≡ x
      read_back (Some y) = refl
      read_back None = refl

      told : {A : Type 0} (z : A) (f : Option Times → A) (w : Verdict) (left room : List A) → w ≡ Passed
          → let l = c.passed in left ≡ records_after f l.0 l.1.0.now l.1.1.0.now l.1.1.1.0.now l.1.1.1.1.0.now l.1.1.1.1.1.0.now w room
          → get_or left v z ≡ f x
      told {A} z f w left room q e =
          ap (λ (l : List A). get_or l v z)
          (e
          ∙ (λ i.
          records_after f (a.nodes i) ((a.copies ∙ ap (λ (F : GraphSlices). F.nodes) lent) i) ((a.arrivals ∙ arrivals_are) i) ((a.requireds ∙ requireds_are) i)
          ((a.slacks ∙ slacks_are) i) ((a.earliests ∙ earliests_are) i) (q i) room))
          ∙ records_after_lem D H T ats rts sts ets tested z f room v h

-- Whatever true graph a call of `times` was lent, where it passed: no copy's earliest arrival is above its arrival.
pub earliest_below : (t : TimesCall) → t.answer ≡ Passed
    → (h : ℕ) → h < length (timed_graph t).nodes → get_or (earliests_left t) h (pos 0) ≤ℤ get_or (arrivals_left t) h (pos 0)
earliest_below t p h k =
    let tested = sym t.learnt.0 ∙ p in
    below_same h
    (t.learnt.1 ∙ ap (λ (v : Verdict). arrivals_after (timed_design t) (timed_graph t) (allowed_time t) v (arrivals_lent t)) tested)
    (t.learnt.4 ∙ ap (λ (v : Verdict). earliests_after (timed_design t) (timed_graph t) v (earliests_lent t)) tested)
    (earliest_left (timed_design t) (timed_graph t) (allowed_time t) (arrivals_lent t) (earliests_lent t) _ _ _ _ tested h k)
  where
    below_same : {a a' e e' : List ℤ} (h : ℕ) → a ≡ a' → e ≡ e' → get_or e' h (pos 0) ≤ℤ get_or a' h (pos 0) → get_or e h (pos 0) ≤ℤ get_or a h (pos 0)
    below_same h p q x = rw (p, q) x

-- After a removal that answered k copies and `times` on the front of its room: the times left at copy h are those of the permitted
-- complete paths, of the graph worked on, that show the pair of copy h.
pub call_times : (c : Call) (k e : ℕ) → (called_of c).answer ≡ Counts k e
    → (t : TimesCall) → timed_design t ≡ design_of c → timed_graph t ≡ front k e (called_of c).after → t.answer ≡ Passed
    → (h : ℕ) → h < k → TimesLeft t h (Shows (worked_on c) (paths_in c) (pair_of (worked_on c) (paths_in c) h))
call_times c k e a t d g p h l =
    let m = made_by c k e a in
    let H = m.graph in
    let lent = g ∙ m.slices in
    let held = earlier_of c in
    let r = removal_of (called_of c) in
    let q = ap (λ (E : Design). remove_on E held r) d ∙ m.made in
    let at = removed_copy_times (timed_design t) H (allowed_time t) (ats t H lent p) (rts t H lent p) (sts t H lent p) (ets t H lent p) (tested t H lent p) held r q h (omega (arith, l, m.copies)) in
    subst (λ (E : Design). TimesLeft t h (Shows (graph_on E held) (paths_in c) (pair_of (graph_on E held) (paths_in c) h))) d
    (times_left t H lent p h _ at)

-- After a series of calls and `times` on what is held: the copies can be renumbered as demand 3 says, so that the times left at copy
-- h are those of the design's complete paths that the whole list permits and that show the (node, mark) of its new number.
pub series_times : (cs : List Call) (S : GraphSlices) (t : TimesCall) → Follows (timed_design t) none cs → last_held none (map called_of cs) ≡ some S
    → timed_graph t ≡ S → t.answer ≡ Passed
    → (H : Graph) × (S ≡ slices_of H) × (L : List (List ℕ)) × (whole_after (timed_design t) none (map removal_of (map called_of cs)) ≡ some L)
    × (N : Renumbered H (true_graph (design_graph (timed_design t)) L))
    × ((h : ℕ) → h < length H.nodes → TimesLeft t h (Shows (design_graph (timed_design t)) L (pair_of (design_graph (timed_design t)) L (N.to h))))
series_times cs S t f q g p =
    let x = held_by_lem (timed_design t) cs S f q in
    let H = x.0 in
    let lent = g ∙ x.2 in
    let y = series_copy_times (timed_design t) H (allowed_time t) (ats t H lent p) (rts t H lent p) (sts t H lent p) (ets t H lent p) (tested t H lent p) (map removal_of (map called_of cs)) x.1 in
    (H, x.2, y.0, y.1, y.2, λ h l. times_left t H lent p h _ (y.3 h l))

-- And `node_record` on what that left, for any node: it answers the record of the design's complete paths through the node that the
-- whole list permits.
pub series_record : (cs : List Call) (S : GraphSlices) (t : TimesCall) (c : RecordCall) → Follows (timed_design t) none cs
    → last_held none (map called_of cs) ≡ some S → timed_graph t ≡ S → t.answer ≡ Passed → RecordAfter t c
    → (L : List (List ℕ)) × (whole_after (timed_design t) none (map removal_of (map called_of cs)) ≡ some L)
    × ((x : Option Times) × (c.answer ≡ Ok (record { node = asked_node c; times = x }))
    × PathTimes (edge_early (timed_design t)) (edge_late (timed_design t)) (pos (allowed_time t)) (PassesAt (timed_design t) L (asked_node c)) x)
series_record cs S t c f q g p a =
    let x = held_by_lem (timed_design t) cs S f q in
    let H = x.0 in
    let lent = g ∙ x.2 in
    let y = held-record (timed_design t) H (allowed_time t) (ats t H lent p) (rts t H lent p) (sts t H lent p) (ets t H lent p) (tested t H lent p) (map removal_of (map called_of cs)) x.1 in
    let o = y.2 (asked_node c) in
    (y.0, y.1, (o.times, record_is t H lent p c a ∙ o.answer, o.paths))
