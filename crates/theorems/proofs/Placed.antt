-- A refusal with one of the numbers 22 to 24 is by the test that has this number, whatever else a call tests: no other test gives it. So its
-- places are those of that test.
use Prim.Native.Nat.{ℕ, ◌≤◌, min}
use native.Mathlib.Omega.{arith}
use mathlib.Core.Path.{◌≡◌, refl, sym, ◌∙◌, ap}
use mathlib.Core.Bool.{Bool, ◌&&◌}
use mathlib.Core.List.{List}
use mathlib.Core.Option.{Option, none, some}
use Rattle.std.specs.Prelude.{Err}
use Rattle.std.specs.Prelude.{Option as Maybe}
use Rattle.timing.specs.Answers.{Verdict, Passed}
use lib.Dec.{eqb, leb}
use lib.ListN.{length}
use Rattle.timing.specs.declared.Refusal.{Refusal}
use Rattle.timing.specs.Lists.{sum}
use Rattle.timing.specs.Graphs.{Design, Graph, design_graph}
use Rattle.timing.specs.Marks.{PathList, paths_of}
use Rattle.timing.specs.TrueGraphs.{true_graph}
use Rattle.timing.specs.WellFormed.{well_formed}
use Rattle.timing.specs.Refusals.{unless, first_fault, ◌then◌}
use Rattle.timing.specs.Tests.{same_sizes, design_sizes, list_sizes, design_tests, list_counts, meets, empty_at, first_unknown, first_break, list_tests, allowed_test, graph_test, candidates, scratch_words, scratch_test, Room, room_sizes, room_tests}
use Rattle.timing.specs.Calls.{GraphSlices, graph_of, room_of, graph_sizes, test_list, test_deck, refused, outcome, Removal, removal_tests, remove_from_design, remove_from_graph}
use Rattle.timing.specs.Called.{remove_on}
use Rattle.timing.specs.Faults.{Empty, Unknown, Broken, Placed}
use Rattle.timing.proofs.Verdicts.{refused_passed, then_assoc, Every, every_then, every_unless, every_fault}
use Rattle.theorems.proofs.Tests.{every_design, every_counts}
use Rattle.theorems.proofs.Faults.{finds_empty, finds_unknown, finds_break, first_fault_at, first_fault_none}

-- a test that gives other numbers than n
abbrev Other : ℕ → Verdict → Type 0
Other n v = Every (λ x. x.number ≡ n → ⊥) v

module _ (n : ℕ) where
  other_then : (v w : Verdict) → Other n v → Other n w → Other n (v then w)
  other_then v w a b = every_then (λ x. x.number ≡ n → ⊥) v w a (λ e. b)

  other_unless : (k : ℕ) → (k ≡ n → ⊥) → (fit : Bool) → Other n (unless k fit)
  other_unless k h fit = every_unless (λ x. x.number ≡ n → ⊥) k h fit

  other_fault : (k : ℕ) → (k ≡ n → ⊥) → (fault : List ℕ → Maybe ℕ) (i : ℕ) (paths : List (List ℕ)) → Other n (first_fault k fault i paths)
  other_fault k h fault i paths = every_fault (λ x. x.number ≡ n → ⊥) k fault i paths (λ j d l. h)

  -- a refusal with the number n is by none of these: it is by the rest of the chain
  module _ (x : Refusal) (number : x.number ≡ n) where
    impossible : (v : Verdict) → Other n v → v ≡ Err x → ⊥
    impossible Passed o e = refused_passed x (sym e)
    impossible (Err y) o e =
        let same : y ≡ x = cc in
        o (ap (λ (r : Refusal). r.number) same ∙ number)

    behind : (v w : Verdict) → Other n v → (v then w) ≡ Err x → (v ≡ Passed) × (w ≡ Err x)
    behind Passed w o e = (refl, e)
    behind (Err y) w o e = absurd (impossible (Err y) o e)

    before : (v w : Verdict) → Other n w → (v then w) ≡ Err x → v ≡ Err x
    before Passed w o e = absurd (impossible w o e)
    before (Err y) w o e = e

-- what a call tests besides 22 to 24
module _ (n : ℕ) (low : 22 ≤ n) (high : n ≤ 24) where
  other_design : (D : Design) → Other n (design_tests D)
  other_design D = every_design (λ x. x.number ≡ n → ⊥) D (λ k j a b l h. omega arith) (λ j a b h. omega arith)

  other_counts : (L : PathList) → Other n (list_counts L)
  other_counts L = every_counts (λ x. x.number ≡ n → ⊥) L (λ k a b h. omega arith)

  other_same : (a b c : ℕ) → Other n (same_sizes a b c)
  other_same a b c = other_unless n 30 (λ h. omega arith) (eqb a b && eqb a c)

  other_sizes : (D : Design) → Other n (design_sizes D)
  other_sizes D =
      let m = length D.starts in
      other_then n (same_sizes m m (length D.ends)) (same_sizes m (length D.early) (length D.late))
      (other_same m m (length D.ends)) (other_same m (length D.early) (length D.late))

  other_room : (R : Room) → Other n (room_sizes R)
  other_room R =
      other_then n (same_sizes R.nodes R.nodes R.endpoints) (same_sizes R.starts R.ends R.names)
      (other_same R.nodes R.nodes R.endpoints) (other_same R.starts R.ends R.names)

  other_sums : (L : PathList) → Other n (list_sizes L)
  other_sums L = other_unless n 30 (λ h. omega arith) (eqb (sum L.lengths) (length L.edges))

  other_removal : (D : Design) (G : Graph) (r : Removal) → Other n (removal_tests D G r)
  unfolding scratch_test room_tests
  other_removal D G r =
      let H = true_graph G (paths_of r.list) in
      let L = r.list in
      let R = r.room in
      let copies = unless 33 (leb (length H.nodes) (min R.nodes 16384)) in
      let edges = unless 34 (leb (length H.edges) (min R.starts 65536)) in
      other_then n (scratch_test D G L r.scratch) (copies then edges)
      (other_unless n 31 (λ h. omega arith) (leb (scratch_words (candidates D G L) (length L.edges) (length G.edges)) r.scratch))
      (other_then n copies edges (other_unless n 33 (λ h. omega arith) (leb (length H.nodes) (min R.nodes 16384))) (other_unless n 34 (λ h. omega arith) (leb (length H.edges) (min R.starts 65536))))

  module _ (x : Refusal) (number : x.number ≡ n) where
    -- what comes before the tests of the list, and after them
    from_list : (D : Design) (L : PathList) (o w : Verdict) → Other n o → Other n w
        → (design_sizes D then (list_sizes L then (o then (design_tests D then (list_tests D L then w))))) ≡ Err x → list_tests D L ≡ Err x
    from_list D L o w a b e =
        let sizes = behind n x number (design_sizes D) (list_sizes L then (o then (design_tests D then (list_tests D L then w)))) (other_sizes D) e in
        let sums = behind n x number (list_sizes L) (o then (design_tests D then (list_tests D L then w))) (other_sums L) sizes.1 in
        let others = behind n x number o (design_tests D then (list_tests D L then w)) a sums.1 in
        let design = behind n x number (design_tests D) (list_tests D L then w) (other_design D) others.1 in
        before n x number (list_tests D L) w b design.1

    outcome_refused : {A : Type 0} (v : Verdict) (y : A) → outcome v y ≡ refused x → v ≡ Err x
    outcome_refused Passed y e = absurd (let z : ◌≡◌ {A = ℕ} 0 1 = cc in omega arith)
    outcome_refused (Err r) y e = cc

    design_list : (D : Design) (r : Removal) → remove_from_design D r ≡ refused x → list_tests D r.list ≡ Err x
    unfolding remove_from_design
    design_list D r e =
        let G = design_graph D in
        from_list D r.list (room_sizes r.room) (removal_tests D G r) (other_room r.room) (other_removal D G r)
        (outcome_refused (design_sizes D then (list_sizes r.list then (room_sizes r.room then (design_tests D then (list_tests D r.list then removal_tests D G r))))) (true_graph G (paths_of r.list)) e)

    graph_list : (D : Design) (S : GraphSlices) (r : Removal) → remove_from_graph D S r ≡ refused x → list_tests D r.list ≡ Err x
    unfolding remove_from_graph
    graph_list D S r e =
        let G = graph_of S in
        let L = r.list in
        let rest : Verdict = design_tests D then (list_tests D L then (graph_test D G then removal_tests D G r)) in
        from_list D L (graph_sizes S then room_sizes r.room) (graph_test D G then removal_tests D G r)
        (other_then n (graph_sizes S) (room_sizes r.room) (other_room (room_of S)) (other_room r.room))
        (other_then n (graph_test D G) (removal_tests D G r) (other_unless n 32 (λ h. omega arith) (well_formed D G)) (other_removal D G r))
        (ap (λ (v : Verdict). design_sizes D then (list_sizes L then v)) (then_assoc (graph_sizes S) (room_sizes r.room) rest)
        ∙ outcome_refused (design_sizes D then (list_sizes L then (graph_sizes S then (room_sizes r.room then rest)))) (true_graph G (paths_of L)) e)

    deck_list : (D : Design) (L : PathList) (t : ℕ) → test_deck D L t ≡ Err x → list_tests D L ≡ Err x
    unfolding test_deck
    deck_list D L t e = from_list D L Passed (allowed_test t) tt (other_unless n 25 (λ h. omega arith) (leb t 1000000000)) e

    test_list_lem : (D : Design) (L : PathList) → test_list D L ≡ Err x → list_tests D L ≡ Err x
    unfolding test_list
    test_list_lem D L e =
        let sizes = behind n x number (design_sizes D) (list_sizes L then (design_tests D then list_tests D L)) (other_sizes D) e in
        let sums = behind n x number (list_sizes L) (design_tests D then list_tests D L) (other_sums L) sizes.1 in
        (behind n x number (design_tests D) (list_tests D L) (other_design D) sums.1).1

-- the three tests of the list, one by one
module _ (D : Design) (L : PathList) (x : Refusal) (by-list : (n : ℕ) → 22 ≤ n → n ≤ 24 → x.number ≡ n → list_tests D L ≡ Err x) where
  abbrev K : List (List ℕ)
  K = paths_of L

  abbrev t₂₂ : Verdict
  t₂₂ = first_fault 22 empty_at 0 K

  abbrev t₂₃ : Verdict
  t₂₃ = first_fault 23 (first_unknown (length D.starts) 0) 0 K

  abbrev t₂₄ : Verdict
  t₂₄ = first_fault 24 (first_break (meets D) 0) 0 K

  after_counts : (n : ℕ) → 22 ≤ n → n ≤ 24 → x.number ≡ n → (t₂₂ then (t₂₃ then t₂₄)) ≡ Err x
  unfolding list_tests
  after_counts n low high h = (behind n x h (list_counts L) (t₂₂ then (t₂₃ then t₂₄)) (other_counts n low high L) (by-list n low high h)).1

  placed : Placed D K x
  placed = record {
    empty = λ h.
        first_fault_at 22 empty_at Empty finds_empty K x
        (before 22 x h t₂₂ (t₂₃ then t₂₄) (other_then 22 t₂₃ t₂₄ (other_fault 22 23 (λ e. omega arith) (first_unknown (length D.starts) 0) 0 K) (other_fault 22 24 (λ e. omega arith) (first_break (meets D) 0) 0 K))
        (after_counts 22 (omega arith) (omega arith) h));
    unknown = λ h.
        let filled = behind 23 x h t₂₂ (t₂₃ then t₂₄) (other_fault 23 22 (λ e. omega arith) empty_at 0 K) (after_counts 23 (omega arith) (omega arith) h) in (
          first_fault_none 22 empty_at Empty finds_empty K filled.0,
          first_fault_at 23 (first_unknown (length D.starts) 0) (Unknown D) (finds_unknown D) K x
              (before 23 x h t₂₃ t₂₄ (other_fault 23 24 (λ e. omega arith) (first_break (meets D) 0) 0 K) filled.1),
        );
    broken = λ h.
        let filled = behind 24 x h t₂₂ (t₂₃ then t₂₄) (other_fault 24 22 (λ e. omega arith) empty_at 0 K) (after_counts 24 (omega arith) (omega arith) h) in
        let named = behind 24 x h t₂₃ t₂₄ (other_fault 24 23 (λ e. omega arith) (first_unknown (length D.starts) 0) 0 K) filled.1 in (
          first_fault_none 22 empty_at Empty finds_empty K filled.0,
          first_fault_none 23 (first_unknown (length D.starts) 0) (Unknown D) (finds_unknown D) K named.0,
          first_fault_at 24 (first_break (meets D) 0) (Broken D) (finds_break D) K x named.1,
        );
  }

-- a removal, from the design or from an earlier graph, and the tests of a deck and of a list
pub removal_placed : (D : Design) (held : Option GraphSlices) (r : Removal) (x : Refusal) → remove_on D held r ≡ refused x → Placed D (paths_of r.list) x
removal_placed D none r x e = placed D r.list x (λ n low high h. design_list n low high x h D r e)
removal_placed D (some S) r x e = placed D r.list x (λ n low high h. graph_list n low high x h D S r e)

pub deck_placed : (D : Design) (L : PathList) (t : ℕ) (x : Refusal) → test_deck D L t ≡ Err x → Placed D (paths_of L) x
deck_placed D L t x e = placed D L x (λ n low high h. deck_list n low high x h D L t e)

pub list_placed : (D : Design) (L : PathList) (x : Refusal) → test_list D L ≡ Err x → Placed D (paths_of L) x
list_placed D L x e = placed D L x (λ n low high h. test_list_lem n low high x h D L e)
