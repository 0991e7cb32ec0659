-- Demand 2 of calls. A call that answered counts made a graph, whose slices are the front of the room; what is held after a series
-- are the slices of the graph that the definition of a series holds. What is known of these graphs is then said of the slices.
use Prim.Native.Nat.{ℕ}
use mathlib.Core.Path.{◌≡◌, refl, sym, ap, ◌∙◌, subst}
use mathlib.Core.List.{List, map}
use mathlib.Core.Option.{Option, none, some}
use Rattle.std.specs.Prelude.{Result, Ok, Err}
use Rattle.timing.specs.Answers.{Counts}
use Rattle.timing.specs.declared.GraphCounts.{GraphCounts}
use Rattle.timing.specs.declared.Refusal.{Refusal}
use lib.ListN.{length}
use Rattle.timing.specs.Graphs.{Design, Graph, design_graph}
use Rattle.timing.specs.Calls.{GraphSlices, graph_of, slices_of, Outcome, made, refused, graph_answer}
use Rattle.timing.specs.Series.{held_after, whole_after}
use Rattle.timing.specs.Called.{removal_of, Meets, remove_on, front, held_slices, last_held, slices_held}
use Rattle.timing.specs.Demands.{Demand2}
use Rattle.theorems.proofs.Series.{graph_slices_lem}
use Rattle.theorems.proofs.Records.{removed_on, removed_demand2}
use Rattle.theorems.proofs.Records.{series_demand2 as held-demand2}
use Rattle.theorems.proofs.Called.{front_held, ran_beside}
use Rattle.theorems.proofs.Told.{copies_in}
use Rattle.called.specs.Removals.{Call, design_of, earlier_of, called_of, worked_on, paths_in, Follows}
use Rattle.called.proofs.Series.{meets, ran}

-- ---- a call that answered counts
abbrev is_counts : Result GraphCounts Refusal → Type 0
is_counts (Ok g) = Unit {0}
is_counts (Err r) = ⊥

made_of : (o : Outcome Graph) (k e : ℕ) → graph_answer o ≡ Counts k e → (H : Graph) × (o ≡ made H)
made_of (made H) k e q = (H, refl)
made_of (refused r) k e q = absurd (subst is_counts (sym q) tt)

abbrev slices_or : GraphSlices → Option GraphSlices → GraphSlices
slices_or S none = S
slices_or S (some F) = F

abbrev outcome_of : Call → Outcome Graph
outcome_of c = remove_on (design_of c) (earlier_of c) (removal_of (called_of c))

-- what a call made: a graph whose slices are the front of the room
pub record MadeBy (c : Call) (k e : ℕ) : Type 0 where
  pub graph : Graph
  pub made : outcome_of c ≡ made graph
  pub slices : front k e (called_of c).after ≡ slices_of graph
  pub copies : k ≡ length graph.nodes

pub made_by : (c : Call) (k e : ℕ) → (called_of c).answer ≡ Counts k e → MadeBy c k e
made_by c k e a =
    let m = meets c in
    let h = made_of (outcome_of c) k e (sym m.answer ∙ a) in
    let held = front_held none (called_of c) (made h.0) (removed_on (design_of c) (earlier_of c) (removal_of (called_of c)) h.0 h.1).stands.sizes (subst (λ (o : Outcome Graph). Meets o (called_of c)) h.1 m) in
    record {
      graph = h.0;
      made = h.1;
      slices = ap (slices_or (front k e (called_of c).after)) (ap (λ (x : Result GraphCounts Refusal). held_slices x (called_of c).after none) (sym a) ∙ held);
      copies = ap copies_in (sym a ∙ m.answer ∙ ap graph_answer h.1);
    }

-- Demand 2 over a call: what it left at the front of the room, as long as it answered, is a graph whose paths are the permitted
-- complete paths of the graph that it worked on.
pub call_demand2 : (c : Call) (k e : ℕ) → (called_of c).answer ≡ Counts k e → Demand2 (worked_on c) (paths_in c) (graph_of (front k e (called_of c).after))
call_demand2 c k e a =
    let m = made_by c k e a in
    subst (Demand2 (worked_on c) (paths_in c)) (sym (ap graph_of m.slices ∙ graph_slices_lem m.graph))
    (removed_demand2 (design_of c) (earlier_of c) (removal_of (called_of c)) m.graph m.made)

-- ---- what is held after a series
abbrev held_by : Design → List Call → Option Graph
held_by D cs = held_after D none (map removal_of (map called_of cs))

held_some : (x : Option Graph) (S : GraphSlices) → slices_held x ≡ some S → (H : Graph) × (x ≡ some H) × (S ≡ slices_of H)
held_some none S q = absurd (subst is_some (sym q) tt)
  where
    is_some : Option GraphSlices → Type 0
    is_some none = ⊥
    is_some (some F) = Unit {0}
held_some (some H) S q = (H, refl, sym (ap (slices_or S) q))

pub held_by_lem : (D : Design) (cs : List Call) (S : GraphSlices) → Follows D none cs → last_held none (map called_of cs) ≡ some S
    → (H : Graph) × (held_by D cs ≡ some H) × (S ≡ slices_of H)
held_by_lem D cs S f q = held_some (held_by D cs) S (sym (ran_beside D none (map called_of cs) (ran D none cs f)).slices ∙ q)

-- Demand 2 over a series of calls: the slices held are those of a graph whose paths are the design's complete paths that the whole
-- list permits.
pub series_demand2 : (D : Design) (cs : List Call) (S : GraphSlices) → Follows D none cs → last_held none (map called_of cs) ≡ some S
    → (L : List (List ℕ)) × (whole_after D none (map removal_of (map called_of cs)) ≡ some L) × Demand2 (design_graph D) L (graph_of S)
series_demand2 D cs S f q =
    let h = held_by_lem D cs S f q in
    let d = held-demand2 D (map removal_of (map called_of cs)) h.0 h.1 in
    (d.0, d.1, subst (Demand2 (design_graph D) d.0) (sym (ap graph_of h.2 ∙ graph_slices_lem h.0)) d.2)
