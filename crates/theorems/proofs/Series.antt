-- S: demand 3, over a whole series of removals. The graph held always stands for the design and the whole list so far. So it
-- has the nodes and the count of edges of their true graph, and the tests cannot tell the two apart.
use Prim.Native.Nat.{ℕ, ◌+◌, ◌≤◌, ◌<◌, min}
use mathlib.Core.Path.{◌≡◌, refl, sym, ap, ◌∙◌, subst, subst₂}
use mathlib.Core.Bool.{Bool, true, false, ◌&&◌}
use mathlib.Core.List.{List, [], ◌∷◌, ◌++◌, map, flat_map, append_assoc, append-nil}
use mathlib.Core.Option.{Option, none, some}
use Rattle.std.specs.Prelude.{Err}
use Rattle.timing.specs.Answers.{Verdict, Passed}
use native.Mathlib.Omega.{arith}
use lib.Dec.{T, eqb, leb, eqb_refl, leb→le, le→leb}
use lib.ListN.{length, drop, length-map}
use Rattle.timing.specs.Lists.{count_of, sum}
use Rattle.timing.specs.Graphs.{Design, edge_start, Edge, Graph, graph, edges_of, design_graph}
use Rattle.timing.specs.Marks.{PathList, paths_of}
use Rattle.timing.specs.TrueGraphs.{true_graph}
use Rattle.timing.specs.WellFormed.{few_enough, well_formed}
use Rattle.timing.specs.Refusals.{unless, ◌then◌}
use Rattle.timing.specs.Tests.{design_sizes, list_sizes, design_tests, list_tests, graph_test, candidates, words_test, scratch_test, Room, room_sizes, room_tests}
use Rattle.timing.specs.Calls.{GraphSlices, graph_of, slices_of, graph_sizes, Outcome, made, refused, outcome, Removal, removal_tests, remove_from_design, remove_from_graph}
use Rattle.timing.specs.Series.{remove_next, held_next, verdict_of, verdicts, held_after, whole_next, verdict_alone, verdicts_alone, whole_after, Renumbered, HeldIs, Demand3}
use Rattle.timing.specs.Paths.{pair_of}
use Rattle.timing.specs.Demands.{AllPassed, lists_of}
use Rattle.theorems.proofs.Lists.{holds, and_intro}
use Rattle.theorems.proofs.Counting.{Nodup}
use Rattle.timing.proofs.Verdicts.{then_passed, unless_passed}
use Rattle.theorems.proofs.Stands.{Stands, true_sizes, true_stands, true_label}
use Rattle.theorems.proofs.Parts.{parts_stand}
use Rattle.theorems.proofs.Renumbering.{stands_renumbered, renumbered_label}
use Rattle.theorems.proofs.Tested.{DesignFits, design_fits, list_fits, formed}
use Rattle.theorems.proofs.Legal.{Legal, fits_legal}
use Rattle.theorems.proofs.Kept.{true_distinct, true_legal, true_formed}
use Rattle.theorems.proofs.Size.{Paths, paths_append, list_paths, size_whole}

-- a graph lent as slices is the graph, and its slices belong together
slices_edges : (es : List Edge) → edges_of (map (λ e. e.start) es) (map (λ e. e.end) es) (map (λ e. e.name) es) ≡ es
slices_edges [] = refl
slices_edges (e ∷ es) = ap (λ (l : List Edge). e ∷ l) (slices_edges es)

pub graph_slices_lem : (G : Graph) → graph_of (slices_of G) ≡ G
graph_slices_lem G = λ i. graph G.nodes G.endpoints (slices_edges G.edges i)

pub slices_sizes : (G : Graph) → length G.endpoints ≡ length G.nodes → graph_sizes (slices_of G) ≡ Passed
slices_sizes G same =
    let a = length-map G.edges (λ (e : Edge). e.start) in
    let b = length-map G.edges (λ (e : Edge). e.end) in
    let c = length-map G.edges (λ (e : Edge). e.name) in
    rw (same, a, b, c)
    (rw (passes (eqb (length G.nodes) (length G.nodes)) (eqb_refl (length G.nodes)))
    (passes (eqb (length G.edges) (length G.edges)) (eqb_refl (length G.edges))))
  where
    passes : (b : Bool) → T b → unless 30 (b && b) ≡ Passed
    passes true t = refl
    passes false t = absurd t

-- what is known of a graph that is held for the whole list L
pub record Held (D : Design) (L : List (List ℕ)) (H : Graph) : Type 0 where
  pub fit : DesignFits D
  pub stands : Stands (design_graph D) L H
  pub legal : Legal D H
  pub formed : T (well_formed D H)
  pub distinct : Nodup H.edges
  pub paths : Paths D L

-- the tests of a removal, as one verdict
unfoldable pub design_verdict : Design → Removal → Verdict
design_verdict D r =
    design_sizes D then list_sizes r.list then room_sizes r.room
    then design_tests D then list_tests D r.list then removal_tests D (design_graph D) r

unfoldable pub graph_verdict : Design → GraphSlices → Removal → Verdict
graph_verdict D S r =
    design_sizes D then list_sizes r.list then graph_sizes S then room_sizes r.room
    then design_tests D then list_tests D r.list then graph_test D (graph_of S) then removal_tests D (graph_of S) r

pub from_design : (D : Design) (r : Removal) → remove_from_design D r ≡ outcome (design_verdict D r) (true_graph (design_graph D) (paths_of r.list))
unfolding remove_from_design design_verdict
from_design D r = refl

pub from_graph : (D : Design) (H : Graph) (r : Removal) → remove_from_graph D (slices_of H) r ≡ outcome (graph_verdict D (slices_of H) r) (true_graph H (paths_of r.list))
unfolding remove_from_graph graph_verdict
from_graph D H r = λ i. outcome (graph_verdict D (slices_of H) r) (true_graph (graph_slices_lem H i) (paths_of r.list))

-- what was made, from an outcome
pub outcome_made : {A : Type 0} (v : Verdict) (x y : A) → outcome v x ≡ made y → (v ≡ Passed) × (x ≡ y)
outcome_made {A} Passed x y e = (refl, ap of e)
  where
    of : Outcome A → A
    of (made z) = z
    of (refused r) = x
outcome_made {A} (Err r) x y e = absurd (subst IsRefused e tt)
  where
    IsRefused : Outcome A → Type 0
    IsRefused (made z) = ⊥
    IsRefused (refused q) = Unit {0}

verdict_outcome : (v : Verdict) (G : Graph) → verdict_of (outcome v G) ≡ v
verdict_outcome Passed G = refl
verdict_outcome (Err x) G = refl

-- room that is enough keeps the result within the limits
few_rooms : (R : Room) (G : Graph) → room_tests R G ≡ Passed → T (few_enough G)
unfolding room_tests
few_rooms R G e =
    let a = leb (length G.nodes) (min R.nodes 16384) in
    let b = leb (length G.edges) (min R.starts 65536) in
    let t = then_passed (unless 33 a) (unless 34 b) e in
    let x = leb→le (length G.nodes) (min R.nodes 16384) (holds a (unless_passed 33 a t.0)) in
    let y = leb→le (length G.edges) (min R.starts 65536) (holds b (unless_passed 34 b t.1)) in
    and_intro (leb (length G.nodes) 16384) (leb (length G.edges) 65536) (le→leb (length G.nodes) 16384 (omega arith)) (le→leb (length G.edges) 65536 (omega arith))

pub removal_few : (D : Design) (G : Graph) (r : Removal) → removal_tests D G r ≡ Passed → T (few_enough (true_graph G (paths_of r.list)))
removal_few D G r e =
    few_rooms r.room (true_graph G (paths_of r.list))
    (then_passed (scratch_test D G r.list r.scratch) (room_tests r.room (true_graph G (paths_of r.list))) e).1

-- the first removal that passes
first_held : (D : Design) (r : Removal) → design_verdict D r ≡ Passed → Held D (paths_of r.list) (true_graph (design_graph D) (paths_of r.list))
unfolding design_verdict
first_held D r e =
    let K = paths_of r.list in
    let t₁ = then_passed (design_sizes D) _ e in
    let t₂ = then_passed (list_sizes r.list) _ t₁.1 in
    let t₃ = then_passed (room_sizes r.room) _ t₂.1 in
    let t₄ = then_passed (design_tests D) _ t₃.1 in
    let t₅ = then_passed (list_tests D r.list) _ t₄.1 in
    let fit = design_fits D t₁.0 t₄.0 in
    let legal = fits_legal D fit in
    record {
      fit = fit;
      stands = true_stands (design_graph D) K legal.rising;
      legal = true_legal D (design_graph D) K legal;
      formed = true_formed D (design_graph D) K fit legal (removal_few D (design_graph D) r t₅.1);
      distinct = true_distinct (design_graph D) K;
      paths = list_paths D r.list (list_fits D r.list t₂.0 t₅.0);
    }

-- a further removal that passes
next_held : (D : Design) (L : List (List ℕ)) (H : Graph) (r : Removal) → Held D L H → graph_verdict D (slices_of H) r ≡ Passed
    → Held D (L ++ paths_of r.list) (true_graph H (paths_of r.list))
unfolding graph_verdict
next_held D L H r held e =
    let K = paths_of r.list in
    let t₁ = then_passed (design_sizes D) _ e in
    let t₂ = then_passed (list_sizes r.list) _ t₁.1 in
    let t₃ = then_passed (graph_sizes (slices_of H)) _ t₂.1 in
    let t₄ = then_passed (room_sizes r.room) _ t₃.1 in
    let t₅ = then_passed (design_tests D) _ t₄.1 in
    let t₆ = then_passed (list_tests D r.list) _ t₅.1 in
    let t₇ = then_passed (graph_test D (graph_of (slices_of H))) _ t₆.1 in
    record {
      fit = held.fit;
      stands = parts_stand (design_graph D) H L K (fits_legal D held.fit).rising held.stands;
      legal = true_legal D H K held.legal;
      formed = true_formed D H K held.fit held.legal (removal_few D H r (subst (λ (G : Graph). removal_tests D G r ≡ Passed) (graph_slices_lem H) t₇.1));
      distinct = true_distinct H K;
      paths = paths_append D L K held.paths (list_paths D r.list (list_fits D r.list t₂.0 t₆.0));
    }

-- The graph held and the true graph of the design and the whole list.
module _ (D : Design) (L : List (List ℕ)) (H : Graph) (held : Held D L H) where
  design_legal : Legal D (design_graph D)
  design_legal = fits_legal D held.fit

  whole_legal : Legal D (true_graph (design_graph D) L)
  whole_legal = true_legal D (design_graph D) L design_legal

  pub held_renumbered : Renumbered H (true_graph (design_graph D) L)
  held_renumbered =
      stands_renumbered (design_graph D) H (true_graph (design_graph D) L) L design_legal.rising held.stands
      (true_stands (design_graph D) L design_legal.rising) held.legal.order whole_legal.order held.distinct (true_distinct (design_graph D) L)

  -- a copy is renumbered to that of its pair (node, mark)
  pub held_pair : (h : ℕ) → h < length H.nodes → held.stands.label h ≡ pair_of (design_graph D) L (held_renumbered.to h)
  unfolding held_renumbered
  held_pair h k =
      let up = design_legal.rising in
      let to = true_label (design_graph D) L up (held_renumbered.to h) in
      sym
      (renumbered_label (design_graph D) H (true_graph (design_graph D) L) L up held.stands (true_stands (design_graph D) L up)
      held.legal.order whole_legal.order held.distinct (true_distinct (design_graph D) L) h k)
      ∙ to

  -- both pass 32
  whole_formed : T (well_formed D (true_graph (design_graph D) L))
  whole_formed =
      true_formed D (design_graph D) L held.fit design_legal
      (subst T (λ i. leb (length (held_renumbered.nodes i)) 16384 && leb (held_renumbered.edges i) 65536) (formed D H held.formed).few)

  -- a further removal from either gives results that are renumberings
  next_renumbered : (K : List (List ℕ)) → Renumbered (true_graph H K) (true_graph (true_graph (design_graph D) L) K)
  next_renumbered K =
      stands_renumbered (design_graph D) (true_graph H K) (true_graph (true_graph (design_graph D) L) K) (L ++ K) design_legal.rising
      (parts_stand (design_graph D) H L K design_legal.rising held.stands)
      (parts_stand (design_graph D) (true_graph (design_graph D) L) L K design_legal.rising (true_stands (design_graph D) L design_legal.rising))
      (true_legal D H K held.legal).order (true_legal D (true_graph (design_graph D) L) K whole_legal).order
      (true_distinct H K) (true_distinct (true_graph (design_graph D) L) K)

  well : (G : Graph) → T (well_formed D G) → graph_test D (graph_of (slices_of G)) ≡ Passed
  well G t = ap (graph_test D) (graph_slices_lem G) ∙ yes_fit (well_formed D G) t
    where
      yes_fit : (b : Bool) → T b → unless 32 b ≡ Passed
      yes_fit true t = refl
      yes_fit false t = absurd t

  same_scratch : (P : PathList) (words : ℕ) → scratch_test D (graph_of (slices_of H)) P words ≡ scratch_test D (graph_of (slices_of (true_graph (design_graph D) L))) P words
  unfolding scratch_test candidates
  same_scratch P words =
      ap (λ (G : Graph). scratch_test D G P words) (graph_slices_lem H)
      ∙ (λ i.
      words_test
      (sum (map (λ v. 1 + count_of (λ k. eqb (edge_start D k) v) (flat_map (λ p. drop 1 p) (paths_of P))) (held_renumbered.nodes i)))
      (length P.edges) (held_renumbered.edges i) words)
      ∙ ap (λ (G : Graph). scratch_test D G P words) (sym (graph_slices_lem (true_graph (design_graph D) L)))

  same_room : (P : PathList) (M : Room)
      → room_tests M (true_graph (graph_of (slices_of H)) (paths_of P)) ≡ room_tests M (true_graph (graph_of (slices_of (true_graph (design_graph D) L))) (paths_of P))
  unfolding room_tests
  same_room P M =
      let q = next_renumbered (paths_of P) in
      ap (λ (G : Graph). room_tests M (true_graph G (paths_of P))) (graph_slices_lem H)
      ∙ (λ i. unless 33 (leb (length (q.nodes i)) (min M.nodes 16384)) then unless 34 (leb (q.edges i) (min M.starts 65536)))
      ∙ ap (λ (G : Graph). room_tests M (true_graph G (paths_of P))) (sym (graph_slices_lem (true_graph (design_graph D) L)))

  -- so the tests of a removal cannot tell them apart
  same_verdict : (r : Removal) → graph_verdict D (slices_of H) r ≡ graph_verdict D (slices_of (true_graph (design_graph D) L)) r
  unfolding graph_verdict
  same_verdict r =
      let s = slices_sizes H held.stands.sizes ∙ sym (slices_sizes (true_graph (design_graph D) L) (true_sizes (design_graph D) L)) in
      let t = well H held.formed ∙ sym (well (true_graph (design_graph D) L) whole_formed) in
      λ i.
      design_sizes D then list_sizes r.list then s i then room_sizes r.room
      then design_tests D then list_tests D r.list then t i
      then same_scratch r.list r.scratch i then same_room r.list r.room i

  pub held_is : HeldIs D (some L) (some H)
  held_is =
      (held_renumbered, subst (λ (n : ℕ). n + length L ≤ D.nodes + sum (map length L)) (sym (ap length held_renumbered.nodes)) (size_whole D L held.fit held.paths))

-- what the graph held and the whole list have to do with each other, all along
abbrev Related : Design → Option (List (List ℕ)) → Option Graph → Type 0
Related D none none = Unit {0}
Related D none (some H) = ⊥
Related D (some L) none = ⊥
Related D (some L) (some H) = Held D L H

step : (D : Design) (whole : Option (List (List ℕ))) (held : Option Graph) (r : Removal) → Related D whole held
    → (verdict_of (remove_next D held r) ≡ verdict_alone D whole r) × Related D (whole_next whole r (verdict_alone D whole r)) (held_next held (remove_next D held r))
step D none none r h =
    (refl, subst (λ (o : Outcome Graph). Related D (whole_next none r (verdict_of o)) (held_next none o)) (sym (from_design D r)) (go (design_verdict D r) refl))
  where
    go : (v : Verdict) → design_verdict D r ≡ v
        → Related D (whole_next none r (verdict_of (outcome v (true_graph (design_graph D) (paths_of r.list))))) (held_next none (outcome v (true_graph (design_graph D) (paths_of r.list))))
    go Passed e = first_held D r e
    go (Err x) e = tt
step D none (some H) r h = absurd h
step D (some L) none r h = absurd h
step D (some L) (some H) r h = (same, subst₂ (λ (v : Verdict) (o : Outcome Graph). Related D (whole_next (some L) r v) (held_next (some H) o)) alone (sym (from_graph D H r)) (go (graph_verdict D (slices_of H) r) refl))
  where
    K : List (List ℕ)
    K = paths_of r.list

    alone : graph_verdict D (slices_of H) r ≡ verdict_alone D (some L) r
    alone =
        same_verdict D L H h r
        ∙ sym (ap verdict_of (from_graph D (true_graph (design_graph D) L) r) ∙ verdict_outcome (graph_verdict D (slices_of (true_graph (design_graph D) L)) r) (true_graph (true_graph (design_graph D) L) K))

    same : verdict_of (remove_from_graph D (slices_of H) r) ≡ verdict_alone D (some L) r
    same = ap verdict_of (from_graph D H r) ∙ verdict_outcome (graph_verdict D (slices_of H) r) (true_graph H K) ∙ alone

    go : (v : Verdict) → graph_verdict D (slices_of H) r ≡ v → Related D (whole_next (some L) r v) (held_next (some H) (outcome v (true_graph H (paths_of r.list))))
    go Passed e = next_held D L H r h e
    go (Err x) e = h

series : (D : Design) (rs : List Removal) (whole : Option (List (List ℕ))) (held : Option Graph) → Related D whole held
    → (verdicts D held rs ≡ verdicts_alone D whole rs) × Related D (whole_after D whole rs) (held_after D held rs)
series D [] whole held h = (refl, h)
series D (r ∷ rs) whole held h =
    let s = step D whole held r h in
    let n = series D rs (whole_next whole r (verdict_alone D whole r)) (held_next held (remove_next D held r)) s.1 in
    (λ i. s.0 i ∷ n.0 i, n.1)

-- the graph held after a series is held for the whole list
pub series_held : (D : Design) (rs : List Removal) (H : Graph) → held_after D none rs ≡ some H
    → (L : List (List ℕ)) × (whole_after D none rs ≡ some L) × Held D L H
series_held D rs H e = go (whole_after D none rs) (subst (Related D (whole_after D none rs)) e (series D rs none none tt).1)
  where
    go : (whole : Option (List (List ℕ))) → Related D whole (some H) → (L : List (List ℕ)) × (whole ≡ some L) × Held D L H
    go none h = absurd h
    go (some L) h = (L, refl, h)

related_is : (D : Design) (whole : Option (List (List ℕ))) (held : Option Graph) → Related D whole held → HeldIs D whole held
related_is D none none h = tt
related_is D none (some H) h = h
related_is D (some L) none h = h
related_is D (some L) (some H) h = held_is D L H h

-- Demand 3, for every design and every series of removals, whatever their lists, rooms and scratch.
pub demand3 : (D : Design) (rs : List Removal) → Demand3 D rs
demand3 D rs =
    let s = series D rs none none tt in
    record { refusals = s.0; graph = related_is D (whole_after D none rs) (held_after D none rs) s.1 }

-- Corollary: a list cut anywhere between its paths. Where no removal of a series is refused, the graph held is that of all
-- its lists put end to end, however they were cut.
whole_passed : (D : Design) (rs : List Removal) (L : List (List ℕ)) → AllPassed (verdicts_alone D (some L) rs) → whole_after D (some L) rs ≡ some (L ++ lists_of rs)
unfolding lists_of flat_map
whole_passed D [] L a = ap some (sym (append-nil L))
whole_passed D (r ∷ rs) L a = go (verdict_alone D (some L) r) a (λ b. whole_passed D rs (L ++ paths_of r.list) b)
  where
    go : (v : Verdict) → AllPassed (v ∷ verdicts_alone D (whole_next (some L) r v) rs)
        → (AllPassed (verdicts_alone D (some (L ++ paths_of r.list)) rs) → whole_after D (some (L ++ paths_of r.list)) rs ≡ some ((L ++ paths_of r.list) ++ flat_map (λ r. paths_of r.list) rs))
        → whole_after D (whole_next (some L) r v) rs ≡ some (L ++ flat_map (λ r. paths_of r.list) (r ∷ rs))
    go Passed b below = below b ∙ ap some (append_assoc L (paths_of r.list) (flat_map (λ r. paths_of r.list) rs))
    go (Err x) b below = absurd b

pub cut_list : (D : Design) (r : Removal) (rs : List Removal) → AllPassed (verdicts D none (r ∷ rs)) → HeldIs D (some (lists_of (r ∷ rs))) (held_after D none (r ∷ rs))
unfolding lists_of flat_map
cut_list D r rs a =
    let d = demand3 D (r ∷ rs) in
    subst (λ (w : Option (List (List ℕ))). HeldIs D w (held_after D none (r ∷ rs)))
    (go (verdict_alone D none r) (subst AllPassed d.refusals a)) d.graph
  where
    go : (v : Verdict) → AllPassed (v ∷ verdicts_alone D (whole_next none r v) rs) → whole_after D (whole_next none r v) rs ≡ some (flat_map (λ r. paths_of r.list) (r ∷ rs))
    go Passed b = whole_passed D rs (paths_of r.list) b
    go (Err x) b = absurd b
