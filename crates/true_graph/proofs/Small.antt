-- Every refusal and every count fits one number of 64 bits: a place is that of an edge or a path, which are counted before they
-- are looked at, or of a marked node, which are at most n before one is wrong; and what is made has passed 33 and 34.
use Prim.Native.Nat.{ℕ, ◌≤◌, min}
use native.Mathlib.Omega.{arith}
use mathlib.Core.Path.{◌≡◌, refl, subst}
use mathlib.Core.Bool.{Bool, true, false, ◌&&◌}
use mathlib.Core.List.{List, [], ◌∷◌, Memᴰ}
use Rattle.std.specs.Prelude.{Err}
use Rattle.timing.specs.Answers.{Verdict, Passed}
use lib.Dec.{eqb, leb, leb→le}
use lib.IntN.{pos}
use lib.ListN.{length}
use Rattle.timing.specs.Lists.{keep, upto, sum}
use Rattle.timing.specs.Graphs.{Design, edge_late, Graph, design_graph}
use Rattle.timing.specs.Marks.{PathList, paths_of}
use Rattle.timing.specs.TrueGraphs.{true_graph}
use Rattle.timing.specs.Times.{late_at, late_copies}
use Rattle.timing.specs.WellFormed.{well_formed}
use Rattle.timing.specs.Refusals.{unless, ◌then◌}
use Rattle.timing.specs.Tests.{same_sizes, time_sizes, design_sizes, list_sizes, design_tests, list_tests, allowed_test, graph_test, candidates, scratch_words, scratch_test, Room, room_sizes, room_tests}
use Rattle.timing.specs.Calls.{GraphSlices, graph_of, room_of, graph_sizes, outcome, Removal, removal, remove_from_design, remove_from_graph, largest_room, size_from_design, size_from_graph, graph_answer, timing_tests, test_times, test_late, lowest_late, late_or_not}
use Rattle.theorems.proofs.Lists.{and_left, holds, of_keep, of_upto}
use Rattle.timing.proofs.Verdicts.{every_then, every_unless}
use Rattle.theorems.proofs.Tests.{every_design, every_list}
use Rattle.theorems.proofs.Tested.{formed, timing_passed}
use Rattle.path_list.proofs.Laws.{length_cut}
use Rattle.true_graph.specs.Small.{SmallRefusal, SmallGraph, SmallLateness, Small}

pub small_then : (v w : Verdict) → Small v → (v ≡ Passed → Small w) → Small (v then w)
small_then v w a b = every_then SmallRefusal v w a b

pub small_unless : (k : ℕ) → k ≤ 36 → (fit : Bool) → Small (unless k fit)
small_unless k h fit = every_unless SmallRefusal k (h, omega arith) fit

pub small_sizes : (a b c : ℕ) → Small (same_sizes a b c)
small_sizes a b c = small_unless 30 (omega arith) (eqb a b && eqb a c)

pub small_design_sizes : (D : Design) → Small (design_sizes D)
small_design_sizes D =
    let m = length D.starts in
    small_then (same_sizes m m (length D.ends)) (same_sizes m (length D.early) (length D.late))
    (small_sizes m m (length D.ends)) (λ e. small_sizes m (length D.early) (length D.late))

pub small_room_sizes : (R : Room) → Small (room_sizes R)
small_room_sizes R =
    small_then (same_sizes R.nodes R.nodes R.endpoints) (same_sizes R.starts R.ends R.names)
    (small_sizes R.nodes R.nodes R.endpoints) (λ e. small_sizes R.starts R.ends R.names)

pub small_design : (D : Design) → Small (design_tests D)
small_design D = every_design SmallRefusal D (λ k j a b l. (omega arith, omega arith)) (λ j a b. (omega arith, omega arith))

pub small_list : (D : Design) (L : PathList) → Small (list_tests D L)
small_list D L =
    every_list SmallRefusal D L (λ k a b. (omega arith, omega arith)) (λ k j d a b few l. (omega arith, omega (arith, length_cut L.edges L.lengths)))

pub small_scratch : (D : Design) (G : Graph) (L : PathList) (words : ℕ) → Small (scratch_test D G L words)
unfolding scratch_test
small_scratch D G L words = small_unless 31 (omega arith) (leb (scratch_words (candidates D G L) (length L.edges) (length G.edges)) words)

-- what is made has passed 33 and 34
small_made : (R : Room) (H : Graph) (v : Verdict) → Small v → SmallGraph (graph_answer (outcome (v then room_tests R H) H))
unfolding room_tests
small_made R H (Err x) s = s
small_made R H Passed s = go (leb (length H.nodes) (min R.nodes 16384)) (leb (length H.edges) (min R.starts 65536)) refl refl
  where
    go : (a b : Bool) → leb (length H.nodes) (min R.nodes 16384) ≡ a → leb (length H.edges) (min R.starts 65536) ≡ b
        → SmallGraph (graph_answer (outcome (unless 33 a then unless 34 b) H))
    go true true p q = (
      omega (arith, leb→le (length H.nodes) (min R.nodes 16384) (holds (leb (length H.nodes) (min R.nodes 16384)) p)),
      omega (arith, leb→le (length H.edges) (min R.starts 65536) (holds (leb (length H.edges) (min R.starts 65536)) q)),
    )
    go true false p q = (omega arith, omega arith)
    go false b p q = (omega arith, omega arith)

-- the tests before 33
abbrev design_early : Design → Removal → Verdict
design_early D r = design_sizes D then (list_sizes r.list then (room_sizes r.room then (design_tests D then (list_tests D r.list then scratch_test D (design_graph D) r.list r.scratch))))

abbrev graph_early : Design → GraphSlices → Removal → Verdict
graph_early D S r =
    design_sizes D then (list_sizes r.list then (graph_sizes S then (room_sizes r.room then (design_tests D then (list_tests D r.list then (graph_test D (graph_of S) then scratch_test D (graph_of S) r.list r.scratch))))))

early_six : (d l o t u s w : Verdict) → ((d then (l then (o then (t then (u then s))))) then w) ≡ (d then (l then (o then (t then (u then (s then w))))))
early_six (Err x) l o t u s w = refl
early_six Passed (Err x) o t u s w = refl
early_six Passed Passed (Err x) t u s w = refl
early_six Passed Passed Passed (Err x) u s w = refl
early_six Passed Passed Passed Passed (Err x) s w = refl
early_six Passed Passed Passed Passed Passed s w = refl

early_eight : (d l g o t u f s w : Verdict)
    → ((d then (l then (g then (o then (t then (u then (f then s))))))) then w) ≡ (d then (l then (g then (o then (t then (u then (f then (s then w))))))))
early_eight (Err x) l g o t u f s w = refl
early_eight Passed (Err x) g o t u f s w = refl
early_eight Passed Passed g o t u f s w = early_six g o t u f s w

pub small_list_sizes : (L : PathList) → Small (list_sizes L)
small_list_sizes L = small_unless 30 (omega arith) (eqb (sum L.lengths) (length L.edges))

pub small_from_design : (D : Design) (r : Removal) → SmallGraph (graph_answer (remove_from_design D r))
unfolding remove_from_design
small_from_design D r =
    let G = design_graph D in
    let H = true_graph G (paths_of r.list) in
    subst (λ (v : Verdict). SmallGraph (graph_answer (outcome v H)))
    (early_six (design_sizes D) (list_sizes r.list) (room_sizes r.room) (design_tests D) (list_tests D r.list) (scratch_test D G r.list r.scratch) (room_tests r.room H))
    (small_made r.room H (design_early D r)
    (small_then (design_sizes D) _ (small_design_sizes D)
    (λ e. small_then (list_sizes r.list) _ (small_list_sizes r.list)
    (λ e. small_then (room_sizes r.room) _ (small_room_sizes r.room)
    (λ e. small_then (design_tests D) _ (small_design D)
    (λ e. small_then (list_tests D r.list) _ (small_list D r.list) (λ e. small_scratch D G r.list r.scratch)))))))

pub small_from_graph : (D : Design) (S : GraphSlices) (r : Removal) → SmallGraph (graph_answer (remove_from_graph D S r))
unfolding remove_from_graph
small_from_graph D S r =
    let G = graph_of S in
    let H = true_graph G (paths_of r.list) in
    subst (λ (v : Verdict). SmallGraph (graph_answer (outcome v H)))
    (early_eight (design_sizes D) (list_sizes r.list) (graph_sizes S) (room_sizes r.room) (design_tests D) (list_tests D r.list) (graph_test D G) (scratch_test D G r.list r.scratch) (room_tests r.room H))
    (small_made r.room H (graph_early D S r)
    (small_then (design_sizes D) _ (small_design_sizes D)
    (λ e. small_then (list_sizes r.list) _ (small_list_sizes r.list)
    (λ e. small_then (graph_sizes S) _ (small_room_sizes (room_of S))
    (λ e. small_then (room_sizes r.room) _ (small_room_sizes r.room)
    (λ e. small_then (design_tests D) _ (small_design D)
    (λ e. small_then (list_tests D r.list) _ (small_list D r.list)
    (λ e. small_then (graph_test D G) _ (small_unless 32 (omega arith) (well_formed D G)) (λ e. small_scratch D G r.list r.scratch)))))))))

-- a told size is an answer of removal
pub small_size_design : (D : Design) (L : PathList) (words : ℕ) → SmallGraph (graph_answer (size_from_design D L words))
unfolding size_from_design
small_size_design D L words = small_from_design D (removal L largest_room words)

pub small_size_graph : (D : Design) (S : GraphSlices) (L : PathList) (words : ℕ) → SmallGraph (graph_answer (size_from_graph D S L words))
unfolding size_from_graph
small_size_graph D S L words = small_from_graph D S (removal L largest_room words)

small_timing : (D : Design) (S : GraphSlices) (T : ℕ) (lent : Verdict) → Small lent → Small (timing_tests D S T lent)
small_timing D S T lent s =
    small_then (design_sizes D) _ (small_design_sizes D)
    (λ q. small_then (graph_sizes S) _ (small_room_sizes (room_of S))
    (λ q. small_then lent _ s
    (λ q. small_then (design_tests D) _ (small_design D)
    (λ q. small_then (allowed_test T) _ (small_unless 25 (omega arith) (leb T 1000000000)) (λ q. small_unless 32 (omega arith) (well_formed D (graph_of S)))))))

pub small_times : (D : Design) (S : GraphSlices) (T a r s e : ℕ) → Small (test_times D S T a r s e)
unfolding test_times
small_times D S T a r s e =
    let n = length S.nodes in
    small_timing D S T (time_sizes n a r s e) (small_then (same_sizes n a r) (same_sizes n s e) (small_sizes n a r) (λ p. small_sizes n s e))

-- a copy that is late is one of the graph's, which has passed 32
pub small_late : (D : Design) (S : GraphSlices) (T a : ℕ) → SmallLateness (late_or_not D S T a)
unfolding late_or_not test_late late_copies
small_late D S T a =
    let n = length S.nodes in
    go (timing_tests D S T (same_sizes n n a)) refl (small_timing D S T (same_sizes n n a) (small_sizes n n a))
  where
    few : (p : ℕ → Bool) (cs : List ℕ) (n : ℕ) → cs ≡ keep p (upto n 0) → n ≤ 16384 → SmallLateness (lowest_late Passed cs)
    few p [] n e h = tt
    few p (c ∷ cs) n e h =
        let m = of_keep p (upto n 0) (subst (λ (l : List ℕ). Memᴰ c l) e (Memᴰ.head refl)) in
        omega (arith, (of_upto n 0 c m.0).1, h)

    go : (v : Verdict) → timing_tests D S T (same_sizes (length S.nodes) (length S.nodes) a) ≡ v → Small v
        → SmallLateness (lowest_late v (late_copies (edge_late D) (pos T) (graph_of S)))
    go (Err x) e s = s
    go Passed e s =
        let w = (timing_passed D S T (same_sizes (length S.nodes) (length S.nodes) a) e).well in
        few (late_at (edge_late D) (pos T) (graph_of S)) (late_copies (edge_late D) (pos T) (graph_of S)) (length S.nodes) refl
        (leb→le (length S.nodes) 16384 (and_left (leb (length S.nodes) 16384) (leb (length (graph_of S).edges) 65536) (formed D (graph_of S) w).few))
