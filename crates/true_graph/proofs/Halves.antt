-- Half of the program's scratch: where 31 passes with it, the removal of a design and a list that passed their tests is the same.
use Prim.Native.Nat.{ℕ, ◌+◌, ◌-◌, ◌≤◌}
use native.Mathlib.Omega.{arith}
use mathlib.Core.Path.{◌≡◌, sym, ap, ◌∙◌}
use Rattle.timing.specs.Answers.{Verdict, Passed}
use lib.Dec.{leb}
use lib.ListN.{length}
use borrow.Author.Tests.{leb-true, le-leb}
use Rattle.timing.specs.Lists.{upto}
use Rattle.timing.specs.Graphs.{Design, Graph, design_graph}
use Rattle.timing.specs.Marks.{PathList, paths_of}
use Rattle.timing.specs.TrueGraphs.{true_graph}
use Rattle.timing.specs.Refusals.{unless, ◌then◌}
use Rattle.timing.specs.Tests.{design_sizes, list_sizes, design_tests, list_tests, candidates, scratch_words, words_test, scratch_test, Room, room_sizes, room_tests}
use Rattle.timing.specs.Calls.{outcome, removal, remove_from_design}
use Rattle.timing.proofs.Verdicts.{unless_passed, edges_passed}
use Rattle.theorems.proofs.Lists.{length_upto, length_edges}
use Rattle.theorems.proofs.Size.{candidates_design}
use Rattle.true_graph.specs.Deck.{Tested}

module _ (D : Design) (L : PathList) (t : Tested D L) where
  abbrev G : Graph
  G = design_graph D

  -- the candidates of a design, counted by its nodes and its list alone
  pub few_paths : length L.lengths ≤ D.nodes + length L.edges
  few_paths = omega (arith, candidates_design D L t.sizes t.adds t.design t.list)

  counted : candidates D G L ≡ D.nodes + length L.edges - length L.lengths
  counted = omega (arith, candidates_design D L t.sizes t.adds t.design t.list)

  edge_count_lem : length G.edges ≡ length D.starts
  unfolding design_graph
  edge_count_lem =
      let m = length D.starts in
      omega (arith, length_edges D.starts D.ends (upto m 0), length_upto m 0, (edges_passed m (length D.ends) (length D.early) (length D.late) t.sizes).0)

  passes : (words : ℕ) → scratch_words (D.nodes + length L.edges - length L.lengths) (length L.edges) (length D.starts) ≤ words → scratch_test D G L words ≡ Passed
  unfolding scratch_test
  passes words h = rw (counted, edge_count_lem) (ap (unless 31) (le-leb _ words h))

  pub half_same : (R : Room) → words_test (D.nodes + length L.edges - length L.lengths) (length L.edges) (length D.starts) 8192 ≡ Passed
      → remove_from_design D (removal L R 8192) ≡ remove_from_design D (removal L R 16384)
  unfolding remove_from_design
  half_same R e =
      let asked = scratch_words (D.nodes + length L.edges - length L.lengths) (length L.edges) (length D.starts) in
      let h = leb-true asked 8192 (unless_passed 31 (leb asked 8192) e) in
      let H = true_graph G (paths_of L) in
      ap (λ (v : Verdict). outcome (design_sizes D then (list_sizes L then (room_sizes R then (design_tests D then (list_tests D L then (v then room_tests R H)))))) H)
      (passes 8192 h ∙ sym (passes 16384 (omega arith)))
