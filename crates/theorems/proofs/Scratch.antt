-- What a removal answers depends on its scratch by 31 alone. So with the words that 31 asks it answers what it does with any other scratch, where
-- that is not 31.
use Prim.Native.Nat.{ℕ, ◌≤◌}
use mathlib.Core.Path.{◌≡◌, refl, sym, ◌∙◌, ap}
use mathlib.Core.Bool.{Bool, true, false}
use mathlib.Core.Option.{Option, none, some}
use Rattle.std.specs.Prelude.{Err}
use Rattle.timing.specs.Answers.{Verdict, Passed}
use lib.Dec.{leb}
use lib.ListN.{length}
use borrow.Author.Tests.{le-leb}
use Rattle.timing.specs.declared.Refusal.{Refusal}
use Rattle.timing.specs.Graphs.{Design, Graph, design_graph}
use Rattle.timing.specs.Marks.{PathList, path_list, paths_of}
use Rattle.timing.specs.TrueGraphs.{true_graph}
use Rattle.timing.specs.Refusals.{refusal, unless, ◌then◌}
use Rattle.timing.specs.Tests.{design_sizes, list_sizes, design_tests, list_tests, graph_test, candidates, scratch_words, scratch_test, Room, room_sizes, room_tests}
use Rattle.timing.specs.Calls.{GraphSlices, graph_slices, graph_of, graph_sizes, room_of, refused, outcome, removal, removal_tests, remove_from_design, remove_from_graph, graph_answer, nodes_after, endpoints_after, starts_after, ends_after, names_after}
use Rattle.timing.specs.Called.{Called, removal_of, Meets, remove_on, graph_on, SameAnswers}

abbrev short : Refusal
short = refusal 31 0

-- w is what v is, where that is not 31
abbrev Agree : Verdict → Verdict → Type 0
Agree v w = (v ≡ Err short → ⊥) → v ≡ w

agree_then : (u v w : Verdict) → Agree v w → Agree (u then v) (u then w)
agree_then Passed v w h = h
agree_then (Err r) v w h = λ p. refl

agree_fit : (a b : Bool) (w : Verdict) → b ≡ true → Agree (unless 31 a then w) (unless 31 b then w)
agree_fit true true w e p = refl
agree_fit false true w e p = absurd (p refl)
agree_fit a false w e p = cc

-- behind five tests
agree_five : (a b c d e v w : Verdict) → Agree v w
    → Agree (a then (b then (c then (d then (e then v))))) (a then (b then (c then (d then (e then w)))))
agree_five a b c d e v w h =
    agree_then a (b then (c then (d then (e then v)))) (b then (c then (d then (e then w))))
    (agree_then b (c then (d then (e then v))) (c then (d then (e then w)))
    (agree_then c (d then (e then v)) (d then (e then w)) (agree_then d (e then v) (e then w) (agree_then e v w h))))

outcomes : (G : Graph) (v w : Verdict) → Agree v w → (outcome v G ≡ refused short → ⊥) → outcome v G ≡ outcome w G
outcomes G v w h p = ap (λ (u : Verdict). outcome u G) (h (λ e. p (ap (λ (u : Verdict). outcome u G) e)))

-- the same list and room, with m words and with n
module _ (D : Design) (L : PathList) (R : Room) (m n : ℕ) where
  abbrev Enough : Graph → Type 0
  Enough G = scratch_words (candidates D G L) (length L.edges) (length G.edges) ≤ n

  agree_removal : (G : Graph) → Enough G → Agree (removal_tests D G (removal L R m)) (removal_tests D G (removal L R n))
  unfolding scratch_test
  agree_removal G h =
      let asked = scratch_words (candidates D G L) (length L.edges) (length G.edges) in
      agree_fit (leb asked m) (leb asked n) (room_tests R (true_graph G (paths_of L))) (le-leb asked n h)

  same_outcome : (held : Option GraphSlices) → Enough (graph_on D held) → (remove_on D held (removal L R m) ≡ refused short → ⊥)
      → remove_on D held (removal L R m) ≡ remove_on D held (removal L R n)
  unfolding remove_from_design remove_from_graph
  same_outcome none h =
      let G = design_graph D in
      let v = removal_tests D G (removal L R m) in
      let w = removal_tests D G (removal L R n) in
      outcomes (true_graph G (paths_of L))
      (design_sizes D then (list_sizes L then (room_sizes R then (design_tests D then (list_tests D L then v)))))
      (design_sizes D then (list_sizes L then (room_sizes R then (design_tests D then (list_tests D L then w)))))
      (agree_five (design_sizes D) (list_sizes L) (room_sizes R) (design_tests D) (list_tests D L) v w (agree_removal G h))
  same_outcome (some S) h =
      let G = graph_of S in
      let v = removal_tests D G (removal L R m) in
      let w = removal_tests D G (removal L R n) in
      let behind : Verdict → Verdict = λ u. graph_sizes S then (room_sizes R then (design_tests D then (list_tests D L then (graph_test D G then u)))) in
      outcomes (true_graph G (paths_of L)) (design_sizes D then (list_sizes L then behind v)) (design_sizes D then (list_sizes L then behind w))
      (agree_then (design_sizes D) (list_sizes L then behind v) (list_sizes L then behind w)
      (agree_then (list_sizes L) (behind v) (behind w)
      (agree_five (graph_sizes S) (room_sizes R) (design_tests D) (list_tests D L) (graph_test D G) v w (agree_removal G h))))

pub same_answers : (D : Design) (held : Option GraphSlices) (a b : Called)
    → Meets (remove_on D held (removal_of a)) a → Meets (remove_on D held (removal_of b)) b → SameAnswers D held a b
same_answers D held a b m n p listed lengths room enough = (
  n.answer ∙ ap graph_answer e ∙ sym m.answer,
  λ i. graph_slices (nodes i) (endpoints i) (starts i) (ends i) (names i),
)
  where
    L : PathList
    L = path_list b.listed b.lengths

    lent : removal_of a ≡ removal L (room_of b.room) (length a.scratch)
    lent = λ i. removal (path_list (sym listed i) (sym lengths i)) (room_of (sym room i)) (length a.scratch)

    e : remove_on D held (removal_of b) ≡ remove_on D held (removal_of a)
    e =
        sym
        (ap (remove_on D held) lent
        ∙ same_outcome D L (room_of b.room) (length a.scratch) (length b.scratch) held enough
        (λ z. p (m.answer ∙ ap graph_answer (ap (remove_on D held) lent ∙ z))))

    nodes : b.after.nodes ≡ a.after.nodes
    nodes = n.nodes ∙ (λ i. nodes_after (e i) (room i).nodes) ∙ sym m.nodes

    endpoints : b.after.endpoints ≡ a.after.endpoints
    endpoints = n.endpoints ∙ (λ i. endpoints_after (e i) (room i).endpoints) ∙ sym m.endpoints

    starts : b.after.starts ≡ a.after.starts
    starts = n.starts ∙ (λ i. starts_after (e i) (room i).starts) ∙ sym m.starts

    ends : b.after.ends ≡ a.after.ends
    ends = n.ends ∙ (λ i. ends_after (e i) (room i).ends) ∙ sym m.ends

    names : b.after.names ≡ a.after.names
    names = n.names ∙ (λ i. names_after (e i) (room i).names) ∙ sym m.names
