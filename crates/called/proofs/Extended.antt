-- Request 12 of document 02, over calls: a list with its paths reordered or repeated, and a longer list. Removal is from the design where none is held, and
-- from the earlier graph that is held where one is.
use Prim.Native.Nat.{ℕ, ◌<◌}
use mathlib.Core.Path.{◌≡◌, sym, ap, ◌∙◌, subst}
use mathlib.Core.List.{List, map}
use mathlib.Core.Option.{Option}
use Rattle.std.specs.Prelude.{Ok}
use Rattle.std.specs.Prelude.{Option as Maybe}
use Rattle.timing.specs.Answers.{Passed}
use Rattle.timing.specs.declared.Times.{Times}
use lib.IntN.{pos}
use lib.ListN.{length, get_or}
use Rattle.timing.specs.Graphs.{Design, edge_early, edge_late, Graph, design_graph}
use Rattle.timing.specs.Calls.{GraphSlices, slices_of}
use Rattle.timing.specs.Called.{removal_of, remove_on, front, graph_on}
use Rattle.timing.specs.Extended.{ExtendedTo, SameGraph, NoWorse}
use Rattle.theorems.proofs.Runs.{Rising}
use Rattle.theorems.proofs.Stands.{Stands}
use Rattle.theorems.proofs.Nodes.{copy_times_at, node_times_at}
use Rattle.theorems.proofs.Records.{removed_on}
use Rattle.theorems.proofs.Shuffled.{same_graph}
use Rattle.theorems.proofs.Extended.{stands_no_worse, above, copy_no_worse, held_stands}
use Rattle.called.specs.Removals.{Call, design_of, earlier_of, called_of, paths_in}
use Rattle.called.specs.Times.{timed_graph, copy_left, RecordCall, asked_node, RecordAfter, RecordsCall, node_times_left, RecordsAfter}
use Rattle.called.specs.Extended.{TimedOn, TimedRemoval, TimedSeries, NothingWorse}
use Rattle.called.proofs.Series.{meets_on}
use Rattle.called.proofs.Demand2.{made_by, held_by_lem}
use Rattle.called.proofs.Times.{copy_left_lem, record_answered, records_left}

-- "a list with its paths reordered or repeated gives the identical graph, numbers included, when removed from the same graph"
pub call_same_graph : (D : Design) (held : Option GraphSlices) (a b : Call) → design_of a ≡ D → earlier_of a ≡ held → design_of b ≡ D → earlier_of b ≡ held
    → SameGraph (called_of a) (called_of b)
call_same_graph D held a b d h e k = same_graph D held (called_of a) (called_of b) (meets_on D held a d h) (meets_on D held b e k)

-- ---- what the calls leave of a graph H whose slices `times` was lent, by the design and T that both runs share
module _ {D : Design} {T : ℕ} {S : GraphSlices} (t : TimedOn D T S) (H : Graph) (made : S ≡ slices_of H) where
  abbrev times_of : ℕ → Maybe Times
  times_of v = node_times_at (edge_early D) (edge_late D) (pos T) H D.nodes v

  graph_is : timed_graph t.times ≡ slices_of H
  graph_is = t.graph ∙ made

  timed_copy : (h : ℕ) → h < length H.nodes → copy_left t.times h ≡ copy_times_at (edge_early D) (edge_late D) (pos T) H h
  timed_copy h k =
      copy_left_lem t.times H graph_is t.passed h k
      ∙ (λ i. copy_times_at (edge_early (t.design i)) (edge_late (t.design i)) (pos (t.allowed i)) H h)

  timed_record : (c : RecordCall) → RecordAfter t.times c → c.answer ≡ Ok (record { node = asked_node c; times = times_of (asked_node c) })
  timed_record c l =
      record_answered t.times H graph_is t.passed c l
      ∙ (λ i.
      Ok (record {
        node = asked_node c;
        times = node_times_at (edge_early (t.design i)) (edge_late (t.design i)) (pos (t.allowed i)) H (t.design i).nodes (asked_node c);
      }))

  timed_records : (c : RecordsCall) → RecordsAfter t.times c → c.answer ≡ Passed → (v : ℕ) → v < D.nodes → node_times_left c v ≡ times_of v
  timed_records c l p v h =
      records_left t.times H graph_is t.passed c p l v (subst (λ (E : Design). v < E.nodes) (sym t.design) h)
      ∙ (λ i. node_times_at (edge_early (t.design i)) (edge_late (t.design i)) (pos (t.allowed i)) H (t.design i).nodes v)

-- ---- two graphs that stand for one graph and two lists, of which the second is longer
module _ {D : Design} {T : ℕ} {S R : GraphSlices} (t : TimedOn D T S) (u : TimedOn D T R) (H J : Graph) (made_h : S ≡ slices_of H) (made_j : R ≡ slices_of J)
    (G : Graph) (K L : List (List ℕ)) (more : ExtendedTo K L) (up : Rising G) (shorter : Stands G K H) (longer : Stands G L J) where
  node_no_worse : (v : ℕ) → NoWorse (times_of t H made_h v) (times_of u J made_j v)
  node_no_worse v = stands_no_worse G K L more up H J shorter longer (edge_early D) (edge_late D) (pos T) D.nodes v

  nothing_worse : NothingWorse t.times u.times
  nothing_worse = record {
    nodes = λ r s l m p q v h.
        let k = subst (λ (E : Design). v < E.nodes) t.design h in
        rw (timed_records t H made_h r l p v k, timed_records u J made_j s m q v k) (node_no_worse v);
    node = λ r s l m e. (
      times_of t H made_h (asked_node r),
      times_of u J made_j (asked_node s),
      timed_record t H made_h r l,
      timed_record u J made_j s m,
      subst (λ (v : ℕ). NoWorse (times_of t H made_h (asked_node r)) (times_of u J made_j v)) e (node_no_worse (asked_node r)),
    );
    copies = λ h i.
        let k : h < length J.nodes = subst (λ (F : GraphSlices). h < length F.nodes) (graph_is u J made_j) i in
        let x = above G K L more up H J shorter longer h k in
        let g = x.0 in (
          g,
          subst (λ (F : GraphSlices). g < length F.nodes) (sym (graph_is t H made_h)) x.1.inside,
          ap (λ (F : GraphSlices). get_or F.nodes g 0) (graph_is t H made_h) ∙ x.1.node ∙ sym (ap (λ (F : GraphSlices). get_or F.nodes h 0) (graph_is u J made_j)),
          subst (λ (y : Maybe Times). NoWorse y (copy_left u.times h)) (sym (timed_copy t H made_h g x.1.inside))
              (subst (NoWorse (copy_times_at (edge_early D) (edge_late D) (pos T) H g)) (sym (timed_copy u J made_j h k))
              (copy_no_worse G K L more up H J shorter longer (edge_early D) (edge_late D) (pos T) h g k x.1)),
        );
  }

-- ---- the theorems
-- what a removal made stands for the graph worked on and its list
module _ {D : Design} {held : Option GraphSlices} {T : ℕ} (a : TimedRemoval D held T) where
  record Made : Type 0 where
    graph : Graph
    slices : front a.copies a.edges (called_of a.removal).after ≡ slices_of graph
    stands : Stands (graph_on D held) (paths_in a.removal) graph
    rising : Rising (graph_on D held)

  made_of : Made
  made_of =
      let m = made_by a.removal a.copies a.edges a.answer in
      let r = removal_of (called_of a.removal) in
      let x = removed_on D held r m.graph (sym (λ i. remove_on (a.design i) (a.earlier i) r) ∙ m.made) in
      record { graph = m.graph; slices = m.slices; stands = x.stands; rising = x.legal.rising }

-- "if a list is extended by any paths, no node's slack falls and no node's arrival rises, reading none as better than any number"
pub call_extended : {D : Design} {held : Option GraphSlices} {T : ℕ} (a b : TimedRemoval D held T)
    → ExtendedTo (paths_in a.removal) (paths_in b.removal) → NothingWorse a.timed.times b.timed.times
call_extended {D} {held} a b more =
    let x = made_of a in
    let y = made_of b in
    nothing_worse a.timed b.timed x.graph y.graph x.slices y.slices (graph_on D held) (paths_in a.removal) (paths_in b.removal) more
    x.rising x.stands y.stands

-- The same of what is held after two series over one design, where the whole list of the first is extended to that of the second: so also from one day's
-- graph to that of the next, where more paths were removed from it.
pub series_extended : {D : Design} {K L : List (List ℕ)} {T : ℕ} (a : TimedSeries D K T) (b : TimedSeries D L T)
    → ExtendedTo K L → NothingWorse a.timed.times b.timed.times
series_extended {D} {K} {L} a b more =
    let x = held_by_lem D a.removals a.slices a.follows a.held in
    let y = held_by_lem D b.removals b.slices b.follows b.held in
    let s = held_stands D (map removal_of (map called_of a.removals)) x.0 x.1 K a.whole in
    let l = held_stands D (map removal_of (map called_of b.removals)) y.0 y.1 L b.whole in
    nothing_worse a.timed b.timed x.0 y.0 x.2 y.2 (design_graph D) K L more s.1 s.0 l.0
