-- A longer list permits fewer paths, and the largest of fewer values is no larger, the smallest no smaller. So the times of a node in the true graph of the
-- longer list are no worse than in that of the shorter; and neither are those of a copy, since all paths that show one copy of the longer list's graph
-- show one and the same copy of the shorter's.
use Prim.Native.Nat.{ℕ, ◌<◌}
use mathlib.Core.Path.{◌≡◌, refl, sym, ap, ◌∙◌, subst}
use mathlib.Core.Logic.{inl}
use mathlib.Core.Bool.{Bool, true, false}
use mathlib.Core.List.{List, ◌++◌}
use mathlib.Core.Option.{none, some, some-injective}
use Rattle.std.specs.Prelude.{Option, Some, None}
use Rattle.timing.specs.declared.Times.{Times}
use native.Mathlib.Omega.{arith}
use native.Mathlib.Decide.{dec_lt}
use lib.Dec.{T}
use lib.IntN.{ℤ}
use lib.ListN.{length}
use lib.Signed.{le_z, le_z_yes}
use Rattle.timing.specs.Graphs.{Design, Edge, Graph, design_graph, node_of, names}
use Rattle.timing.specs.Marks.{mark}
use Rattle.timing.specs.TrueGraphs.{Copy, copy_at, true_graph}
use Rattle.timing.specs.Calls.{Removal}
use Rattle.timing.specs.Series.{held_after, whole_after}
use Rattle.timing.specs.Paths.{CutAt, PassesNode, Shows, Best}
use Rattle.timing.specs.Demands.{PathBest, PathTimes}
use Rattle.timing.specs.Extended.{ExtendedTo, TimesNoWorse, NoWorse}
use Rattle.theorems.proofs.Marks.{mark_through}
use Rattle.theorems.proofs.Runs.{Rising}
use Rattle.theorems.proofs.Copies.{Passes}
use Rattle.theorems.proofs.Stands.{Stands, true_stands}
use Rattle.theorems.proofs.Nodes.{copy_times_at, node_times_at, node_none}
use Rattle.theorems.proofs.Legal.{fits_legal}
use Rattle.theorems.proofs.Series.{series_held}
use Rattle.theorems.proofs.Demand2Times.{copy_times, node_record}
use Rattle.theorems.proofs.Shuffled.{permitted_fewer, tail_more, runs_fewer}

-- ---- the extreme of fewer values
-- of fewer values the largest, or the smallest, does not go beyond that of more
best_fewer : {A : Type 0} {le : ℤ → ℤ → Type 0} {P Q : A → Type 0} {f : A → ℤ} {m k : ℤ} → ((x : A) → Q x → P x) → Best le P f m → Best le Q f k → le k m
best_fewer {le = le} {m = m} fewer b c = subst (λ (z : ℤ). le z m) c.is (b.most c.at (fewer c.at c.there))

stays : (b : Bool) → ((T b → ⊥) → ⊥) → T b
stays true f = tt
stays false f = f (λ t. t)

-- what cannot fail to hold, holds
no_worse_stays : (x y : Option Times) → ((NoWorse x y → ⊥) → ⊥) → NoWorse x y
no_worse_stays x None f = tt
no_worse_stays None (Some x) f = f (λ z. z)
no_worse_stays (Some x) (Some x') f = record {
  arrival = le_z_yes (stays (le_z x'.arrival x.arrival) (λ no. f (λ w. no w.arrival.le)));
  required = le_z_yes (stays (le_z x.required x'.required) (λ no. f (λ w. no w.required.le)));
  slack = le_z_yes (stays (le_z x.slack x'.slack) (λ no. f (λ w. no w.slack.le)));
  earliest = le_z_yes (stays (le_z x.earliest x'.earliest) (λ no. f (λ w. no w.earliest.le)));
}

-- the times of fewer paths, and the record of fewer paths
module _ {early late : ℕ → ℤ} {t : ℤ} {P Q : List Edge → List Edge → Type 0} (fewer : (p q : List Edge) → Q p q → P p q) where
  pub times_fewer : {a r s e a' r' s' e' : ℤ} → PathBest early late t P a r s e → PathBest early late t Q a' r' s' e' → TimesNoWorse a r s e a' r' s' e'
  times_fewer b c = record {
    arrival = best_fewer (λ x. fewer x.0 x.1) b.arrival c.arrival;
    required = best_fewer (λ x. fewer x.0 x.1) b.required c.required;
    slack = best_fewer (λ x. fewer x.0 x.1) b.slack c.slack;
    earliest = best_fewer (λ x. fewer x.0 x.1) b.earliest c.earliest;
  }

  -- where Q has a path the times compare, and where it has none the record is none
  pub record_fewer : (x y : Option Times) → PathTimes early late t P x → PathTimes early late t Q y → NoWorse x y
  record_fewer x y b c =
      no_worse_stays x y
      (λ no.
      let none : y ≡ None = c.none.1 (λ p q m. no (by p q m)) in
      no (subst (NoWorse x) (sym none) tt))
    where
      by : (p q : List Edge) → Q p q → NoWorse x y
      by p q m =
          let o = b.some p q (fewer p q m) in
          let w = c.some p q m in
          rw (o.4, w.4) (times_fewer o.5 w.5)

-- ---- two graphs that stand for one graph and two lists
module _ (G : Graph) (K L : List (List ℕ)) (more : ExtendedTo K L) where
  cut_fewer : (c : ℕ) (p q : List Edge) → CutAt G L c p q → CutAt G K c p q
  cut_fewer c p q m = record { path = m.path; permits = runs_fewer K L more G m.path m.permits; parts = m.parts; here = m.here }

  node_fewer : (v : ℕ) (p q : List Edge) → PassesNode G L v p q → PassesNode G K v p q
  node_fewer v p q (c, n, m) = (c, n, cut_fewer c p q m)

  passes_fewer : {c : ℕ} {q : List Edge} → Passes G L c q → Passes G K c q
  passes_fewer {q = q} s = record {
    first = s.first;
    head = s.head;
    inside = s.inside;
    starts = s.starts;
    leads = s.leads;
    way = s.way;
    permits = permitted_fewer K L more (names (s.head ++ q)) s.permits;
  }

  module _ (up : Rising G) (H J : Graph) (shorter : Stands G K H) (longer : Stands G L J) where
    -- the times of any node
    pub stands_no_worse : (early late : ℕ → ℤ) (t : ℤ) (n v : ℕ) → NoWorse (node_times_at early late t H n v) (node_times_at early late t J n v)
    stands_no_worse early late t n v =
        elim (dec_lt v n) [
          | yes h ↦
              record_fewer (node_fewer v) (node_times_at early late t H n v) (node_times_at early late t J n v)
              (node_record G H K up shorter v early late t n h) (node_record G J L up longer v early late t n h)
          | no f ↦ subst (NoWorse (node_times_at early late t H n v)) (sym (node_none early late t J n v (inl (omega arith)))) tt
        ]

    -- Each copy of the longer list's graph lies above one of the shorter's, of the same node: the paths that show it show that one.
    pub record Above (h g : ℕ) : Type 0 where
      pub inside : g < length H.nodes
      pub node : node_of H g ≡ node_of J h
      pub paths : (p q : List Edge) → Shows G L (longer.label h) p q → Shows G K (shorter.label g) p q

    pub above : (h : ℕ) → h < length J.nodes → (g : ℕ) × Above h g
    above h i =
        let every = longer.every h i in
        let shown = every.0 in
        let w = names shown.0 in
        let at = (longer.label h).at in
        let pair : Copy = copy_at K at shown.0 in
        let there = shorter.shown pair (shown.0, passes_fewer shown.1, refl) in (
          shorter.number pair,
          record {
            inside = there.0;
            node = (shorter.every (shorter.number pair) there.0).2 ∙ ap (λ (x : Copy). node_of G x.at) there.1 ∙ sym every.2;
            paths = λ p q m.
                subst (λ (x : Copy). Shows G K x p q) (sym there.1) (
                  cut_fewer at p q m.0,
                  mark_through K L (tail_more K L more) (names q) ∙ ap (mark K) (m.1 ∙ shown.2) ∙ sym (mark_through K L (tail_more K L more) w),
                );
          },
        )

    -- so its times are no worse
    pub copy_no_worse : (early late : ℕ → ℤ) (t : ℤ) (h g : ℕ) → h < length J.nodes → Above h g → NoWorse (copy_times_at early late t H g) (copy_times_at early late t J h)
    copy_no_worse early late t h g i o = times_fewer o.paths (copy_times G H K up shorter early late t g o.inside) (copy_times G J L up longer early late t h i)

  -- so of the true graphs themselves
  pub true_no_worse : Rising G → (early late : ℕ → ℤ) (t : ℤ) (n v : ℕ)
      → NoWorse (node_times_at early late t (true_graph G K) n v) (node_times_at early late t (true_graph G L) n v)
  true_no_worse up early late t = stands_no_worse up (true_graph G K) (true_graph G L) (true_stands G K up) (true_stands G L up) early late t

-- what is held after a series stands for the design and the whole list
pub held_stands : (D : Design) (rs : List Removal) (H : Graph) → held_after D none rs ≡ some H
    → (K : List (List ℕ)) → whole_after D none rs ≡ some K → Stands (design_graph D) K H × Rising (design_graph D)
held_stands D rs H e K whole =
    let x = series_held D rs H e in
    (subst (λ (M : List (List ℕ)). Stands (design_graph D) M H) (some-injective x.0 K (sym x.1 ∙ whole)) x.2.stands, (fits_legal D x.2.fit).rising)
