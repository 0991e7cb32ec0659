-- T4: the times of a copy in a true graph are those of the permitted complete paths that show the copy, and the record of a node
-- is that of those through the node. Each such path, cut there, is a run to and a run from a copy in the true graph, and the
-- other way round.
use Prim.Native.Nat.{ℕ, ◌<◌}
use mathlib.Core.Path.{◌≡◌, refl, sym, ap, ◌∙◌, subst}
use mathlib.Core.Logic.{inr, ◌↔◌}
use mathlib.Core.List.{List, [], ◌∷◌, ◌++◌, map, map-append}
use Rattle.std.specs.Prelude.{Option, Some, None}
use Rattle.timing.specs.Answers.{SomeTimes}
use Rattle.timing.specs.declared.Times.{Times}
use native.Mathlib.Omega.{arith}
use lib.Dec.{T}
use lib.IntN.{ℤ, ◌-ℤ◌}
use lib.ListN.{length}
use Rattle.timing.specs.Graphs.{Design, Edge, Graph, design_graph, node_of, Run, complete_runs, names, delay_along}
use Rattle.timing.specs.Marks.{permitted, mark}
use Rattle.timing.specs.TrueGraphs.{Copy, copy_at, permitted_runs}
use Rattle.timing.specs.Times.{arrival_at, required_at, slack_at, earliest_at}
use Rattle.timing.specs.Paths.{reached, CutAt, PassesAt, PassesNode, Shows, Best}
use Rattle.timing.specs.Demands.{PathBest, PathTimes}
use Rattle.theorems.proofs.Lists.{of_keep}
use Rattle.theorems.proofs.Runs.{Rising, Leads, Way, runs_to_lem, runs_from_lem, way_then, complete_runs_lem}
use Rattle.theorems.proofs.Copies.{Passes, passes_run}
use Rattle.theorems.proofs.Stands.{Stands, passes_inside, stands_onward, lowered, names_lowered, way_down, way_up, leads_lift, start_up}
use Rattle.theorems.proofs.Legal.{length_design, node_design}
use Rattle.theorems.proofs.Extremes.{AtMost, AtLeast, best_moved, best_on, largest_of, smallest_of}
use Rattle.theorems.proofs.Times.{To, Through, runs_to_some, runs_from_some, arrival_best, required_best, slack_best, earliest_best}
use Rattle.theorems.proofs.Nodes.{CopyOf, At, mem_copies, node_times_at, node_times_lem, node_none}
use Rattle.theorems.proofs.Demand2.{delay_names, cut_down}

-- where a run leads
leads_reached : (G : Graph) (a c : ℕ) (p : List Edge) → Leads G a p c → reached a p ≡ c
leads_reached G a c [] l = l
leads_reached G a c (e ∷ p) l = leads_reached G e.end c p l.2

-- a path in two parts
way_leads : (G : Graph) (a : ℕ) (p q : List Edge) → Way G a (p ++ q) → Leads G a p (reached a p)
way_leads G a [] q w = refl
way_leads G a (e ∷ p) q w = (w.0, w.1, way_leads G e.end p q w.2)

way_rest : (G : Graph) (a : ℕ) (p q : List Edge) → Way G a (p ++ q) → Way G (reached a p) q
way_rest G a [] q w = w
way_rest G a (e ∷ p) q w = way_rest G e.end p q w.2

-- a permitted run, cut where it comes to c, is a path that passes c
module _ (G : Graph) (L : List (List ℕ)) (up : Rising G) where
  passes_cut : (c : ℕ) (p q : List Edge) (s : Passes G L c q) → s.head ≡ p → CutAt G L c p q
  passes_cut c p q s e = record {
    path = record { first = s.first; edges = s.head ++ q };
    permits = passes_run G L up c q s;
    parts = ap (λ (x : List Edge). x ++ q) e;
    here = leads_reached G s.first c p (subst (λ (x : List Edge). Leads G s.first x c) e s.leads);
  }

  cut_passes : (c : ℕ) (p q : List Edge) → CutAt G L c p q → (s : Passes G L c q) × (s.head ≡ p)
  unfolding permitted_runs
  cut_passes c p q m =
      let r = m.path in
      let k = of_keep (λ (r : Run). permitted L (names r.edges)) (complete_runs G) m.permits in
      let i = (complete_runs_lem G up r).0 k.0 in
      let w = subst (Way G r.first) m.parts i.2 in (
        record {
          first = r.first;
          head = p;
          inside = i.0;
          starts = i.1;
          leads = subst (Leads G r.first p) m.here (way_leads G r.first p q w);
          way = subst (λ (x : ℕ). Way G x q) m.here (way_rest G r.first p q w);
          permits = subst (λ (x : List Edge). T (permitted L (names x))) m.parts k.1;
        },
        refl,
      )

-- the same paths, said in another way
paths_on : {early late : ℕ → ℤ} {t : ℤ} {P Q : List Edge → List Edge → Type 0} {x : Option Times} → ((p q : List Edge) → P p q ↔ Q p q)
    → PathTimes early late t P x → PathTimes early late t Q x
paths_on {early} {late} {t} {P} {Q} e b =
    record {
      none = (λ h p q m. b.none.0 h p q ((e p q).1 m), λ f. b.none.1 (λ p q m. f p q ((e p q).0 m)));
      some = λ p q m. let o = b.some p q ((e p q).1 m) in (o.0, o.1, o.2, o.3, o.4, moved o.5);
    }
  where
    moved : {a r s f : ℤ} → PathBest early late t P a r s f → PathBest early late t Q a r s f
    moved o =
        record {
          arrival = best_on (λ x. e x.0 x.1) o.arrival;
          required = best_on (λ x. e x.0 x.1) o.required;
          slack = best_on (λ x. e x.0 x.1) o.slack;
          earliest = best_on (λ x. e x.0 x.1) o.earliest;
        }

abbrev HasTimes : Option Times → Type 0
HasTimes (Some x) = Unit {0}
HasTimes None = ⊥

module _ (G H : Graph) (L : List (List ℕ)) (up : Rising G) (S : Stands G L H) where
  abbrev low : List Edge → List Edge
  low es = map (lowered G H L up S) es

  -- a run to and a run from a copy of H, taken down to G: a permitted path that shows what the copy stands for
  copy_down : (h : ℕ) (p q : List Edge) → h < length H.nodes → To H h p → Way H h q → Shows G L (S.label h) (low p) (low q)
  copy_down h p q k (a, t, l) w =
      let s = cut_down G H L up S a h p q k t l w in (
        passes_cut G L up (S.label h).at (low p) (low q) s.0 s.2,
        ap (mark L) (names_lowered G H L up S q) ∙ sym (way_down G H L up S h q k w).2,
      )

  -- a permitted path of G that passes c, lifted to H
  record Lifted (h : ℕ) (p q : List Edge) : Type 0 where
    head : List Edge
    rest : List Edge
    to : To H h head
    way : Way H h rest
    heads : low head ≡ p
    rests : low rest ≡ q

  cut_up : (c : ℕ) (p q : List Edge) → CutAt G L c p q
      → (S.number (copy_at L c q) < length H.nodes) × (S.label (S.number (copy_at L c q)) ≡ copy_at L c q) × Lifted (S.number (copy_at L c q)) p q
  cut_up c p q m =
      let x = cut_passes G L up c p q m in
      let s = x.0 in
      let start : Passes G L s.first (s.head ++ q) =
      record {
        first = s.first;
        head = [];
        inside = s.inside;
        starts = s.starts;
        leads = refl;
        way = way_then G s.first c s.head q s.leads s.way;
        permits = s.permits;
      } in
      let w = way_up G H L up S c q s in
      let l = leads_lift G H L up S s.first c s.head q start s.leads in
      let k = S.shown (copy_at L c q) (q, s, refl) in (
        k.0,
        k.1,
        record {
          head = l.0;
          rest = w.0;
          to = (S.number (copy_at L s.first (s.head ++ q)), start_up G H L up S s.first (s.head ++ q) start s.starts, l.1);
          way = w.1;
          heads = l.2 ∙ x.1;
          rests = w.2;
        },
      )

  -- delays are unchanged
  low_delay : (d : ℕ → ℤ) (es fs : List Edge) → low es ≡ fs → delay_along d es ≡ delay_along d fs
  low_delay d es fs q = delay_names d es fs (sym (names_lowered G H L up S es) ∙ ap names q)

  -- a copy of H has a run to it and a run from it on
  some_to : (h : ℕ) → h < length H.nodes → (p : List Edge) × To H h p
  some_to h k = let r = runs_to_some H S.rising h k in (r.0, (runs_to_lem H S.rising h r.0 k).0 r.1)

  some_way : (h : ℕ) → h < length H.nodes → (q : List Edge) × Way H h q
  some_way h k = let r = runs_from_some H S.rising h k (stands_onward G H L up S) in (r.0, (runs_from_lem H S.rising h r.0 k).0 r.1)

  -- The best values of the runs at some copies C of H are those of the paths P of G, where these are the runs at C taken down.
  module _ (C : ℕ → Type 0) (P : List Edge → List Edge → Type 0)
      (inside : (h : ℕ) → C h → h < length H.nodes)
      (down : (h : ℕ) (p q : List Edge) → C h → To H h p → Way H h q → P (low p) (low q))
      (lift : (p q : List Edge) → P p q → (h : ℕ) × C h × Lifted h p q)
      (early late : ℕ → ℤ) (t : ℤ) where
    paths_best : {a r s e : ℤ} → Best AtMost (At C (To H)) (delay_along late) a → Best AtLeast (At C (Way H)) (λ es. t -ℤ delay_along late es) r
        → Best AtLeast (At C (Through H)) (λ es. t -ℤ delay_along late es) s → Best AtLeast (At C (To H)) (delay_along early) e → PathBest early late t P a r s e
    paths_best a r s e =
        record {
          arrival = heads late (largest_of a);
          earliest = heads early (smallest_of e);
          required =
              best_moved (smallest_of r)
              (λ q (h, c, w). let p = some_to h (inside h c) in ((low p.0, low q), down h p.0 q c p.1 w, less (low_delay late q (low q) refl)))
              (λ x m. let o = lift x.0 x.1 m in let l = o.2 in (l.rest, (o.0, o.1, l.way), less (low_delay late l.rest x.1 l.rests)));
          slack =
              best_moved (smallest_of s)
              (λ es (h, c, (p, q, to, w, e)).
              ((low p, low q), down h p q c to w, less (low_delay late es (low p ++ low q) (ap low e ∙ map-append (lowered G H L up S) p q))))
              (λ x m.
              let o = lift x.0 x.1 m in
              let l = o.2 in
              let e : low (l.head ++ l.rest) ≡ x.0 ++ x.1 = map-append (lowered G H L up S) l.head l.rest ∙ (λ i. l.heads i ++ l.rests i) in
              (l.head ++ l.rest, (o.0, o.1, (l.head, l.rest, l.to, l.way, refl)), less (low_delay late (l.head ++ l.rest) (x.0 ++ x.1) e)));
        }
      where
        -- the parts up to the cut, by any order
        heads : (d : ℕ → ℤ) {le : ℤ → ℤ → Type 0} {m : ℤ} → Best le (At C (To H)) (delay_along d) m
            → Best {A = (p : List Edge) × List Edge} le (λ x. P x.0 x.1) (λ x. delay_along d x.0) m
        heads d b =
            best_moved b
            (λ p (h, c, to). let w = some_way h (inside h c) in ((low p, low w.0), down h p w.0 c to w.1, low_delay d p (low p) refl))
            (λ x m. let o = lift x.0 x.1 m in let l = o.2 in (l.head, (o.0, o.1, l.to), low_delay d l.head x.0 l.heads))

        less : {x y : ℤ} → x ≡ y → t -ℤ x ≡ t -ℤ y
        less e = ap (λ (z : ℤ). t -ℤ z) e

  -- The times of a copy are those of the permitted complete paths of G that show what it stands for.
  pub copy_times : (early late : ℕ → ℤ) (t : ℤ) (h : ℕ) → h < length H.nodes
      → PathBest early late t (Shows G L (S.label h)) (arrival_at late t H h) (required_at late t H h) (slack_at late t H h) (earliest_at early H h)
  copy_times early late t h k =
      paths_best (λ i. i ≡ h) (Shows G L (S.label h)) (λ i e. subst (λ (x : ℕ). x < length H.nodes) (sym e) k)
      (λ i p q e to w. copy_down h p q k (subst (λ (x : ℕ). To H x p) e to) (subst (λ (x : ℕ). Way H x q) e w))
      (λ p q (m, e).
      let same : copy_at L (S.label h).at q ≡ S.label h = λ i. record { at = (S.label h).at; mark = e i } in
      (h, refl, subst (λ (x : ℕ). Lifted x p q) (ap S.number same ∙ (S.every h k).1) (cut_up (S.label h).at p q m).2))
      early late t (only (To H) (arrival_best late t H S.rising h k)) (only (Way H) (required_best late t H S.rising (stands_onward G H L up S) h k))
      (only (Through H) (slack_best late t H S.rising (stands_onward G H L up S) h k)) (only (To H) (earliest_best early H S.rising h k))
    where
      only : {le : ℤ → ℤ → Type 0} {f : List Edge → ℤ} {m : ℤ} (R : ℕ → List Edge → Type 0) → Best le (R h) f m → Best le (At (λ i. i ≡ h) R) f m
      only R b = best_on (λ es. (λ r. (h, refl, r), λ (i, e, r). subst (λ (x : ℕ). R x es) e r)) b

  module _ (v : ℕ) where
    node_down : (h : ℕ) (p q : List Edge) → CopyOf H v h → To H h p → Way H h q → PassesNode G L v (low p) (low q)
    node_down h p q (k, n) to w = ((S.label h).at, sym (S.every h k).2 ∙ n, (copy_down h p q k to w).0)

    node_up : (p q : List Edge) → PassesNode G L v p q → (h : ℕ) × CopyOf H v h × Lifted h p q
    node_up p q (c, n, m) =
        let o = cut_up c p q m in
        let h = S.number (copy_at L c q) in
        (h, (o.0, (S.every h o.0).2 ∙ ap (λ (x : Copy). node_of G x.at) o.1 ∙ n), o.2)

    module _ (early late : ℕ → ℤ) (t : ℤ) where
      -- where n is such that a path passes v only if v is below it
      pub record_below : (n : ℕ) → ((p q : List Edge) → PassesNode G L v p q → v < n) → PathTimes early late t (PassesNode G L v) (node_times_at early late t H n v)
      record_below n below =
          record {
            none = (
              λ e p q m. subst HasTimes (sym (some p q m).4 ∙ e) tt,
              λ f.
                  node_none early late t H n v
                  (inr (λ c.
                  let k = (mem_copies H v c.0).0 c.1 in
                  let p = some_to c.0 k.0 in
                  let q = some_way c.0 k.0 in
                  f (low p.0) (low q.0) (node_down c.0 p.0 q.0 k p.1 q.1))),
            );
            some = some;
          }
        where
          some : (p q : List Edge) → PassesNode G L v p q
              → (a : ℤ) × (r : ℤ) × (s : ℤ) × (e : ℤ) × (node_times_at early late t H n v ≡ SomeTimes a r s e) × PathBest early late t (PassesNode G L v) a r s e
          some p q m =
              let o = node_up p q m in
              let b = node_times_lem early late t H n v S.rising (stands_onward G H L up S) (below p q m) (o.0, (mem_copies H v o.0).1 o.1) in
              let best = b.5 in
              (b.0, b.1, b.2, b.3, b.4, paths_best (CopyOf H v) (PassesNode G L v) (λ h k. k.0) node_down node_up early late t best.arrival best.required best.slack best.earliest)

      -- T4: the record of a node below n is that of the permitted complete paths of G that pass a copy of the node: none
      -- exactly if there is no such path, and otherwise the largest delay up to the copy, the smallest of t less the
      -- delay from it on, the smallest of t less the whole delay, and the smallest early delay up to the copy.
      pub node_record : (n : ℕ) → v < n → PathTimes early late t (PassesNode G L v) (node_times_at early late t H n v)
      node_record n h = record_below n (λ p q m. h)

-- a path that passes a copy passes one that is there
pub cut_inside : {G : Graph} {L : List (List ℕ)} {c : ℕ} {p q : List Edge} → Rising G → CutAt G L c p q → c < length G.nodes
cut_inside {G} {L} {c} {p} {q} up m = passes_inside up (cut_passes G L up c p q m).0

-- T4 at the design: the record of any node, in any true graph of the design and the list, is that of the permitted complete
-- paths of the design that pass the node. (A number that is no node is passed by none.)
pub design_record : (D : Design) (H : Graph) (L : List (List ℕ)) → Rising (design_graph D) → Stands (design_graph D) L H
    → (v : ℕ) (early late : ℕ → ℤ) (t : ℤ) → PathTimes early late t (PassesAt D L v) (node_times_at early late t H D.nodes v)
design_record D H L up S v early late t =
    paths_on (λ p q. (here p q, λ m. (v, node_design D v (inside m), m)))
    (record_below (design_graph D) H L up S v early late t D.nodes (λ p q m. inside (here p q m)))
  where
    inside : {c : ℕ} {p q : List Edge} → CutAt (design_graph D) L c p q → c < D.nodes
    inside m = omega (arith, cut_inside up m, length_design D)

    here : (p q : List Edge) → PassesNode (design_graph D) L v p q → CutAt (design_graph D) L v p q
    here p q (c, n, m) = subst (λ (x : ℕ). CutAt (design_graph D) L x p q) (sym (node_design D c (inside m)) ∙ n) m
