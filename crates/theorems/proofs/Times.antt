-- Times at a copy: what they are over runs, their recurrences over edges (T1), how large they get (T2), and slack as the
-- smallest over the paths through the copy (T3). All by one idea: each time is the best value of a set of runs
-- (`Best`), and only one number is that.
use Prim.Native.Nat.{ℕ, zero, suc, ◌+◌, ◌-◌, ◌*◌, ◌≤◌, ◌<◌, ◌^◌}
use mathlib.Core.Path.{◌≡◌, refl, sym, ap, ◌∙◌, subst}
use mathlib.Core.Logic.{◌⊎◌, inl, inr, ⊎_elim, ◌↔◌}
use mathlib.Core.List.Memᴰ
use mathlib.Core.List.{List, [], ◌∷◌, ◌++◌, map, flat_map, Memᴰ}
use native.Mathlib.Omega.{arith}
use native.Mathlib.Nat.{mul-suc, mul-le-mul_left}
use lib.Dec.{T}
use lib.IntN.{ℤ, pos, nat_abs, neg_ℤ, ◌+ℤ◌, ◌-ℤ◌}
use lib.ListN.{length}
use mir.Syntax.{w64}
use mir.Val.{SFits}
use Rattle.timing.specs.Lists.{is_nil}
use Rattle.timing.specs.Graphs.{Edge, Graph, edges_in, edges_out, starts_at, ends_at, runs_to, runs_from, delay_along}
use Rattle.timing.specs.Times.{largest, smallest, arrival_at, required_at, slack_at, earliest_at}
use Rattle.timing.specs.Paths.{Best}
use Rattle.timing.proofs.Ints.{add_is, sub_parts, eq_parts, abs_is, abs_add, abs_neg, sfits_parts}
use Rattle.theorems.proofs.Lists.{mem_flat_map, of_flat_map, nil_is}
use Rattle.theorems.proofs.Runs.{Rising, Onward, Leads, Way, mem_in, mem_out, leads_then, leads_last, runs_to_lem, runs_from_lem, way_then}
use Rattle.theorems.proofs.Extremes.{AtMost, AtLeast, Picks, Some, nil_or_some, nil_none, best_moved, best_on, best_kept, best_unique, best_either, best_nested, best_value, best_append, larges, smalls, add_keeps, sub_keeps, from_turns}

-- the delay of two runs, one after the other
pub delay_then : (d : ℕ → ℤ) (p q : List Edge) → delay_along d (p ++ q) ≡ delay_along d p +ℤ delay_along d q
delay_then d [] q = eq_parts _ _ (omega (arith, add_is (pos 0) (delay_along d q)))
delay_then d (e ∷ p) q =
    ap (λ (z : ℤ). d e.name +ℤ z) (delay_then d p q) ∙ eq_parts _ _
    (omega (
      arith,
      add_is (d e.name) (delay_along d p +ℤ delay_along d q),
      add_is (delay_along d p) (delay_along d q),
      add_is (d e.name) (delay_along d p),
      add_is (d e.name +ℤ delay_along d p) (delay_along d q),
    ))

-- es leads to c from where paths start
abbrev pub To : Graph → ℕ → List Edge → Type 0
To G c es = (a : ℕ) × T (starts_at G a) × Leads G a es c

-- one more edge at the end of such a run, and the last edge of one
pub to_step : (G : Graph) (c : ℕ) (e : Edge) (es : List Edge) → Memᴰ e (edges_in G c) → To G e.start es → To G c (es ++ (e ∷ []))
to_step G c e es m p = let o = (mem_in G c e).0 m in (p.0, p.1, leads_then G p.0 e.start c es (e ∷ []) p.2 (o.0, refl, o.1))

pub to_cases : (G : Graph) (c : ℕ) (es : List Edge) → To G c es
    → (T (starts_at G c) × (es ≡ [])) ⊎ ((e : Edge) × (fs : List Edge) × Memᴰ e (edges_in G c) × To G e.start fs × (es ≡ fs ++ (e ∷ [])))
to_cases G c [] p = inl (subst (λ (x : ℕ). T (starts_at G x)) p.2 p.1, refl)
to_cases G c (e ∷ es) p =
    let r = leads_last G p.0 c e es p.2 in
    inr (r.1, r.0, (mem_in G c r.1).1 (r.4, r.5), (p.0, p.1, r.3), r.2)

-- one more edge in front of a way, and the first edge of one
pub way_step : (G : Graph) (c : ℕ) (e : Edge) (es : List Edge) → Memᴰ e (edges_out G c) → Way G e.end es → Way G c (e ∷ es)
way_step G c e es m w = let o = (mem_out G c e).0 m in (o.0, o.1, w)

pub way_cases : (G : Graph) (c : ℕ) (es : List Edge) → Way G c es
    → (T (ends_at G c) × (es ≡ [])) ⊎ ((e : Edge) × (fs : List Edge) × Memᴰ e (edges_out G c) × Way G e.end fs × (es ≡ e ∷ fs))
way_cases G c [] w = inl (w, refl)
way_cases G c (e ∷ es) w = inr (e, es, (mem_out G c e).1 (w.0, w.1), w.2, refl)

-- the paths through a copy: a run to it, and a run from it on
unfoldable pub through : Graph → ℕ → List (List Edge)
through G c = flat_map (λ p. map (λ q. p ++ q) (runs_from G (length G.nodes) c)) (runs_to G (length G.nodes) c)

abbrev pub Through : Graph → ℕ → List Edge → Type 0
Through G c es = (p : List Edge) × (q : List Edge) × To G c p × Way G c q × (es ≡ p ++ q)

-- in a graph that rises every copy has a run to it, and where an edge leads on from every copy at which no path ends, a run from it, and so a
-- path through it
module _ (G : Graph) (R : Rising G) where
  -- downward from the copy: k is above it
  to_below : (k c : ℕ) → c < k → (es : List Edge) × To G c es
  to_below zero c h = absurd (omega arith)
  to_below (suc k) c h =
      ⊎_elim
      (λ s. ([], (c, s, refl)))
      (λ m.
      let o = (mem_in G c m.0).0 m.1 in
      let p = to_below k m.0.start (omega (arith, R.up m.0 o.0, o.1)) in
      (p.0 ++ (m.0 ∷ []), to_step G c m.0 p.0 m.1 p.1))
      (nil_or_some (edges_in G c))

  -- upward from the copy: at most k copies are above it
  way_above : Onward G → (k c : ℕ) → length G.nodes ≤ c + k → c < length G.nodes → (es : List Edge) × Way G c es
  way_above O zero c h l = absurd (omega arith)
  way_above O (suc k) c h l =
      ⊎_elim
      (λ s. ([], s))
      (λ o.
      let p = way_above O k o.0.end (omega (arith, R.up o.0 o.1, o.2)) (R.inside o.0 o.1) in
      (o.0 ∷ p.0, (o.1, o.2, p.1)))
      (O c l)

  module _ (c : ℕ) (here : c < length G.nodes) where
    pub runs_to_some : Some (runs_to G (length G.nodes) c)
    runs_to_some = let r = to_below (suc c) c (omega arith) in (r.0, (runs_to_lem G R c r.0 here).1 r.1)

    pub runs_from_some : Onward G → Some (runs_from G (length G.nodes) c)
    runs_from_some O = let r = way_above O (length G.nodes) c (omega arith) here in (r.0, (runs_from_lem G R c r.0 here).1 r.1)

    pub through_runs : (es : List Edge) → Memᴰ es (through G c) ↔ Through G c es
    unfolding through
    through_runs es = (
      λ m.
          let r = of_flat_map (λ p. map (λ q. p ++ q) (runs_from G (length G.nodes) c)) {y = es} (runs_to G (length G.nodes) c) m in
          let o = Memᴰ.of_map (λ q. r.0 ++ q) (runs_from G (length G.nodes) c) r.2 in
          (r.0, o.0, (runs_to_lem G R c r.0 here).0 r.1, (runs_from_lem G R c o.0 here).0 o.1, sym o.2),
      λ r.
          subst (λ (x : List Edge). Memᴰ x (through G c)) (sym r.4)
          (mem_flat_map (λ p. map (λ q. p ++ q) (runs_from G (length G.nodes) c)) ((runs_to_lem G R c r.0 here).1 r.2)
          (Memᴰ.map (λ q. r.0 ++ q) ((runs_from_lem G R c r.1 here).1 r.3))),
    )

    pub through_some : Onward G → Some (through G c)
    through_some O =
        let p = to_below (suc c) c (omega arith) in
        let q = way_above O (length G.nodes) c (omega arith) here in
        (p.0 ++ q.0, (through_runs (p.0 ++ q.0)).1 (p.0, q.0, p.1, q.1, refl))

-- the two sums of a recurrence, and that of slack
in_sum : (d : ℕ → ℤ) (e : Edge) (es : List Edge) → delay_along d es +ℤ d e.name ≡ delay_along d (es ++ (e ∷ []))
in_sum d e es = eq_parts _ _ (rw (delay_then d es (e ∷ [])) (omega (
  arith,
  add_is (delay_along d es) (d e.name),
  add_is (delay_along d es) (d e.name +ℤ pos 0),
  add_is (d e.name) (pos 0),
)))

out_sum : (t x y : ℤ) → (t -ℤ x) -ℤ y ≡ t -ℤ (y +ℤ x)
out_sum t x y = eq_parts _ _ (omega (arith, sub_parts t x, sub_parts (t -ℤ x) y, add_is y x, sub_parts t (y +ℤ x)))

-- The best delay of the runs to a copy, by any order that a number added keeps: arrival takes the largest, earliest arrival the smallest.
-- Where paths start it is 0, and elsewhere it goes by its recurrence.
module _ {le : ℤ → ℤ → Type 0} {pick : ℤ → ℤ → ℤ} {best : List ℤ → ℤ} (K : Picks le pick best) (keeps : (a x y : ℤ) → le x y → le (x +ℤ a) (y +ℤ a))
    (d : ℕ → ℤ) (G : Graph) (R : Rising G) where
  abbrev best_to : ℕ → ℤ
  best_to c = best (map (delay_along d) (runs_to G (length G.nodes) c))

  to_best : (c : ℕ) → c < length G.nodes → Best le (To G c) (delay_along d) (best_to c)
  to_best c here = best_on (λ es. runs_to_lem G R c es here) (best_value K (delay_along d) (runs_to G (length G.nodes) c) (runs_to_some G R c here))

  module _ (c : ℕ) (here : c < length G.nodes) where
    to_source : T (starts_at G c) → best_to c ≡ pos 0
    to_source s = best_unique K (to_best c here) (record {
      at = [];
      there = (c, s, refl);
      is = refl;
      most = λ es p. ⊎_elim
          (λ (r : T (starts_at G c) × (es ≡ [])). subst (λ (x : List Edge). le (delay_along d x) (pos 0)) (sym r.1) (K.same (pos 0)))
          (λ r. absurd (nil_none (edges_in G c) s (r.0, r.2)))
          (to_cases G c es p);
    })

    to_edges : Some (edges_in G c) → best_to c ≡ best (map (λ e. best_to e.start +ℤ d e.name) (edges_in G c))
    to_edges s =
        best_unique K (to_best c here)
        (best_moved
        (best_nested K each (best_value K (λ e. best_to e.start +ℤ d e.name) (edges_in G c) s))
        (λ q w. (q.1 ++ (q.0 ∷ []), to_step G c q.0 q.1 w.0 w.1, in_sum d q.0 q.1))
        (λ es p. ⊎_elim
        (λ r. absurd (nil_none (edges_in G c) r.0 s))
        (λ r. ((r.0, r.1), (r.2, r.3), in_sum d r.0 r.1 ∙ ap (delay_along d) (sym r.4)))
        (to_cases G c es p)))
      where
        each : (e : Edge) → Memᴰ e (edges_in G c) → Best le (To G e.start) (λ es. delay_along d es +ℤ d e.name) (best_to e.start +ℤ d e.name)
        each e m =
            let o = (mem_in G c e).0 m in
            best_kept (λ z. z +ℤ d e.name) (keeps (d e.name)) (to_best e.start (omega (arith, R.up e o.0, o.1)))

-- T1 for the earliest arrival
module _ (d : ℕ → ℤ) (G : Graph) (R : Rising G) (c : ℕ) (here : c < length G.nodes) where
  pub earliest_best : Best AtLeast (To G c) (delay_along d) (earliest_at d G c)
  unfolding earliest_at
  earliest_best = to_best smalls (λ a x y. add_keeps a y x) d G R c here

  pub earliest_source : T (starts_at G c) → earliest_at d G c ≡ pos 0
  unfolding earliest_at
  earliest_source = to_source smalls (λ a x y. add_keeps a y x) d G R c here

  pub earliest_edges : Some (edges_in G c) → earliest_at d G c ≡ smallest (map (λ e. earliest_at d G e.start +ℤ d e.name) (edges_in G c))
  unfolding earliest_at
  earliest_edges = to_edges smalls (λ a x y. add_keeps a y x) d G R c here

module _ (d : ℕ → ℤ) (t : ℤ) (G : Graph) (R : Rising G) where
  -- the times are the best values of runs
  pub arrival_best : (c : ℕ) → c < length G.nodes → Best AtMost (To G c) (delay_along d) (arrival_at d t G c)
  unfolding arrival_at
  arrival_best = to_best larges add_keeps d G R

  pub required_best : Onward G → (c : ℕ) → c < length G.nodes → Best AtLeast (Way G c) (λ es. t -ℤ delay_along d es) (required_at d t G c)
  unfolding required_at
  required_best O c here =
      best_on (λ es. runs_from_lem G R c es here) (best_value smalls (λ es. t -ℤ delay_along d es) (runs_from G (length G.nodes) c) (runs_from_some G R c here O))

  pub slack_best : Onward G → (c : ℕ) → c < length G.nodes → Best AtLeast (Through G c) (λ es. t -ℤ delay_along d es) (slack_at d t G c)
  unfolding slack_at
  slack_best O c here =
      best_moved
      (best_nested smalls each (best_kept (λ z. required_at d t G c -ℤ z) (from_turns (required_at d t G c)) (arrival_best c here)))
      (λ pq w. (pq.0 ++ pq.1, (pq.0, pq.1, w.0, w.1, refl), sum pq.0 pq.1))
      (λ es r. ((r.0, r.1), (r.2, r.3), sum r.0 r.1 ∙ ap (λ (x : List Edge). t -ℤ delay_along d x) (sym r.4)))
    where
      each : (p : List Edge) → To G c p → Best AtLeast (Way G c) (λ q. (t -ℤ delay_along d q) -ℤ delay_along d p) (required_at d t G c -ℤ delay_along d p)
      each p m = best_kept (λ z. z -ℤ delay_along d p) (λ x y. sub_keeps (delay_along d p) y x) (required_best O c here)

      sum : (p q : List Edge) → (t -ℤ delay_along d q) -ℤ delay_along d p ≡ t -ℤ delay_along d (p ++ q)
      sum p q = out_sum t (delay_along d q) (delay_along d p) ∙ ap (λ (z : ℤ). t -ℤ z) (sym (delay_then d p q))

  module _ (c : ℕ) (here : c < length G.nodes) where
    -- T1: where paths start and end, and the recurrences
    pub arrival_source : T (starts_at G c) → arrival_at d t G c ≡ pos 0
    unfolding arrival_at
    arrival_source = to_source larges add_keeps d G R c here

    pub arrival_edges : Some (edges_in G c) → arrival_at d t G c ≡ largest (map (λ e. arrival_at d t G e.start +ℤ d e.name) (edges_in G c))
    unfolding arrival_at
    arrival_edges = to_edges larges add_keeps d G R c here

  module _ (O : Onward G) (c : ℕ) (here : c < length G.nodes) where
    -- what comes from further on: the ways that begin with an edge
    onward_best : Some (edges_out G c)
        → Best AtLeast (λ es. (e : Edge) × (fs : List Edge) × Memᴰ e (edges_out G c) × Way G e.end fs × (es ≡ e ∷ fs)) (λ es. t -ℤ delay_along d es)
        (smallest (map (λ e. required_at d t G e.end -ℤ d e.name) (edges_out G c)))
    onward_best s =
        best_moved
        (best_nested smalls each (best_value smalls (λ e. required_at d t G e.end -ℤ d e.name) (edges_out G c) s))
        (λ q w. (q.0 ∷ q.1, (q.0, q.1, w.0, w.1, refl), out_sum t (delay_along d q.1) (d q.0.name)))
        (λ es r. ((r.0, r.1), (r.2, r.3), out_sum t (delay_along d r.1) (d r.0.name) ∙ ap (λ (x : List Edge). t -ℤ delay_along d x) (sym r.4)))
      where
        each : (e : Edge) → Memᴰ e (edges_out G c) → Best AtLeast (Way G e.end) (λ es. (t -ℤ delay_along d es) -ℤ d e.name) (required_at d t G e.end -ℤ d e.name)
        each e m =
            let o = (mem_out G c e).0 m in
            best_kept (λ z. z -ℤ d e.name) (λ x y. sub_keeps (d e.name) y x) (required_best O e.end (R.inside e o.0))

    -- where no path ends, what comes from further on
    pub required_edges : (T (ends_at G c) → ⊥) → required_at d t G c ≡ smallest (map (λ e. required_at d t G e.end -ℤ d e.name) (edges_out G c))
    required_edges none = ⊎_elim (λ s. absurd (none s)) (λ o. go (o.0, (mem_out G c o.0).1 (o.1, o.2))) (O c here)
      where
        go : Some (edges_out G c) → required_at d t G c ≡ smallest (map (λ e. required_at d t G e.end -ℤ d e.name) (edges_out G c))
        go s =
            best_unique smalls (required_best O c here)
            (best_on
            (λ es. (
              λ r. subst (Way G c) (sym r.4) (way_step G c r.0 r.1 r.2 r.3),
              λ w. ⊎_elim (λ r. absurd (none r.0)) (λ r. r) (way_cases G c es w),
            ))
            (onward_best s))

    -- "required time at such a copy is T or the smaller figure from further on"
    pub required_end : T (ends_at G c) → required_at d t G c ≡ smallest (map (λ e. required_at d t G e.end -ℤ d e.name) (edges_out G c) ++ (t ∷ []))
    required_end s = best_unique smalls (required_best O c here) (⊎_elim nothing more (nil_or_some (edges_out G c)))
      where
        outs : List ℤ
        outs = map (λ e. required_at d t G e.end -ℤ d e.name) (edges_out G c)

        less_none : t -ℤ pos 0 ≡ t
        less_none = eq_parts _ _ (omega (arith, sub_parts t (pos 0)))

        here_best : Best AtLeast (λ es. es ≡ []) (λ es. t -ℤ delay_along d es) t
        here_best = record {
          at = [];
          there = refl;
          is = less_none;
          most = λ es e. rw (e, less_none) (omega arith);
        }

        nothing : T (is_nil (edges_out G c)) → Best AtLeast (Way G c) (λ es. t -ℤ delay_along d es) (smallest (outs ++ (t ∷ [])))
        nothing n =
            subst (λ (l : List Edge). Best AtLeast (Way G c) (λ es. t -ℤ delay_along d es) (smallest (map (λ e. required_at d t G e.end -ℤ d e.name) l ++ (t ∷ [])))) (sym (nil_is (edges_out G c) n))
            (best_on
            (λ es. (
              λ e. subst (Way G c) (sym e) s,
              λ w. ⊎_elim (λ r. r.1) (λ r. absurd (nil_none (edges_out G c) n (r.0, r.2))) (way_cases G c es w),
            ))
            here_best)

        more : Some (edges_out G c) → Best AtLeast (Way G c) (λ es. t -ℤ delay_along d es) (smallest (outs ++ (t ∷ [])))
        more o =
            rw (best_append smalls outs (t ∷ []) (required_at d t G o.0.end -ℤ d o.0.name, Memᴰ.map (λ e. required_at d t G e.end -ℤ d e.name) o.1) (t, Memᴰ.head refl))
            (best_on
            (λ es. (
              ⊎_elim (λ r. subst (Way G c) (sym r.4) (way_step G c r.0 r.1 r.2 r.3)) (λ e. subst (Way G c) (sym e) s),
              λ w. ⊎_elim (λ r. inr r.1) inl (way_cases G c es w),
            ))
            (best_either smalls (onward_best o) here_best))

    -- T3: slack is the smallest of T less the delay of a path through the copy
    pub slack_through : slack_at d t G c ≡ smallest (map (λ es. t -ℤ delay_along d es) (through G c))
    slack_through =
        best_unique smalls (slack_best O c here)
        (best_on (through_runs G R c here) (best_value smalls (λ es. t -ℤ delay_along d es) (through G c) (through_some G R c here O)))

-- Where no early delay is above the late one, no copy's earliest arrival is above its arrival: some run to the copy has the arrival as its
-- late delay, and its early delay lies between the two.
module _ (early late : ℕ → ℤ) (t : ℤ) (G : Graph) (R : Rising G) (ordered : (e : Edge) → Memᴰ e G.edges → AtMost (early e.name) (late e.name)) where
  run_ordered : (a c : ℕ) (es : List Edge) → Leads G a es c → AtMost (delay_along early es) (delay_along late es)
  run_ordered a c [] p = omega arith
  run_ordered a c (e ∷ es) p =
      omega (
        arith,
        ordered e p.0,
        run_ordered e.end c es p.2,
        add_is (early e.name) (delay_along early es),
        add_is (late e.name) (delay_along late es),
      )

  pub earliest_below : (c : ℕ) → c < length G.nodes → AtMost (earliest_at early G c) (arrival_at late t G c)
  earliest_below c here =
      let b = arrival_best late t G R c here in
      let p = b.there in
      subst (AtMost (earliest_at early G c)) b.is
      (larges.trans (earliest_at early G c) (delay_along early b.at) (delay_along late b.at)
      ((earliest_best early G R c here).most b.at p) (run_ordered p.0 c b.at p.2))

-- T2: how large times get. Levels rise along every edge, and no edge ends above the level top; no delay is larger than B.
-- Copy numbers are such levels, and so are node numbers where edges rise in node number.
pub record Levels (d : ℕ → ℤ) (G : Graph) (B : ℕ) (level : ℕ → ℕ) (top : ℕ) : Type 0 where
  pub rises : (e : Edge) → Memᴰ e G.edges → level e.start < level e.end
  pub under : (e : Edge) → Memᴰ e G.edges → level e.end ≤ top
  pub small : (e : Edge) → Memᴰ e G.edges → nat_abs (d e.name) ≤ B

pub copy_levels : (d : ℕ → ℤ) (G : Graph) (B : ℕ) → Rising G → ((e : Edge) → Memᴰ e G.edges → nat_abs (d e.name) ≤ B)
    → Levels d G B (λ c. c) (length G.nodes - 1)
copy_levels d G B R small = record { rises = R.up; under = λ e m. omega (arith, R.inside e m); small = small }

-- one more level is one more delay
rise : (B x y : ℕ) → x < y → B + B * x ≤ B * y
rise B x y h = omega (arith, mul-suc B x, mul-le-mul_left B h)

abs_sub : (a b : ℤ) → nat_abs (a -ℤ b) ≤ nat_abs a + nat_abs b
abs_sub a b = omega (arith, abs_add a (neg_ℤ b), abs_neg b)

from_back : (t z : ℤ) → t -ℤ (t -ℤ z) ≡ z
from_back t z = eq_parts _ _ (omega (arith, sub_parts t z, sub_parts t (t -ℤ z)))

-- a number that is not far from t
abs_near : (t z : ℤ) → nat_abs z ≤ nat_abs t + nat_abs (t -ℤ z)
abs_near t z = subst (λ (x : ℤ). nat_abs x ≤ nat_abs t + nat_abs (t -ℤ z)) (from_back t z) (abs_sub t (t -ℤ z))

fits : (z : ℤ) → nat_abs z < 2 ^ 63 → SFits w64 z
fits z h = sfits_parts w64 z (omega (arith, abs_is z))

module _ (d : ℕ → ℤ) (t : ℤ) (G : Graph) (R : Rising G) (B : ℕ) (level : ℕ → ℕ) (top : ℕ) (L : Levels d G B level top) where
  leads_size : (a c : ℕ) (es : List Edge) → Leads G a es c → nat_abs (delay_along d es) + B * level a ≤ B * level c
  leads_size a c [] p = rw p (omega arith)
  leads_size a c (e ∷ es) p =
      omega (
        arith,
        abs_add (d e.name) (delay_along d es),
        L.small e p.0,
        leads_size e.end c es p.2,
        rise B (level e.start) (level e.end) (L.rises e p.0),
        ap (λ (x : ℕ). B * level x) p.1,
      )

  way_size : (c : ℕ) (es : List Edge) → Way G c es → nat_abs (delay_along d es) ≤ B * (top - level c)
  way_size c [] w = omega arith
  way_size c (e ∷ es) w =
      omega (
        arith,
        abs_add (d e.name) (delay_along d es),
        L.small e w.0,
        way_size e.end es w.2,
        rise B (top - level e.end) (top - level e.start) (omega (arith, L.rises e w.0, L.under e w.0)),
        ap (λ (x : ℕ). B * (top - level x)) w.1,
      )

  -- T less a time that is T less a delay
  less_size : {m : ℤ} (es : List Edge) (M : ℕ) → t -ℤ delay_along d es ≡ m → nat_abs (delay_along d es) ≤ M → nat_abs (t -ℤ m) ≤ M
  less_size es M e h = subst (λ (z : ℤ). nat_abs z ≤ M) (sym (from_back t (delay_along d es)) ∙ ap (λ (z : ℤ). t -ℤ z) e) h

  -- the best of the runs to a copy, by any order
  to_size : {le : ℤ → ℤ → Type 0} {m : ℤ} (c : ℕ) → Best le (To G c) (delay_along d) m → nat_abs m ≤ B * level c
  to_size c b = subst (λ (z : ℤ). nat_abs z ≤ B * level c) b.is (omega (arith, leads_size b.there.0 c b.at b.there.2))

  module _ (c : ℕ) (here : c < length G.nodes) where
    pub arrival_size : nat_abs (arrival_at d t G c) ≤ B * level c
    arrival_size = to_size c (arrival_best d t G R c here)

    pub earliest_size : nat_abs (earliest_at d G c) ≤ B * level c
    earliest_size = to_size c (earliest_best d G R c here)

    pub required_size : Onward G → nat_abs (t -ℤ required_at d t G c) ≤ B * (top - level c)
    required_size O = let b = required_best d t G R O c here in less_size b.at (B * (top - level c)) b.is (way_size c b.at b.there)

    -- slack is T less the delay of a whole path
    pub slack_size : Onward G → nat_abs (t -ℤ slack_at d t G c) ≤ B * top
    slack_size O =
        let b = slack_best d t G R O c here in
        let p = b.there in
        let w : Way G p.2.0 b.at = subst (Way G p.2.0) (sym p.4) (way_then G p.2.0 c p.0 p.1 p.2.2 p.3) in
        less_size b.at (B * top) b.is
        (omega (arith, way_size p.2.0 b.at w, mul-le-mul_left {m = top - level p.2.0} {n = top} B (omega arith)))

    -- so the times fit signed 64 bits
    pub times_fit : Onward G → level c ≤ top → nat_abs t + B * top < 2 ^ 63
        → SFits w64 (arrival_at d t G c) × SFits w64 (required_at d t G c) × SFits w64 (slack_at d t G c) × SFits w64 (earliest_at d G c)
    times_fit O h room =
        let under : B * level c ≤ B * top = mul-le-mul_left B h in
        let below : B * (top - level c) ≤ B * top = mul-le-mul_left B (omega arith) in (
          fits (arrival_at d t G c) (omega (arith, arrival_size)),
          fits (required_at d t G c) (omega (arith, required_size O, abs_near t (required_at d t G c))),
          fits (slack_at d t G c) (omega (arith, slack_size O, abs_near t (slack_at d t G c))),
          fits (earliest_at d G c) (omega (arith, earliest_size)),
        )

  -- and so do the sums over an edge that the recurrences choose from
  module _ (e : Edge) (m : Memᴰ e G.edges) where
    to_sum_size : (z : ℤ) → nat_abs z ≤ B * level e.start → nat_abs (z +ℤ d e.name) ≤ B * level e.end
    to_sum_size z h = omega (arith, abs_add z (d e.name), L.small e m, rise B (level e.start) (level e.end) (L.rises e m))

    pub arrival_sum_size : nat_abs (arrival_at d t G e.start +ℤ d e.name) ≤ B * level e.end
    arrival_sum_size = to_sum_size (arrival_at d t G e.start) (arrival_size e.start (omega (arith, R.up e m, R.inside e m)))

    pub earliest_sum_size : nat_abs (earliest_at d G e.start +ℤ d e.name) ≤ B * level e.end
    earliest_sum_size = to_sum_size (earliest_at d G e.start) (earliest_size e.start (omega (arith, R.up e m, R.inside e m)))

    pub required_sum_size : Onward G → nat_abs (t -ℤ (required_at d t G e.end -ℤ d e.name)) ≤ B * (top - level e.start)
    required_sum_size O = subst (λ (z : ℤ). nat_abs z ≤ B * (top - level e.start)) (sum (required_at d t G e.end) (d e.name)) (omega (
      arith,
      abs_add (t -ℤ required_at d t G e.end) (d e.name),
      required_size e.end (R.inside e m) O,
      L.small e m,
      rise B (top - level e.end) (top - level e.start) (omega (arith, L.rises e m, L.under e m)),
    ))
      where
        sum : (r x : ℤ) → (t -ℤ r) +ℤ x ≡ t -ℤ (r -ℤ x)
        sum r x = eq_parts _ _ (omega (arith, sub_parts t r, add_is (t -ℤ r) x, sub_parts r x, sub_parts t (r -ℤ x)))

    pub sums_fit : Onward G → nat_abs t + B * top < 2 ^ 63
        → SFits w64 (arrival_at d t G e.start +ℤ d e.name) × SFits w64 (required_at d t G e.end -ℤ d e.name) × SFits w64 (earliest_at d G e.start +ℤ d e.name)
    sums_fit O room =
        let under : B * level e.end ≤ B * top = mul-le-mul_left B (L.under e m) in
        let below : B * (top - level e.start) ≤ B * top = mul-le-mul_left B (omega arith) in (
          fits (arrival_at d t G e.start +ℤ d e.name) (omega (arith, arrival_sum_size)),
          fits (required_at d t G e.end -ℤ d e.name) (omega (arith, required_sum_size O, abs_near t (required_at d t G e.end -ℤ d e.name))),
          fits (earliest_at d G e.start +ℤ d e.name) (omega (arith, earliest_sum_size)),
        )

-- document 01's limits leave this room, over copy numbers
pub limits_leave_room : (n : ℕ) (t : ℤ) → n ≤ 16384 → nat_abs t ≤ 1000000000 → nat_abs t + 1000000 * (n - 1) < 2 ^ 63
limits_leave_room n t h k = omega arith
