-- The pass back over the edges comes to the required times of the definition. Edges stand by end copy and rise: where an edge is met, every edge
-- out of its end stands after it.
use Prim.Native.Nat.{ℕ, suc, ◌+◌, ◌-◌, ◌≤◌, ◌<◌}
use native.Mathlib.Omega.{arith}
use native.Mathlib.Decide.{dec_lt}
use native.Mathlib.Numerals.{add-one}
use mathlib.Core.Path.{◌≡◌, refl, sym, ◌∙◌, ap, ap₂, subst}
use mathlib.Core.Logic.{⊎_elim}
use mathlib.Core.Bool.{Bool, true, false, cond}
use mathlib.Core.List.Memᴰ
use mathlib.Core.List.{List, [], ◌∷◌, ◌++◌, map, Memᴰ}
use lib.Dec.{T, eqb, leb, leb→le, le→leb}
use lib.IntN.{ℤ, pos, negsuc, nat_abs, ◌-ℤ◌}
use lib.ListN.{length, get_or, take, drop, take-append-drop, drop_of_length-le, get_or-eq_default}
use lib.Seq.{take-suc, drop-cons}
use borrow.Author.Tests.{eq-eqb, ne_eqb}
use Rattle.timing.specs.Lists.{keep, upto}
use Rattle.timing.specs.Graphs.{Edge, edge, Graph, endpoint_of, edges_out, ends_at, edges_of, delay_along}
use Rattle.timing.specs.Times.{smaller, largest, smallest, arrival_at, required_at, slack_at, earliest_at}
use Rattle.timing.specs.Calls.{GraphSlices, graph_slices, graph_of}
use Rattle.timing.proofs.Ints.{sub_parts, abs_is}
use Rattle.theorems.proofs.Sorting.{Sorted}
use Rattle.theorems.proofs.Counting.{next_sorted}
use Rattle.theorems.proofs.Lists.{get_d_mem}
use Rattle.theorems.proofs.Runs.{Rising, Onward, mem_out, runs_to_ends}
use Rattle.theorems.proofs.Extremes.{AtLeast, smalls}
use Rattle.theorems.proofs.Times.{Levels, copy_levels, arrival_size, required_size, earliest_size, required_end, required_edges}
use Rattle.times.specs.Passes.{no_required, first_required, lowered, delay_of, Over, edge_at, Fit, Small}
use Rattle.theorems.proofs.Elements.{size_each, at_each, set_each, each_same}
use Rattle.theorems.proofs.Splits.{keep_back, earlier, length_edges, get_d_edges, best_cons, best_high}

-- no time comes near the number that stands for none
far_above : (z : ℤ) → nat_abs z ≤ 20000000000 → AtLeast no_required z
far_above z h = omega (arith, abs_is z)

near : (t z : ℤ) → nat_abs z ≤ nat_abs t + nat_abs (t -ℤ z)
near t (pos n) = omega (arith, sub_parts t (pos n), abs_is t, abs_is (t -ℤ pos n))
near t (negsuc n) = omega (arith, sub_parts t (negsuc n), abs_is t, abs_is (t -ℤ negsuc n))

-- a member of a front part
mem_take : {A : Type 0} (k : ℕ) (l : List A) (y : A) → Memᴰ y (take k l) → Memᴰ y l
mem_take k l y m = subst (λ (x : List _). Memᴰ y x) (take-append-drop k l) (Memᴰ.append_left (drop k l) m)

small_each : (f : ℕ → ℤ) (n : ℕ) → ((c : ℕ) → c < n → nat_abs (f c) ≤ 20000000000) → Small (map f (upto n 0))
small_each f n h = record { bound = λ c. go c (dec_lt c n) }
  where
    go : (c : ℕ) → Dec (c < n) → nat_abs (get_or (map f (upto n 0)) c (pos 0)) ≤ 20000000000
    go c (yes k) = rw (at_each (pos 0) f n c k) (h c k)
    go c (no k) =
        let past : length (map f (upto n 0)) ≤ c = omega (arith, size_each f n) in
        rw (get_or-eq_default (map f (upto n 0)) (pos 0) past) (omega arith)

-- the order of edges
abbrev pub no_later : Edge → Edge → Bool
no_later e f = leb e.end f.end

-- what an edge gives its start
module _ (delays : List ℤ) (S : GraphSlices) where
  unfoldable pub over_out : ℕ → Edge → ℤ
  over_out t e = required_at (delay_of delays) (pos t) (graph_of S) e.end -ℤ delay_of delays e.name

  -- the required time at copy c after the edges from k on
  abbrev pub required_from : ℕ → ℕ → ℕ → ℤ
  required_from t k c =
      smallest (map (over_out t) (keep (λ e. eqb e.start c) (drop k (graph_of S).edges)) ++ (first_required (endpoint_of (graph_of S) c) (pos t) ∷ []))

module _ (delays : List ℤ) (S : GraphSlices) (F : Fit delays S) where
  abbrev G : Graph
  G = graph_of S

  abbrev d : ℕ → ℤ
  d = delay_of delays

  abbrev n : ℕ
  n = length S.nodes

  pub rising : Rising (graph_of S)
  rising = record { up = F.up; inside = F.inside }

  pub levels : Levels d (graph_of S) 1000000 (λ c. c) (n - 1)
  levels = copy_levels d (graph_of S) 1000000 rising F.range

  pub sorted : Sorted no_later (graph_of S).edges
  sorted = next_sorted no_later (λ x y z p q. le→leb x.end z.end (omega (arith, leb→le x.end y.end p, leb→le y.end z.end q))) (graph_of S).edges F.order

  pub edges_size : length (graph_of S).edges ≡ length S.starts
  edges_size = length_edges S.starts S.ends S.names F.ends F.names

  -- edge k
  module _ (k : ℕ) (h : k < length S.starts) where
    pub edge_is : get_or (graph_of S).edges k (edge 0 0 0) ≡ edge_at S k
    edge_is = get_d_edges S.starts S.ends S.names k (edge 0 0 0) F.ends F.names h

    inner : k < length (graph_of S).edges
    inner = omega (arith, edges_size)

    pub edge_in_lem : Memᴰ (edge_at S k) (graph_of S).edges
    edge_in_lem = subst (λ (e : Edge). Memᴰ e (graph_of S).edges) edge_is (get_d_mem (graph_of S).edges k (edge 0 0 0) inner)

    pub end_in : get_or S.ends k 0 < n
    end_in = F.inside (edge_at S k) edge_in_lem

    pub start_in : get_or S.starts k 0 < n
    start_in = omega (arith, F.up (edge_at S k) edge_in_lem, end_in)

    -- it can be passed, from the time at either of its copies
    pub edge_over : (side : List ℕ) (times : List ℤ) → k < length side → get_or side k 0 < length times → nat_abs (get_or times (get_or side k 0) (pos 0)) ≤ 20000000000
        → Over delays side S.names times k
    edge_over side times i c t = record {
      edge = i;
      name = omega (arith, F.names, h);
      copy_in = c;
      name_in = F.named (edge_at S k) edge_in_lem;
      time = t;
      delay = F.range (edge_at S k) edge_in_lem;
    }

    front : take (k + 1) (graph_of S).edges ≡ take k (graph_of S).edges ++ (edge_at S k ∷ [])
    front = rw (add-one k) (take-suc (graph_of S).edges k (edge 0 0 0) inner ∙ ap (λ (e : Edge). take k (graph_of S).edges ++ (e ∷ [])) edge_is)

    back : drop k (graph_of S).edges ≡ edge_at S k ∷ drop (k + 1) (graph_of S).edges
    back = rw (add-one k) (drop-cons (graph_of S).edges k (edge 0 0 0) inner ∙ ap (λ (e : Edge). e ∷ drop (suc k) (graph_of S).edges) edge_is)

    -- every edge out of its end stands after it
    out_of_end : keep (λ e. eqb e.start (edge_at S k).end) (drop (k + 1) (graph_of S).edges) ≡ edges_out (graph_of S) (edge_at S k).end
    unfolding edges_out
    out_of_end =
        sym
        (ap (keep p) (sym (take-append-drop (k + 1) (graph_of S).edges))
        ∙ keep_back p (take (k + 1) (graph_of S).edges) (drop (k + 1) (graph_of S).edges) (λ y m. ne_eqb y.start (edge_at S k).end (λ q. omega (arith, (until y m).0, (until y m).1))))
      where
        p : Edge → Bool
        p e = eqb e.start (edge_at S k).end

        until : (y : Edge) → Memᴰ y (take (k + 1) (graph_of S).edges) → (y.end ≤ (edge_at S k).end) × (y.start < y.end)
        until y m =
            ⊎_elim
            (λ (r : Memᴰ y (take k (graph_of S).edges)). (leb→le y.end (edge_at S k).end (subst (λ (e : Edge). T (no_later y e)) edge_is (earlier no_later (graph_of S).edges k (edge 0 0 0) sorted inner y r)), F.up y (mem_take k (graph_of S).edges y r)))
            (λ (r : Memᴰ y (edge_at S k ∷ [])). ⊎_elim (λ (q : y ≡ edge_at S k). rw q (omega arith, F.up (edge_at S k) edge_in_lem)) (λ z. absurd (Memᴰ.not-nil z)) (Memᴰ.cases_cons r))
            (Memᴰ.append_cases (take k (graph_of S).edges) (subst (λ (l : List Edge). Memᴰ y l) front m))

  pub arrival_small : (t : ℤ) (c : ℕ) → c < n → nat_abs (arrival_at d t (graph_of S) c) ≤ 20000000000
  arrival_small t c h = omega (arith, arrival_size d t (graph_of S) rising 1000000 (λ c. c) (n - 1) levels c h, F.copies)

  pub earliest_small : (c : ℕ) → c < n → nat_abs (earliest_at d (graph_of S) c) ≤ 20000000000
  earliest_small c h = omega (arith, earliest_size d (pos 0) (graph_of S) rising 1000000 (λ c. c) (n - 1) levels c h, F.copies)

  pub arrivals_small : Small (map (arrival_at d (pos 0) (graph_of S)) (upto n 0))
  arrivals_small = small_each (arrival_at d (pos 0) (graph_of S)) n (arrival_small (pos 0))

  -- required times
  module _ (onward : Onward (graph_of S)) (t : ℕ) (small : t ≤ 1000000000) where
    abbrev out_sum : Edge → ℤ
    out_sum = over_out delays S t

    abbrev left : ℕ → ℕ → ℤ
    left = required_from delays S t

    abbrev first : ℕ → ℤ
    first c = first_required (endpoint_of (graph_of S) c) (pos t)

    required_small : (c : ℕ) → c < n → nat_abs (required_at d (pos t) (graph_of S) c) ≤ 20000000000
    required_small c h =
        omega (
          arith,
          required_size d (pos t) (graph_of S) rising 1000000 (λ c. c) (n - 1) levels c h onward,
          near (pos t) (required_at d (pos t) (graph_of S) c),
          F.copies,
        )

    pub requireds_small : Small (map (required_at d (pos t) (graph_of S)) (upto n 0))
    requireds_small = small_each (required_at d (pos t) (graph_of S)) n required_small

    -- all edges out of a copy met: T counts where paths end; where none does, what stands for no time is above what comes from further on
    settled_required : (c : ℕ) → c < n → smallest (map out_sum (edges_out (graph_of S) c) ++ (first c ∷ [])) ≡ required_at d (pos t) (graph_of S) c
    unfolding over_out
    settled_required c h = go (ends_at (graph_of S) c) refl
      where
        go : (b : Bool) → ends_at (graph_of S) c ≡ b → smallest (map out_sum (edges_out (graph_of S) c) ++ (cond b (pos t) no_required ∷ [])) ≡ required_at d (pos t) (graph_of S) c
        go true q = sym (required_end d (pos t) (graph_of S) rising onward c h (rw q tt))
        go false q =
            let none : T (ends_at (graph_of S) c) → ⊥ = λ e. rw q at e in
            let e = required_edges d (pos t) (graph_of S) rising onward c h none in
            let l = subst (AtLeast no_required) e (far_above (required_at d (pos t) (graph_of S) c) (required_small c h)) in
            ⊎_elim
            (λ s. absurd (none s))
            (λ o. best_high smalls no_required (map out_sum (edges_out (graph_of S) c)) (out_sum o.0, Memᴰ.map out_sum ((mem_out (graph_of S) c o.0).1 (o.1, o.2))) l ∙ sym e)
            (onward c h)

    -- what the pass finds at the end of edge k
    found_required : (k : ℕ) (h : k < length S.starts) → get_or (map (left (k + 1)) (upto n 0)) (get_or S.ends k 0) (pos 0) ≡ required_at d (pos t) (graph_of S) (get_or S.ends k 0)
    found_required k h =
        at_each (pos 0) (left (k + 1)) n (get_or S.ends k 0) (end_in k h)
        ∙ ap (λ (l : List Edge). smallest (map out_sum l ++ (first (get_or S.ends k 0) ∷ []))) (out_of_end k h)
        ∙ settled_required (get_or S.ends k 0) (end_in k h)

    pub lowers_in : (k : ℕ) → k < length S.starts
        → Over delays S.ends S.names (map (left (k + 1)) (upto n 0)) k × (k < length S.starts) × (get_or S.starts k 0 < length (map (left (k + 1)) (upto n 0)))
    lowers_in k h =
        let size = size_each (left (k + 1)) n in (
          edge_over k h S.ends (map (left (k + 1)) (upto n 0)) (omega (arith, F.ends, h)) (omega (arith, end_in k h, size)) (rw (found_required k h) (required_small (get_or S.ends k 0) (end_in k h))),
          h,
          omega (arith, start_in k h, size),
        )

    pub lowered_next : (k : ℕ) → k < length S.starts
        → lowered (map (left (k + 1)) (upto n 0)) (get_or S.starts k 0) (get_or S.ends k 0) (d (get_or S.names k 0)) ≡ map (left k) (upto n 0)
    unfolding lowered over_out
    lowered_next k h =
        set_each (pos 0) (left (k + 1)) (left k) n (get_or S.starts k 0) _ (start_in k h)
        (ap₂ smaller (ap (λ (z : ℤ). z -ℤ d (get_or S.names k 0)) (found_required k h)) (at_each (pos 0) (left (k + 1)) n (get_or S.starts k 0) (start_in k h))
        ∙ sym (best_cons smalls (out_sum (edge_at S k)) (map out_sum (keep (at (get_or S.starts k 0)) (drop (k + 1) (graph_of S).edges))) (first (get_or S.starts k 0)))
        ∙ ap (λ (l : List Edge). smallest (map out_sum l ++ (first (get_or S.starts k 0) ∷ [])))
        (sym (ap (keep (at (get_or S.starts k 0))) (back k h) ∙ ap (λ (b : Bool). cond b (edge_at S k ∷ keep (at (get_or S.starts k 0)) (drop (k + 1) (graph_of S).edges)) (keep (at (get_or S.starts k 0)) (drop (k + 1) (graph_of S).edges))) (eq-eqb (get_or S.starts k 0) (get_or S.starts k 0) refl))))
        (λ c f. ap (λ (l : List Edge). smallest (map out_sum l ++ (first c ∷ [])))
        (sym (ap (keep (at c)) (back k h) ∙ ap (λ (b : Bool). cond b (edge_at S k ∷ keep (at c) (drop (k + 1) (graph_of S).edges)) (keep (at c) (drop (k + 1) (graph_of S).edges))) (ne_eqb (get_or S.starts k 0) c (λ q. f (sym q))))))
      where
        at : ℕ → Edge → Bool
        at c e = eqb e.start c

    -- before the first edge, and after the last
    pub left_none : (k : ℕ) → length S.starts ≤ k → map first (upto n 0) ≡ map (left k) (upto n 0)
    left_none k h =
        each_same (pos 0) first (left k) n
        (λ c l. sym (ap (λ (es : List Edge). smallest (map out_sum (keep (λ e. eqb e.start c) es) ++ (first c ∷ []))) (drop_of_length-le (graph_of S).edges {i = k} (omega (arith, edges_size)))))

    pub requireds_settled : map (left 0) (upto n 0) ≡ map (required_at d (pos t) (graph_of S)) (upto n 0)
    unfolding edges_out
    requireds_settled = each_same (pos 0) (left 0) (required_at d (pos t) (graph_of S)) n settled_required

-- what the passes ask of a graph does not ask where paths end
pub fit_ends : {delays : List ℤ} {nodes ends fins from to via : List ℕ} → Fit delays (graph_slices nodes ends from to via) → Fit delays (graph_slices nodes fins from to via)
fit_ends F = record { ends = F.ends; names = F.names; copies = F.copies; up = F.up; inside = F.inside; named = F.named; range = F.range; order = F.order }

-- and neither do arrival and earliest arrival; arrival does not ask T; slack is of the other two
module _ (delays : List ℤ) (nodes ends from to via : List ℕ) where
  abbrev bare : GraphSlices
  bare = graph_slices nodes [] from to via

  abbrev whole : GraphSlices
  whole = graph_slices nodes ends from to via

  pub arrivals_any : (t : ℕ) → map (arrival_at (delay_of delays) (pos 0) (graph_of bare)) (upto (length nodes) 0) ≡ map (arrival_at (delay_of delays) (pos t) (graph_of whole)) (upto (length nodes) 0)
  unfolding arrival_at
  arrivals_any t = λ i. map (λ c. largest (map (delay_along (delay_of delays)) (runs_to_ends nodes [] ends (edges_of from to via) (length nodes) c i))) (upto (length nodes) 0)

  pub earliests_any : map (earliest_at (delay_of delays) (graph_of bare)) (upto (length nodes) 0) ≡ map (earliest_at (delay_of delays) (graph_of whole)) (upto (length nodes) 0)
  unfolding earliest_at
  earliests_any = λ i. map (λ c. smallest (map (delay_along (delay_of delays)) (runs_to_ends nodes [] ends (edges_of from to via) (length nodes) c i))) (upto (length nodes) 0)

  pub slacks_are : (t : ℕ) (ats rts : List ℤ) (m : ℕ) → ats ≡ map (arrival_at (delay_of delays) (pos t) (graph_of whole)) (upto (length nodes) 0)
      → rts ≡ map (required_at (delay_of delays) (pos t) (graph_of whole)) (upto (length nodes) 0) → m ≡ length nodes
      → map (λ c. get_or rts c (pos 0) -ℤ get_or ats c (pos 0)) (upto m 0) ≡ map (slack_at (delay_of delays) (pos t) (graph_of whole)) (upto (length nodes) 0)
  unfolding slack_at
  slacks_are t ats rts m e f q =
      ap (λ (i : ℕ). map (λ c. get_or rts c (pos 0) -ℤ get_or ats c (pos 0)) (upto i 0)) q
      ∙ each_same (pos 0) (λ c. get_or rts c (pos 0) -ℤ get_or ats c (pos 0)) (slack_at (delay_of delays) (pos t) (graph_of whole)) (length nodes)
      (λ c h. ap₂ ◌-ℤ◌
      (ap (λ (l : List ℤ). get_or l c (pos 0)) f ∙ at_each (pos 0) (required_at (delay_of delays) (pos t) (graph_of whole)) (length nodes) c h)
      (ap (λ (l : List ℤ). get_or l c (pos 0)) e ∙ at_each (pos 0) (arrival_at (delay_of delays) (pos t) (graph_of whole)) (length nodes) c h))
