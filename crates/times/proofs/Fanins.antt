-- One copy's fanin: the edges into it are those from `first` to before `last`, and the best over these is its time. Arrival by the larger of two
-- and earliest arrival by the smaller are one law, over the order.
use Prim.Native.Nat.{ℕ, suc, ◌+◌, ◌-◌, ◌≤◌, ◌<◌}
use native.Mathlib.Omega.{arith}
use native.Mathlib.Decide.{dec_lt}
use mathlib.Core.Path.{◌≡◌, refl, sym, ◌∙◌, ap, ap₂}
use mathlib.Core.Logic.{⊎_elim}
use mathlib.Core.Bool.{Bool, true, false, ◌&&◌}
use mathlib.Core.List.{List, [], ◌∷◌, map, map-map}
use lib.Dec.{T, eqb, ltb, leb→le}
use lib.IntN.{ℤ, pos, nat_abs, ◌+ℤ◌}
use lib.ListN.{length, get_or, set}
use borrow.Author.Tests.{eq-eqb, ne_eqb, eqb-true, ltb-true}
use Rattle.timing.specs.Lists.{keep, upto}
use Rattle.timing.specs.Graphs.{Edge, edge, edges_in, starts_at}
use Rattle.timing.specs.Times.{arrival_at, earliest_at}
use Rattle.timing.specs.Calls.{GraphSlices, graph_of}
use Rattle.theorems.proofs.Lists.{nil_is, of_upto}
use Rattle.theorems.proofs.Nodes.{map_on}
use Rattle.theorems.proofs.Extremes.{Picks, Some, nil_or_some, larges, smalls}
use Rattle.theorems.proofs.Times.{arrival_source, arrival_edges, earliest_source, earliest_edges}
use Rattle.theorems.proofs.Elements.{Done, done_next, is_each}
use Rattle.theorems.proofs.Splits.{upto_next, upto_split, keep_map, keep_all, keep_front, keep_back, sorted_at, best_snoc}
use Rattle.times.specs.Passes.{delay_of, edge_at, Fit}
use Rattle.times.specs.Fanins.{over, best_over, ends_here, Fanin, FaninFrom, Ready}
use Rattle.times.proofs.Passes.{no_later, rising, sorted, edges_size, edge_is, edge_in_lem, edge_over, arrival_small, earliest_small}

-- ---- where a fanin ends
-- what the test of a place says
pub here : (to : List ℕ) (k c : ℕ) → ends_here to k c ≡ true → (k < length to) × (get_or to k 0 ≡ c)
here to k c = go (ltb k (length to)) refl (eqb (get_or to k 0) c) refl
  where
    go : (a : Bool) → ltb k (length to) ≡ a → (b : Bool) → eqb (get_or to k 0) c ≡ b → (a && b) ≡ true → (k < length to) × (get_or to k 0 ≡ c)
    go true p true q e = (ltb-true k (length to) p, eqb-true (get_or to k 0) c q)
    go true p false q e = let z : ◌≡◌ {A = ℕ} 0 1 = cc in absurd (omega arith)
    go false p b q e = let z : ◌≡◌ {A = ℕ} 0 1 = cc in absurd (omega arith)

abbrev pub Into : List ℕ → ℕ → ℕ → ℕ → Type 0
Into to c first k = (i : ℕ) → first ≤ i → i < k → get_or to i 0 ≡ c

pub into_next : (to : List ℕ) (c first k : ℕ) → Into to c first k → get_or to k 0 ≡ c → Into to c first (k + 1)
into_next to c first k into e i h l = go (dec_lt i k)
  where
    go : Dec (i < k) → get_or to i 0 ≡ c
    go (yes m) = into i h m
    go (no m) = let q : i ≡ k = omega (arith, h, l, m) in ap (λ (j : ℕ). get_or to j 0) q ∙ e

-- the next fanin begins where this one ends
pub fanin_next : (to : List ℕ) (c first last : ℕ) → FaninFrom to c first → Fanin to c first last → FaninFrom to (c + 1) last
fanin_next to c first last N t = record {
  order = N.order;
  within = t.within;
  behind = λ k h. go k h (dec_lt k first);
  ahead = λ k h l. omega (arith, t.beyond k h l);
}
  where
    go : (k : ℕ) → k < last → Dec (k < first) → get_or to k 0 < c + 1
    go k h (yes m) = omega (arith, N.behind k m)
    go k h (no m) = omega (arith, t.into k (omega (arith, m)) h)

-- ---- the best over a fanin
module _ {le : ℤ → ℤ → Type 0} {pick : ℤ → ℤ → ℤ} {best : List ℤ → ℤ} (K : Picks le pick best) (f : ℕ → ℤ) (first : ℕ) where
  abbrev up_to : ℕ → ℤ
  up_to last = best (map f (upto (last - first) first))

  pub over_more : (k : ℕ) → first < k → up_to (k + 1) ≡ pick (up_to k) (f k)
  over_more k h =
      let m = k - first - 1 in
      let p : k - first ≡ suc m = omega (arith, h) in
      let q : k + 1 - first ≡ suc (suc m) = omega (arith, h) in
      let l : suc first + m ≡ k = omega (arith, h) in
      ap (λ (n : ℕ). best (map f (upto n first))) q
      ∙ ap (λ (ks : List ℕ). best (f first ∷ map f ks)) (upto_next m (suc first))
      ∙ best_snoc K f (f first) (upto m (suc first)) (suc first + m)
      ∙ ap₂ (λ (n i : ℕ). pick (best (map f (upto n first))) (f i)) (sym p) l

-- ---- lists of places
-- the places that pass a test, where these are `first` to before `last` of m
keep_run : (p : ℕ → Bool) (m first last : ℕ) → first ≤ last → last ≤ m → ((k : ℕ) → k < first → p k ≡ false)
    → ((k : ℕ) → first ≤ k → k < last → p k ≡ true) → ((k : ℕ) → last ≤ k → k < m → p k ≡ false) → keep p (upto m 0) ≡ upto (last - first) first
keep_run p m first last h l before in_run behind =
    let run = last - first in
    let rest = m - last in
    let a : m ≡ first + (run + rest) = omega (arith, h, l) in
    let b : 0 + first ≡ first = omega arith in
    let c : first + run ≡ last = omega (arith, h) in
    ap (λ (n : ℕ). keep p (upto n 0)) a
    ∙ ap (keep p) (upto_split first (run + rest) 0)
    ∙ keep_back p (upto first 0) (upto (run + rest) (0 + first)) (λ k i. before k (omega (arith, (of_upto first 0 k i).1)))
    ∙ ap (λ (n : ℕ). keep p (upto (run + rest) n)) b
    ∙ ap (keep p) (upto_split run rest first)
    ∙ keep_front p (upto run first) (upto rest (first + run)) (λ k i. behind k (omega (arith, (of_upto rest (first + run) k i).0, c)) (omega (arith, (of_upto rest (first + run) k i).1, c, l)))
    ∙ keep_all p (upto run first) (λ k i. in_run k (of_upto run first k i).0 (omega (arith, (of_upto run first k i).1, c)))

-- ---- in a graph whose edges stand by end copy and rise
module _ (delays : List ℤ) (S : GraphSlices) (F : Fit delays S) where
  abbrev n : ℕ
  n = length S.nodes

  -- What a pass over the copies finds, by any order: `at` is the time of each copy by its definition. It is 0 where paths start, as the best of
  -- none is, and goes by its recurrence elsewhere.
  pub record Forward {le : ℤ → ℤ → Type 0} {pick : ℤ → ℤ → ℤ} {best : List ℤ → ℤ} (K : Picks le pick best) (at : ℕ → ℤ) : Type 0 where
    none : best [] ≡ pos 0
    small : (c : ℕ) → c < n → nat_abs (at c) ≤ 20000000000
    source : (c : ℕ) → c < n → T (starts_at (graph_of S) c) → at c ≡ pos 0
    edges : (c : ℕ) → c < n → Some (edges_in (graph_of S) c) → at c ≡ best (map (λ e. at e.start +ℤ delay_of delays e.name) (edges_in (graph_of S) c))

  pub arrivals_pass : (t : ℤ) → Forward larges (arrival_at (delay_of delays) t (graph_of S))
  arrivals_pass t = record {
    none = refl;
    small = arrival_small delays S F t;
    source = arrival_source (delay_of delays) t (graph_of S) (rising delays S F);
    edges = arrival_edges (delay_of delays) t (graph_of S) (rising delays S F);
  }

  pub earliests_pass : Forward smalls (earliest_at (delay_of delays) (graph_of S))
  earliests_pass = record {
    none = refl;
    small = earliest_small delays S F;
    source = earliest_source (delay_of delays) (graph_of S) (rising delays S F);
    edges = earliest_edges (delay_of delays) (graph_of S) (rising delays S F);
  }

  end_is : (k : ℕ) → k < length S.starts → (get_or (graph_of S).edges k (edge 0 0 0)).end ≡ get_or S.ends k 0
  end_is k h = ap (λ (e : Edge). e.end) (edge_is delays S F k h)

  ordered : (j k : ℕ) → j ≤ k → k < length S.ends → get_or S.ends j 0 ≤ get_or S.ends k 0
  ordered j k h l = go (dec_lt j k)
    where
      m : k < length S.starts
      m = omega (arith, l, F.ends)

      go : Dec (j < k) → get_or S.ends j 0 ≤ get_or S.ends k 0
      go (yes i) =
          omega (
            arith,
            leb→le (get_or (graph_of S).edges j (edge 0 0 0)).end (get_or (graph_of S).edges k (edge 0 0 0)).end (sorted_at no_later (graph_of S).edges j k (edge 0 0 0) (sorted delays S F) i (omega (arith, m, edges_size delays S F))),
            end_is j (omega (arith, i, m)),
            end_is k m,
          )
      go (no i) = let q : j ≡ k = omega (arith, h, i) in rw q (omega arith)

  pub fanin_first : FaninFrom S.ends 0 0
  fanin_first = record { order = ordered; within = omega arith; behind = λ k h. absurd (omega (arith, h)); ahead = λ k h l. omega arith }

  -- copy c, where the times of the copies below it stand in their places
  module _ {le : ℤ → ℤ → Type 0} {pick : ℤ → ℤ → ℤ} {best : List ℤ → ℤ} {K : Picks le pick best} {at : ℕ → ℤ} (W : Forward K at) (c first : ℕ)
      (old times : List ℤ) (h : c < n) (size : length old ≡ n) (done : Done (pos 0) at c old times) (N : FaninFrom S.ends c first) where
    start_below : (k : ℕ) → k < length S.ends → get_or S.ends k 0 ≡ c → get_or S.starts k 0 < c
    start_below k l e = omega (arith, F.up (edge_at S k) (edge_in_lem delays S F k (omega (arith, l, F.ends))), e)

    start_known : (k : ℕ) → k < length S.ends → get_or S.ends k 0 ≡ c → get_or times (get_or S.starts k 0) (pos 0) ≡ at (get_or S.starts k 0)
    start_known k l e = done.below (get_or S.starts k 0) (start_below k l e)

    pub copy_ready : Ready delays S.starts S.ends S.names times c first
    copy_ready = record {
      place = omega (arith, done.size, size, h);
      fanin = N;
      passed = λ k l e.
          let b = start_below k l e in
          edge_over delays S F k (omega (arith, l, F.ends)) S.starts times (omega (arith, l, F.ends)) (omega (arith, b, h, done.size, size))
          (rw (start_known k l e) (W.small (get_or S.starts k 0) (omega (arith, b, h))));
    }

    module _ (last : ℕ) (fanin : Fanin S.ends c first last) where
      edges_into : edges_in (graph_of S) c ≡ map (edge_at S) (upto (last - first) first)
      unfolding edges_in
      edges_into =
          ap (keep (λ e. eqb e.end c)) (is_each (edge 0 0 0) (edge_at S) (length S.starts) (graph_of S).edges (edges_size delays S F) (edge_is delays S F))
          ∙ keep_map (λ e. eqb e.end c) (edge_at S) (upto (length S.starts) 0)
          ∙ ap (map (edge_at S))
          (keep_run (λ k. eqb (get_or S.ends k 0) c) (length S.starts) first last fanin.begins (omega (arith, fanin.within, F.ends))
          (λ k l. ne_eqb (get_or S.ends k 0) c (λ q. omega (arith, N.behind k l, q)))
          (λ k l m. eq-eqb (get_or S.ends k 0) c (fanin.into k l m))
          (λ k l m. ne_eqb (get_or S.ends k 0) c (λ q. omega (arith, fanin.beyond k l (omega (arith, m, F.ends)), q))))

      -- the recurrence with the time where paths start as the best of none
      time_all : at c ≡ best (map (λ e. at e.start +ℤ delay_of delays e.name) (edges_in (graph_of S) c))
      time_all = ⊎_elim start (W.edges c h) (nil_or_some (edges_in (graph_of S) c))
        where
          start : T (starts_at (graph_of S) c) → at c ≡ best (map (λ e. at e.start +ℤ delay_of delays e.name) (edges_in (graph_of S) c))
          start s =
              W.source c h s ∙ sym W.none
              ∙ ap (λ (es : List Edge). best (map (λ e. at e.start +ℤ delay_of delays e.name) es)) (sym (nil_is (edges_in (graph_of S) c) s))

      fanin_time : best_over best delays S.starts S.names times first last ≡ at c
      fanin_time =
          ap best
          (map_on (over delays S.starts S.names times) (λ k. at (get_or S.starts k 0) +ℤ delay_of delays (get_or S.names k 0)) (upto (last - first) first)
          (λ k i.
          let o = of_upto (last - first) first k i in
          let l : k < last = omega (arith, o.1, fanin.begins) in
          ap (λ (z : ℤ). z +ℤ delay_of delays (get_or S.names k 0)) (start_known k (omega (arith, l, fanin.within)) (fanin.into k o.0 l))))
          ∙ sym
          (time_all
          ∙ ap (λ (es : List Edge). best (map (λ e. at e.start +ℤ delay_of delays e.name) es)) edges_into
          ∙ ap best (map-map (λ e. at e.start +ℤ delay_of delays e.name) (edge_at S) (upto (last - first) first)))

      pub copy_done : Done (pos 0) at (c + 1) old (set times c (best_over best delays S.starts S.names times first last))
      copy_done = done_next (pos 0) at c old times (best_over best delays S.starts S.names times first last) (omega (arith, done.size, size, h)) fanin_time done
