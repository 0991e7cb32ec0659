-- Laws of counting the candidates. What is counted and what is left to count are together what there is.
use Prim.Native.Nat.{ℕ, zero, suc, ◌+◌, ◌-◌, ◌≤◌, ◌<◌}
use native.Mathlib.Omega.{arith}
use native.Mathlib.Decide.{ℕ_discrete, dec_lt}
use native.Mathlib.Numerals.{add-one}
use mathlib.Core.Path.{◌≡◌, refl, sym, ◌∙◌, ap, subst}
use mathlib.Core.List.{List, [], ◌∷◌, ◌++◌, map, flat_map}
use lib.Dec.{eqb}
use lib.ListN.{length, get_or, take, drop, set, replicate, length-set}
use lib.Seq.{drop-drop, get_or-set_same, get_or-set_other}
use borrow.Author.Tests.{ne_eqb, eq-eqb}
use Rattle.timing.specs.Lists.{one_if, sum}
use Rattle.timing.specs.Graphs.{Design, Graph}
use Rattle.timing.specs.Marks.{path_list}
use Rattle.timing.specs.Tests.{candidates}
use Rattle.theorems.proofs.Counting.{count_cons, count_append}
use Rattle.theorems.proofs.Legal.{Legal}
use Rattle.theorems.proofs.Tested.{DesignFits, ListFits}
use Rattle.removal.specs.Counts.{of_starts, of_nodes}
use Rattle.removal.specs.Counts.{starts_in, inner, shares, ListCountable, CopiesCountable, Counting, Counted, Tallied}
use Rattle.removal.proofs.Listing.SumLaws.{sum_step, sum_take}
use Rattle.removal.proofs.Building.SumLaws.{lengths_filled}
use Rattle.theorems.proofs.Lists.{get_d_mem}

drop_cons : (l : List ℕ) (i : ℕ) → i < length l → drop i l ≡ get_or l i 0 ∷ drop (suc i) l
drop_cons [] i h = absurd (omega arith)
drop_cons (x ∷ l) zero h = refl
drop_cons (x ∷ l) (suc i) h = drop_cons l i (omega arith)

drop_all : (l : List ℕ) (k : ℕ) → length l ≤ k → drop k l ≡ []
drop_all [] zero h = refl
drop_all [] (suc k) h = refl
drop_all (x ∷ l) zero h = absurd (omega arith)
drop_all (x ∷ l) (suc k) h = drop_all l k (omega arith)

pub zeros : (n v : ℕ) → ◌≡◌ {A = ℕ} (get_or (replicate n 0) v 0) 0
zeros zero v = refl
zeros (suc n) zero = refl
zeros (suc n) (suc v) = zeros n v

get_d_past : (l : List ℕ) (k : ℕ) → length l ≤ k → get_or l k 0 ≡ 0
get_d_past [] k h = refl
get_d_past (x ∷ l) zero h = absurd (omega arith)
get_d_past (x ∷ l) (suc k) h = get_d_past l k (omega arith)

-- the next edge
starts_cons : (starts : List ℕ) (v k : ℕ) (es : List ℕ) → starts_in starts v (k ∷ es) ≡ one_if (eqb (get_or starts k 0) v) + starts_in starts v es
unfolding starts_in
starts_cons starts v k es = count_cons (λ e. eqb (get_or starts e 0) v) k es

starts_append : (starts : List ℕ) (v : ℕ) (xs ys : List ℕ) → starts_in starts v (xs ++ ys) ≡ starts_in starts v xs + starts_in starts v ys
unfolding starts_in
starts_append starts v xs ys = count_append (λ e. eqb (get_or starts e 0) v) xs ys

starts_none : (starts : List ℕ) (v : ℕ) → starts_in starts v [] ≡ 0
unfolding starts_in
starts_none starts v = refl

-- a count in the middle of a path
pub record CountingAt (starts listed s t : List ℕ) (first end i : ℕ) : Type 0 where
  pub past : first ≤ i
  pub most : i ≤ end
  pub size : length t ≡ length s
  pub small : (v : ℕ) → get_or t v 0 ≤ i
  pub counts : (v : ℕ) → v < 4096
      → get_or t v 0 + starts_in starts v (take (end - i) (drop i listed)) ≡ get_or s v 0 + starts_in starts v (take (end - first) (drop first listed))

module _ (starts listed s t : List ℕ) (first end i : ℕ) (h : Counting starts listed s first end) (a : CountingAt starts listed s t first end i) (l : i < end) where
  abbrev node : ℕ
  node = get_or starts (get_or listed i 0) 0

  next : (v : ℕ) → starts_in starts v (take (end - i) (drop i listed)) ≡ one_if (eqb node v) + starts_in starts v (take (end - suc i) (drop (suc i) listed))
  next v =
      let e : end - i ≡ suc (end - suc i) = omega arith in
      rw (e, drop_cons listed i (omega (arith, h.room))) (starts_cons starts v (get_or listed i 0) (take (end - suc i) (drop (suc i) listed)))

  pub node_inside : node < length t
  node_inside = omega (arith, h.starts_below (get_or listed i 0), h.size, a.size)

  pub counting_turn : CountingAt starts listed s (set t node (get_or t node 0 + 1)) first end (suc i)
  counting_turn = record {
    past = omega (arith, a.past);
    most = l;
    size = length-set t node (get_or t node 0 + 1) ∙ a.size;
    small = λ v. few v (ℕ_discrete v node);
    counts = λ v k. count v (ℕ_discrete v node) ∙ a.counts v k;
  }
    where
      few : (v : ℕ) → Dec (v ≡ node) → get_or (set t node (get_or t node 0 + 1)) v 0 ≤ suc i
      few v (yes q) = rw (q, get_or-set_same t node (get_or t node 0 + 1) 0 node_inside) (omega (arith, a.small node))
      few v (no q) = rw (get_or-set_other t node v (get_or t node 0 + 1) 0 q) (omega (arith, a.small v))

      count : (v : ℕ) → Dec (v ≡ node)
          → get_or (set t node (get_or t node 0 + 1)) v 0 + starts_in starts v (take (end - suc i) (drop (suc i) listed)) ≡ get_or t v 0 + starts_in starts v (take (end - i) (drop i listed))
      count v (yes q) =
          rw (q, get_or-set_same t node (get_or t node 0 + 1) 0 node_inside) (omega (arith, next node, ap one_if (eq-eqb node node refl)))
      count v (no q) =
          rw (get_or-set_other t node v (get_or t node 0 + 1) 0 q) (omega (arith, next v, ap one_if (ne_eqb node v (λ e. q (sym e)))))

pub counting_done : (starts listed s t : List ℕ) (first end i : ℕ) → CountingAt starts listed s t first end i → end ≤ i → Counted starts listed s t first end
counting_done starts listed s t first end i a f = record {
  size = a.size;
  small = λ v. omega (arith, a.small v, a.most);
  counts = λ v k. let z : end - i ≡ 0 = omega (arith, f) in
      omega (arith, a.counts v k, ap (λ (n : ℕ). starts_in starts v (take n (drop i listed))) z, starts_none starts v);
}

-- the paths from number k on are left to count; the first of them starts at place `at`
pub record TallyAt (starts listed lengths t : List ℕ) (at k : ℕ) : Type 0 where
  pub most : k ≤ length lengths
  pub place : at ≡ sum (take k lengths)
  pub size : length t ≡ 4096
  pub small : (v : ℕ) → get_or t v 0 ≤ at
  pub counts : (v : ℕ) → v < 4096 → get_or t v 0 + starts_in starts v (inner (drop at listed) (drop k lengths)) ≡ starts_in starts v (inner listed lengths)

inner_cons : (listed lengths : List ℕ) (n : ℕ) → inner listed (n ∷ lengths) ≡ drop 1 (take n listed) ++ inner (drop n listed) lengths
unfolding inner flat_map
inner_cons listed lengths n = refl

inner_none : (listed : List ℕ) → inner listed [] ≡ []
unfolding inner flat_map
inner_none listed = refl

module _ (starts listed lengths t : List ℕ) (at k : ℕ) (h : ListCountable starts listed lengths) (a : TallyAt starts listed lengths t at k) (l : k < length lengths) where
  abbrev n : ℕ
  n = get_or lengths k 0

  pub path_inside : at + n ≤ length listed
  path_inside = omega (arith, a.place, sum_step lengths k l, sum_take lengths (suc k), h.total)

  pub path_counting : Counting starts listed t (at + 1) (at + n)
  path_counting = record {
    size = a.size;
    few = h.few;
    up = omega (arith, h.filled k l);
    room = path_inside;
    small = λ v. omega (arith, a.small v);
    starts_below = h.starts_below;
  }

  path_cut : drop 1 (take n (drop at listed)) ≡ take (at + n - (at + 1)) (drop (at + 1) listed)
  path_cut =
      let e : n ≡ suc (at + n - (at + 1)) = omega (arith, h.filled k l) in
      let x : drop at listed ≡ get_or listed at 0 ∷ drop (at + 1) listed = rw (add-one at) (drop_cons listed at (omega (arith, h.filled k l, path_inside))) in
      ap (λ (m : ℕ). drop 1 (take m (drop at listed))) e
      ∙ ap (λ (r : List ℕ). drop 1 (take (suc (at + n - (at + 1))) r)) x

  left : (v : ℕ) → starts_in starts v (inner (drop at listed) (drop k lengths))
      ≡ starts_in starts v (take (at + n - (at + 1)) (drop (at + 1) listed)) + starts_in starts v (inner (drop (at + n) listed) (drop (suc k) lengths))
  left v =
      ap (λ (r : List ℕ). starts_in starts v (inner (drop at listed) r)) (drop_cons lengths k l)
      ∙ ap (starts_in starts v) (inner_cons (drop at listed) (drop (suc k) lengths) n)
      ∙ starts_append starts v (drop 1 (take n (drop at listed))) (inner (drop n (drop at listed)) (drop (suc k) lengths))
      ∙ omega (
        arith,
        ap (starts_in starts v) path_cut,
        ap (λ (r : List ℕ). starts_in starts v (inner r (drop (suc k) lengths))) (drop-drop n at listed),
      )

  pub tally_turn : (u : List ℕ) → Counted starts listed t u (at + 1) (at + n) → TallyAt starts listed lengths u (at + n) (suc k)
  tally_turn u c = record {
    most = l;
    place = omega (arith, a.place, sum_step lengths k l);
    size = c.size ∙ a.size;
    small = c.small;
    counts = λ v m. omega (arith, a.counts v m, c.counts v m, left v);
  }

pub tally_done : (starts listed lengths t : List ℕ) (at k : ℕ) → ListCountable starts listed lengths → TallyAt starts listed lengths t at k
    → length lengths ≤ k → Tallied starts listed lengths t
tally_done starts listed lengths t at k h a f = record {
  size = a.size;
  small = λ v. omega (arith, a.small v, a.place, sum_take lengths k, h.total, h.few);
  counts = λ v m.
      let e : inner (drop at listed) (drop k lengths) ≡ [] = ap (inner (drop at listed)) (drop_all lengths k f) ∙ inner_none (drop at listed) in
      omega (arith, a.counts v m, ap (starts_in starts v) e, starts_none starts v);
}

shares_are : (starts es t nodes : List ℕ) → ((c : ℕ) → c < length nodes → get_or t (get_or nodes c 0) 0 ≡ starts_in starts (get_or nodes c 0) es)
    → shares t nodes ≡ sum (map (λ v. 1 + starts_in starts v es) nodes)
shares_are starts es t [] f = refl
shares_are starts es t (v ∷ nodes) f = omega (arith, f 0 (omega arith), shares_are starts es t nodes (λ c h. f (suc c) (omega arith)))

candidates_are : (starts listed lengths nodes : List ℕ)
    → candidates (of_starts starts) (of_nodes nodes) (path_list listed lengths) ≡ sum (map (λ v. 1 + starts_in starts v (inner listed lengths)) nodes)
unfolding candidates starts_in inner
candidates_are starts listed lengths nodes = refl

pub shares_candidates : (starts listed lengths nodes t : List ℕ) → CopiesCountable nodes → Tallied starts listed lengths t
    → shares t nodes ≡ candidates (of_starts starts) (of_nodes nodes) (path_list listed lengths)
shares_candidates starts listed lengths nodes t h a =
    shares_are starts (inner listed lengths) t nodes (λ c k. a.counts (get_or nodes c 0) (h.below c k))
    ∙ sym (candidates_are starts listed lengths nodes)

-- a list that passes its tests, and the copies of a legal graph, are counted so
pub list_countable : (D : Design) (starts listed lengths : List ℕ) → DesignFits D → ListFits D (path_list listed lengths) → D.starts ≡ starts → ListCountable starts listed lengths
list_countable D starts listed lengths fit fits d = record {
  total = fits.total;
  few = fits.few_edges;
  filled = λ k h. lengths_filled listed lengths fits.filled (get_or lengths k 0) (get_d_mem lengths k 0 h);
  starts_below = subst (λ (x : List ℕ). (k : ℕ) → get_or x k 0 < 4096) d (λ k. start_below k (dec_lt k (length D.starts)));
}
  where
    start_below : (k : ℕ) → Dec (k < length D.starts) → get_or D.starts k 0 < 4096
    start_below k (yes h) = omega (arith, fit.starts_in k h, fit.few_nodes)
    start_below k (no h) = rw (get_d_past D.starts k (omega (arith, h))) (omega arith)

pub copies_countable : (D : Design) (G : Graph) (nodes : List ℕ) → DesignFits D → Legal D G → G.nodes ≡ nodes → length nodes ≤ 16384 → CopiesCountable nodes
copies_countable D G nodes fit legal g few = record {
  few = few;
  below =
      subst (λ (x : List ℕ). (c : ℕ) → c < length x → get_or x c 0 < 4096) g
      (λ c h. omega (arith, legal.below (get_or G.nodes c 0) (get_d_mem G.nodes c 0 h), fit.few_nodes));
}
