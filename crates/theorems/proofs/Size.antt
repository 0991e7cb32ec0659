-- Z: how many copies a true graph has. Every copy is one of the candidates that test 31 counts, and over the design these
-- are the nodes and the listed edges that are not first in their path.
use Prim.Native.Nat.{ℕ, zero, suc, ◌+◌, ◌≤◌, ◌<◌}
use mathlib.Core.Path.{◌≡◌, refl, sym, ap, ap₂, ◌∙◌, subst}
use mathlib.Core.Logic.{inl, inr, ⊎_elim}
use mathlib.Core.Bool.{Bool, true, false}
use mathlib.Core.List.Memᴰ
use mathlib.Core.List.{List, [], ◌∷◌, ◌++◌, map, flat_map, Memᴰ, cons≢nil}
use Rattle.timing.specs.Answers.{Passed}
use native.Mathlib.Omega.{arith}
use lib.Dec.{T, eqb, eqb_refl}
use lib.ListN.{length, get_or, take, drop, length-append, length-map, length-take, length-drop}
use borrow.Author.Tests.{eqb-true, eqb-false}
use Rattle.timing.specs.Lists.{one_if, is_nil, keep, count_of, upto, sum}
use Rattle.timing.specs.Graphs.{Design, edge_start, Edge, Graph, design_graph, node_of, Run, complete_runs, names}
use Rattle.timing.specs.Marks.{PathList, cut, paths_of, permitted, suffixes, tails_of, tails, mark}
use Rattle.timing.specs.TrueGraphs.{Copy, copy_before, copy_at, copies_on, permitted_runs, copies, true_graph}
use Rattle.timing.specs.Tests.{design_sizes, list_sizes, design_tests, list_tests, candidates}
use Rattle.theorems.proofs.Lists.{of_flat_map, mem_keep, of_keep, length_upto}
use Rattle.theorems.proofs.Marks.{Prefix, Tail, mark_tail, mark_prefix}
use Rattle.theorems.proofs.Sorting.{sort_mem, sort_sorted}
use Rattle.theorems.proofs.Runs.{Rising, Way, complete_runs_lem}
use Rattle.theorems.proofs.Counting.{count_cons, count_append, Nodup, length_le, sorted_nodup}
use Rattle.theorems.proofs.Tested.{DesignFits, design_fits, ListFits, list_fits}
use Rattle.theorems.proofs.Legal.{Legal, fits_legal}
use Rattle.theorems.proofs.Copies.{copy_order}

-- the listed edges that are not first in their path
abbrev pub inner : List (List ℕ) → List ℕ
inner K = flat_map (λ p. drop 1 p) K

-- candidates, over a plain list of paths
abbrev pub candidates_of : Design → Graph → List (List ℕ) → ℕ
candidates_of D G K = sum (map (λ v. 1 + count_of (λ k. eqb (edge_start D k) v) (inner K)) G.nodes)

-- a tail whose first edge starts at v
abbrev from : Design → ℕ → List ℕ → Bool
from D v [] = false
from D v (k ∷ t) = eqb (edge_start D k) v

-- the candidates themselves: each copy, from number i on, with the empty mark and with each tail that starts at its node
abbrev copy : ℕ → List ℕ → Copy
copy c m = record { at = c; mark = m }

module _ (D : Design) (L : List (List ℕ)) where
  abbrev slots_at : ℕ → ℕ → List Copy
  slots_at c v = copy c [] ∷ map (copy c) (keep (from D v) (tails L))

  abbrev slots : ℕ → List ℕ → List Copy
  slots i [] = []
  slots i (v ∷ vs) = slots_at i v ++ slots (suc i) vs

  mem_slots : (i c : ℕ) (vs : List ℕ) (x : Copy) → c < length vs → Memᴰ x (slots_at (i + c) (get_or vs c 0)) → Memᴰ x (slots i vs)
  mem_slots i c [] x h m = absurd (omega arith)
  mem_slots i zero (v ∷ vs) x h m =
      let z : i + 0 ≡ i = omega arith in
      Memᴰ.append_left (slots (suc i) vs) (subst (λ (j : ℕ). Memᴰ x (slots_at j v)) z m)
  mem_slots i (suc c) (v ∷ vs) x h m =
      let z : i + suc c ≡ suc i + c = omega arith in
      Memᴰ.append_right (slots_at i v) (mem_slots (suc i) c vs x (omega arith) (subst (λ (j : ℕ). Memᴰ x (slots_at j (get_or vs c 0))) z m))

  length_slots : (i : ℕ) (vs : List ℕ) → length (slots i vs) ≡ sum (map (λ v. 1 + count_of (from D v) (tails L)) vs)
  length_slots i [] = refl
  length_slots i (v ∷ vs) =
      omega (arith, length-append (slots_at i v) (slots (suc i) vs), length-map (keep (from D v) (tails L)) (copy i), length_slots (suc i) vs)

-- a tail starts at a node where its first edge does, so that tails are counted by edges
count_suffixes : (D : Design) (v : ℕ) (s : List ℕ) → count_of (from D v) (suffixes s) ≡ count_of (λ k. eqb (edge_start D k) v) s
count_suffixes D v [] = refl
count_suffixes D v (a ∷ s) =
    omega (arith, count_cons (from D v) (a ∷ s) (suffixes s), count_cons (λ k. eqb (edge_start D k) v) a s, count_suffixes D v s)

count_tails_of : (D : Design) (v : ℕ) (p : List ℕ) → count_of (from D v) (tails_of p) ≡ count_of (λ k. eqb (edge_start D k) v) (drop 1 p)
count_tails_of D v [] = refl
count_tails_of D v (a ∷ s) = count_suffixes D v s

count_tails : (D : Design) (v : ℕ) (L : List (List ℕ)) → count_of (from D v) (tails L) ≡ count_of (λ k. eqb (edge_start D k) v) (inner L)
unfolding tails flat_map
count_tails D v [] = refl
count_tails D v (p ∷ L) =
    omega (
      arith,
      count_append (from D v) (tails_of p) (tails L),
      count_append (λ k. eqb (edge_start D k) v) (drop 1 p) (inner L),
      count_tails_of D v p,
      count_tails D v L,
    )

-- sums
sum_same : {A : Type 0} (f g : A → ℕ) (l : List A) → ((x : A) → f x ≡ g x) → sum (map f l) ≡ sum (map g l)
sum_same f g [] h = refl
sum_same f g (x ∷ l) h = omega (arith, h x, sum_same f g l h)

sum_add : {A : Type 0} (f g : A → ℕ) (l : List A) → sum (map (λ x. f x + g x) l) ≡ sum (map f l) + sum (map g l)
sum_add f g [] = omega arith
sum_add f g (x ∷ l) = omega (arith, sum_add f g l)

sum_zero : {A : Type 0} (l : List A) → sum (map (λ (x : A). 0) l) ≡ 0
sum_zero [] = refl
sum_zero (x ∷ l) = omega (arith, sum_zero l)

sum_ones : {A : Type 0} (l : List A) → sum (map (λ (x : A). 1) l) ≡ length l
sum_ones [] = refl
sum_ones (x ∷ l) = omega (arith, sum_ones l)

-- what a path shows is where it goes on to where paths end
shown_on : (G : Graph) → Rising G → (L : List (List ℕ)) (c : ℕ) (es : List Edge) (x : Copy) → c < length G.nodes → Way G c es → Memᴰ x (copies_on L c es)
    → (d : ℕ) × (fs : List Edge) × (d < length G.nodes) × Way G d fs × (x ≡ copy_at L d fs)
shown_on G up L c [] x h w m = ⊎_elim (λ (q : x ≡ copy_at L c []). (c, [], h, w, q)) (λ k. absurd (Memᴰ.not-nil k)) (Memᴰ.cases_cons m)
shown_on G up L c (e ∷ es) x h w m =
    ⊎_elim
    (λ (q : x ≡ copy_at L c (e ∷ es)). (c, e ∷ es, h, w, q))
    (λ k. shown_on G up L e.end es x (up.inside e w.0) w.2 k)
    (Memᴰ.cases_cons m)

pub of_copies : (G : Graph) → Rising G → (L : List (List ℕ)) (x : Copy) → Memᴰ x (copies L G)
    → (d : ℕ) × (fs : List Edge) × (d < length G.nodes) × Way G d fs × (x ≡ copy_at L d fs)
unfolding copies permitted_runs
of_copies G up L x m =
    let on : Run → List Copy = λ r. copies_on L r.first r.edges in
    let q = of_flat_map on {y = x} (permitted_runs L G) ((sort_mem copy_before copy_order x (flat_map on (permitted_runs L G))).0 m) in
    let k = of_keep (λ (r : Run). permitted L (names r.edges)) (complete_runs G) q.1 in
    let w = (complete_runs_lem G up q.0).0 k.0 in
    shown_on G up L q.0.first q.0.edges x w.0 w.2 q.2

pub copies_nodup : (G : Graph) (L : List (List ℕ)) → Nodup (copies L G)
unfolding copies
copies_nodup G L =
    sorted_nodup copy_before copy_order (copies L G)
    (sort_sorted copy_before copy_order (flat_map (λ r. copies_on L r.first r.edges) (permitted_runs L G)))

-- so its mark is a candidate
module _ (D : Design) (G : Graph) (legal : Legal D G) (L : List (List ℕ)) where
  mark_slot : (c : ℕ) (es : List Edge) (m : List ℕ) → Way G c es → Tail L m → Prefix m (names es) → Memᴰ (copy c m) (slots_at D L c (node_of G c))
  mark_slot c es [] w t p = Memᴰ.head refl
  mark_slot c [] (k ∷ m) w t p = absurd p
  mark_slot c (e ∷ es) (k ∷ m) w (inl q) p = absurd (cons≢nil q)
  mark_slot c (e ∷ es) (k ∷ m) w (inr t) p =
      let here : edge_start D k ≡ node_of G c = ap (edge_start D) p.0 ∙ sym (legal.starts e w.0) ∙ ap (node_of G) w.1 in
      Memᴰ.tail (Memᴰ.map (copy c) (mem_keep (from D (node_of G c)) t (rw here (eqb_refl (node_of G c)))))

  copy_slot : (x : Copy) → Memᴰ x (copies L G) → Memᴰ x (slots D L 0 G.nodes)
  copy_slot x m =
      let r = of_copies G legal.rising L x m in
      let z : r.0 ≡ 0 + r.0 = omega arith in
      let v = node_of G r.0 in
      let here = mark_slot r.0 r.1 (mark L (names r.1)) r.3 (mark_tail L (names r.1)) (mark_prefix L (names r.1)) in
      mem_slots D L 0 r.0 G.nodes x r.2
      (subst (λ (j : ℕ). Memᴰ x (slots_at D L j v)) z (subst (λ (y : Copy). Memᴰ y (slots_at D L r.0 v)) (sym r.4) here))

  pub copies_few : length (copies L G) ≤ candidates_of D G L
  copies_few =
      omega (
        arith,
        length_le (copies L G) (slots D L 0 G.nodes) (copies_nodup G L) copy_slot,
        length_slots D L 0 G.nodes,
        sum_same (λ v. 1 + count_of (from D v) (tails L)) (λ v. 1 + count_of (λ k. eqb (edge_start D k) v) (inner L)) G.nodes
            (λ v. ap (λ (x : ℕ). 1 + x) (count_tails D v L)),
      )

  -- Z over any list of paths
  pub size : length (true_graph G L).nodes ≤ candidates_of D G L
  unfolding true_graph
  size = omega (arith, copies_few, length-map (copies L G) (λ c. node_of G c.at))

-- Z for a list of paths as it is lent
pub size_candidates : (D : Design) (G : Graph) (PL : PathList) → Legal D G → length (true_graph G (paths_of PL)).nodes ≤ candidates D G PL
unfolding candidates
size_candidates D G PL legal = size D G legal (paths_of PL)

-- one of the numbers from i on is x, and just one
sum_miss : (x n i : ℕ) → x < i → sum (map (λ v. one_if (eqb x v)) (upto n i)) ≡ 0
sum_miss x zero i h = refl
sum_miss x (suc n) i h = go (eqb x i) refl (sum_miss x n (suc i) (omega arith))
  where
    go : (b : Bool) → eqb x i ≡ b → sum (map (λ v. one_if (eqb x v)) (upto n (suc i))) ≡ 0 → one_if b + sum (map (λ v. one_if (eqb x v)) (upto n (suc i))) ≡ 0
    go true q f = absurd (omega (arith, eqb-true x i q))
    go false q f = omega arith

sum_hit : (x n i : ℕ) → i ≤ x → x < i + n → sum (map (λ v. one_if (eqb x v)) (upto n i)) ≡ 1
sum_hit x zero i h k = absurd (omega arith)
sum_hit x (suc n) i h k = go (eqb x i) refl (λ l. sum_hit x n (suc i) l (omega arith))
  where
    go : (b : Bool) → eqb x i ≡ b → (suc i ≤ x → sum (map (λ v. one_if (eqb x v)) (upto n (suc i))) ≡ 1)
        → one_if b + sum (map (λ v. one_if (eqb x v)) (upto n (suc i))) ≡ 1
    go true q f = let e : x ≡ i = eqb-true x i q in omega (arith, sum_miss x n (suc i) (omega arith))
    go false q f = let d : x ≡ i → ⊥ = eqb-false x i q in omega (arith, f (omega arith))

-- a list's elements, counted by their value
spread : {A : Type 0} (f : A → ℕ) (n : ℕ) (l : List A) → ((x : A) → Memᴰ x l → f x < n)
    → sum (map (λ v. count_of (λ x. eqb (f x) v) l) (upto n 0)) ≡ length l
spread f n [] h = sum_zero (upto n 0)
spread f n (x ∷ l) h =
    let below = spread f n l (λ y m. h y (Memᴰ.tail m)) in
    let lt : f x < n = h x (Memᴰ.head refl) in
    omega (
      arith,
      below,
      sum_hit (f x) n 0 (omega arith) (omega arith),
      sum_same (λ v. count_of (λ y. eqb (f y) v) (x ∷ l)) (λ v. one_if (eqb (f x) v) + count_of (λ y. eqb (f y) v) l) (upto n 0)
          (λ v. count_cons (λ y. eqb (f y) v) x l),
      sum_add (λ v. one_if (eqb (f x) v)) (λ v. count_of (λ y. eqb (f y) v) l) (upto n 0),
    )

-- paths that are not empty, of edges of the design
pub record Paths (D : Design) (K : List (List ℕ)) : Type 0 where
  pub filled : (p : List ℕ) → Memᴰ p K → is_nil p ≡ false
  pub named : (p : List ℕ) → Memᴰ p K → (k : ℕ) → Memᴰ k p → k < length D.starts

pub paths_append : (D : Design) (K L : List (List ℕ)) → Paths D K → Paths D L → Paths D (K ++ L)
paths_append D K L k l =
    record {
      filled = λ p m. ⊎_elim (k.filled p) (l.filled p) (Memᴰ.append_cases K m);
      named = λ p m. ⊎_elim (k.named p) (l.named p) (Memᴰ.append_cases K m);
    }

mem_rest : {x : ℕ} (p : List ℕ) → Memᴰ x (drop 1 p) → Memᴰ x p
mem_rest [] m = m
mem_rest (a ∷ p) m = Memᴰ.tail m

-- one edge of each path is its first
length_filled : (p : List ℕ) → is_nil p ≡ false → length (drop 1 p) + 1 ≡ length p
length_filled [] e = absurd (subst T e tt)
length_filled (a ∷ p) e = omega arith

length_inner : (K : List (List ℕ)) → ((p : List ℕ) → Memᴰ p K → is_nil p ≡ false) → length (inner K) + length K ≡ sum (map length K)
unfolding flat_map
length_inner [] f = omega arith
length_inner (p ∷ K) f =
    omega
    (arith, length-append (drop 1 p) (inner K), length_filled p (f p (Memᴰ.head refl)), length_inner K (λ q m. f q (Memᴰ.tail m)))

-- candidates over the design: its nodes, and the listed edges that are not first
pub candidates_whole : (D : Design) (K : List (List ℕ)) → DesignFits D → Paths D K
    → candidates_of D (design_graph D) K + length K ≡ D.nodes + sum (map length K)
unfolding design_graph
candidates_whole D K fit ok =
    let inside : (k : ℕ) → Memᴰ k (inner K) → edge_start D k < D.nodes
    = λ k m.
    let r = of_flat_map (λ (p : List ℕ). drop 1 p) K m in
    fit.starts_in k (ok.named r.0 r.1 k (mem_rest r.0 r.2)) in
    omega (
      arith,
      spread (edge_start D) D.nodes (inner K) inside,
      length_inner K ok.filled,
      sum_add (λ v. 1) (λ v. count_of (λ k. eqb (edge_start D k) v) (inner K)) (upto D.nodes 0),
      sum_ones (upto D.nodes 0),
      length_upto D.nodes 0,
    )

-- Z over the design and a whole list: at most n + edges - paths copies
pub size_whole : (D : Design) (K : List (List ℕ)) → DesignFits D → Paths D K
    → length (true_graph (design_graph D) K).nodes + length K ≤ D.nodes + sum (map length K)
size_whole D K fit ok = omega (arith, size D (design_graph D) (fits_legal D fit) K, candidates_whole D K fit ok)

-- the paths of a list as it is lent have the lengths that it gives
cut_lengths : (es ls : List ℕ) → sum ls ≤ length es → map length (cut es ls) ≡ ls
cut_lengths es [] h = refl
cut_lengths es (k ∷ ls) h =
    let first : length (take k es) ≡ k = omega (arith, length-take k es) in
    ap₂ ◌∷◌ first (cut_lengths (drop k es) ls (omega (arith, length-drop k es)))

cut_count : (es ls : List ℕ) → length (cut es ls) ≡ length ls
cut_count es [] = refl
cut_count es (k ∷ ls) = ap suc (cut_count (drop k es) ls)

pub list_paths : (D : Design) (L : PathList) → ListFits D L → Paths D (paths_of L)
list_paths D L fit = record { filled = fit.filled; named = fit.named }

pub candidates_design : (D : Design) (PL : PathList)
    → design_sizes D ≡ Passed → list_sizes PL ≡ Passed → design_tests D ≡ Passed → list_tests D PL ≡ Passed
    → candidates D (design_graph D) PL + length PL.lengths ≡ D.nodes + length PL.edges
unfolding candidates
candidates_design D PL s ls t lt =
    let fit = list_fits D PL ls lt in
    omega (
      arith,
      candidates_whole D (paths_of PL) (design_fits D s t) (list_paths D PL fit),
      cut_count PL.edges PL.lengths,
      fit.total,
      ap sum (cut_lengths PL.edges PL.lengths (omega (arith, fit.total))),
    )
