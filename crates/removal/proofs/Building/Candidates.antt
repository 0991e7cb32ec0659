-- There are not more slots than candidates of test 31: a mark at a node is a tail that starts there, and the tails are as many as the listed edges that
-- are not first in their path.
use Prim.Native.Nat.{ℕ, suc, ◌+◌, ◌≤◌, ◌<◌}
use native.Mathlib.Omega.{arith}
use mathlib.Core.Path.{◌≡◌, refl, ap, ◌∙◌}
use mathlib.Core.List.{List, [], ◌∷◌, map, flat_map}
use lib.Dec.{eqb}
use lib.ListN.{length, get_or, drop}
use Rattle.timing.specs.Lists.{count_of, upto, sum}
use Rattle.timing.specs.Graphs.{Design, edge_start, Graph, node_of}
use Rattle.timing.specs.Marks.{PathList, path_list, paths_of, suffixes, tails_of, tails}
use Rattle.timing.specs.Tests.{candidates}
use Rattle.theorems.proofs.Counting.{count_cons, count_append}
use Rattle.removal.specs.Classes.{Filled}
use Rattle.removal.specs.Counts.{of_starts, of_nodes}
use Rattle.removal.proofs.Listing.MarkLaws.{starts_with, marks_few}
use Rattle.removal.specs.Slots.{slots, slot_base, slots_of}

-- a suffix for each edge of a path, which it begins with
suffix_count : (starts : List ℕ) (v : ℕ) (p : List ℕ) → count_of (starts_with starts v) (suffixes p) ≡ count_of (λ k. eqb (get_or starts k 0) v) p
suffix_count starts v [] = refl
suffix_count starts v (a ∷ p) =
    omega (arith, count_cons (starts_with starts v) (a ∷ p) (suffixes p), count_cons (λ k. eqb (get_or starts k 0) v) a p, suffix_count starts v p)

tails_count : (starts : List ℕ) (v : ℕ) (p : List ℕ) → count_of (starts_with starts v) (tails_of p) ≡ count_of (λ k. eqb (get_or starts k 0) v) (drop 1 p)
tails_count starts v [] = refl
tails_count starts v (a ∷ p) = suffix_count starts v p

inner_count : (starts : List ℕ) (v : ℕ) (L : List (List ℕ)) → count_of (starts_with starts v) (tails L) ≡ count_of (λ k. eqb (get_or starts k 0) v) (flat_map (λ p. drop 1 p) L)
unfolding tails flat_map
inner_count starts v [] = refl
inner_count starts v (p ∷ L) =
    omega (
      arith,
      count_append (starts_with starts v) (tails_of p) (tails L),
      count_append (λ k. eqb (get_or starts k 0) v) (drop 1 p) (flat_map (λ p. drop 1 p) L),
      tails_count starts v p,
      inner_count starts v L,
    )

sum_nodes : (f g : ℕ → ℕ) (nodes : List ℕ) (k : ℕ) → ((c : ℕ) → c < length nodes → f (k + c) ≤ g (get_or nodes c 0))
    → sum (map f (upto (length nodes) k)) ≤ sum (map g nodes)
sum_nodes f g [] k e = omega arith
sum_nodes f g (v ∷ nodes) k e =
    let here : f k ≡ f (k + 0) = ap f (omega arith) in
    omega (
      arith,
      here,
      e 0 (omega arith),
      sum_nodes f g nodes (suc k) (λ c h. let next : f (suc k + c) ≡ f (k + suc c) = ap f (omega arith) in omega (arith, next, e (suc c) (omega arith))),
    )

pub slots_candidates : (D : Design) (L : PathList) (G : Graph) (B : ℕ → ℕ) → Filled (paths_of L) → ((c : ℕ) → c < length G.nodes → B c ≡ slots_of D L G c)
    → slot_base B (length G.nodes) ≤ candidates D G L
unfolding candidates slots_of
slots_candidates D L G B filled e =
    sum_nodes (slots B) (λ v. 1 + count_of (λ k. eqb (edge_start D k) v) (flat_map (λ p. drop 1 p) (paths_of L))) G.nodes 0
    (λ c h.
    let z : slots B (0 + c) ≡ slots B c = ap (slots B) (omega arith) in
    omega (arith, z, e c h, marks_few D.starts (paths_of L) filled (node_of G c), inner_count D.starts (node_of G c) (paths_of L)))

-- each copy is a candidate
copies_sum : (f : ℕ → ℕ) (nodes : List ℕ) → length nodes ≤ sum (map (λ v. 1 + f v) nodes)
copies_sum f [] = omega arith
copies_sum f (v ∷ nodes) = omega (arith, copies_sum f nodes)

pub copies_candidates : (D : Design) (G : Graph) (L : PathList) → length G.nodes ≤ candidates D G L
unfolding candidates
copies_candidates D G L = copies_sum _ G.nodes

-- how many candidates there are goes by the lent slices alone
candidates_plain : (D : Design) (G : Graph) (L : PathList) → candidates D G L ≡ candidates (of_starts D.starts) (of_nodes G.nodes) L
unfolding candidates
candidates_plain D G L = refl

pub candidates_slices : (D : Design) (L : PathList) (G : Graph) (starts listed lengths nodes : List ℕ) → D.starts ≡ starts → L ≡ path_list listed lengths → G.nodes ≡ nodes
    → candidates D G L ≡ candidates (of_starts starts) (of_nodes nodes) (path_list listed lengths)
candidates_slices D L G starts listed lengths nodes d e g =
    ap (λ (K : PathList). candidates D G K) e
    ∙ candidates_plain D G (path_list listed lengths)
    ∙ ap (λ (x : List ℕ). candidates (of_starts x) (of_nodes G.nodes) (path_list listed lengths)) d
    ∙ ap (λ (x : List ℕ). candidates (of_starts starts) (of_nodes x) (path_list listed lengths)) g
