-- Laws of the quick passes: edges that are in range and in order, and copies with an edge in, found by counting.
use Prim.Native.Nat.{ℕ, zero, suc, ◌+◌, ◌-◌, ◌≤◌, ◌<◌, min}
use native.Mathlib.Omega.{arith}
use native.Mathlib.Numerals.{add-one}
use native.Mathlib.Decide.{ℕ_discrete}
use mathlib.Core.Path.{◌≡◌, refl, sym, ◌∙◌, ap}
use mathlib.Core.Logic.{⊎_elim}
use mathlib.Core.Bool.{Bool, true, false, not, ◌&&◌, ◌||◌}
use mathlib.Core.List.{List, [], ◌∷◌, ◌++◌}
use lib.Dec.{T, eqb, ltb, eqb→eq, ltb→lt, eqb_refl}
use lib.ListN.{length, get_or}
use borrow.Author.Count.{below_more}
use borrow.Author.Tests.{ltb-true, eqb-false}
use Rattle.timing.specs.Lists.{one_if, count_of, upto}
use Rattle.timing.proofs.Verdicts.{both_true}
use Rattle.theorems.proofs.Lists.{and_intro, and_left, or_cases, holds, mem_upto, length_upto}
use Rattle.theorems.proofs.Counting.{count_cons, count_append, count_positive, count_all}
use Rattle.theorems.proofs.Splits.{upto_next}
use Rattle.graph.specs.Passes.{stands, rises_at, Ordered, turns, Matches}
use Rattle.graph.proofs.Walk.{any_at, at_any}

-- how many pass a test, by those that pass a narrower one
one_split : (a b : Bool) → (T a → T b) → one_if b ≡ one_if a + one_if (b && not a)
one_split true true f = refl
one_split true false f = absurd (f tt)
one_split false true f = refl
one_split false false f = refl

count_split : (p q : ℕ → Bool) → ((x : ℕ) → T (p x) → T (q x)) → (l : List ℕ) → count_of q l ≡ count_of p l + count_of (λ x. q x && not (p x)) l
count_split p q f [] = refl
count_split p q f (x ∷ l) =
    omega (arith, count_cons q x l, count_cons p x l, count_cons (λ x. q x && not (p x)) x l, one_split (p x) (q x) (f x), count_split p q f l)

-- one place more
pub count_next : (p : ℕ → Bool) (n : ℕ) → count_of p (upto (n + 1) 0) ≡ count_of p (upto n 0) + one_if (p n)
count_next p n =
    let z : 0 + n ≡ n = omega arith in
    let e : upto (n + 1) 0 ≡ upto n 0 ++ (n ∷ []) = rw (add-one n) (upto_next n 0 ∙ ap (λ (k : ℕ). upto n 0 ++ (k ∷ [])) z) in
    omega (arith, ap (count_of p) e, count_append p (upto n 0) (n ∷ []), count_cons p n [])

not_here : (b : Bool) → (T b → ⊥) → T (not b)
not_here true f = f tt
not_here false f = tt

here_not : (b : Bool) → (T (not b) → ⊥) → T b
here_not true f = tt
here_not false f = f tt

module _ (copies known : ℕ) (from to via : List ℕ) where
  -- one edge more
  pub ordered_more : (i : ℕ) → Ordered copies known from to via i → (ltb (get_or from i 0) copies && ltb (get_or to i 0) copies && ltb (get_or via i 0) known) ≡ true → T (rises_at from to via i) → Ordered copies known from to via (i + 1)
  ordered_more i o e r =
      let b = both_true (ltb (get_or from i 0) copies && ltb (get_or to i 0) copies) (ltb (get_or via i 0) known) e in
      let a = both_true (ltb (get_or from i 0) copies) (ltb (get_or to i 0) copies) b.0 in
      record {
        starts = below_more (λ (j : ℕ). get_or from j 0 < copies) i o.starts (ltb-true (get_or from i 0) copies a.0);
        ends = below_more (λ (j : ℕ). get_or to j 0 < copies) i o.ends (ltb-true (get_or to i 0) copies a.1);
        names = below_more (λ (j : ℕ). get_or via j 0 < known) i o.names (ltb-true (get_or via i 0) known b.1);
        rise = below_more (λ (j : ℕ). T (rises_at from to via j)) i o.rise r;
      }

  pub rises_here : (i : ℕ) → 1 ≤ i → (ltb (get_or to (i - 1) 0) (get_or to i 0) || (eqb (get_or to (i - 1) 0) (get_or to i 0) && ltb (get_or via (i - 1) 0) (get_or via i 0))) ≡ true → T (rises_at from to via i)
  rises_here zero h e = absurd (omega arith)
  rises_here (suc k) h e =
      let z : suc k - 1 ≡ k = omega arith in
      holds (rises_at from to via (suc k)) (rw z at e)

  -- fewer edges
  fewer : (m k : ℕ) → k ≤ m → Ordered copies known from to via m → Ordered copies known from to via k
  fewer m k h o = record {
    starts = λ j l. o.starts j (omega arith);
    ends = λ j l. o.ends j (omega arith);
    names = λ j l. o.names j (omega arith);
    rise = λ j l. o.rise j (omega arith);
  }

  next_end : (m k : ℕ) → Ordered copies known from to via m → suc k < m → get_or to k 0 ≤ get_or to (suc k) 0
  next_end m k o h =
      let t = get_or to k 0 in
      let u = get_or to (suc k) 0 in
      let later = ltb (get_or via k 0) (get_or via (suc k) 0) in
      ⊎_elim (λ a. omega (arith, ltb→lt t u a)) (λ a. omega (arith, eqb→eq t u (and_left (eqb t u) later a))) (or_cases (ltb t u) (eqb t u && later) (o.rise (suc k) h))

  ends_rise : (m j k : ℕ) → Ordered copies known from to via m → j ≤ k → k < m → get_or to j 0 ≤ get_or to k 0
  ends_rise m j zero o l h =
      let z : j ≡ 0 = omega arith in
      omega (arith, ap (λ (a : ℕ). get_or to a 0) z)
  ends_rise m j (suc k) o l h =
      elim (ℕ_discrete j (suc k)) [
        | yes e ↦ omega (arith, ap (λ (a : ℕ). get_or to a 0) e)
        | no d ↦ omega (arith, ends_rise m j k o (omega arith) (omega arith), next_end m k o h)
      ]

  -- edges end at as many copies as there are turns
  pub turns_count : (m : ℕ) → Ordered copies known from to via m → turns to m ≤ count_of (stands to m) (upto copies 0)
  turns_count zero o = omega arith
  turns_count (suc zero) o =
      count_positive (stands to 1) (upto copies 0) (mem_upto copies 0 (get_or to 0 0) (omega arith) (omega (arith, o.ends 0 (omega arith))))
      (at_any (λ j. eqb (get_or to j 0) (get_or to 0 0)) 1 0 (omega arith) (eqb_refl (get_or to 0 0)))
  turns_count (suc (suc k)) o = go (eqb (get_or to k 0) u) refl (turns_count (suc k) (fewer (suc (suc k)) (suc k) (omega arith) o))
    where
      u : ℕ
      u = get_or to (suc k) 0

      before : ℕ → Bool
      before = stands to (suc k)

      now : ℕ → Bool
      now = stands to (suc (suc k))

      split : count_of now (upto copies 0) ≡ count_of before (upto copies 0) + count_of (λ x. now x && not (before x)) (upto copies 0)
      split =
          count_split before now
          (λ x s.
          let r = any_at (λ j. eqb (get_or to j 0) x) (suc k) s in
          at_any (λ j. eqb (get_or to j 0) x) (suc (suc k)) r.0 (omega (arith, r.1)) r.2)
          (upto copies 0)

      new : (get_or to k 0 ≡ u → ⊥) → T (not (before u))
      new d =
          not_here (before u)
          (λ s.
          let r = any_at (λ j. eqb (get_or to j 0) u) (suc k) s in
          d (omega (arith, eqb→eq (get_or to r.0 0) u r.2, ends_rise (suc (suc k)) r.0 k o (omega (arith, r.1)) (omega arith), next_end (suc (suc k)) k o (omega arith))))

      go : (b : Bool) → eqb (get_or to k 0) u ≡ b → turns to (suc k) ≤ count_of before (upto copies 0) → turns to (suc (suc k)) ≤ count_of now (upto copies 0)
      go true e few = rw e (omega (arith, split))
      go false e few =
          let more =
          count_positive (λ x. now x && not (before x)) (upto copies 0) (mem_upto copies 0 u (omega arith) (omega (arith, o.ends (suc k) (omega arith))))
          (and_intro (now u) (not (before u)) (at_any (λ j. eqb (get_or to j 0) u) (suc (suc k)) (suc k) (omega arith) (eqb_refl u)) (new (eqb-false (get_or to k 0) u e))) in
          rw e (omega (arith, split, more))

pub turns_next : (l : List ℕ) (i : ℕ) → 1 ≤ i → turns l (i + 1) ≡ turns l i + one_if (not (eqb (get_or l (i - 1) 0) (get_or l i 0)))
turns_next l zero h = absurd (omega arith)
turns_next l (suc k) h =
    let z : suc k - 1 ≡ k = omega arith in
    rw (add-one (suc k), z)

module _ (n : ℕ) (starts ends nodes from to via : List ℕ) (m : ℕ) (node_in : ℕ → Bool) where
  abbrev d : ℕ
  d = min (length starts) (length ends)

  abbrev node : ℕ → ℕ
  node c = get_or nodes c 0

  -- Copies with an edge in are of nodes with one. If these and the copies of nodes without one are all copies, each copy of a node with an edge
  -- in has one.
  pub entered_all : Ordered (length nodes) (length starts) from to via m → ((j : ℕ) → j < m → Matches starts ends nodes from to via j)
      → length ends ≡ length starts
      → ((v : ℕ) → v < n → node_in v ≡ stands ends d v) → ((c : ℕ) → c < length nodes → node c < n)
      → count_of (λ c. not (node_in (node c))) (upto (length nodes) 0) + turns to m ≡ length nodes
      → (c : ℕ) → c < length nodes → T (stands ends d (node c)) → T (stands to m c)
  entered_all o match same flags below all c h t =
      here_not (stands to m c)
      (λ none.
      let some = count_positive missing (upto copies 0) (mem_upto copies 0 c (omega arith) (omega arith)) (and_intro (node_in (node c)) (not (stands to m c)) (rw (flags (node c) (below c h)) t) none) in
      omega (arith, some, split, sources, turns_count copies (length starts) from to via m o, length_upto copies 0, count_all (upto copies 0)))
    where
      copies : ℕ
      copies = length nodes

      missing : ℕ → Bool
      missing x = node_in (node x) && not (stands to m x)

      entered : (x : ℕ) → T (stands to m x) → T (node_in (node x))
      entered x s =
          let r = any_at (λ j. eqb (get_or to j 0) x) m s in
          let j = r.0 in
          let e : get_or to j 0 ≡ x = eqb→eq (get_or to j 0) x r.2 in
          let at : get_or ends (get_or via j 0) 0 ≡ node x = sym (match j r.1).1 ∙ ap node e in
          rw (flags (node x) (below x (omega (arith, e, o.ends j r.1))))
          (at_any (λ k. eqb (get_or ends k 0) (node x)) d (get_or via j 0) (omega (arith, o.names j r.1)) (rw at (eqb_refl (node x))))

      split : count_of (λ x. node_in (node x)) (upto copies 0) ≡ count_of (stands to m) (upto copies 0) + count_of missing (upto copies 0)
      split = count_split (stands to m) (λ x. node_in (node x)) entered (upto copies 0)

      sources : count_of (λ (x : ℕ). true) (upto copies 0) ≡ count_of (λ x. node_in (node x)) (upto copies 0) + count_of (λ x. not (node_in (node x))) (upto copies 0)
      sources = count_split (λ x. node_in (node x)) (λ x. true) (λ x u. tt) (upto copies 0)
