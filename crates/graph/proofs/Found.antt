-- A graph that the quick passes find to pass is well-formed.
use Prim.Native.Nat.{ℕ, ◌+◌, ◌<◌, min}
use native.Mathlib.Omega.{arith}
use mathlib.Core.Path.{◌≡◌, refl, sym, ◌∙◌}
use mathlib.Core.Bool.{Bool, true, false, not, ◌&&◌, ◌||◌}
use mathlib.Core.List.{List, []}
use lib.Dec.{T, eqb, ltb, leb, ltb→lt, lt→ltb, eqb_refl}
use lib.ListN.{length, get_or}
use Rattle.timing.specs.Lists.{all_of, count_of, upto}
use Rattle.timing.specs.Graphs.{design, graph}
use Rattle.timing.specs.WellFormed.{edge_fits}
use Rattle.theorems.proofs.Lists.{and_intro, and_left, holds}
use Rattle.graph.specs.Passes.{formed, edge_count, Lent, Clear, FlagsSet, flag, stands, edge_at, rises_at, edge_passes, Ordered, Matches, EdgesFound, joined, end_fits, copy_passes, copy_ends, lowest_after, walked}
use Rattle.graph.proofs.Walk.{at_all, walk_same}
use Rattle.graph.proofs.Flags.{flags_clear, copies_agree}
use Rattle.graph.proofs.Ends.{of_walk}
use Rattle.graph.proofs.WellFormed.{formed_by}
use Rattle.graph.proofs.Turns.{entered_all}

is_true : (b : Bool) → T b → b ≡ true
is_true true t = refl
is_true false t = absurd t

joined_true : (a b : Bool) → (T a → T b) → joined a b ≡ true
joined_true true b f = is_true b (f tt)
joined_true false b f = refl

module _ (n : ℕ) (starts ends marked nodes endpoint from to via : List ℕ) (nin nout nmarked cout : List Bool) where
  abbrev d : ℕ
  d = min (length starts) (length ends)

  abbrev m : ℕ
  m = length from

  abbrev copies : ℕ
  copies = length nodes

  abbrev node : ℕ → ℕ
  node c = get_or nodes c 0

  edge_good : Ordered copies (length starts) from to via m → ((j : ℕ) → j < m → Matches starts ends nodes from to via j) → (j : ℕ) → j < m → T (edge_passes starts ends nodes from to via j)
  edge_good o match j h =
      let s = get_or from j 0 in
      let t = get_or to j 0 in
      let k = get_or via j 0 in
      let a = ltb s copies in
      let b = ltb t copies in
      let c = ltb k (length starts) in
      let e = eqb (node s) (get_or starts k 0) in
      let f = eqb (node t) (get_or ends k 0) in
      and_intro (edge_fits (design 0 starts ends [] [] []) (graph nodes [] []) (edge_at from to via j)) (rises_at from to via j)
      (and_intro (a && b && c && e) f
      (and_intro (a && b && c) e
      (and_intro (a && b) c (and_intro a b (lt→ltb s copies (o.starts j h)) (lt→ltb t copies (o.ends j h))) (lt→ltb k (length starts) (o.names j h)))
      (rw (match j h).0 (eqb_refl (get_or starts k 0))))
      (rw (match j h).1 (eqb_refl (get_or ends k 0))))
      (o.rise j h)

  pub found : (nin₀ nout₀ nmarked₀ : List Bool) (k : ℕ) → Lent starts ends nodes endpoint from to via
      → EdgesFound starts ends nodes from to via cout k
      → Clear n nin₀ → FlagsSet nin₀ ends d nin → Clear n nout₀ → FlagsSet nout₀ starts d nout
      → Clear n nmarked₀ → FlagsSet nmarked₀ marked (length marked) nmarked
      → walked (copy_ends n nodes endpoint (flag nout) (flag nmarked) (flag cout)) (lowest_after nodes endpoint) copies 0 0 ≡ true
      → count_of (λ c. not (flag nin (node c))) (upto copies 0) + k ≡ copies
      → formed n starts ends marked nodes endpoint from to via ≡ true
  found nin₀ nout₀ nmarked₀ k lent f clearIn ins clearOut outs clearMarked marks ended all =
      sym (by (sym (is_true (all_of passes (upto m 0)) (at_all passes m (edge_good f.ordered f.matched)))))
      ∙ walk_same (copy_passes n nodes endpoint (stands ends d) (stands starts d) (stands marked (length marked)) (stands to m) (stands from m)) (copy_ends n nodes endpoint (stands starts d) (stands marked (length marked)) (stands from m)) (lowest_after nodes endpoint) copies
      (λ x c h. rw (joined_true (stands ends d (node c)) (stands to m c) (entered c h)))
      ∙ w
    where
      passes : ℕ → Bool
      passes = edge_passes starts ends nodes from to via

      same : m ≡ edge_count from to via
      same = omega (arith, lent.ends_lent, lent.names_lent)

      by : true ≡ all_of passes (upto m 0)
          → (true && walked (copy_passes n nodes endpoint (stands ends d) (stands starts d) (stands marked (length marked)) (stands to m) (stands from m)) (lowest_after nodes endpoint) copies 0 0)
          ≡ formed n starts ends marked nodes endpoint from to via
      by = rw same (formed_by n starts ends marked nodes endpoint from to via lent.counted true)

      w : walked (copy_ends n nodes endpoint (stands starts d) (stands marked (length marked)) (stands from m)) (lowest_after nodes endpoint) copies 0 0 ≡ true
      w =
          sym (copies_agree n nodes endpoint (λ v. false) (flag nout) (flag nmarked) (λ c. false) (flag cout) (λ v. false) (stands starts d) (stands marked (length marked)) (λ c. false) (stands from m)
          (λ v h. refl) (flags_clear n nout₀ starts d nout clearOut outs) (flags_clear n nmarked₀ marked (length marked) nmarked clearMarked marks) (λ c h. refl) f.left)
          ∙ ended

      there : ℕ → Bool
      there c = leb copies (c + 1) || leb (node c) (node (c + 1))

      end : ℕ → Bool
      end c = eqb (get_or endpoint c 0) 1

      fits : ℕ → Bool
      fits c = end_fits (end c) (stands starts d (node c)) (stands marked (length marked) (node c)) (stands from m c)

      below : (c : ℕ) → c < copies → node c < n
      below c h =
          let a = ltb (node c) n in
          let t = (of_walk (λ c. ltb (node c) n && there c && true && fits c) end node copies 0 0 (holds _ w)).all c (omega arith) (omega arith) in
          ltb→lt (node c) n (and_left a (there c) (and_left (a && there c) true (and_left (a && there c && true) (fits c) t)))

      entered : (c : ℕ) → c < copies → T (stands ends d (node c)) → T (stands to m c)
      entered = entered_all n starts ends nodes from to via m (flag nin) f.ordered f.matched lent.design (flags_clear n nin₀ ends d nin clearIn ins) below (omega (arith, f.turned, all))
