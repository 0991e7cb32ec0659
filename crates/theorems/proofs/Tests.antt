-- What the tests of a design and of a list can refuse with: their numbers, and places that are counted before they are looked at.
use Prim.Native.Nat.{ℕ, zero, suc, ◌+◌, ◌≤◌, ◌<◌}
use native.Mathlib.Omega.{arith}
use mathlib.Core.Path.{◌≡◌, refl, subst}
use mathlib.Core.Bool.{Bool, true, false, not, cond}
use mathlib.Core.List.{List}
use Rattle.std.specs.Prelude.{Err}
use Rattle.timing.specs.Answers.{Verdict, Passed}
use lib.Dec.{ltb, leb, ltb→lt, leb→le, nleb→lt}
use lib.ListN.{length, get_or}
use Rattle.timing.specs.declared.Refusal.{Refusal}
use Rattle.timing.specs.Lists.{upto}
use Rattle.timing.specs.Graphs.{Design}
use Rattle.timing.specs.Marks.{PathList, paths_of}
use Rattle.timing.specs.Refusals.{refusal, refusal_within, unless, first_bad, first_fault, ◌then◌}
use Rattle.timing.specs.Tests.{node_count, design_counts, strays, falls, out_of_range, early_above_late, rises_not, wrong_marked, design_tests, list_counts, meets, empty_at, first_unknown, first_break, list_tests}
use Rattle.timing.proofs.Verdicts.{then_passed, unless_passed, Every, every_then, every_unless, every_bad, every_fault}
use Rattle.theorems.proofs.Lists.{holds, not_false, neither_true, length_upto}

passes_le : (k a b : ℕ) → unless k (leb a b) ≡ Passed → a ≤ b
passes_le k a b e = leb→le a b (holds (leb a b) (unless_passed k (leb a b) e))

-- a marked node that 16 does not refuse: it is below n, and above the one before
pub marked_right : (D : Design) (i : ℕ) → wrong_marked D i ≡ false
    → (get_or D.marked i 0 < D.nodes) × ((j : ℕ) → i ≡ suc j → get_or D.marked j 0 < get_or D.marked i 0)
marked_right D i e =
    let inside = ltb (get_or D.marked i 0) D.nodes in
    let r = neither_true (not inside) (rises_not D.marked i) e in
    (ltb→lt _ _ (not_false inside r.0), above i r.1)
  where
    above : (i : ℕ) → rises_not D.marked i ≡ false → (j : ℕ) → i ≡ suc j → get_or D.marked j 0 < get_or D.marked i 0
    above zero e j q = absurd (omega arith)
    above (suc i) e j q =
        subst (λ (x : ℕ). get_or D.marked x 0 < get_or D.marked (suc i) 0) (omega arith) (nleb→lt (get_or D.marked (suc i) 0) (get_or D.marked i 0) (rw e tt))

-- numbers that rise are not below their indices
not_below : (marked : List ℕ) (i : ℕ) → ((j : ℕ) → i ≡ suc j → get_or marked j 0 < get_or marked i 0) → ((j : ℕ) → i ≡ suc j → j ≤ get_or marked j 0)
    → i ≤ get_or marked i 0
not_below marked zero above before = omega arith
not_below marked (suc j) above before = omega (arith, above j refl, before j refl)

module _ (P : Refusal → Type 0) where
  -- 16 comes at an index that is at most n: the marked nodes before it rise below n, and so there are at most n of them
  every_marked : (D : Design) (k i : ℕ) → i ≤ D.nodes → ((j : ℕ) → i ≡ suc j → j ≤ get_or D.marked j 0) → ((j : ℕ) → j ≤ D.nodes → P (refusal 16 j))
      → Every P (first_bad 16 (wrong_marked D) i (upto k i))
  every_marked D zero i a b h = tt
  every_marked D (suc k) i a b h = go (wrong_marked D i) refl (λ c d. every_marked D k (suc i) c d h)
    where
      go : (w : Bool) → wrong_marked D i ≡ w
          → (suc i ≤ D.nodes → ((j : ℕ) → suc i ≡ suc j → j ≤ get_or D.marked j 0) → Every P (first_bad 16 (wrong_marked D) (suc i) (upto k (suc i))))
          → Every P (cond w (Err (refusal 16 i)) (first_bad 16 (wrong_marked D) (suc i) (upto k (suc i))))
      go true e below = h i a
      go false e below =
          let r = marked_right D i e in
          let high = not_below D.marked i r.1 b in
          below (omega (arith, high, r.0)) (λ j q. subst (λ (x : ℕ). x ≤ get_or D.marked x 0) (omega arith) high)

  pub every_design : (D : Design) → ((k j : ℕ) → 10 ≤ k → k ≤ 15 → j ≤ 16384 → P (refusal k j))
      → ((j : ℕ) → D.nodes ≤ 4096 → j ≤ D.nodes → P (refusal 16 j)) → Every P (design_tests D)
  unfolding design_tests
  every_design D h i =
      let m = length D.starts in
      let ks = upto m 0 in
      let t₁₁ : Verdict = unless 11 (leb m 16384) in
      let t₁₂ : Verdict = first_bad 12 (strays D) 0 ks in
      let t₁₃ : Verdict = first_bad 13 (falls D) 0 ks in
      let t₁₄ : Verdict = first_bad 14 (out_of_range D) 0 ks in
      let t₁₅ : Verdict = first_bad 15 (early_above_late D) 0 ks in
      let t₁₆ : Verdict = first_bad 16 (wrong_marked D) 0 (upto (length D.marked) 0) in
      every_then P (design_counts D) (t₁₂ then t₁₃ then t₁₄ then t₁₅ then t₁₆)
      (every_then P (node_count D.nodes) t₁₁ (every_unless P 10 (h 10 0 (omega arith) (omega arith) (omega arith)) (leb D.nodes 4096))
      (λ e. every_unless P 11 (h 11 0 (omega arith) (omega arith) (omega arith)) (leb m 16384)))
      (λ e.
      let few = passes_le 11 m 16384 (then_passed (node_count D.nodes) t₁₁ e).1 in
      let nodes = passes_le 10 D.nodes 4096 (then_passed (node_count D.nodes) t₁₁ e).0 in
      let at : (k : ℕ) → 10 ≤ k → k ≤ 15 → (j : ℕ) → j < 0 + length ks → P (refusal k j) = λ k a b j l. h k j a b (omega (arith, length_upto m 0)) in
      every_then P t₁₂ (t₁₃ then t₁₄ then t₁₅ then t₁₆) (every_bad P 12 (strays D) 0 ks (at 12 (omega arith) (omega arith)))
      (λ e. every_then P t₁₃ (t₁₄ then t₁₅ then t₁₆) (every_bad P 13 (falls D) 0 ks (at 13 (omega arith) (omega arith)))
      (λ e. every_then P t₁₄ (t₁₅ then t₁₆) (every_bad P 14 (out_of_range D) 0 ks (at 14 (omega arith) (omega arith)))
      (λ e. every_then P t₁₅ t₁₆ (every_bad P 15 (early_above_late D) 0 ks (at 15 (omega arith) (omega arith)))
      (λ e. every_marked D (length D.marked) 0 (omega arith) (λ j q. absurd (omega arith)) (λ j l. i j nodes l))))))

  pub every_counts : (L : PathList) → ((k : ℕ) → 20 ≤ k → k ≤ 21 → P (refusal k 0)) → Every P (list_counts L)
  every_counts L h =
      every_then P (unless 20 (leb (length L.lengths) 1024)) (unless 21 (leb (length L.edges) 8192))
      (every_unless P 20 (h 20 (omega arith) (omega arith)) (leb (length L.lengths) 1024))
      (λ e. every_unless P 21 (h 21 (omega arith) (omega arith)) (leb (length L.edges) 8192))

  pub every_list : (D : Design) (L : PathList) → ((k : ℕ) → 20 ≤ k → k ≤ 21 → P (refusal k 0))
      → ((k j d : ℕ) → 22 ≤ k → k ≤ 24 → length L.lengths ≤ 1024 → j < length (paths_of L) → P (refusal_within k j d)) → Every P (list_tests D L)
  unfolding list_tests
  every_list D L h i =
      let K = paths_of L in
      let t₂₂ : Verdict = first_fault 22 empty_at 0 K in
      let t₂₃ : Verdict = first_fault 23 (first_unknown (length D.starts) 0) 0 K in
      let t₂₄ : Verdict = first_fault 24 (first_break (meets D) 0) 0 K in
      every_then P (list_counts L) (t₂₂ then t₂₃ then t₂₄) (every_counts L h)
      (λ e.
      let few = passes_le 20 (length L.lengths) 1024 (then_passed (unless 20 (leb (length L.lengths) 1024)) (unless 21 (leb (length L.edges) 8192)) e).0 in
      let at : (k : ℕ) → 22 ≤ k → k ≤ 24 → (j d : ℕ) → j < 0 + length K → P (refusal_within k j d) = λ k a b j d l. i k j d a b few (omega arith) in
      every_then P t₂₂ (t₂₃ then t₂₄) (every_fault P 22 empty_at 0 K (at 22 (omega arith) (omega arith)))
      (λ e. every_then P t₂₃ t₂₄ (every_fault P 23 (first_unknown (length D.starts) 0) 0 K (at 23 (omega arith) (omega arith)))
      (λ e. every_fault P 24 (first_break (meets D) 0) 0 K (at 24 (omega arith) (omega arith)))))
