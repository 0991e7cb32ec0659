-- One number for the place of an edge in the order: edges rise where it does.
use Prim.Native.Nat.{ℕ, zero, suc, ◌+◌, ◌<◌}
use native.Mathlib.Omega.{arith}
use native.Mathlib.Numerals.{add-one}
use native.Mathlib.Decide.{dec_lt}
use mathlib.Core.Path.{◌≡◌, ◌∙◌, ap}
use mathlib.Core.Logic.{⊎_elim}
use mathlib.Core.Bool.{Bool, true, ◌&&◌, ◌||◌}
use mathlib.Core.List.{List, []}
use lib.Dec.{eqb, ltb, leb, eqb→eq, ltb→lt, lt→ltb, leb→le, le→leb}
use lib.ListN.{length, get_or}
use borrow.Author.Tests.{le-leb, eq-eqb}
use Rattle.timing.specs.Graphs.{design, graph}
use Rattle.timing.specs.WellFormed.{edge_fits}
use Rattle.theorems.proofs.Lists.{and_intro, and_left, and_right, or_cases, or_left, or_right, holds, same_test}
use Rattle.graph.specs.Passes.{key_of, edge_at, rises_at, edge_passes}

-- the lowest number that edge i may have
abbrev pub lowest_key : List ℕ → List ℕ → ℕ → ℕ
lowest_key to via zero = 0
lowest_key to via (suc i) = key_of (get_or to i 0) (get_or via i 0) + 1

pub lowest_next : (to via : List ℕ) (i : ℕ) → lowest_key to via (i + 1) ≡ key_of (get_or to i 0) (get_or via i 0) + 1
lowest_next to via i = rw (add-one i)

key_rises : (t k u l : ℕ) → k < 4294967296 → l < 4294967296 → leb (key_of t k + 1) (key_of u l) ≡ (ltb t u || (eqb t u && ltb k l))
key_rises t k u l h h' =
    same_test (leb (key_of t k + 1) (key_of u l)) (ltb t u || (eqb t u && ltb k l))
    (λ a.
    let up = leb→le (key_of t k + 1) (key_of u l) a in
    elim (dec_lt t u) [
      | yes b ↦ or_left (ltb t u) (eqb t u && ltb k l) (lt→ltb t u b)
      | no b ↦
          let e : t ≡ u = omega arith in
          or_right (ltb t u) (eqb t u && ltb k l) (and_intro (eqb t u) (ltb k l) (holds (eqb t u) (eq-eqb t u e)) (lt→ltb k l (omega arith)))
    ])
    (λ a.
    le→leb (key_of t k + 1) (key_of u l)
    (⊎_elim
    (λ b. omega (arith, ltb→lt t u b))
    (λ b. omega (arith, eqb→eq t u (and_left (eqb t u) (ltb k l) b), ltb→lt k l (and_right (eqb t u) (ltb k l) b)))
    (or_cases (ltb t u) (eqb t u && ltb k l) a)))

module _ (starts ends nodes from to via : List ℕ) where
  key_at : ((j : ℕ) → get_or via j 0 < 4294967296) → (i : ℕ) → leb (lowest_key to via i) (key_of (get_or to i 0) (get_or via i 0)) ≡ rises_at from to via i
  key_at small zero = le-leb 0 (key_of (get_or to 0 0) (get_or via 0 0)) (omega arith)
  key_at small (suc i) = key_rises (get_or to i 0) (get_or via i 0) (get_or to (suc i) 0) (get_or via (suc i) 0) (small i) (small (suc i))

  -- the test of an edge, as it is computed from the lowest number that it may have
  pub passes_is : ((j : ℕ) → get_or via j 0 < 4294967296) → (i x : ℕ) → x ≡ lowest_key to via i
      → (edge_fits (design 0 starts ends [] [] []) (graph nodes [] []) (edge_at from to via i) && leb x (key_of (get_or to i 0) (get_or via i 0)))
      ≡ edge_passes starts ends nodes from to via i
  passes_is small i x e =
      let fits = edge_fits (design 0 starts ends [] [] []) (graph nodes [] []) (edge_at from to via i) in
      ap (λ (b : Bool). fits && b) (ap (λ (y : ℕ). leb y (key_of (get_or to i 0) (get_or via i 0))) e ∙ key_at small i)

  -- an edge that passes joins copies that there are
  pub joins : (i : ℕ) → edge_passes starts ends nodes from to via i ≡ true → (get_or from i 0 < length nodes) × (get_or to i 0 < length nodes)
  joins i p =
      let s = ltb (get_or from i 0) (length nodes) in
      let t = ltb (get_or to i 0) (length nodes) in
      let k = ltb (get_or via i 0) (length starts) in
      let a = eqb (get_or nodes (get_or from i 0) 0) (get_or starts (get_or via i 0) 0) in
      let b = eqb (get_or nodes (get_or to i 0) 0) (get_or ends (get_or via i 0) 0) in
      let r = rises_at from to via i in
      let h = and_left (s && t) k (and_left (s && t && k) a (and_left (s && t && k && a) b (and_left (s && t && k && a && b) r (holds (s && t && k && a && b && r) p)))) in
      (ltb→lt (get_or from i 0) (length nodes) (and_left s t h), ltb→lt (get_or to i 0) (length nodes) (and_right s t h))
