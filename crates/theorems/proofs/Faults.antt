-- What 22 to 24 say of one path, and of the first path that has a fault. Where there is a fault, the edge at its index has it and no edge
-- before does; where there is none, no edge has it.
use Prim.Native.Nat.{ℕ, zero, suc, ◌+◌, ◌<◌}
use native.Mathlib.Omega.{arith}
use mathlib.Core.Path.{◌≡◌, refl, sym, ap}
use mathlib.Core.Logic.{⊎_elim}
use mathlib.Core.Bool.{Bool, true, false, cond}
use mathlib.Core.List.Memᴰ
use mathlib.Core.List.{List, [], ◌∷◌, Memᴰ}
use Rattle.std.specs.Prelude.{Option, Err, Some, None}
use Rattle.timing.specs.Answers.{Passed}
use lib.Dec.{T, ltb, eqb→eq}
use lib.ListN.{length, get_or}
use borrow.Author.Tests.{ltb-true, ltb-false, eqb-true, eqb-false}
use Rattle.timing.specs.declared.Refusal.{Refusal}
use Rattle.timing.specs.Lists.{is_nil, each_next}
use Rattle.timing.specs.Graphs.{Design, edge_start, edge_end}
use Rattle.timing.specs.Refusals.{refusal_within, unless_fault, first_fault, ◌then◌}
use Rattle.timing.specs.Tests.{meets, empty_at, first_unknown, first_break}
use Rattle.timing.specs.Faults.{Empty, Unknown, Broken, FirstWith, NoneWith}
use Rattle.timing.proofs.Verdicts.{refused_passed, then_passed}
use Rattle.theorems.proofs.Lists.{and_intro, and_left, and_right, holds, get_d_mem}

no_fault : {A : Type 0} (j : ℕ) → Some j ≡ None → A
no_fault j e = absurd (let z : ◌≡◌ {A = ℕ} 0 1 = cc in omega arith)

-- what a test of one path is to say: where it finds a fault there is one, and else there is none
pub record Finds (fault : List ℕ → Option ℕ) (Bad : List ℕ → ℕ → Type 0) : Type 0 where
  pub found : (path : List ℕ) (i : ℕ) → fault path ≡ Some i → Bad path i
  pub clean : (path : List ℕ) → fault path ≡ None → (i : ℕ) → Bad path i → ⊥

-- 22
pub has_edge : (path : List ℕ) → empty_at path ≡ None → is_nil path ≡ false
has_edge [] e = no_fault 0 e
has_edge (k ∷ path) e = refl

pub finds_empty : Finds empty_at Empty
finds_empty = record { found = found; clean = λ path e i b. no_fault 0 (rw b.0 at e) }
  where
    found : (path : List ℕ) (i : ℕ) → empty_at path ≡ Some i → Empty path i
    found [] i e = (refl, cc)
    found (k ∷ path) i e = no_fault i (sym e)

-- 23
pub all_known : (m i : ℕ) (path : List ℕ) → first_unknown m i path ≡ None → (k : ℕ) → Memᴰ k path → k < m
all_known m i [] e k h = absurd (Memᴰ.not-nil h)
all_known m i (l ∷ path) e k h = go (ltb l m) refl e (λ f. all_known m (suc i) path f k)
  where
    go : (b : Bool) → ltb l m ≡ b → cond b (first_unknown m (suc i) path) (Some i) ≡ None → (first_unknown m (suc i) path ≡ None → Memᴰ k path → k < m) → k < m
    go true q f below = ⊎_elim (λ (same : k ≡ l). rw same (ltb-true l m q)) (below f) (Memᴰ.cases_cons h)
    go false q f below = no_fault i f

module _ (D : Design) where
  unknown_behind : (k : ℕ) (path : List ℕ) (d : ℕ) → k < length D.starts → Unknown D path d → Unknown D (k ∷ path) (suc d)
  unknown_behind k path d h u = (omega (arith, u.0), u.1, before)
    where
      before : (e : ℕ) → e < suc d → get_or (k ∷ path) e 0 < length D.starts
      before zero l = h
      before (suc e) l = u.2 e (omega arith)

  -- the first edge has index i
  unknown_from : (i j : ℕ) (path : List ℕ) → first_unknown (length D.starts) i path ≡ Some j → (d : ℕ) × (j ≡ i + d) × Unknown D path d
  unknown_from i j [] e = no_fault j (sym e)
  unknown_from i j (k ∷ path) e = go (ltb k (length D.starts)) refl e (λ f. unknown_from (suc i) j path f)
    where
      go : (b : Bool) → ltb k (length D.starts) ≡ b → cond b (first_unknown (length D.starts) (suc i) path) (Some i) ≡ Some j
          → (first_unknown (length D.starts) (suc i) path ≡ Some j → (d : ℕ) × (j ≡ suc i + d) × Unknown D path d) → (d : ℕ) × (j ≡ i + d) × Unknown D (k ∷ path) d
      go true q f below = let r = below f in (suc r.0, omega (arith, r.1), unknown_behind k path r.0 (ltb-true k (length D.starts) q) r.2)
      go false q f below =
          let same : i ≡ j = cc in
          (0, omega arith, (omega arith, ltb-false k (length D.starts) q, λ e h. absurd (omega arith)))

  pub finds_unknown : Finds (first_unknown (length D.starts) 0) (Unknown D)
  finds_unknown = record {
    found = λ path i e.
        let r = unknown_from 0 i path e in
        let same : i ≡ r.0 = omega (arith, r.1) in
        rw same r.2;
    clean = λ path e i b.
        let known = all_known (length D.starts) 0 path e (get_or path i 0) (get_d_mem path i 0 b.0) in
        omega (arith, b.1);
  }

-- 24
pub all_join : (meet : ℕ → ℕ → Bool) (i : ℕ) (path : List ℕ) → first_break meet i path ≡ None → T (each_next meet path)
all_join meet i [] e = tt
all_join meet i (j ∷ []) e = tt
all_join meet i (j ∷ k ∷ path) e = go (meet j k) refl e (λ f. all_join meet (suc i) (k ∷ path) f)
  where
    go : (b : Bool) → meet j k ≡ b → cond b (first_break meet (suc i) (k ∷ path)) (Some (suc i)) ≡ None
        → (first_break meet (suc i) (k ∷ path) ≡ None → T (each_next meet (k ∷ path))) → T (each_next meet (j ∷ k ∷ path))
    go true q f below = and_intro (meet j k) (each_next meet (k ∷ path)) (holds (meet j k) q) (below f)
    go false q f below = no_fault (suc i) f

module _ (D : Design) where
  broken_behind : (j k : ℕ) (path : List ℕ) (d : ℕ) → edge_end D j ≡ edge_start D k → Broken D (k ∷ path) (suc d) → Broken D (j ∷ k ∷ path) (suc (suc d))
  broken_behind j k path d h u = (omega (arith, u.0), u.1, before)
    where
      before : (e : ℕ) → e < suc d → edge_end D (get_or (j ∷ k ∷ path) e 0) ≡ edge_start D (get_or (k ∷ path) e 0)
      before zero l = h
      before (suc e) l = u.2 e (omega arith)

  break_from : (i j : ℕ) (path : List ℕ) → first_break (meets D) i path ≡ Some j → (d : ℕ) × (j ≡ i + suc d) × Broken D path (suc d)
  break_from i j [] e = no_fault j (sym e)
  break_from i j (k ∷ []) e = no_fault j (sym e)
  break_from i j (k ∷ l ∷ path) e = go (meets D k l) refl e (λ f. break_from (suc i) j (l ∷ path) f)
    where
      go : (b : Bool) → meets D k l ≡ b → cond b (first_break (meets D) (suc i) (l ∷ path)) (Some (suc i)) ≡ Some j
          → (first_break (meets D) (suc i) (l ∷ path) ≡ Some j → (d : ℕ) × (j ≡ suc i + suc d) × Broken D (l ∷ path) (suc d))
          → (d : ℕ) × (j ≡ i + suc d) × Broken D (k ∷ l ∷ path) (suc d)
      go true q f below =
          let r = below f in
          (suc r.0, omega (arith, r.1), broken_behind k l path r.0 (eqb-true (edge_end D k) (edge_start D l) q) r.2)
      go false q f below =
          let same : suc i ≡ j = cc in
          (0, omega arith, (omega arith, eqb-false (edge_end D k) (edge_start D l) q, λ e h. absurd (omega arith)))

  -- edges that all join have no break
  joined_at : (path : List ℕ) → T (each_next (meets D) path) → (d : ℕ) → suc d < length path → edge_end D (get_or path d 0) ≡ edge_start D (get_or path (suc d) 0)
  joined_at [] t d h = absurd (omega arith)
  joined_at (j ∷ []) t d h = absurd (omega arith)
  joined_at (j ∷ k ∷ path) t zero h = eqb→eq (edge_end D j) (edge_start D k) (and_left (meets D j k) (each_next (meets D) (k ∷ path)) t)
  joined_at (j ∷ k ∷ path) t (suc d) h = joined_at (k ∷ path) (and_right (meets D j k) (each_next (meets D) (k ∷ path)) t) d (omega arith)

  pub finds_break : Finds (first_break (meets D) 0) (Broken D)
  finds_break = record {
    found = λ path i e.
        let r = break_from 0 i path e in
        let same : i ≡ suc r.0 = omega (arith, r.1) in
        rw same r.2;
    clean = clean;
  }
    where
      clean : (path : List ℕ) → first_break (meets D) 0 path ≡ None → (i : ℕ) → Broken D path i → ⊥
      clean path e zero b = b
      clean path e (suc d) b = b.1 (joined_at path (all_join (meets D) 0 path e) d b.0)

-- of all paths
module _ (number : ℕ) (fault : List ℕ → Option ℕ) where
  fault_passed : (k : ℕ) (f : Option ℕ) → unless_fault number k f ≡ Passed → f ≡ None
  fault_passed k None e = refl
  fault_passed k (Some i) e = absurd (refused_passed (refusal_within number k i) e)

  pub first_fault_passed : (k : ℕ) (paths : List (List ℕ)) → first_fault number fault k paths ≡ Passed
      → (path : List ℕ) → Memᴰ path paths → fault path ≡ None
  first_fault_passed k [] e path h = absurd (Memᴰ.not-nil h)
  first_fault_passed k (q ∷ paths) e path h =
      let r = then_passed (unless_fault number k (fault q)) (first_fault number fault (suc k) paths) e in
      ⊎_elim (λ (same : path ≡ q). rw same (fault_passed k (fault q) r.0)) (first_fault_passed (suc k) paths r.1 path) (Memᴰ.cases_cons h)

  module _ (Bad : List ℕ → ℕ → Type 0) (finds : Finds fault Bad) where
    first_behind : (path : List ℕ) (paths : List (List ℕ)) (d i : ℕ) → fault path ≡ None → FirstWith Bad paths d i → FirstWith Bad (path ∷ paths) (suc d) i
    first_behind path paths d i h u = (omega (arith, u.0), u.1, before)
      where
        before : (p : ℕ) → p < suc d → (i : ℕ) → Bad (get_or (path ∷ paths) p []) i → ⊥
        before zero l = finds.clean path h
        before (suc p) l = u.2 p (omega arith)

    -- the first path has number k
    first_from : (k : ℕ) (paths : List (List ℕ)) (r : Refusal) → first_fault number fault k paths ≡ Err r → (d : ℕ) × (r.place ≡ k + d) × FirstWith Bad paths d r.index
    first_from k [] r e = absurd (refused_passed r (sym e))
    first_from k (path ∷ paths) r e = go (fault path) refl e (λ f. first_from (suc k) paths r f)
      where
        go : (f : Option ℕ) → fault path ≡ f → (unless_fault number k f then first_fault number fault (suc k) paths) ≡ Err r
            → (first_fault number fault (suc k) paths ≡ Err r → (d : ℕ) × (r.place ≡ suc k + d) × FirstWith Bad paths d r.index)
            → (d : ℕ) × (r.place ≡ k + d) × FirstWith Bad (path ∷ paths) d r.index
        go None q h below = let s = below h in (suc s.0, omega (arith, s.1), first_behind path paths s.0 r.index q s.2)
        go (Some i) q h below =
            let same : r ≡ refusal_within number k i = cc in
            let place : r.place ≡ k = ap (λ (x : Refusal). x.place) same in
            let index : r.index ≡ i = ap (λ (x : Refusal). x.index) same in
            (0, omega arith, (omega arith, rw index (finds.found path i q), λ p l. absurd (omega arith)))

    -- the places of the refusal are the first path with a fault and the fault's index
    pub first_fault_at : (paths : List (List ℕ)) (r : Refusal) → first_fault number fault 0 paths ≡ Err r → FirstWith Bad paths r.place r.index
    first_fault_at paths r e =
        let s = first_from 0 paths r e in
        let same : r.place ≡ s.0 = omega (arith, s.1) in
        rw same s.2

    -- where the test passes, no path has a fault
    pub first_fault_none : (paths : List (List ℕ)) → first_fault number fault 0 paths ≡ Passed → NoneWith Bad paths
    first_fault_none paths e p l = finds.clean (get_or paths p []) (first_fault_passed 0 paths e (get_or paths p []) (get_d_mem paths p [] l))
