-- How the loops go that look for the first fault of one path.
use Prim.Native.Nat.{ℕ, zero, suc, ◌+◌, ◌-◌, ◌<◌}
use native.Mathlib.Omega.{arith}
use native.Mathlib.Numerals.{add-one}
use mathlib.Core.Path.{◌≡◌, refl, sym, ◌∙◌}
use mathlib.Core.Bool.{Bool, true, false, cond}
use mathlib.Core.List.{List, [], ◌∷◌}
use Rattle.std.specs.Prelude.{Option, Some, None}
use lib.ListN.{length, get_or, take}
use borrow.Author.Tests.{ltb-true, ltb-false, lt-leb, le-leb, eq-eqb, ne_eqb}
use lib.Dec.{ltb, leb}
use Rattle.std.specs.List.{position_from}
use Rattle.std.specs.Result.{is_err}
use Rattle.timing.specs.Graphs.{Design, edge_start, edge_end}
use Rattle.timing.specs.Refusals.{unless_fault}
use Rattle.timing.specs.Tests.{meets, first_unknown, first_break}

-- 23: the first unknown edge is the first that passes the test
pub unknown_position : (m i : ℕ) (path : List ℕ) → position_from (λ k. leb m k) i path ≡ first_unknown m i path
unknown_position m i [] = refl
unknown_position m i (k ∷ path) = go (ltb k m) refl (unknown_position m (suc i) path)
  where
    go : (b : Bool) → ltb k m ≡ b → position_from (λ k. leb m k) (suc i) path ≡ first_unknown m (suc i) path
        → cond (leb m k) (Some i) (position_from (λ k. leb m k) (i + 1) path) ≡ cond b (first_unknown m (suc i) path) (Some i)
    go true e below = rw (lt-leb m k (ltb-true k m e), add-one i) below
    go false e below = rw (le-leb m k (ltb-false k m e))

-- 24: at edge i, the edges before it are known to join
module _ (meet : ℕ → ℕ → Bool) where
  never : {A : Type 0} (i : ℕ) → None ≡ Some i → A
  never i e = absurd (let z : ◌≡◌ {A = ℕ} 0 1 = cc in omega arith)

  -- so edge i settles it for these and itself; the first edge has index s
  next_edge : (s i : ℕ) (path : List ℕ) → suc i < length path → first_break meet s (take (suc i) path) ≡ None
      → first_break meet s (take (suc (suc i)) path) ≡ cond (meet (get_or path i 0) (get_or path (suc i) 0)) None (Some (s + suc i))
  next_edge s i [] h e = absurd (omega arith)
  next_edge s i (x ∷ []) h e = absurd (omega arith)
  next_edge s zero (x ∷ y ∷ path) h e = rw (add-one s)
  next_edge s (suc i) (x ∷ y ∷ path) h e = go (meet x y) refl e (λ f. next_edge (suc s) i (y ∷ path) (omega arith) f)
    where
      after : Option ℕ
      after = cond (meet (get_or (y ∷ path) i 0) (get_or path i 0)) None (Some (suc s + suc i))

      go : (b : Bool) → meet x y ≡ b → cond b (first_break meet (suc s) (y ∷ take i path)) (Some (suc s)) ≡ None
          → (first_break meet (suc s) (y ∷ take i path) ≡ None → first_break meet (suc s) (y ∷ take (suc i) path) ≡ after)
          → cond b (first_break meet (suc s) (y ∷ take (suc i) path)) (Some (suc s)) ≡ cond (meet (get_or (y ∷ path) i 0) (get_or path i 0)) None (Some (s + suc (suc i)))
      go true q f below =
          let d : s + suc (suc i) ≡ suc s + suc i = omega arith in
          rw d (below f)
      go false q f below = never (suc s) (sym f)

  break_up_to : (path : List ℕ) (i : ℕ) → 0 < i → i < length path → first_break meet 0 (take i path) ≡ None
      → first_break meet 0 (take (i + 1) path) ≡ cond (meet (get_or path (i - 1) 0) (get_or path i 0)) None (Some i)
  break_up_to path zero z h e = absurd (omega arith)
  break_up_to path (suc i) z h e =
      let d : suc i - 1 ≡ i = omega arith in
      let s : 0 + suc i ≡ suc i = omega arith in
      rw (add-one (suc i), d) (rw s at (next_edge 0 i path h e))

  -- the first break of a front is that of the whole
  pub break_of_front : (s i j : ℕ) (path : List ℕ) → first_break meet s (take i path) ≡ Some j → first_break meet s path ≡ Some j
  break_of_front s zero j path e = never j e
  break_of_front s (suc i) j [] e = never j e
  break_of_front s (suc i) j (x ∷ []) e = front_of_one i e
    where
      front_of_one : (i : ℕ) → first_break meet s (x ∷ take i []) ≡ Some j → None ≡ Some j
      front_of_one zero e = e
      front_of_one (suc i) e = e
  break_of_front s (suc zero) j (x ∷ y ∷ path) e = never j e
  break_of_front s (suc (suc i)) j (x ∷ y ∷ path) e = go (meet x y) refl e (λ f. break_of_front (suc s) (suc i) j (y ∷ path) f)
    where
      go : (b : Bool) → meet x y ≡ b → cond b (first_break meet (suc s) (y ∷ take i path)) (Some (suc s)) ≡ Some j
          → (first_break meet (suc s) (y ∷ take i path) ≡ Some j → first_break meet (suc s) (y ∷ path) ≡ Some j)
          → cond b (first_break meet (suc s) (y ∷ path)) (Some (suc s)) ≡ Some j
      go true q f below = below f
      go false q f below = f

  -- so where the join test up to edge i refuses, it finds the first break of the path
  pub break_found : (number p i : ℕ) (path : List ℕ) {found : Option ℕ} → found ≡ first_break meet 0 (take (i + 1) path)
      → is_err (unless_fault number p found) ≡ true → found ≡ first_break meet 0 path
  break_found number p i path {found = None} e stops = absurd (let z : false ≡ true = stops in cc)
  break_found number p i path {found = Some j} e stops = sym (break_of_front 0 (i + 1) j path (sym e))

-- The same by the node where the edge before ends and the one where edge i starts.
module _ (D : Design) (path : List ℕ) (i : ℕ) (later : 0 < i) (here : i < length path) (join : first_break (meets D) 0 (take i path) ≡ None)
    (end start : ℕ) (ends : end ≡ edge_end D (get_or path (i - 1) 0)) (starts : start ≡ edge_start D (get_or path i 0)) where
  pub edge_joins : end ≡ start → None ≡ first_break (meets D) 0 (take (i + 1) path)
  edge_joins e =
      let m : meets D (get_or path (i - 1) 0) (get_or path i 0) ≡ true = rw (← ends, ← starts, eq-eqb end start e) in
      sym (break_up_to (meets D) path i later here join ∙ rw m)

  pub edge_breaks : (end ≡ start → ⊥) → Some i ≡ first_break (meets D) 0 (take (i + 1) path)
  edge_breaks n =
      let m : meets D (get_or path (i - 1) 0) (get_or path i 0) ≡ false = rw (← ends, ← starts, ne_eqb end start n) in
      sym (break_up_to (meets D) path i later here join ∙ rw m)
