-- "At most one copy of a node does", where copies never fall in node number: the nodes of the copies where paths end rise.
use Prim.Native.Nat.{ℕ, zero, suc, ◌+◌, ◌≤◌, ◌<◌}
use native.Mathlib.Omega.{arith}
use native.Mathlib.Decide.{ℕ_discrete}
use mathlib.Core.Path.{◌≡◌, refl, sym, ap, subst}
use mathlib.Core.Bool.{Bool, true, false, cond, ◌&&◌}
use lib.Dec.{T, leb→le, le→leb}
use Rattle.timing.specs.Lists.{one_if, count_of, upto}
use Rattle.theorems.proofs.Lists.{and_intro, and_left, and_right, fails, mem_upto}
use Rattle.theorems.proofs.Counting.{count_cons, count_positive}
use Rattle.graph.specs.Passes.{end_rises, walked}

-- How many of the places from c on pass a test: no more than one where no two do, and more where two do.
module _ (p : ℕ → Bool) where
  none_passes : (m c : ℕ) → ((j : ℕ) → c ≤ j → j < c + m → T (p j) → ⊥) → count_of p (upto m c) ≡ 0
  none_passes zero c f = refl
  none_passes (suc m) c f = go (p c) refl (none_passes m (suc c) (λ j l h. f j (omega arith) (omega arith)))
    where
      go : (b : Bool) → p c ≡ b → count_of p (upto m (suc c)) ≡ 0 → count_of p (upto (suc m) c) ≡ 0
      go true q none = absurd (f c (omega arith) (omega arith) (rw q tt))
      go false q none = omega (arith, count_cons p c (upto m (suc c)), ap one_if q)

  pub one_passes : (m c : ℕ) → ((i j : ℕ) → c ≤ i → i < j → j < c + m → T (p i) → T (p j) → ⊥) → count_of p (upto m c) ≤ 1
  one_passes zero c f = omega arith
  one_passes (suc m) c f = go (p c) refl (one_passes m (suc c) (λ i j l k h. f i j (omega arith) k (omega arith)))
    where
      go : (b : Bool) → p c ≡ b → count_of p (upto m (suc c)) ≤ 1 → count_of p (upto (suc m) c) ≤ 1
      go true q few =
          let none = none_passes m (suc c) (λ j l h. f c j (omega arith) (omega arith) (omega arith) (rw q tt)) in
          omega (arith, count_cons p c (upto m (suc c)), ap one_if q)
      go false q few = omega (arith, count_cons p c (upto m (suc c)), ap one_if q)

  pub two_pass : (m c i j : ℕ) → c ≤ i → i < j → j < c + m → T (p i) → T (p j) → 1 < count_of p (upto m c)
  two_pass zero c i j l k h s t = absurd (omega arith)
  two_pass (suc m) c i j l k h s t =
      elim (ℕ_discrete i c) [
        | yes e ↦
            let here : one_if (p c) ≡ 1 = first (p c) (subst (λ (a : ℕ). T (p a)) e s) in
            let later = count_positive p (upto m (suc c)) (mem_upto m (suc c) j (omega arith) (omega arith)) t in
            omega (arith, count_cons p c (upto m (suc c)))
        | no d ↦
            let rest = two_pass m (suc c) i j (omega arith) k (omega arith) s t in
            omega (arith, count_cons p c (upto m (suc c)))
      ]
    where
      first : (b : Bool) → T b → one_if b ≡ 1
      first true x = refl
      first false x = absurd x

-- A pass over the copies that asks `base` of each, and of those where paths end, e, that their nodes v rise.
module _ (base e : ℕ → Bool) (v : ℕ → ℕ) where
  abbrev pub ok : ℕ → ℕ → Bool
  ok x c = base c && end_rises (e c) x (v c)

  abbrev pub next : ℕ → ℕ → ℕ
  next x c = cond (e c) (v c + 1) x

  -- what it says that m copies from c on pass, where x is the lowest node
  pub record Passes (m c x : ℕ) : Type 0 where
    pub all : (j : ℕ) → c ≤ j → j < c + m → T (base j)
    pub above : (j : ℕ) → c ≤ j → j < c + m → T (e j) → x ≤ v j
    pub rise : (i j : ℕ) → c ≤ i → i < j → j < c + m → T (e i) → T (e j) → v i < v j

  one_more : (m c x : ℕ) → T (ok x c) → Passes m (suc c) (next x c) → Passes (suc m) c x
  one_more m c x here rest = record { all = all; above = λ j l h s. above (e c) refl j l h s; rise = rise }
    where
      all : (j : ℕ) → c ≤ j → j < c + suc m → T (base j)
      all j l h =
          elim (ℕ_discrete j c) [
            | yes q ↦ subst (λ (a : ℕ). T (base a)) (sym q) (and_left (base c) (end_rises (e c) x (v c)) here)
            | no d ↦ rest.all j (omega arith) (omega arith)
          ]

      above : (b : Bool) → e c ≡ b → (j : ℕ) → c ≤ j → j < c + suc m → T (e j) → x ≤ v j
      above true q j l h s =
          let low : x ≤ v c = leb→le x (v c) (rw q at (and_right (base c) (end_rises (e c) x (v c)) here)) in
          elim (ℕ_discrete j c) [
            | yes i ↦ omega (arith, ap v i)
            | no d ↦
                let up : v c + 1 ≤ v j = rw q at (rest.above j (omega arith) (omega arith) s) in
                omega arith
          ]
      above false q j l h s =
          elim (ℕ_discrete j c) [
            | yes i ↦ absurd (fails (e c) q (subst (λ (a : ℕ). T (e a)) i s))
            | no d ↦ rw q at (rest.above j (omega arith) (omega arith) s)
          ]

      rise : (i j : ℕ) → c ≤ i → i < j → j < c + suc m → T (e i) → T (e j) → v i < v j
      rise i j l k h s t =
          elim (ℕ_discrete i c) [
            | yes q ↦
                let up : v c + 1 ≤ v j = go (e c) (subst (λ (a : ℕ). T (e a)) q s) (rest.above j (omega arith) (omega arith) t) in
                omega (arith, ap v q)
            | no d ↦ rest.rise i j (omega arith) k (omega arith) s t
          ]
        where
          go : (b : Bool) → T b → cond b (v c + 1) x ≤ v j → v c + 1 ≤ v j
          go true y z = z
          go false y z = absurd y

  pub of_walk : (m c x : ℕ) → T (walked ok next m c x) → Passes m c x
  of_walk zero c x t = record {
    all = λ j l h. absurd (omega arith);
    above = λ j l h s. absurd (omega arith);
    rise = λ i j l k h s t. absurd (omega arith);
  }
  of_walk (suc m) c x t =
      let rest = walked ok next m (suc c) (next x c) in
      one_more m c x (and_left (ok x c) rest t) (of_walk m (suc c) (next x c) (and_right (ok x c) rest t))

  pub to_walk : (m c x : ℕ) → Passes m c x → T (walked ok next m c x)
  to_walk zero c x w = tt
  to_walk (suc m) c x w =
      and_intro (ok x c) (walked ok next m (suc c) (next x c))
      (and_intro (base c) (end_rises (e c) x (v c)) (w.all c (omega arith) (omega arith)) (go (e c) (w.above c (omega arith) (omega arith))))
      (to_walk m (suc c) (next x c) record {
        all = λ j l h. w.all j (omega arith) (omega arith);
        above = λ j l h s. up j (e c) (λ t. w.rise c j (omega arith) (omega arith) (omega arith) t s) (w.above j (omega arith) (omega arith) s);
        rise = λ i j l k h s t. w.rise i j (omega arith) k (omega arith) s t;
      })
    where
      go : (b : Bool) → (T b → x ≤ v c) → T (end_rises b x (v c))
      go true f = le→leb x (v c) (f tt)
      go false f = tt

      up : (j : ℕ) (b : Bool) → (T b → v c < v j) → x ≤ v j → cond b (v c + 1) x ≤ v j
      up j true f h = omega (arith, f tt)
      up j false f h = h
