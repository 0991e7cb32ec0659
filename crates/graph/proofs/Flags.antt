-- Flags that are set for the numbers of a list.
use Prim.Native.Nat.{ℕ, ◌+◌, ◌≤◌, ◌<◌}
use native.Mathlib.Omega.{arith}
use native.Mathlib.Decide.{ℕ_discrete, dec_lt}
use mathlib.Core.Path.{◌≡◌, refl, sym, ◌∙◌}
use mathlib.Core.Bool.{Bool, true, false, ◌&&◌, ◌||◌}
use mathlib.Core.List.{List}
use lib.Dec.{eqb, ltb}
use lib.ListN.{length, get_or, set, length-set, replicate, length-replicate, get_or-replicate, get_or-eq_default}
use lib.Seq.{get_or-set_same, get_or-set_other, set_out}
use borrow.Author.Tests.{ltb-true, lt-ltb, le-ltb, eq-eqb, ne_eqb}
use Rattle.graph.specs.Passes.{stands, flag, Clear, FlagsSet, copy_passes, lowest_after, walked}
use Rattle.graph.proofs.Walk.{or_false, any_more, walk_same}

or_true : (a b : Bool) → (a || (b || true)) ≡ true
or_true true b = refl
or_true false true = refl
or_true false false = refl

-- one number more
pub flags_next : (f g : List Bool) (l : List ℕ) (k : ℕ) → FlagsSet f l k g → FlagsSet f l (k + 1) (set g (get_or l k 0) true)
flags_next f g l k m = record { size = length-set g x true ∙ m.size; set = at }
  where
    x : ℕ
    x = get_or l k 0

    more : (v : ℕ) → stands l (k + 1) v ≡ (stands l k v || eqb x v)
    more v = any_more (λ j. eqb (get_or l j 0) v) k

    here : (v : ℕ) → v ≡ x → flag (set g x true) v ≡ (flag f v || (ltb v (length f) && stands l (k + 1) v))
    here v e =
        elim (dec_lt v (length f)) [
          | yes h ↦ rw (more v, eq-eqb x v (sym e), lt-ltb v (length f) h, e) (get_or-set_same g x true false (omega (arith, m.size)) ∙ sym (or_true (flag f x) (stands l k x)))
          | no h ↦ rw (set_out g x true (omega (arith, m.size)), le-ltb v (length f) (omega arith)) (m.set v ∙ rw (le-ltb v (length f) (omega arith)))
        ]

    there : (v : ℕ) → (v ≡ x → ⊥) → flag (set g x true) v ≡ (flag f v || (ltb v (length f) && stands l (k + 1) v))
    there v d = rw (more v, ne_eqb x v (λ e. d (sym e)), or_false (stands l k v)) (get_or-set_other g x v true false d ∙ m.set v)

    at : (v : ℕ) → flag (set g x true) v ≡ (flag f v || (ltb v (length f) && stands l (k + 1) v))
    at v = elim (ℕ_discrete v x) [ yes e ↦ here v e | no d ↦ there v d ]

-- flags that were all clear
pub clear_array : (n size : ℕ) → n ≤ size → Clear n (replicate size false)
clear_array n size h = record { room = omega (arith, length-replicate size false); none = none }
  where
    none : (v : ℕ) → flag (replicate size false) v ≡ false
    none v =
        elim (dec_lt v size) [
          | yes k ↦ get_or-replicate size v false false k
          | no k ↦ get_or-eq_default (replicate size false) false (omega (arith, length-replicate size false))
        ]

pub flags_clear : (n : ℕ) (f : List Bool) (l : List ℕ) (k : ℕ) (g : List Bool) → Clear n f → FlagsSet f l k g → (v : ℕ) → v < n → flag g v ≡ stands l k v
flags_clear n f l k g z m v h = m.set v ∙ rw (z.none v, lt-ltb v (length f) (omega (arith, z.room)))

-- The test of the copies looks only at flags that are there: of nodes below n, and of copies.
module _ (n : ℕ) (nodes endpoint : List ℕ) (node_in node_out marked copy_in copy_out nodeIn' nodeOut' marked' copyIn' copyOut' : ℕ → Bool) where
  abbrev passes : ℕ → ℕ → Bool
  passes = copy_passes n nodes endpoint node_in node_out marked copy_in copy_out

  abbrev passes' : ℕ → ℕ → Bool
  passes' = copy_passes n nodes endpoint nodeIn' nodeOut' marked' copyIn' copyOut'

  one_agrees : ((v : ℕ) → v < n → node_in v ≡ nodeIn' v) → ((v : ℕ) → v < n → node_out v ≡ nodeOut' v) → ((v : ℕ) → v < n → marked v ≡ marked' v)
      → (x c : ℕ) → copy_in c ≡ copyIn' c → copy_out c ≡ copyOut' c → passes x c ≡ passes' x c
  one_agrees i o k x c p q = go (ltb (get_or nodes c 0) n) refl
    where
      go : (b : Bool) → ltb (get_or nodes c 0) n ≡ b → passes x c ≡ passes' x c
      go false e = rw e
      go true e =
          let h : get_or nodes c 0 < n = ltb-true (get_or nodes c 0) n e in
          rw (i (get_or nodes c 0) h, o (get_or nodes c 0) h, k (get_or nodes c 0) h, p, q)

  pub copies_agree : ((v : ℕ) → v < n → node_in v ≡ nodeIn' v) → ((v : ℕ) → v < n → node_out v ≡ nodeOut' v) → ((v : ℕ) → v < n → marked v ≡ marked' v)
      → ((c : ℕ) → c < length nodes → copy_in c ≡ copyIn' c) → ((c : ℕ) → c < length nodes → copy_out c ≡ copyOut' c)
      → walked (copy_passes n nodes endpoint node_in node_out marked copy_in copy_out) (lowest_after nodes endpoint) (length nodes) 0 0
      ≡ walked (copy_passes n nodes endpoint nodeIn' nodeOut' marked' copyIn' copyOut') (lowest_after nodes endpoint) (length nodes) 0 0
  copies_agree i o k p q =
      walk_same passes passes' (lowest_after nodes endpoint) (length nodes)
      (λ x c h. one_agrees i o k x c (p c h) (q c h))
