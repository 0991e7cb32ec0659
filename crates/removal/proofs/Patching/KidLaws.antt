-- The children of a class, one after the other.
use Prim.Native.Nat.{ℕ, ◌+◌, ◌-◌, ◌/◌, ◌≤◌, ◌<◌}
use native.Mathlib.Omega.{arith}
use native.Mathlib.Decide.{ℕ_discrete}
use mathlib.Core.Path.{◌≡◌, sym, ◌∙◌, ap, subst}
use mathlib.Core.List.{List}
use lib.ListN.{get_or, take}
use lib.Seq.{get_or-take}
use Rattle.removal.specs.declared.rows.Layout.{Layout}
use Rattle.removal.specs.Rows.{InRun, name_in}
use Rattle.removal.specs.Patches.{Unseen, Gathered, Searching, Telling, Tried, KidsTell, TriedKids, kids_from, kids_to, kid_word}
use Rattle.removal.proofs.Patching.NoteLaws.{kept_trans, run_inside}

module _ (l : Layout) (s pos : List ℕ) (c j p0 p1 n u : ℕ) (a : Searching l s pos c j p0 p1 n) (b : KidsTell l (take l.slots s) s c j u (kids_from l (take l.slots s) u)) where
  abbrev p : List ℕ
  p = take l.slots s

  pub from_read : get_or s (l.lists.kid + u - 1) 0 ≡ kids_from l (take l.slots s) u
  from_read = sym (get_or-take l.slots s (l.lists.kid + u - 1) 0 (omega (arith, b.place)))

  pub to_read : get_or s (l.lists.kid + u) 0 ≡ kids_to l (take l.slots s) u
  to_read = sym (get_or-take l.slots s (l.lists.kid + u) 0 b.place)

  module _ (t : List ℕ) (i k : ℕ) (f : TriedKids l s t c j u i k) (least : kids_from l (take l.slots s) u ≤ i) (most : i < kids_to l (take l.slots s) u) where
    pub kid_read : get_or t (l.lists.kids + i) 0 ≡ kid_word l (take l.slots s) i
    kid_read =
        sym (get_or-take l.slots t (l.lists.kids + i) 0 (omega (arith, b.within)))
        ∙ ap (λ (x : List ℕ). get_or x (l.lists.kids + i) 0) f.kept.tables

    pub kid_tells : Telling l (take l.slots t) t c j (get_or t (l.lists.kids + i) 0)
    kid_tells =
        let x = b.each i least most in
        subst (λ (y : List ℕ). Telling l y t c j (get_or t (l.lists.kids + i) 0)) (sym f.kept.tables)
        (subst (λ (w : ℕ). Telling l p t c j w) (sym kid_read)
        (record { place = x.place; leads = λ q r h e. x.leads q r (f.less q (run_inside l s pos c j p0 p1 n 0 a q r) h) e }))

    pub kids_next : (t' : List ℕ) (k' : ℕ) → Tried l t t' c j (get_or t (l.lists.kids + i) 0) k' → TriedKids l s t' c j u (i + 1) k'
    kids_next t' k' x =
        record {
          kept = kept_trans l s t t' f.kept x.kept;
          gathered = subst (λ (y : List ℕ). Gathered l y t' c j k') f.kept.tables x.gathered;
          less = λ q h y. f.less q h (x.less q h y);
          none = λ q r y h m o e. go q r y h m o e (ℕ_discrete h i);
        }
      where
        same : (q : ℕ) → InRun l p c q → Unseen l t' q → name_in l p q ≡ get_or t (l.lists.kids + i) 0 / 32768 → ⊥
        same = subst (λ (y : List ℕ). (q : ℕ) → InRun l y c q → Unseen l t' q → name_in l y q ≡ get_or t (l.lists.kids + i) 0 / 32768 → ⊥) f.kept.tables x.none

        go : (q : ℕ) → InRun l p c q → Unseen l t' q → (h : ℕ) → kids_from l p u ≤ h → h < i + 1 → name_in l p q ≡ kid_word l p h / 32768 → Dec (h ≡ i) → ⊥
        go q r y h m o e (yes z) = same q r y (e ∙ ap (λ (v : ℕ). v / 32768) (ap (kid_word l p) z ∙ sym kid_read))
        go q r y h m o e (no z) = f.none q r (x.less q (run_inside l s pos c j p0 p1 n 0 a q r) y) h m (omega arith) e

  pub kids_all : (t : List ℕ) (i k : ℕ) → TriedKids l s t c j u i k → get_or s (l.lists.kid + u) 0 ≤ i → TriedKids l s t c j u (kids_to l (take l.slots s) u) k
  kids_all t i k f e =
      record { kept = f.kept; gathered = f.gathered; less = f.less; none = λ q r x h m o. f.none q r x h m (omega (arith, to_read)) }
