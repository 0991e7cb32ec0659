-- The failure link of a class, and which classes are single edges.
use Prim.Native.Nat.{ℕ, zero, suc, ◌+◌, ◌/◌, ◌%◌, ◌≤◌, ◌<◌}
use native.Mathlib.Omega.{arith}
use native.Mathlib.Decide.{ℕ_discrete}
use mathlib.Core.Path.{◌≡◌, refl, sym, ap, ◌∙◌}
use mathlib.Core.List.{List, [], ◌∷◌, nil≢cons, head-eq_of_cons-eq, tail-eq_of_cons-eq}
use lib.ListN.{length, get_or, set}
use lib.Seq.{get_or-set_same, get_or-set_other}
use Rattle.removal.specs.declared.classes.Lists.{Lists}
use Rattle.removal.specs.Classes.{class_count, class_at, Fit, Fails, Root}
use Rattle.removal.specs.Tables.{Told, Held, Followable, or_else}
use Rattle.removal.specs.Linking.{RootsBelow, NextLink}
use Rattle.removal.proofs.Listing.Region.{table_at}
use Rattle.removal.proofs.Listing.ClassLaws.{class_zero, class_one, class_shorter, class_some}
use Rattle.removal.proofs.Listing.FitLaws.{fails_one, fails_more, fails_lower}

-- a word's first edge, and the class that follows it
module _ (L : List (List ℕ)) (l : Lists) (s : List ℕ) (held : Held L l s) (t w : ℕ) (inside : t ≤ class_count L) (told : Told L w t) where
  told_after : told.after ≡ w % 32768
  told_after = omega (arith, told.word, told.earlier, held.few, held.few_edges)

  pub told_edge : told.edge ≡ w / 32768
  told_edge = omega (arith, told.word, told.earlier, held.few, held.few_edges)

  pub told_class : class_at L t ≡ w / 32768 ∷ class_at L (w % 32768)
  told_class = rw (← told_edge, ← told_after) told.class

  told_lower : w % 32768 < t
  told_lower = omega (arith, told_after, told.earlier)

-- no class is noted before the first
pub roots_start : (L : List (List ℕ)) (roots : List ℕ) → ((e : ℕ) → get_or roots e 0 ≡ 0) → RootsBelow L roots 1
roots_start L roots z = record {
  is = λ e h. absurd (omega (arith, z e));
  every = λ e t h k q. z e ∙ omega arith;
}

-- a class of one edge is noted
roots_one : (L : List (List ℕ)) (roots : List ℕ) (t k : ℕ) → 0 < t → t ≤ class_count L → k < length roots → class_at L t ≡ k ∷ []
    → RootsBelow L roots t → RootsBelow L (set roots k t) (t + 1)
roots_one L roots t k p h m q r = record { is = λ e. is e (ℕ_discrete e k); every = λ e u. every e u (ℕ_discrete e k) }
  where
    same : get_or (set roots k t) k 0 ≡ t
    same = get_or-set_same roots k t 0 m

    is : (e : ℕ) → Dec (e ≡ k) → 0 < get_or (set roots k t) e 0
        → (get_or (set roots k t) e 0 < t + 1) × (get_or (set roots k t) e 0 ≤ class_count L) × (class_at L (get_or (set roots k t) e 0) ≡ e ∷ [])
    is e (yes d) x = rw (d, same) (omega arith, h, q)
    is e (no d) x =
        let o = get_or-set_other roots k e t 0 d in
        let y = r.is e (rw o at x) in
        rw o (omega (arith, y.0), y.1, y.2)

    every : (e u : ℕ) → Dec (e ≡ k) → u < t + 1 → u ≤ class_count L → class_at L u ≡ e ∷ [] → get_or (set roots k t) e 0 ≡ u
    every e u (yes d) x y z = rw d (same ∙ class_one L t u h y (q ∙ ap (λ (i : ℕ). i ∷ []) (sym d) ∙ sym z))
    every e u (no d) x y z = get_or-set_other roots k e t 0 d ∙ r.every e u (go (ℕ_discrete u t)) y z
      where
        go : Dec (u ≡ t) → u < t
        go (yes i) = absurd (d (head-eq_of_cons-eq (sym z ∙ ap (class_at L) i ∙ q)))
        go (no i) = omega arith

-- any other is not
roots_more : (L : List (List ℕ)) (roots : List ℕ) (t u e : ℕ) → 0 < u → u ≤ class_count L → class_at L t ≡ e ∷ class_at L u
    → RootsBelow L roots t → RootsBelow L roots (t + 1)
roots_more L roots t u e p h q r = record {
  is = λ i x. let y = r.is i x in (omega (arith, y.0), y.1, y.2);
  every = λ i v x y z. r.every i v (go i v x z (ℕ_discrete v t)) y z;
}
  where
    go : (i v : ℕ) → v < t + 1 → class_at L v ≡ i ∷ [] → Dec (v ≡ t) → v < t
    go i v x z (yes d) =
        let n : class_at L u ≡ [] = tail-eq_of_cons-eq (sym q ∙ ap (class_at L) (sym d) ∙ z) in
        absurd (omega (arith, class_some L u p h, ap length n))
    go i v x z (no d) = omega arith

-- what is noted is all there is, once all classes of one edge are passed
pub roots_all : (L : List (List ℕ)) (roots : List ℕ) (n e : ℕ) → RootsBelow L roots n → ((t : ℕ) → t ≤ class_count L → class_at L t ≡ e ∷ [] → t < n) → Root L e (get_or roots e 0)
roots_all L roots n e r f = record { inside = go (get_or roots e 0) refl; is = λ p. (r.is e p).2; none = λ z t h q. none t z h q }
  where
    go : (i : ℕ) → get_or roots e 0 ≡ i → get_or roots e 0 ≤ class_count L
    go zero z = omega arith
    go (suc i) z = (r.is e (omega arith)).1

    none : (t : ℕ) → get_or roots e 0 ≡ 0 → t ≤ class_count L → class_at L t ≡ e ∷ [] → ⊥
    none t z h q =
        let y : t ≡ 0 = sym (r.every e t (f t h q) h q) ∙ z in
        nil≢cons (sym (class_zero L) ∙ ap (class_at L) (sym y) ∙ q)

module _ (L : List (List ℕ)) (l : Lists) (s roots : List ℕ) (t w : ℕ) (n : NextLink L l s roots t w) where
  abbrev held : Held L l s
  held = n.search.held

  abbrev u : ℕ
  u = w % 32768

  abbrev e : ℕ
  e = w / 32768

  class : class_at L t ≡ e ∷ class_at L u
  class = told_class L l s held t w n.inside n.told

  lower : u < t
  lower = told_lower L l s held t w n.inside n.told

  edge_known : e < length roots
  edge_known = rw (told_edge L l s held t w n.inside n.told) at n.known

  -- a class of one edge
  pub link_one : u ≡ 0 → Fails L t 0 × RootsBelow L (set roots e t) (t + 1)
  link_one z =
      let q : class_at L t ≡ e ∷ [] = class ∙ ap (λ (i : ℕ). e ∷ class_at L i) z ∙ ap (λ (x : List ℕ). e ∷ x) (class_zero L) in
      (fails_one L t e n.some n.inside q, roots_one L roots t e n.some n.inside edge_known q n.singles)

  -- a longer one, by the link of what follows its first edge
  module _ (more : u ≡ 0 → ⊥) where
    abbrev link : ℕ
    link = get_or s (l.fail + u) 0

    link_fails : Fails L u link
    link_fails = rw (table_at s l.fail (l.edges + 1) u (omega (arith, held.few, lower, n.inside))) at (n.fails u (omega arith) lower (omega (arith, lower, n.inside)))

    pub link_follows : Followable L l s (get_or s (l.fail + w % 32768) 0)
    link_follows =
        let h : u ≤ class_count L = omega (arith, lower, n.inside) in
        let d : link < u = fails_lower L u link h link_fails in
        record {
          search = n.search;
          inside = omega arith;
          fails = λ i p k m. n.fails i p (omega (arith, lower)) m;
        }

    one_edge : (i : ℕ) → i ≤ class_count L → class_at L i ≡ e ∷ [] → i < t
    one_edge i h q =
        class_shorter L i t h n.inside
        (omega (arith, ap length q, ap length class, class_some L u (omega arith) (omega (arith, lower, n.inside))))

    pub link_more : (c : ℕ) → ((root : ℕ) → Root L e root → Fit L (e ∷ class_at L link) (or_else c root)) → Fails L t (or_else c (get_or roots (w / 32768) 0)) × RootsBelow L roots (t + 1)
    link_more c f =
        let h : u ≤ class_count L = omega (arith, lower, n.inside) in
        let r = roots_all L roots t e n.singles one_edge in
        (fails_more L t u e link (or_else c (get_or roots e 0)) n.inside class (omega arith) h link_fails (f (get_or roots e 0) r), roots_more L roots t u e (omega arith) h class n.singles)

-- a found class stands for itself
pub found : (c r : ℕ) → (c ≡ 0 → ⊥) → or_else c r ≡ c
found zero r n = absurd (n refl)
found (suc c) r n = refl

pub not_found : (c r : ℕ) → c ≡ 0 → or_else c r ≡ r
not_found zero r e = refl
not_found (suc c) r e = absurd (omega arith)
