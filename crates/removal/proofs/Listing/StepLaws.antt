-- A step with a mark: what an edge and then the mark's class begin with tells the word. Where that is no more than the edge alone begins
-- with, the word is that of the edge alone.
use Prim.Native.Nat.{ℕ, zero, suc, ◌+◌, ◌≤◌, ◌<◌}
use native.Mathlib.Omega.{arith}
use native.Mathlib.Decide.{ℕ_discrete, dec_lt}
use mathlib.Core.Path.{◌≡◌, sym, ap, ◌∙◌, subst}
use mathlib.Core.Logic.{◌⊎◌, inl, inr, ⊎_elim}
use mathlib.Core.List.{List, [], ◌∷◌, nil≢cons, cons≢nil, head-eq_of_cons-eq, tail-eq_of_cons-eq}
use lib.ListN.{length, get_or, get_or-eq_default}
use Rattle.theorems.proofs.Marks.{Prefix, begins}
use Rattle.removal.specs.declared.classes.Lists.{Lists}
use Rattle.removal.specs.Classes.{class_count, class_at, Fit, Root, marks_at, At}
use Rattle.removal.specs.Tables.{marks_below, marks_in, loc_in, Held, Followable, Stepped, or_else}
use Rattle.removal.specs.Step.{Marked}
use Rattle.removal.proofs.Listing.Region.{table_at, table_length}
use Rattle.removal.proofs.Listing.ClassLaws.{class_order, class_zero, class_some}
use Rattle.removal.proofs.Listing.FitLaws.{fit_begins, fit_mark, along_start, along_none}
use Rattle.removal.proofs.Listing.MarkLaws.{marks_first, marks_rise}
use Rattle.removal.proofs.Listing.LinkLaws.{found, not_found}

-- whether an edge is a class can be told
single : (e : ℕ) (w : List ℕ) → Dec (w ≡ e ∷ [])
single e [] = no nil≢cons
single e (x ∷ []) = go (ℕ_discrete x e)
  where
    go : Dec (x ≡ e) → Dec (x ∷ [] ≡ e ∷ [])
    go (yes q) = yes (ap (λ (i : ℕ). i ∷ []) q)
    go (no f) = no (λ q. f (head-eq_of_cons-eq q))
single e (x ∷ y ∷ w) = no (λ q. cons≢nil (tail-eq_of_cons-eq q))

root_to : (L : List (List ℕ)) (e n : ℕ) → n ≤ suc (class_count L) → ((r : ℕ) × Root L e r) ⊎ ((t : ℕ) → t < n → class_at L t ≡ e ∷ [] → ⊥)
root_to L e zero h = inr (λ t m q. omega arith)
root_to L e (suc n) h = ⊎_elim inl (λ f. go f (single e (class_at L n))) (root_to L e n (omega arith))
  where
    go : ((t : ℕ) → t < n → class_at L t ≡ e ∷ [] → ⊥) → Dec (class_at L n ≡ e ∷ []) → ((r : ℕ) × Root L e r) ⊎ ((t : ℕ) → t < suc n → class_at L t ≡ e ∷ [] → ⊥)
    go f (yes q) = inl (n, record { inside = omega arith; is = λ p. q; none = λ z t m y. nil≢cons (sym (class_zero L) ∙ ap (class_at L) (sym z) ∙ q) })
    go f (no g) = inr (λ t m q. last t m q (ℕ_discrete t n))
      where
        last : (t : ℕ) → t < suc n → class_at L t ≡ e ∷ [] → Dec (t ≡ n) → ⊥
        last t m q (yes y) = g (ap (class_at L) (sym y) ∙ q)
        last t m q (no y) = f t (omega arith) q

pub some_root : (L : List (List ℕ)) (e : ℕ) → (r : ℕ) × Root L e r
some_root L e =
    ⊎_elim (λ (r : (r : ℕ) × Root L e r). r)
    (λ (f : (t : ℕ) → t < suc (class_count L) → class_at L t ≡ e ∷ [] → ⊥). (0, record { inside = omega arith; is = λ p. absurd (omega arith); none = λ z t h. f t (omega arith) }))
    (root_to L e (suc (class_count L)) (omega arith))

module _ (starts : List ℕ) (L : List (List ℕ)) (l : Lists) (s : List ℕ) (v j f : ℕ) (a : Marked starts L l s v j f) where
  abbrev held : Held L l s
  held = a.tables.search.held

  abbrev place : ℕ
  place = marks_below starts L v + j

  abbrev m : List ℕ
  m = get_or (marks_at starts L v) (suc j) []

  -- a mark that is counted is not the empty one
  mark_some : m ≡ [] → ⊥
  mark_some q =
      let r = marks_rise starts L v 0 (suc j) (omega arith) (omega (arith, a.there)) in
      class_order.irrefl [] (rw (marks_first starts L v, q) at r)

  -- so its number is one of the table's
  inside : place < l.edges
  inside = go (dec_lt place l.edges)
    where
      go : Dec (place < l.edges) → place < l.edges
      go (yes h) = h
      go (no h) =
          let e : get_or (marks_in l s) place 0 ≡ 0 = get_or-eq_default (marks_in l s) 0 (omega (arith, table_length s (l.marks + 1) l.edges (omega (arith, held.laid.marks, held.room)))) in
          absurd (mark_some (sym (a.tables.classes v j a.node a.there).1 ∙ ap (class_at L) e ∙ class_zero L))

  pub mark_room : l.marks + f < length s
  mark_room = omega (arith, inside, a.number, held.laid.marks, held.room)

  abbrev t : ℕ
  t = get_or s (l.marks + f) 0

  mark_class : (t ≤ class_count L) × (class_at L t ≡ m)
  mark_class =
      let i : l.marks + 1 + place ≡ l.marks + f = omega (arith, a.number) in
      let e : get_or (marks_in l s) place 0 ≡ t = table_at s (l.marks + 1) l.edges place inside ∙ ap (λ (x : ℕ). get_or s x 0) i in
      rw e at (a.tables.classes v j a.node a.there)

  pub mark_follows : Followable L l s (get_or s (l.marks + f) 0)
  mark_follows = record { search = a.tables.search; inside = mark_class.0; fails = λ u p h. a.tables.fails u p (omega (arith, mark_class.0)) }

  -- c is what the search along failure links gives
  module _ (e c : ℕ) (fit : (root : ℕ) → Root L e root → Fit L (e ∷ class_at L t) (or_else c root)) where
    abbrev root : ℕ
    root = (some_root L e).0

    whole : Fit L (e ∷ m) (or_else c root)
    whole = rw mark_class.1 at (fit root (some_root L e).1)

    module _ (more : c ≡ 0 → ⊥) where
      whole_found : Fit L (e ∷ m) c
      whole_found = subst (Fit L (e ∷ m)) (found c root more) whole

      pub found_room : l.loc + c < length s
      found_room = omega (arith, whole_found.inside, held.laid.loc, held.room, held.few)

      -- the class starts where e does
      starts_there : At starts (get_or starts e 0) (class_at L c)
      starts_there = go (class_at L c) whole_found.begins (class_some L c (omega arith) whole_found.inside)
        where
          go : (w : List ℕ) → Prefix w (e ∷ m) → 0 < length w → At starts (get_or starts e 0) w
          go [] p h = absurd (omega arith)
          go (x ∷ w) p h = ap (λ (i : ℕ). get_or starts i 0) p.0

      pub step_found : Stepped starts L e (get_or (marks_at starts L v) (suc j) []) (get_or s (l.loc + c) 0)
      step_found =
          let b = fit_begins L a.tables.search.filled (e ∷ m) c whole_found in
          let w : get_or (loc_in l s) c 0 ≡ get_or s (l.loc + c) 0 = table_at s l.loc (l.edges + 1) c (omega (arith, whole_found.inside, held.few)) in
          let x = rw w at (a.tables.locs c whole_found.inside) in
          record {
            dead = λ h. x.dead (sym b ∙ h);
            alive = λ h. x.alive (sym b ∙ h);
            stands = λ h. let y = x.stands (sym b ∙ h) (get_or starts e 0) starts_there in (y.0, y.1 ∙ sym (fit_mark L a.tables.search.filled (e ∷ m) c whole_found h));
          }

    -- where nothing is found, e and then the mark begin with what e alone begins with
    pub step_none : c ≡ 0 → (w : ℕ) → Stepped starts L e [] w → Stepped starts L e (get_or (marks_at starts L v) (suc j) []) w
    step_none z w x =
        let filled = a.tables.search.filled in
        let p : Fit L (e ∷ m) root = subst (Fit L (e ∷ m)) (not_found c root z) whole in
        let q : Fit L (e ∷ []) root = rw (class_zero L) at (along_none L 0 e root (omega arith) (along_start L 0 e (omega arith)) (some_root L e).1) in
        let b : begins L (e ∷ m) ≡ begins L (e ∷ []) = fit_begins L filled (e ∷ m) root p ∙ sym (fit_begins L filled (e ∷ []) root q) in
        record {
          dead = λ h. x.dead (sym b ∙ h);
          alive = λ h. x.alive (sym b ∙ h);
          stands = λ h. let y = x.stands (sym b ∙ h) in (y.0, y.1 ∙ fit_mark L filled (e ∷ []) root q (sym b ∙ h) ∙ sym (fit_mark L filled (e ∷ m) root p h));
        }
