-- The word of an edge and a mark, by the longest class that they begin with.
use Prim.Native.Nat.{ℕ}
use native.Mathlib.Omega.{arith}
use mathlib.Core.Path.{◌≡◌, sym, ap, ◌∙◌, subst}
use mathlib.Core.List.{List, [], ◌∷◌}
use lib.ListN.{get_or}
use Rattle.theorems.proofs.Marks.{Prefix, begins}
use Rattle.removal.specs.Classes.{Filled, class_at, Fit, Root, At}
use Rattle.removal.specs.Tables.{Located, Stepped}
use Rattle.removal.proofs.Listing.ClassLaws.{class_zero}
use Rattle.removal.proofs.Listing.FitLaws.{fit_begins, fit_mark, along_start, along_none}

-- a class that e ∷ m begins with starts where e does
begins_at : (starts : List ℕ) (e : ℕ) (m k : List ℕ) → Prefix k (e ∷ m) → At starts (get_or starts e 0) k
begins_at starts e m [] p = tt
begins_at starts e m (a ∷ k) p = ap (λ (i : ℕ). get_or starts i 0) p.0

module _ (starts : List ℕ) (L : List (List ℕ)) (filled : Filled L) (e : ℕ) where
  pub fit_stepped : (m : List ℕ) (r w : ℕ) → Fit L (e ∷ m) r → Located starts L r w → Stepped starts L e m w
  fit_stepped m r w x p =
      record {
        dead = λ b. p.dead (sym same ∙ b);
        alive = λ b. p.alive (sym same ∙ b);
        stands = λ b.
            let q = p.stands (sym same ∙ b) (get_or starts e 0) (begins_at starts e m (class_at L r) x.begins) in
            (q.0, q.1 ∙ sym (fit_mark L filled (e ∷ m) r x b));
      }
    where
      same : begins L (e ∷ m) ≡ begins L (class_at L r)
      same = fit_begins L filled (e ∷ m) r x

module _ (L : List (List ℕ)) (e : ℕ) where
  -- the longest class that an edge alone begins with
  pub root_fit : (root : ℕ) → Root L e root → Fit L (e ∷ []) root
  root_fit root x = subst (λ (m : List ℕ). Fit L (e ∷ m) root) (class_zero L) (along_none L 0 e root (omega arith) (along_start L 0 e (omega arith)) x)
