-- So many words suffice for w / 8 candidates, listed edges and edges together.
use Prim.Native.Nat.{ℕ, ◌-◌, ◌/◌, ◌≤◌, ◌<◌}
use native.Mathlib.Omega.{arith}
use mathlib.Core.Path.{◌≡◌, refl, sym, ◌∙◌}
use mathlib.Core.Bool.{Bool, true, false}
use lib.Dec.{leb}
use borrow.Author.Tests.{le-leb, lt-leb, leb-true, leb-false}
use Rattle.timing.specs.Tests.{scratch_words}

module _ (w count listed edges : ℕ) where
  pub count_over : w / 8 < count → leb (scratch_words count listed edges) w ≡ false
  count_over h = lt-leb (scratch_words count listed edges) w (omega arith)

  pub listed_over : count ≤ w / 8 → w / 8 - count < listed → leb (scratch_words count listed edges) w ≡ false
  listed_over h l = lt-leb (scratch_words count listed edges) w (omega arith)

  pub edges_within : count ≤ w / 8 → listed ≤ w / 8 - count → leb edges (w / 8 - count - listed) ≡ leb (scratch_words count listed edges) w
  edges_within h l = go (leb edges (w / 8 - count - listed)) refl
    where
      go : (b : Bool) → leb edges (w / 8 - count - listed) ≡ b → leb edges (w / 8 - count - listed) ≡ leb (scratch_words count listed edges) w
      go true e = e ∙ sym (le-leb (scratch_words count listed edges) w (omega (arith, leb-true edges (w / 8 - count - listed) e)))
      go false e = e ∙ sym (lt-leb (scratch_words count listed edges) w (omega (arith, leb-false edges (w / 8 - count - listed) e)))
