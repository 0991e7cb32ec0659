-- None of the places from `from` to before k is bad, and where none before them is, none before k is.
use Prim.Native.Nat.{ℕ, ◌-◌, ◌<◌}
use mathlib.Core.Path.{◌≡◌}
use mathlib.Core.Bool.{Bool, false}
use Rattle.timing.specs.Lists.{upto}
use Rattle.timing.specs.Refusals.{first_bad}
use Rattle.design.proofs.scan.first_bad_from.Given as goal

abbrev pub invariant-loop-k : goal.invariant-loop-k
invariant-loop-k g l =
    (b : ℕ → Bool) → ((k : ℕ) (r : Bool) → k < l.count → goal.F-post g l.bad k r → r ≡ b k)
    → ((k : ℕ) → k < l.from → b k ≡ false)
    → first_bad l.number b l.k (upto (l.count - l.k) l.k) ≡ first_bad l.number b 0 (upto l.count 0)
