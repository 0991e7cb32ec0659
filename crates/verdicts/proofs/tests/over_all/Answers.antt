-- What the closure said of a place is found by a search, whatever the code makes of it.
use Prim.Native.Nat.{◌<◌}
use mathlib.Core.Path.{◌≡◌}
use mathlib.Core.Bool.{true, false}
use Rattle.std.proofs.Common.{rules}
use Rattle.std.proofs.lemmas.Iterator.{first_from_Range}
use Rattle.timing.proofs.FirstBad.{found_below}
use Rattle.verdicts.proofs.tests.over_all.Goals as goal

pub returns : goal.returns
returns g c =
    λ b says.
    let n = c.args.count in
    c.first_bad.ensures.over_all b n
    (found_below b n c.find.result
    (first_from_Range _ _ _ _ (λ k. k < n → b k ≡ true) (λ k. k < n → b k ≡ false) c.find.ensures.ran
    (λ k f told l. search (rules, says k))
    (λ k f told. (search rules, λ l. search (rules, says k)))))
