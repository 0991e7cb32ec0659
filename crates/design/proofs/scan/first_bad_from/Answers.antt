-- What the closure said of place k is found by a search, whatever the code makes of it.
use mathlib.Core.Path.{◌≡◌, sym, ap, ◌∙◌}
use mathlib.Core.Bool.{true, false}
use Rattle.std.proofs.Common.{rules}
use Rattle.std.specs.Prelude.{Err}
use Rattle.timing.proofs.FirstBad.{bad_here, good_here, none_before}
use Rattle.design.proofs.scan.first_bad_from.Goals as goal

pub loop-k-init : goal.loop-k-init
loop-k-init g c = λ b says fine. none_before c.args.number b c.args.count c.args.from fine

pub returns-then-found : goal.returns-then-found
returns-then-found g c =
    λ b says fine.
    let k = c.loop-k.k in
    let is : b k ≡ true = search (rules, says k) in
    ap Err c.refuse.ensures ∙ sym (bad_here c.args.number b k c.args.count c.loop-k-test.true is) ∙ c.loop-k.invariant b says fine

pub loop-k-preserved : goal.loop-k-preserved
loop-k-preserved g c =
    λ b says fine.
    let k = c.loop-k.k in
    let is : b k ≡ false = search (rules, says k) in
    good_here c.args.number b k c.args.count c.loop-k-test.true is ∙ c.loop-k.invariant b says fine
