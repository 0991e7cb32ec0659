-- The first that passes the test is the first unknown edge; the answer that is made of it is left to a search, whatever makes it.
use mathlib.Core.Path.{◌≡◌, ◌∙◌}
use lib.Dec.{leb}
use Rattle.std.proofs.Common.{rules, ℕ}
use Rattle.std.proofs.lemmas.Iterator.{YieldsList-from_slice}
use Rattle.std.proofs.lemmas.Iterator.Adapters.{position_from-zero}
use Rattle.std.proofs.lemmas.Iterator.Search.{position_from_yields_List}
use Rattle.timing.specs.Tests.{first_unknown}
use Rattle.path_list.proofs.Loops.{unknown_position}
use Rattle.path_list.proofs.paths.first_unknown.Goals as goal

pub returns : goal.returns
returns c =
    let m = c.args.m in
    let path = c.args.path.now in
    let found : c.position.result ≡ first_unknown m 0 path =
    position_from_yields_List (λ (k : ℕ). leb m k) _ _ _ c.position.ensures.ran (YieldsList-from_slice path (cc)) (λ x b q k. search rules)
    ∙ position_from-zero (λ (k : ℕ). leb m k) path
    ∙ unknown_position m 0 path
    in
    search (rules, found)
