use native.Mathlib.Omega.{arith}
use mathlib.Core.Path.{sym, ◌∙◌}
use Rattle.deck_reader.proofs.Looking.{path_small, paths_turn}
use Rattle.deck_reader.proofs.looker.look_paths.Goals as goal

pub loop-preserved : goal.loop-preserved
loop-preserved c =
    let a = c.args in
    let l = c.loop in
    let e = sym c.in_ok-path.ensures in
    let b = path_small a.s.now a.table l.sum l.at _ _ e in
    (omega (arith, c.wide-sum.ensures), rw c.wide-sum.ensures (paths_turn a.s.now a.table a.count l.counter l.sum l.at _ _ c.loop-test.true e ∙ l.invariant.1))
