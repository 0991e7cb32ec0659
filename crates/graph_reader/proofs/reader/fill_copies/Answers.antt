use Rattle.graph_reader.specs.Reading.{copy_at, copy_end}
use mathlib.Core.Path.{◌∙◌}
use Rattle.graph_reader.proofs.Filling.{place_turn, column_turn}
use Rattle.graph_reader.proofs.reader.fill_copies.Goals as goal

pub loop-i-preserved : goal.loop-i-preserved
loop-i-preserved c =
    let s = c.args.s.now in
    let h = c.loop-i-test.true in
    let e = c.fill_copy-here.ensures in (
      rw e.0 (place_turn (copy_end s) c.args.n c.loop-i.i c.loop-i.here h ∙ c.loop-i.invariant.0),
      column_turn (copy_at s) (copy_end s) (λ q. q.node) _ _ _ _ _ _ _ _ h e.0 e.1 c.loop-i.invariant.1,
      column_turn (copy_at s) (copy_end s) (λ q. q.endpoint) _ _ _ _ _ _ _ _ h e.0 e.2 c.loop-i.invariant.2,
    )
