use Rattle.timing.specs.Looks.{row_at, row_end}
use Rattle.graph_reader.proofs.Filling.{column_turn}
use Rattle.graph_reader.proofs.reader.fill_rows.Goals as goal

pub loop-i-preserved : goal.loop-i-preserved
loop-i-preserved c =
    let s = c.args.s.now in
    let h = c.loop-i-test.true in
    let e = c.fill_row-here.ensures in
    let i = c.loop-i.invariant in (
      column_turn (row_at s) (row_end s) (λ q. q.first) _ _ _ _ _ _ _ _ h e.0 e.1 i.0,
      column_turn (row_at s) (row_end s) (λ q. q.second) _ _ _ _ _ _ _ _ h e.0 e.2 i.1,
      column_turn (row_at s) (row_end s) (λ q. q.third) _ _ _ _ _ _ _ _ h e.0 e.3 i.2,
    )
