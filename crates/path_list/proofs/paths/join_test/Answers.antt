-- Where the edges before i join, edge i and the one before it settle the answer.
use mathlib.Core.List.{[]}
use Rattle.timing.specs.Graphs.{design}
use Rattle.path_list.proofs.Loops.{edge_joins, edge_breaks}
use Rattle.path_list.proofs.paths.join_test.Goals as goal

pub returns-then-number_at : goal.returns-then-number_at
returns-then-number_at c =
    let a = c.args in
    edge_joins (design 0 a.starts.now a.ends.now [] [] []) a.path.now a.i c.requires.0 c.requires.1 c.requires.2 _ _ c.number_at.ensures c.number_at-2.ensures c.if-number_at.true

pub returns-else-number_at : goal.returns-else-number_at
returns-else-number_at c =
    let a = c.args in
    edge_breaks (design 0 a.starts.now a.ends.now [] [] []) a.path.now a.i c.requires.0 c.requires.1 c.requires.2 _ _ c.number_at.ensures c.number_at-2.ensures c.if-number_at.false
