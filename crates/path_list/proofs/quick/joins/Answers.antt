use native.Mathlib.Omega.{arith}
use mathlib.Core.Path.{refl, sym}
use mathlib.Core.List.{[]}
use lib.ListN.{get_or}
use Prim.Native.Nat.{◌-◌}
use Rattle.timing.specs.Graphs.{design, edge_start, edge_end}
use Rattle.path_list.proofs.Loops.{edge_joins}
use Rattle.path_list.proofs.quick.joins.Goals as goal

pub loop-i-preserved : goal.loop-i-preserved
loop-i-preserved c =
    let a = c.args in
    let i = c.loop-i.i in
    let D = design 0 a.starts.now a.ends.now [] [] [] in
    let j = get_or a.path.now (i - 1) 0 in
    let k = get_or a.path.now i 0 in
    sym (edge_joins D a.path.now i (omega arith) c.loop-i-test.true c.loop-i.invariant (edge_end D j) (edge_start D k) refl refl c.if-ends-j.false)
