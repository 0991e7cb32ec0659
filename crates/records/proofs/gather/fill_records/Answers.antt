use native.Mathlib.Omega.{arith}
use mathlib.Core.Path.{◌≡◌}
use Rattle.std.proofs.Common.{rules}
use lib.ListN.{length}
use Rattle.records.proofs.Records.{gathered_none, gathered_next}
use Rattle.records.proofs.gather.fill_records.Goals as goal

pub loop-c-init : goal.loop-c-init
loop-c-init c =
    let a = c.args in
    gathered_none a.nodes.now a.arrivals.now a.requireds.now a.slacks.now a.earliests.now (length a.known.now) _ _ _ _ _
    (search rules) (search rules) (search rules) (search rules) (search rules)

pub loop-c-preserved : goal.loop-c-preserved
loop-c-preserved c =
    let e = c.count_copy.ensures in
    let a = c.args in
    gathered_next a.nodes.now a.arrivals.now a.requireds.now a.slacks.now a.earliests.now _ c.loop-c.c _ _ _ _ _ _ _ _ _ _ c.loop-c.invariant e.0 e.1 e.2 e.3 e.4

pub returns : goal.returns
returns c =
    let e : c.loop-c.c ≡ length c.args.nodes.now = omega arith in
    let g = rw e at c.loop-c.invariant in
    (g.flags, g.arrivals, g.requireds, g.slacks, g.earliests)
