use native.Mathlib.Omega.{arith}
use lib.ListN.{take}
use Rattle.removal.specs.Rows.{InRun}
use Rattle.removal.proofs.Showing.ShowTables.{default_test, turn_first, run_edge, default_inside, default_turn, default_few, default_end}
use Rattle.removal.proofs.show.shown_defaults.Goals as goal
use Rattle.removal.proofs.show.shown_defaults.Goals.{In-loop-q}

-- the edge of this turn is one of those into the copy
edge : (c : In-loop-q) → InRun c.args.l (take c.args.l.slots c.args.scratch.now) c.args.c c.loop-q.q
edge c = run_edge c.requires.0 c.requires.1 c.requires.2 c.requires.3 (omega arith) c.loop-q-test.true

pub loop-q-init : goal.loop-q-init
loop-q-init c = turn_first (default_test c.args.l c.args.scratch.now) c.args.p0

pub shown-count-requires : goal.shown-count-requires
shown-count-requires c = default_inside c.requires.0 c.requires.1 (edge (goal.at.shown-count-requires c).In-loop-q)

pub overflow_add-count : goal.overflow_add-count
overflow_add-count c =
    let e = edge (goal.at.overflow_add-count c).In-loop-q in
    omega (arith, default_few c.requires.0 c.requires.1 e {p0 = c.args.p0} (omega arith) c.loop-q.invariant, c.shown-count.ensures)

pub loop-q-preserved : goal.loop-q-preserved
loop-q-preserved c =
    let e = edge (goal.at.loop-q-preserved c).In-loop-q in
    omega (arith, default_turn c.requires.0 c.requires.1 e {p0 = c.args.p0} (omega arith) c.loop-q.invariant, c.shown-count.ensures)

pub returns : goal.returns
returns c = default_end c.requires.0 c.requires.1 c.requires.2 c.requires.3 (omega arith) c.loop-q.invariant
