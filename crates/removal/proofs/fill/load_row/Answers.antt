use native.Mathlib.Omega.{arith}
use mathlib.Core.Path.{◌≡◌, subst}
use Rattle.removal.proofs.Filling.FlagRows.{LoadedTo, load_inside, load_next}
use Rattle.removal.proofs.fill.load_row.Goals as goal

pub shown_flag-requires : goal.shown_flag-requires
shown_flag-requires c = load_inside c.requires.0 c.loop-q.invariant (omega arith) (omega arith)

pub loop-q-preserved : goal.loop-q-preserved
loop-q-preserved c = load_next c.requires.0 c.loop-q.invariant (omega arith) (omega arith) c.shown_flag.ensures

pub returns : goal.returns
returns c =
    let e : c.loop-q.q ≡ c.args.p1 = omega arith in
    subst (LoadedTo c.args.l c.args.scratch.now c.args.p0 c.loop-q.scratch) e c.loop-q.invariant
