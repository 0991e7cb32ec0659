use native.Mathlib.Omega.{arith}
use Rattle.removal.proofs.Filling.CopySteps.{all_start, all_next, all_turn, all_shown, all_filled}
use Rattle.removal.proofs.fill.fill_all.Goals as goal

pub loop-c-init : goal.loop-c-init
loop-c-init c = all_start c.requires.fillable

pub fill_copy-counts-requires-clause-filling : goal.fill_copy-counts-requires-clause-filling
fill_copy-counts-requires-clause-filling c = all_next c.requires.fillable c.loop-c.invariant c.loop-c.auto.pos

pub loop-c-preserved : goal.loop-c-preserved
loop-c-preserved c = all_turn c.requires.fillable c.loop-c.invariant c.fill_copy-counts.ensures.0

pub returns : goal.returns
returns c = (
  all_shown c.requires.fillable c.loop-c.invariant (omega arith),
  all_filled c.requires.fillable c.loop-c.invariant (omega arith) c.requires.rows_flagged,
)
