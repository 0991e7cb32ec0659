use native.Mathlib.Omega.{arith}
use mathlib.Core.Path.{sym, ◌∙◌}
use Rattle.timing.proofs.Verdicts.{both_true}
use Rattle.graph.proofs.Turns.{ordered_more, rises_here, turns_next}
use Rattle.graph.proofs.quick.ends_counted.Goals as goal

pub loop-i-preserved : goal.loop-i-preserved
loop-i-preserved c = (
  omega arith,
  omega (arith, c.loop-i.invariant.1, c.one_unless-count.ensures.0, turns_next c.args.to.now c.loop-i.i (omega arith)),
  λ e.
      let a = c.args in
      let p = both_true c.loop-i.pass _ e in
      let b = both_true c.in_range.result _ p.1 in
      ordered_more _ _ _ _ _ _ (c.loop-i.invariant.2 p.0) (sym c.in_range.ensures ∙ b.0)
      (rises_here a.copies a.names a.from.now a.to.now a.via.now c.loop-i.i (omega arith) (sym c.comes_before-ordered.ensures ∙ b.1)),
)
