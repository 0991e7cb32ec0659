use native.Mathlib.Omega.{arith}
use mathlib.Core.Path.{sym, ◌∙◌, ap₂}
use Rattle.timing.specs.Times.{larger}
use Rattle.timing.proofs.Ints.{read_back}
use Rattle.theorems.proofs.Extremes.{larges}
use Rattle.times.specs.Fanins.{over}
use Rattle.times.proofs.Fanins.{here, into_next, over_more}
use Rattle.late.proofs.fanin.arrive.Goals as goal

pub loop-arrivals-preserved : goal.loop-arrivals-preserved
loop-arrivals-preserved c =
    let l = c.loop-arrivals in
    let a = c.args in
    let h = here a.to.now l.k a.c (sym c.ends_at-in-loop-arrivals.ensures ∙ c.loop-arrivals-test.true) in (
      omega (arith, l.invariant.0),
      omega (arith, h.0),
      into_next a.to.now a.c a.first l.k l.invariant.2 h.1,
      read_back c.larger-t.result c.larger-t.type_inv ∙ c.larger-t.ensures
          ∙ ap₂ larger l.invariant.3 (read_back c.over_edge.result c.over_edge.type_inv ∙ c.over_edge.ensures)
          ∙ sym (over_more larges (over a.late.now a.from.now a.via.now a.arrivals.now) a.first l.k l.invariant.0),
    )
