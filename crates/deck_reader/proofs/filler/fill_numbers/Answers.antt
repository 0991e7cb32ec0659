use mathlib.Core.Path.{◌∙◌}
use Rattle.deck_reader.proofs.Reading.{numbers_step}
use Rattle.deck_reader.proofs.filler.fill_numbers.Goals as goal

pub loop-i-preserved : goal.loop-i-preserved
loop-i-preserved c =
    let a = c.args in
    let l = c.loop-i in
    let w = numbers_step a.s.now a.count l.i l.at l.listed a.filled _ _ c.loop-i-test.true c.take_number-number.ensures in
    (w.0 ∙ l.invariant.0, w.1 ∙ l.invariant.1)
