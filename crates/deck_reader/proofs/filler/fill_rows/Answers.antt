use mathlib.Core.Path.{◌∙◌}
use Rattle.timing.specs.Delays.{delay_of}
use Rattle.timing.specs.Decks.{EdgeRow}
use Rattle.deck_reader.proofs.Reading.{rows_step, rows_next}
use Rattle.deck_reader.proofs.filler.fill_rows.Goals as goal

pub loop-i-preserved : goal.loop-i-preserved
loop-i-preserved c =
    let s = c.args.s.now in
    let m = c.args.m in
    let l = c.loop-i in
    let i = l.invariant in
    let h = c.loop-i-test.true in
    let e = c.fill_row-at.ensures in (
      rows_next s m l.i l.at _ h e.0 ∙ i.0,
      rows_step (λ (r : EdgeRow). r.start) s m l.i l.at l.starts _ _ h e.0 e.1 ∙ i.1,
      rows_step (λ (r : EdgeRow). r.end) s m l.i l.at l.ends _ _ h e.0 e.2 ∙ i.2,
      rows_step (λ (r : EdgeRow). delay_of r.early) s m l.i l.at l.early _ _ h e.0 e.3 ∙ i.3,
      rows_step (λ (r : EdgeRow). delay_of r.late) s m l.i l.at l.late _ _ h e.0 e.4 ∙ i.4,
    )
