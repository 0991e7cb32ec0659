-- n, m, then the rows, which are the deck's first four tables.
use native.Mathlib.Omega.{arith}
use mathlib.Core.Path.{◌∙◌}
use Rattle.timing.specs.Delays.{delay_of}
use Rattle.timing.specs.Decks.{EdgeRow}
use Rattle.deck_reader.proofs.Reading.{rows_placed, count_place_lem}
use Rattle.deck_reader.proofs.filler.fill_design.Goals as goal

pub returns : goal.returns
returns c =
    let a = c.args in
    let s = a.s.now in
    let p = c.requires in
    let e = c.fill_rows-next.ensures in
    let mi = c.wide-edges.ensures ∙ c.take_pair-counts.ensures.1 in
    let ai = c.take_pair-counts.ensures.2 in (
      c.take_pair-counts.ensures.0,
      mi,
      count_place_lem s _ _ _ mi ai _ e.0,
      rows_placed s _ _ _ mi ai (λ (r : EdgeRow). r.start) a.starts.now _ (omega (arith, p)) e.1,
      rows_placed s _ _ _ mi ai (λ (r : EdgeRow). r.end) a.ends.now _ (omega (arith, p)) e.2,
      rows_placed s _ _ _ mi ai (λ (r : EdgeRow). delay_of r.early) a.early.now _ (omega (arith, p)) e.3,
      rows_placed s _ _ _ mi ai (λ (r : EdgeRow). delay_of r.late) a.late.now _ (omega (arith, p)) e.4,
    )
