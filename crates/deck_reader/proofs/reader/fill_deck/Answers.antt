-- The reader stands at the front, behind the design, and behind the lists: what each part fills there is the deck's.
use Rattle.deck_reader.proofs.Reading.{deck_filled}
use Rattle.deck_reader.proofs.reader.fill_deck.Goals as goal

pub returns : goal.returns
returns c =
    let d = rw (c.at_front-r.ensures.0, c.at_front-r.ensures.1) at c.fill_design-design.ensures in
    let l = rw (c.onward-r.ensures.0, c.onward-r.ensures.1, c.at_front-r.ensures.0) at c.fill_lists-lists.ensures in
    let t = rw (c.onward-r-2.ensures.0, c.onward-r-2.ensures.1, c.onward-r.ensures.0, c.at_front-r.ensures.0) at c.take_number-allowed.ensures.0 in
    let x = c.fill_design-design.result in
    let y = c.fill_lists-lists.result in
    deck_filled c.args.s.now x.next d.2 x.nodes x.edges y.listed y.paths y.marked c.take_number-allowed.result.value y.next _ _ _ _ _ _ _ _ _ _ _ _ _ _
    (d.0, d.1) (l.0, l.1, l.2, l.3) t (d.3, d.4, d.5, d.6) (l.4, l.5, l.6)
