-- The list of paths, and behind it the marked nodes.
use mathlib.Core.Path.{◌∙◌, ap}
use Rattle.timing.specs.Looks.{value_at}
use Rattle.deck_reader.specs.Reading.{counted_end}
use Rattle.deck_reader.proofs.Reading.{marked_placed}
use Rattle.deck_reader.proofs.filler.fill_lists.Goals as goal

pub returns : goal.returns
returns c =
    let a = c.args in
    let s = a.s.now in
    let e = c.fill_list-list.ensures in
    let f = c.fill_counted-nodes.ensures in (
      e.0,
      e.1,
      c.wide.ensures ∙ f.0 ∙ ap (value_at s) e.2,
      f.1 ∙ ap (counted_end s) e.2,
      e.3,
      e.4,
      marked_placed s a.at _ e.2 a.marked.now _ c.requires.2 f.2,
    )
