-- The count, then the paths, which are the list's two tables.
use mathlib.Core.Path.{◌∙◌}
use lib.ListN.{length}
use Rattle.deck_reader.proofs.Reading.{listed_placed, lengths_placed, list_end_lem, list_fits}
use Rattle.deck_reader.proofs.filler.fill_list.Goals as goal

pub returns : goal.returns
returns c =
    let a = c.args in
    let s = a.s.now in
    let ki = c.wide.ensures ∙ c.take_number-count.ensures.0 in
    let ai = c.take_number-count.ensures.1 in
    let e = c.fill_paths.ensures in
    let f = list_fits s _ _ _ ki ai (length a.listed.now) (length a.lengths.now) c.requires in (
      e.0 ∙ ki,
      e.1 ∙ rw (ki, ai),
      list_end_lem s _ _ _ ki ai _ e.2,
      listed_placed s _ _ _ ki ai a.listed.now _ f.0 e.3,
      lengths_placed s _ _ _ ki ai a.lengths.now _ f.1 e.4,
    )
