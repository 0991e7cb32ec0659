-- The count, then the numbers.
use mathlib.Core.List.{[], ◌∷◌}
use lib.ListN.{length}
use Rattle.packed_lists.proofs.Writing.{fits_first, fits_second, wrote_both}
use Rattle.deck_writer.proofs.writer.put_counted.Goals as goal

pub put-at-requires : goal.put-at-requires
put-at-requires c = fits_first _ _ (length c.args.s.now ∷ []) c.args.s.now c.requires.s_in_bounds

pub put_numbers-requires : goal.put_numbers-requires
put_numbers-requires c = fits_second (length c.args.s.now ∷ []) c.args.s.now c.requires.s_in_bounds c.put-at.ensures

pub returns : goal.returns
returns c = wrote_both (length c.args.s.now ∷ []) c.args.s.now c.put-at.ensures c.put_numbers.ensures
