-- The marked nodes behind their count, then T.
use mathlib.Core.List.{[], ◌∷◌}
use lib.ListN.{length}
use Rattle.packed_lists.proofs.Writing.{fits_first, fits_second, wrote_both}
use Rattle.deck_writer.proofs.writer.put_tail.Goals as goal

pub put_counted-at-requires-clause-s_in_bounds : goal.put_counted-at-requires-clause-s_in_bounds
put_counted-at-requires-clause-s_in_bounds c =
    let m = c.args.marked.now in
    fits_first _ _ (length m ∷ m) (c.args.allowed ∷ []) c.requires.allowed_in_bounds

pub put-requires : goal.put-requires
put-requires c =
    let m = c.args.marked.now in
    fits_second (length m ∷ m) (c.args.allowed ∷ []) c.requires.allowed_in_bounds c.put_counted-at.ensures

pub returns : goal.returns
returns c =
    let m = c.args.marked.now in
    wrote_both (length m ∷ m) (c.args.allowed ∷ []) c.put_counted-at.ensures c.put.ensures
