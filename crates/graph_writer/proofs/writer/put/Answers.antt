-- The number fits, so that it is written.
use Rattle.packed_lists.proofs.Writing.{bytes_one, put_fits, put_never}
use mathlib.Core.Path.{sym, ◌∙◌}
use mathlib.Core.List.{[], ◌∷◌}
use Rattle.graph_writer.proofs.writer.put.Goals as goal

pub returns-in-Ok : goal.returns-in-Ok
returns-in-Ok c =
    let a = c.args in
    put_fits a.room.now a.at (a.x ∷ []) _ (bytes_one a.x) c.requires _ _ (sym c.in-Ok.is ∙ c.write_number.ensures.0) c.write_number.ensures.1

pub returns-in-Err : goal.returns-in-Err
returns-in-Err c =
    let a = c.args in
    absurd (put_never a.room.now a.at (a.x ∷ []) _ (bytes_one a.x) c.requires _ (sym c.in-Err.is ∙ c.write_number.ensures.0))
