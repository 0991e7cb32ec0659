-- The three numbers fit, so that they are written.
use Rattle.packed_lists.proofs.Writing.{bytes_are, put_fits, put_never}
use mathlib.Core.Path.{sym, ◌∙◌}
use mathlib.Core.List.{[], ◌∷◌}
use Rattle.graph_writer.proofs.writer.put_row.Goals as goal

pub returns-in-Ok : goal.returns-in-Ok
returns-in-Ok c =
    let a = c.args in
    put_fits a.room.now a.at (a.s ∷ a.t ∷ a.k ∷ []) _ (bytes_are (a.s ∷ a.t ∷ a.k ∷ [])) c.requires _ _ (sym c.in-Ok.is ∙ c.write_row.ensures.0) c.write_row.ensures.1

pub returns-in-Err : goal.returns-in-Err
returns-in-Err c =
    let a = c.args in
    absurd (put_never a.room.now a.at (a.s ∷ a.t ∷ a.k ∷ []) _ (bytes_are (a.s ∷ a.t ∷ a.k ∷ [])) c.requires _ (sym c.in-Err.is ∙ c.write_row.ensures.0))
