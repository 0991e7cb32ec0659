-- The count, then the rows.
use mathlib.Core.Path.{sym}
use Rattle.deck_reader.proofs.Looking.{edges_at}
use Rattle.deck_reader.proofs.looker.look_edges.Goals as goal

pub returns : goal.returns
returns c =
    let a = c.args in
    edges_at a.s.now a.edges a.at _ _ _ (sym c.in_ok-count.ensures) c.look_rows.ensures
