-- As in the removal.
use Rattle.removal.proofs.Whole.TestLaws.{numbered_workable, numbered_sized}
use Rattle.removal.proofs.size_numbered.Goals as goal

pub size-requires : goal.size-requires
size-requires c = numbered_workable _ _ _ _ _ _ _ _ _ c.number_design.ensures c.requires.0

pub returns : goal.returns
returns c =
    let a = c.args in
    numbered_sized a.starts.now a.ends.now _ a.listed.now a.lengths.now _ _ _ _ c.number_design.ensures _ _ _ c.size.ensures
