-- The design as a graph: its copies and its edges have their own numbers.
use Rattle.removal.proofs.Whole.TestLaws.{numbered_workable, numbered_removed}
use Rattle.removal.proofs.remove_numbered.Goals as goal

pub remove-requires : goal.remove-requires
remove-requires c = (numbered_workable _ _ _ _ _ _ _ _ _ c.number_design.ensures c.requires.0, c.requires.2)

pub returns : goal.returns
returns c =
    let a = c.args in
    numbered_removed a.starts.now a.ends.now _ a.listed.now a.lengths.now _ _ _ _ c.number_design.ensures _ _ _ _ _ _ _ _ _ _ _ _ _ c.remove.ensures
