-- `load_row` meets its contract. The invariant: the edges before q have their flags.
use Rattle.removal.proofs.Filling.FlagRows.{LoadedTo}
use Rattle.removal.proofs.fill.load_row.Given as goal

abbrev pub invariant-loop-q : goal.invariant-loop-q
invariant-loop-q l = LoadedTo l.l l.initial.scratch l.p0 l.scratch l.q
