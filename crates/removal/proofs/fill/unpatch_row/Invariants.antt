-- `unpatch_row` meets its contract. The invariant: the edges of the patches before i have their flags.
use Rattle.removal.specs.Patches.{patch_at}
use Rattle.removal.specs.Fill.{RowWritten, default_at}
use Rattle.removal.proofs.fill.unpatch_row.Given as goal

abbrev pub invariant-loop-i : goal.invariant-loop-i
invariant-loop-i l = RowWritten l.l l.initial.scratch l.scratch l.i (patch_at l.l l.initial.scratch) (default_at l.l l.initial.scratch)
