-- The invariant: the flags before the one at hand are 0 or 1, and those from it on are as they were.
use Rattle.removal.proofs.Showing.ResetLaws.{Resetting}
use Rattle.removal.proofs.show.reset_flags.Given as goal

abbrev pub invariant-loop-flag : goal.invariant-loop-flag
invariant-loop-flag l = Resetting l.initial.flag-items l.flag-items l.flag-index
