-- The patches before i are not seen any more, and the others stand as they were.
use Rattle.removal.specs.Patches.{Forgotten}
use Rattle.removal.proofs.patches.forget.Given as goal

abbrev pub invariant-loop-i : goal.invariant-loop-i
invariant-loop-i l = Forgotten l.l l.initial.scratch l.scratch l.i
