-- The invariant: the defaults of the edges before q are flagged where they have to be.
use lib.ListN.{take}
use Rattle.removal.specs.Push.{DefaultsPushed}
use Rattle.removal.proofs.reach.push_defaults.Given as goal

abbrev pub invariant-loop-q : goal.invariant-loop-q
invariant-loop-q l = DefaultsPushed l.l (take l.l.slots l.initial.scratch) l.initial.scratch l.scratch l.p0 l.q l.reached
