-- What is left to be put from i on, put there, makes the whole.
use Prim.Native.Nat.{◌-◌}
use mathlib.Core.Path.{◌≡◌}
use mathlib.Core.List.{map}
use lib.ListN.{take, drop}
use lib.Seq.{sets}
use Rattle.timing.specs.Delays.{delay_of}
use Rattle.cases.proofs.unpack.Given as goal

abbrev pub invariant-loop-i : goal.invariant-loop-i
invariant-loop-i l = sets l.delays l.i (map delay_of (take (l.len - l.i) (drop l.i l.codes))) ≡ sets l.initial.delays 0 (map delay_of (take l.len l.codes))
