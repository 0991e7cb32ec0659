-- What is left to be put into the table from k on, put there, makes the whole.
use Prim.Native.Nat.{◌-◌}
use mathlib.Core.Path.{◌≡◌}
use lib.Seq.{sets}
use Rattle.cases.specs.Slices.{values, values_end}
use Rattle.cases.proofs.fill_from.Given as goal

abbrev pub invariant-loop-k : goal.invariant-loop-k
invariant-loop-k l =
    (sets l.table l.k (values l.s l.rise (l.len - l.k) l.left l.value l.next) ≡ sets l.initial.table 0 (values l.s l.rise l.len l.initial.left l.initial.value l.initial.next))
    × (values_end l.s (l.len - l.k) l.left l.next ≡ values_end l.s l.len l.initial.left l.initial.next)
