-- The look from here on at the numbers that are left answers what the whole look does.
use Prim.Native.Nat.{◌-◌}
use mathlib.Core.Path.{◌≡◌}
use Rattle.timing.specs.Parsing.{number, repeated}
use Rattle.timing.specs.Looks.{looked}
use Rattle.packed_lists.proofs.look_numbers.Given as goal

abbrev pub invariant-loop : goal.invariant-loop
invariant-loop l = looked (repeated (l.k - l.counter) (number l.s) l.here) ≡ looked (repeated l.k (number l.s) l.at)
