-- The look from here on at the copies that are left answers what the whole look does.
use Prim.Native.Nat.{◌-◌}
use mathlib.Core.Path.{◌≡◌}
use Rattle.timing.specs.GraphBytes.{copy_row}
use Rattle.timing.specs.Parsing.{repeated}
use Rattle.timing.specs.Looks.{looked}
use Rattle.graph_reader.proofs.reader.look_copies.Given as goal

abbrev pub invariant-loop : goal.invariant-loop
invariant-loop l = looked (repeated (l.n - l.counter) (copy_row l.s) l.here) ≡ looked (repeated l.n (copy_row l.s) l.at)
