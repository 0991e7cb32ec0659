-- The invariant: count is how many edges before q come from shown slots at their defaults.
use Prim.Native.Nat.{◌-◌}
use mathlib.Core.Path.{◌≡◌}
use Rattle.timing.specs.Lists.{count_of, upto}
use Rattle.removal.proofs.Showing.ShowTables.{default_test}
use Rattle.removal.proofs.show.shown_defaults.Given as goal

abbrev pub invariant-loop-q : goal.invariant-loop-q
invariant-loop-q l = l.count ≡ count_of (default_test l.l l.scratch) (upto (l.q - l.p0) l.p0)
