-- The numbers before e pass, and those from e on do, where all of them do.
use mathlib.Core.Path.{◌≡◌}
use mathlib.Core.Bool.{◌&&◌}
use lib.ListN.{drop}
use Rattle.timing.specs.WellFormed.{zero_or_one}
use Rattle.verdicts.proofs.zero_or_one.Given as goal

abbrev pub invariant-loop-e : goal.invariant-loop-e
invariant-loop-e l = (l.pass && zero_or_one (drop l.e-index l.endpoint)) ≡ zero_or_one l.endpoint
