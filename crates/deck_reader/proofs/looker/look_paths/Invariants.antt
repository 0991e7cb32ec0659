-- The paths that are left, from here on with this sum, end where all do.
use Prim.Native.Nat.{◌-◌, ◌≤◌}
use mathlib.Core.Path.{◌≡◌}
use Rattle.timing.specs.Decks.{paths}
use Rattle.timing.specs.Looks.{looked}
use Rattle.deck_reader.proofs.looker.look_paths.Given as goal

abbrev pub invariant-loop : goal.invariant-loop
invariant-loop l = (l.sum ≤ 8192) × (looked (paths l.s l.table (l.count - l.counter) l.sum l.at) ≡ looked (paths l.s l.table l.count 0 l.initial.at))
