-- The edges before i are in order where all passed, and end at as many copies as they turn.
use Prim.Native.Nat.{◌≤◌}
use mathlib.Core.Path.{◌≡◌}
use mathlib.Core.Bool.{true}
use Rattle.graph.specs.Passes.{Ordered, turns}
use Rattle.graph.proofs.quick.ends_counted.Given as goal

abbrev pub invariant-loop-i : goal.invariant-loop-i
invariant-loop-i l =
    (l.count ≤ l.i) × (l.count ≡ turns l.to l.i) × (l.pass ≡ true → Ordered l.copies l.names l.from l.to l.via l.i)
