-- Invariant: the edges from `first` to before k end at c, and t and e are the largest and the smallest over these.
use Prim.Native.Nat.{◌-◌, ◌≤◌, ◌<◌}
use mathlib.Core.Path.{◌≡◌}
use lib.ListN.{length}
use Rattle.timing.specs.Times.{largest, smallest}
use Rattle.times.specs.Fanins.{best_over}
use Rattle.times.proofs.Fanins.{Into}
use Rattle.times.proofs.arrivals.arrive.Given as goal

abbrev pub invariant-loop-arrivals : goal.invariant-loop-arrivals
invariant-loop-arrivals l =
    (l.first < l.k)
    × (l.k ≤ length l.to)
    × Into l.to l.c l.first l.k
    × (l.t ≡ best_over largest l.late l.from l.via l.arrivals l.first l.k)
    × (l.e ≡ best_over smallest l.early l.from l.via l.earliests l.first l.k)

abbrev pub decreases-loop-arrivals : goal.decreases-loop-arrivals
decreases-loop-arrivals l = length l.to - l.k
