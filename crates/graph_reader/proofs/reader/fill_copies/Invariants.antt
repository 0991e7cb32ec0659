-- Each slice is filled below i, and what is left comes from here on.
use Prim.Native.Nat.{◌-◌}
use mathlib.Core.Path.{◌≡◌}
use Rattle.graph_reader.specs.Reading.{copy_at, copy_end, copies_end}
use Rattle.graph_reader.proofs.Filling.{Column}
use Rattle.graph_reader.proofs.reader.fill_copies.Given as goal

abbrev pub invariant-loop-i : goal.invariant-loop-i
invariant-loop-i l =
    (copies_end l.s (l.n - l.i) l.here ≡ copies_end l.s l.n l.at)
    × Column (copy_at l.s) (copy_end l.s) (λ q. q.node) l.n l.at l.initial.room_nodes l.here l.i l.room_nodes × Column (copy_at l.s) (copy_end l.s) (λ q. q.endpoint) l.n l.at l.initial.room_endpoint l.here l.i l.room_endpoint
