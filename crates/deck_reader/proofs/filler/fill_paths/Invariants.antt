-- The paths from k on, stored from k and `filled` on, give the tables that storing all gives.
use Prim.Native.Nat.{◌+◌, ◌-◌}
use mathlib.Core.Path.{◌≡◌}
use lib.ListN.{length}
use lib.Seq.{sets}
use Rattle.deck_reader.specs.Reading.{edges_from, lengths_from, paths_end}
use Rattle.deck_reader.proofs.filler.fill_paths.Given as goal

abbrev pub invariant-loop-k : goal.invariant-loop-k
invariant-loop-k l =
    (l.filled + length (edges_from l.s (l.count - l.k) l.at) ≡ length (edges_from l.s l.count l.initial.at))
    × (paths_end l.s (l.count - l.k) l.at ≡ paths_end l.s l.count l.initial.at) × (sets l.listed l.filled (edges_from l.s (l.count - l.k) l.at) ≡ sets l.initial.listed 0 (edges_from l.s l.count l.initial.at))
    × (sets l.lengths l.k (lengths_from l.s (l.count - l.k) l.at) ≡ sets l.initial.lengths 0 (lengths_from l.s l.count l.initial.at))
