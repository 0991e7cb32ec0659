-- The numbers from i on, stored from `filled + i` on, give the table that storing all gives.
use Prim.Native.Nat.{◌+◌, ◌-◌}
use mathlib.Core.Path.{◌≡◌}
use lib.Seq.{sets}
use Rattle.deck_reader.specs.Reading.{numbers_from, numbers_end}
use Rattle.deck_reader.proofs.filler.fill_numbers.Given as goal

abbrev pub invariant-loop-i : goal.invariant-loop-i
invariant-loop-i l = (numbers_end l.s (l.count - l.i) l.at ≡ numbers_end l.s l.count l.initial.at) × (sets l.listed (l.filled + l.i) (numbers_from l.s (l.count - l.i) l.at) ≡ sets l.initial.listed l.filled (numbers_from l.s l.count l.initial.at))
