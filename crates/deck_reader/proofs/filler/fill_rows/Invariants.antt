-- The rows from i on, stored from i on, give the tables that storing all gives.
use Prim.Native.Nat.{◌-◌}
use mathlib.Core.Path.{◌≡◌}
use lib.Seq.{sets}
use Rattle.deck_reader.specs.Reading.{rows_end, starts_from, ends_from, early_from, late_from}
use Rattle.deck_reader.proofs.filler.fill_rows.Given as goal

abbrev pub invariant-loop-i : goal.invariant-loop-i
invariant-loop-i l =
    (rows_end l.s (l.m - l.i) l.at ≡ rows_end l.s l.m l.initial.at)
    × (sets l.starts l.i (starts_from l.s (l.m - l.i) l.at) ≡ sets l.initial.starts 0 (starts_from l.s l.m l.initial.at)) × (sets l.ends l.i (ends_from l.s (l.m - l.i) l.at) ≡ sets l.initial.ends 0 (ends_from l.s l.m l.initial.at))
    × (sets l.early l.i (early_from l.s (l.m - l.i) l.at) ≡ sets l.initial.early 0 (early_from l.s l.m l.initial.at)) × (sets l.late l.i (late_from l.s (l.m - l.i) l.at) ≡ sets l.initial.late 0 (late_from l.s l.m l.initial.at))
