-- The edges before i join; each index is that of an edge, by what is required.
use mathlib.Core.Path.{◌≡◌}
use mathlib.Core.List.{[]}
use Rattle.std.specs.Prelude.{None}
use lib.ListN.{take}
use Rattle.timing.specs.Graphs.{design}
use Rattle.timing.specs.Tests.{meets, first_break}
use Rattle.path_list.proofs.quick.joins.Given as goal

abbrev pub invariant-loop-i : goal.invariant-loop-i
invariant-loop-i l = first_break (meets (design 0 l.starts l.ends [] [] [])) 0 (take l.i l.path) ≡ None
