-- The first fault of all is the first of the paths from p on, which are what is left of the flat list.
use Prim.Native.Nat.{ℕ}
use mathlib.Core.Path.{◌≡◌}
use mathlib.Core.List.{List}
use Rattle.std.specs.Prelude.{Option}
use Rattle.std.specs.Fn.{FnReturnsAt}
use lib.ListN.{drop}
use Rattle.timing.specs.Refusals.{first_fault}
use Rattle.timing.specs.Marks.{cut}
use Rattle.path_list.proofs.paths.first_fault.Given as goal

abbrev pub invariant-loop-p : goal.invariant-loop-p
invariant-loop-p g l =
    (f : List ℕ → Option ℕ) → ((path : List ℕ) (r : Option ℕ) → FnReturnsAt g.F.Fn l.fault path r → r ≡ f path)
    → first_fault l.number f l.p (cut l.rest (drop l.p l.lengths)) ≡ first_fault l.number f 0 (cut l.listed l.lengths)
