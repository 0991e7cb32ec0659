-- Where all edges up to k pass, each edge before k passes.
use Prim.Native.Nat.{ℕ, ◌<◌}
use mathlib.Core.Path.{◌≡◌}
use mathlib.Core.Bool.{true, false}
use mathlib.Core.List.{[]}
use Rattle.timing.specs.Graphs.{Design, design}
use Rattle.timing.specs.Tests.{strays, falls, out_of_range, early_above_late}
use Rattle.design.proofs.quick.edges_pass.Given as goal

-- edge k passes 12 to 15
abbrev pub Fine : Design → ℕ → Type 0
Fine D k = (strays D k ≡ false) × (falls D k ≡ false) × (out_of_range D k ≡ false) × (early_above_late D k ≡ false)

abbrev pub invariant-loop-k : goal.invariant-loop-k
invariant-loop-k l = let D = design l.n l.starts l.ends l.early l.late [] in l.pass ≡ true → (j : ℕ) → j < l.k → Fine D j
