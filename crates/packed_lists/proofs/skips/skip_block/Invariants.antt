-- As long as no byte is unended, the bytes gone over are numbers of one or two bytes, of which the last may not have ended.
use Prim.Native.Nat.{◌≤◌}
use mathlib.Core.Path.{◌≡◌}
use Rattle.packed_lists.specs.Skips.{Scanned}
use Rattle.packed_lists.proofs.skips.skip_block.Given as goal

abbrev pub invariant-loop-i : goal.invariant-loop-i
invariant-loop-i l = (l.count ≤ l.i) × (l.unended ≤ l.i) × (l.unended ≡ 0 → Scanned l.s l.at l.i l.count)
