-- The invariant: the items before i are those of the words there.
use Prim.Native.Nat.{ℕ}
use lib.ListN.{get_or}
use Rattle.theorems.proofs.Elements.{Done}
use Rattle.removal.specs.Levels.{item_of}
use Rattle.removal.proofs.levels.level_items.Given as goal

abbrev pub invariant-loop-i : goal.invariant-loop-i
invariant-loop-i l = Done 0 (λ (j : ℕ). item_of l.listed l.ends l.d (get_or l.who j 0)) l.i l.initial.items l.items
