-- Invariant: the places below i hold their slack, and the others what they held.
use Prim.Native.Nat.{ℕ}
use lib.IntN.{pos, ◌-ℤ◌}
use lib.ListN.{get_or}
use Rattle.theorems.proofs.Elements.{Done}
use Rattle.times.proofs.copies.fill_slacks.Given as goal

abbrev pub invariant-loop-i : goal.invariant-loop-i
invariant-loop-i l = Done (pos 0) (λ (c : ℕ). get_or l.requireds c (pos 0) -ℤ get_or l.arrivals c (pos 0)) l.i l.initial.slacks l.slacks
