-- Invariant: the places below i hold their first required time, and the others what they held.
use Prim.Native.Nat.{ℕ}
use lib.IntN.{pos}
use lib.ListN.{get_or}
use Rattle.times.specs.Passes.{first_required}
use Rattle.theorems.proofs.Elements.{Done}
use Rattle.times.proofs.requireds.first_requireds.Given as goal

abbrev pub invariant-loop-i : goal.invariant-loop-i
invariant-loop-i l =
    Done (pos 0) (λ (c : ℕ). first_required (get_or l.endpoint c 0) l.allowed) l.i l.initial.requireds l.requireds
