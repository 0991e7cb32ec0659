-- The store is made where the endpoint number is 1.
use Prim.Native.Nat.{ℕ}
use native.Mathlib.Omega.{arith}
use mathlib.Core.Path.{ap}
use lib.ListN.{get_or, set}
use borrow.Author.Tests.{eq-eqb}
use Rattle.removal.proofs.Reaching.CopyLaws.{slot_first, slot_low}
use Rattle.removal.proofs.reach.flag_endpoint.Goals as goal

pub bounds-scratch-at : goal.bounds-scratch-at
bounds-scratch-at c =
    let a = c.args in
    omega (arith, slot_low a.l a.scratch.now c.requires.0 a.c c.requires.1 0 (omega arith))

pub returns-then-endpoint-c-eq1 : goal.returns-then-endpoint-c-eq1
returns-then-endpoint-c-eq1 c =
    let a = c.args in
    rw (eq-eqb (get_or a.endpoint.now a.c 0) 1 c.if-endpoint-c-eq1.true)
    (ap (λ (i : ℕ). set a.scratch.now i 1) (slot_first a.l a.scratch.now c.requires.0 a.c c.requires.1))
