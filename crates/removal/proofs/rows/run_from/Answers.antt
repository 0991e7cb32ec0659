-- The edges into a copy begin where those into the copy before it end.
use Prim.Native.Nat.{ℕ, suc, ◌+◌, ◌-◌}
use native.Mathlib.Omega.{arith}
use mathlib.Core.Path.{◌≡◌, sym, ◌∙◌, ap}
use lib.ListN.{take}
use Rattle.removal.specs.Rows.{run_from}
use Rattle.removal.proofs.Reaching.RowLaws.{read}
use Rattle.removal.proofs.rows.run_from.Goals as goal

pub returns : goal.returns
returns c =
    let a = c.args in
    let r = c.requires.0 in
    let k = c.requires.1 in
    let f = c.if-c-eq0.false in
    let e : a.c ≡ suc (a.c - 1) = omega (arith, f) in
    read a.l a.scratch.now r (a.l.into + (a.c - 1))
    (omega (arith, e, k, r.tabled.laid.into, r.tabled.laid.start, r.tabled.laid.name, r.tabled.laid.default))
    ∙ ap (λ (i : ℕ). run_from a.l (take a.l.slots a.scratch.now) i) (sym e)
