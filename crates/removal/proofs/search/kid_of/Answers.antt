use Prim.Native.Nat.{◌+◌, ◌-◌, ◌/◌}
use native.Mathlib.Omega.{arith}
use lib.ListN.{get_or}
use Rattle.removal.proofs.Listing.SearchLaws.{sought_start, kids_up, kid_inside, sought_up, sought_down, child_found, child_none}
use Rattle.removal.proofs.search.kid_of.Goals as goal

pub loop-lo-init : goal.loop-lo-init
loop-lo-init c =
    let a = c.args in
    let s = a.s.now in
    sought_start s a.l.kids (get_or s (a.l.kid + a.u - 1) 0) (get_or s (a.l.kid + a.u) 0) a.e
    (kids_up c.requires.1.0 a.l s a.u c.requires.0 c.requires.1.1.0 c.requires.1.1.1)

pub bounds-s-l-in-loop-lo : goal.bounds-s-l-in-loop-lo
bounds-s-l-in-loop-lo c =
    let a = c.args in
    let l = c.loop-lo in
    kid_inside c.requires.1.0 a.l a.s.now a.u c.requires.0 c.requires.1.1.0 c.requires.1.1.1 (l.lo + (l.hi - l.lo) / 2) (omega (arith, l.invariant.most))

pub loop-lo-preserved-then-s-l : goal.loop-lo-preserved-then-s-l
loop-lo-preserved-then-s-l c =
    let a = c.args in
    sought_up c.requires.1.0 a.l a.s.now a.u c.requires.0 c.requires.1.1.0 c.requires.1.1.1 a.e c.loop-lo.lo c.loop-lo.hi (c.loop-lo.lo + (c.loop-lo.hi - c.loop-lo.lo) / 2) c.loop-lo.invariant (omega arith) (omega arith) c.if-s-l.true

pub loop-lo-preserved : goal.loop-lo-preserved
loop-lo-preserved c =
    let a = c.args in
    sought_down c.requires.1.0 a.l a.s.now a.u c.requires.0 c.requires.1.1.0 c.requires.1.1.1 a.e c.loop-lo.lo c.loop-lo.hi (c.loop-lo.lo + (c.loop-lo.hi - c.loop-lo.lo) / 2) c.loop-lo.invariant (omega arith) (omega arith) c.if-s-l.false

pub bounds-s-l-then-lo-end : goal.bounds-s-l-then-lo-end
bounds-s-l-then-lo-end c =
    let a = c.args in
    kid_inside c.requires.1.0 a.l a.s.now a.u c.requires.0 c.requires.1.1.0 c.requires.1.1.1 c.loop-lo.lo c.if-lo-end.true

pub returns-then-w-e : goal.returns-then-w-e
returns-then-w-e c L h g =
    let a = c.args in
    child_found L a.l a.s.now a.u c.requires.0 h g a.e c.loop-lo.lo c.loop-lo.invariant.least c.if-lo-end.true c.if-w-e.true

pub returns-else-w-e : goal.returns-else-w-e
returns-else-w-e c L h g =
    let a = c.args in
    child_none L a.l a.s.now a.u c.requires.0 h g a.e c.loop-lo.lo c.loop-lo.hi c.loop-lo-test.false c.loop-lo.invariant (λ h. c.if-w-e.false)

pub returns-else-lo-end : goal.returns-else-lo-end
returns-else-lo-end c L h g =
    let a = c.args in
    child_none L a.l a.s.now a.u c.requires.0 h g a.e c.loop-lo.lo c.loop-lo.hi c.loop-lo-test.false c.loop-lo.invariant (λ h. absurd (omega (arith, c.if-lo-end.false)))
