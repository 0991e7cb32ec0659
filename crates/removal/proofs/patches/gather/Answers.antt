use Prim.Native.Nat.{◌+◌, ◌<◌}
use native.Mathlib.Omega.{arith}
use mathlib.Core.Path.{◌≡◌}
use lib.ListN.{length, get_or}
use Rattle.removal.proofs.Patching.NoteLaws.{searching_next}
use Rattle.removal.proofs.Patching.GatherLaws.{walked_start, walked_kids, walked_link, walked_next, walked_all}
use Rattle.removal.proofs.patches.gather.Goals as goal
use Rattle.removal.proofs.patches.gather.Goals.{After-collect_kids-k}

pub loop-u-init : goal.loop-u-init
loop-u-init c =
    let a = c.args in
    walked_start a.l a.scratch.now a.pos.now a.c a.j a.p0 a.p1 a.f c.requires.0 c.requires.1

pub collect_kids-k-requires : goal.collect_kids-k-requires
collect_kids-k-requires c =
    let a = c.args in
    let w = c.loop-u in (
      searching_next a.l a.scratch.now w.scratch a.pos.now a.c a.j a.p0 a.p1 0 w.k c.requires.0 w.invariant.kept w.invariant.gathered,
      walked_kids a.l a.scratch.now a.pos.now a.c a.j a.p0 a.p1 a.f c.requires.0 c.requires.1 w.scratch w.u w.k w.invariant c.loop-u-test.true,
    )

-- the next class on the chain is in the tables, and lower
link : (c : After-collect_kids-k) → let t = c.collect_kids-k.new.scratch in (c.args.l.lists.fail + c.loop-u.u < length t) × (length t ≡ length c.args.scratch.now) × (get_or t (c.args.l.lists.fail + c.loop-u.u) 0 < c.loop-u.u)
link c =
    let a = c.args in
    let w = c.loop-u in
    let k = c.collect_kids-k in
    walked_link a.l a.scratch.now a.pos.now a.c a.j a.p0 a.p1 a.f c.requires.0 c.requires.1 w.scratch w.u w.k w.invariant c.loop-u-test.true k.new.scratch k.result k.ensures

pub overflow_add-u : goal.overflow_add-u
overflow_add-u c = omega (arith, link (goal.at.overflow_add-u c).After-collect_kids-k)

pub offset_bounds-scratch-l : goal.offset_bounds-scratch-l
offset_bounds-scratch-l c = omega (arith, link (goal.at.offset_bounds-scratch-l c).After-collect_kids-k)

pub bounds-scratch-l : goal.bounds-scratch-l
bounds-scratch-l c = (link (goal.at.bounds-scratch-l c).After-collect_kids-k).0

pub loop-u-smaller : goal.loop-u-smaller
loop-u-smaller c = (link (goal.at.loop-u-smaller c).After-collect_kids-k).2

pub loop-u-preserved : goal.loop-u-preserved
loop-u-preserved c =
    let a = c.args in
    let w = c.loop-u in
    let k = c.collect_kids-k in
    walked_next a.l a.scratch.now a.pos.now a.c a.j a.p0 a.p1 a.f c.requires.0 c.requires.1 w.scratch w.u w.k w.invariant c.loop-u-test.true k.new.scratch k.result k.ensures

pub returns : goal.returns
returns c =
    let a = c.args in
    let w = c.loop-u in
    walked_all a.l a.scratch.now a.pos.now a.c a.j a.p0 a.p1 a.f c.requires.0 c.requires.1 w.scratch w.u w.k w.invariant c.loop-u-test.false
