use Prim.Native.Nat.{◌+◌, ◌-◌, ◌*◌, ◌≤◌, ◌<◌}
use native.Mathlib.Omega.{arith}
use lib.ListN.{get_or, take}
use Rattle.removal.specs.Rows.{slots_in}
use Rattle.removal.proofs.Reaching.RowLaws.{base_up}
use Rattle.removal.proofs.Reaching.CopyLaws.{run_at}
use Rattle.removal.proofs.Whole.BoundLaws.{bounded_start, bounded_next, bounded_all, run_up, edges_few, reached_few}
use Rattle.removal.proofs.bounds.bound_all.Goals as goal
use Rattle.removal.proofs.bounds.bound_all.Goals.{After-count_reached-reached}

pub loop-c-init : goal.loop-c-init
loop-c-init c = bounded_start c.args.l c.args.scratch.now

-- the numbers are small
few : (c : After-count_reached-reached)
    → (c.loop-c.copies + c.count_reached-reached.result < 4294967296)
    × (c.count_reached-reached.result * (get_or c.args.scratch.now (c.args.l.into + c.loop-c.c) 0 - c.loop-c.from) ≤ 4294967296 * 65536)
    × (c.loop-c.edges + c.count_reached-reached.result * (get_or c.args.scratch.now (c.args.l.into + c.loop-c.c) 0 - c.loop-c.from) ≤ 4294967296 * 65536)
few c =
    let a = c.args in
    let s = a.scratch.now in
    let w = c.loop-c in
    let h = c.loop-c-test.true in
    let all = base_up (slots_in a.l (take a.l.slots s)) w.c a.l.copies h in
    let some = reached_few a.l s c.requires w.c w.from w.copies w.edges h w.invariant in
    let most = edges_few a.l s c.requires w.c w.from w.copies w.edges h w.invariant in
    rw (c.count_reached-reached.ensures, run_at a.l s c.requires w.c h)
    (omega (arith, all, some, c.requires.few), omega (arith, all, some, most, c.requires.few), omega (arith, all, some, most, c.requires.few))

pub overflow_add-copies : goal.overflow_add-copies
overflow_add-copies c = omega (arith, (few (goal.at.overflow_add-copies c).After-count_reached-reached).0)

pub overflow_sub-edges : goal.overflow_sub-edges
overflow_sub-edges c =
    let w = c.loop-c in
    omega (arith, run_at c.args.l c.args.scratch.now c.requires w.c c.loop-c-test.true, run_up c.args.l c.args.scratch.now c.requires w.c w.from w.copies w.edges c.loop-c-test.true w.invariant)

pub overflow_mul-edges : goal.overflow_mul-edges
overflow_mul-edges c = omega (arith, (few (goal.at.overflow_mul-edges c).After-count_reached-reached).1)

pub overflow_add-edges : goal.overflow_add-edges
overflow_add-edges c = omega (arith, (few (goal.at.overflow_add-edges c).After-count_reached-reached).2)

pub loop-c-preserved : goal.loop-c-preserved
loop-c-preserved c =
    let w = c.loop-c in
    rw (c.count_reached-reached.ensures, run_at c.args.l c.args.scratch.now c.requires w.c c.loop-c-test.true)
    (bounded_next c.args.l c.args.scratch.now c.requires w.c w.from w.copies w.edges c.loop-c-test.true w.invariant)

pub returns : goal.returns
returns c =
    let w = c.loop-c in
    bounded_all c.args.l c.args.scratch.now w.c w.from w.copies w.edges (omega arith) w.invariant
