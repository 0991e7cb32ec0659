use Prim.Native.Nat.{◌+◌, ◌≤◌}
use native.Mathlib.Omega.{arith}
use native.Mathlib.Numerals.{add-one}
use lib.ListN.{length, get_or}
use Rattle.removal.proofs.Building.CountLaws.{path_inside, path_counting, tally_turn, tally_done}
use Rattle.removal.proofs.build.count_inner.Goals as goal
use Rattle.removal.proofs.build.count_inner.Goals.{In-loop-length}

-- the path ends inside the list
inside : (c : In-loop-length) → c.loop-length.at + get_or c.args.lengths.now c.loop-length.length-index 0 ≤ length c.args.listed.now
inside c =
    let a = c.args in
    let w = c.loop-length in
    path_inside a.starts.now a.listed.now a.lengths.now w.counts w.at w.length-index c.requires.0 w.invariant c.loop-length-test.true

pub overflow_add-end : goal.overflow_add-end
overflow_add-end c = omega (arith, inside (goal.at.overflow_add-end c).In-loop-length, c.requires.0.few)

pub overflow_add-at : goal.overflow_add-at
overflow_add-at c = omega (arith, inside (goal.at.overflow_add-at c).In-loop-length, c.requires.0.few)

pub count_path-requires : goal.count_path-requires
count_path-requires c =
    let a = c.args in
    let w = c.loop-length in
    path_counting a.starts.now a.listed.now a.lengths.now w.counts w.at w.length-index c.requires.0 w.invariant c.loop-length-test.true

pub loop-length-preserved : goal.loop-length-preserved
loop-length-preserved c =
    let a = c.args in
    let w = c.loop-length in
    rw (add-one w.length-index)
    (tally_turn a.starts.now a.listed.now a.lengths.now w.counts w.at w.length-index c.requires.0 w.invariant c.loop-length-test.true c.count_path.new.counts c.count_path.ensures)

pub returns : goal.returns
returns c =
    let a = c.args in
    let w = c.loop-length in
    tally_done a.starts.now a.listed.now a.lengths.now w.counts w.at w.length-index c.requires.0 w.invariant (omega arith)
