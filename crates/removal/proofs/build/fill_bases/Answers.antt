use Prim.Native.Nat.{suc, ◌+◌, ◌-◌}
use native.Mathlib.Omega.{arith}
use native.Mathlib.Numerals.{add-one}
use mathlib.Core.Path.{◌≡◌, refl}
use lib.ListN.{length, get_or}
use Rattle.removal.proofs.Building.BaseLaws.{basing_few, basing_turn, basing_done}
use Rattle.removal.proofs.build.fill_bases.Goals as goal

pub overflow_add-total-in-loop-c : goal.overflow_add-total-in-loop-c
overflow_add-total-in-loop-c c =
    let a = c.args in
    let w = c.loop-c in
    let below = c.requires.nodes_below w.c c.loop-c-test.true in
    let high = c.requires.few (get_or a.nodes.now w.c 0 + 1) (omega arith) in
    omega (arith, high, basing_few a.l a.nodes.now a.firsts.now a.scratch.now c.requires w.scratch w.total w.c w.invariant)

pub loop-c-preserved : goal.loop-c-preserved
loop-c-preserved c =
    let a = c.args in
    let w = c.loop-c in
    let v = get_or a.nodes.now w.c 0 in
    let first = get_or a.firsts.now v 0 in
    rw (add-one w.c, add-one v)
    (basing_turn a.l a.nodes.now a.firsts.now a.scratch.now c.requires w.scratch w.total w.c w.invariant first (get_or a.firsts.now (suc v) 0 - first) (omega (arith, c.requires.copies)) refl refl)

pub returns : goal.returns
returns c =
    let a = c.args in
    let w = c.loop-c in
    let all : w.c ≡ length a.nodes.now = omega arith in
    rw (← all) (basing_done a.l a.nodes.now a.firsts.now a.scratch.now c.requires w.scratch w.total w.c w.invariant (omega (arith, c.requires.copies)))
