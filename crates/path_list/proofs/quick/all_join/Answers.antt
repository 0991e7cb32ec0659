use native.Mathlib.Omega.{arith}
use mathlib.Core.Path.{refl, ap}
use mathlib.Core.List.{[]}
use lib.ListN.{length, get_or, length-drop}
use lib.Seq.{drop-drop}
use borrow.Author.Count.{below_more}
use Rattle.timing.specs.Graphs.{design}
use Rattle.timing.specs.Tests.{meets, first_break}
use Rattle.path_list.proofs.Laws.{offset, offset_next, offset_most}
use Rattle.path_list.proofs.Sound.{cut_sound}
use Rattle.path_list.proofs.quick.all_join.Invariants.{Joined}
use Rattle.path_list.proofs.quick.all_join.Goals as goal
use Prim.Native.Nat.{◌+◌}

pub split_at-requires : goal.split_at-requires
split_at-requires c =
    let a = c.args in
    let i = c.loop-k.k-index in
    omega (
      arith,
      ap length c.loop-k.invariant.0,
      length-drop (offset a.lengths.now i) a.listed.now,
      offset_next a.lengths.now i c.loop-k-test.true,
      offset_most a.lengths.now (i + 1),
      c.requires.1,
    )

pub loop-k-preserved : goal.loop-k-preserved
loop-k-preserved c =
    let a = c.args in
    let i = c.loop-k.k-index in (
      rw (c.split_at.ensures.back, c.loop-k.invariant.0, drop-drop (get_or a.lengths.now i 0) (offset a.lengths.now i) a.listed.now, ← offset_next a.lengths.now i c.loop-k-test.true),
      below_more (Joined a.starts.now a.ends.now a.listed.now a.lengths.now) i c.loop-k.invariant.1
          (rw (c.split_at.ensures.front, c.loop-k.invariant.0) at (c.if-not-joins.ensures refl)),
    )

pub returns : goal.returns
returns c =
    let a = c.args in
    λ e. cut_sound 24 (first_break (meets (design 0 a.starts.now a.ends.now [] [] [])) 0) a.listed.now a.lengths.now (λ q h. c.loop-k.invariant.1 q (omega arith))
