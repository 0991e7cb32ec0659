use Prim.Native.Nat.{ℕ}
use native.Mathlib.Omega.{arith}
use mathlib.Core.Path.{◌∙◌, ap}
use mathlib.Core.List.{[], map}
use lib.IntN.{pos}
use Rattle.timing.specs.Lists.{upto}
use Rattle.timing.specs.Times.{arrival_at, earliest_at}
use Rattle.timing.specs.Calls.{graph_slices, graph_of}
use Rattle.theorems.proofs.Elements.{done_none, done_all}
use Rattle.times.specs.Passes.{delay_of}
use Rattle.times.proofs.Fanins.{arrivals_pass, earliests_pass, fanin_first, fanin_next, copy_ready, copy_done}
use Rattle.times.proofs.arrivals.fill_arrivals.Goals as goal

pub loop-c-init : goal.loop-c-init
loop-c-init c =
    let a = c.args in
    (fanin_first a.late.now (graph_slices a.nodes.now [] a.from.now a.to.now a.via.now) c.requires.fit.0, done_none (pos 0) _ _, done_none (pos 0) _ _)

pub arrive-first-requires : goal.arrive-first-requires
arrive-first-requires c =
    let l = c.loop-c in
    let a = c.args in
    let S = graph_slices a.nodes.now [] a.from.now a.to.now a.via.now in (
      copy_ready a.late.now S c.requires.fit.0 (arrivals_pass a.late.now S c.requires.fit.0 (pos 0)) l.c l.first a.arrivals.now l.arrivals c.loop-c-test.true c.requires.as_long.0 l.invariant.1 l.invariant.0,
      copy_ready a.early.now S c.requires.fit.1 (earliests_pass a.early.now S c.requires.fit.1) l.c l.first a.earliests.now l.earliests c.loop-c-test.true c.requires.as_long.1 l.invariant.2 l.invariant.0,
    )

pub loop-c-preserved : goal.loop-c-preserved
loop-c-preserved c =
    let l = c.loop-c in
    let a = c.args in
    let S = graph_slices a.nodes.now [] a.from.now a.to.now a.via.now in
    let e = c.arrive-first.ensures in (
      fanin_next a.to.now l.c l.first c.arrive-first.result l.invariant.0 e.0,
      rw e.1 (copy_done a.late.now S c.requires.fit.0 (arrivals_pass a.late.now S c.requires.fit.0 (pos 0)) l.c l.first a.arrivals.now l.arrivals c.loop-c-test.true c.requires.as_long.0 l.invariant.1 l.invariant.0 c.arrive-first.result e.0),
      rw e.2 (copy_done a.early.now S c.requires.fit.1 (earliests_pass a.early.now S c.requires.fit.1) l.c l.first a.earliests.now l.earliests c.loop-c-test.true c.requires.as_long.1 l.invariant.2 l.invariant.0 c.arrive-first.result e.0),
    )

pub returns : goal.returns
returns c =
    let l = c.loop-c in
    let a = c.args in
    let G = graph_of (graph_slices a.nodes.now [] a.from.now a.to.now a.via.now) in (
      done_all (pos 0) _ l.c _ _ (omega (arith, c.loop-c-test.false, c.requires.as_long.0)) l.invariant.1 ∙ ap (λ (n : ℕ). map (arrival_at (delay_of a.late.now) (pos 0) G) (upto n 0)) c.requires.as_long.0,
      done_all (pos 0) _ l.c _ _ (omega (arith, c.loop-c-test.false, c.requires.as_long.1)) l.invariant.2 ∙ ap (λ (n : ℕ). map (earliest_at (delay_of a.early.now) G) (upto n 0)) c.requires.as_long.1,
    )
