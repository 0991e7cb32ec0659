use native.Mathlib.Omega.{arith}
use lib.IntN.{pos}
use Rattle.std.proofs.Common.{rules}
use Rattle.timing.specs.Calls.{graph_slices}
use Rattle.late.proofs.Found.{searched_none, searched_ready, found_late, searched_next, searched_all}
use Rattle.late.proofs.search.find_late.Goals as goal

pub loop-c-init : goal.loop-c-init
loop-c-init c = searched_none c.args.late.now _ c.requires.fit (pos c.args.allowed) c.args.arrivals.now

pub arrive-first-requires : goal.arrive-first-requires
arrive-first-requires c =
    let l = c.loop-c in
    let a = c.args in
    searched_ready a.late.now (graph_slices a.nodes.now a.endpoint.now a.from.now a.to.now a.via.now) c.requires.fit (pos a.allowed) a.arrivals.now c.requires.as_long.0 l.c l.first l.arrivals l.invariant c.loop-c-test.true

pub returns-then-is_late : goal.returns-then-is_late
returns-then-is_late c =
    let l = c.loop-c in
    let a = c.args in
    found_late a.late.now (graph_slices a.nodes.now a.endpoint.now a.from.now a.to.now a.via.now) c.requires.fit (pos a.allowed) a.arrivals.now c.requires.as_long.0 l.c l.first l.arrivals l.invariant c.loop-c-test.true _ c.arrive-first.ensures.0 _ c.arrive-first.ensures.1
    c.is_late.result (search rules) c.if-is_late.true

pub loop-c-preserved : goal.loop-c-preserved
loop-c-preserved c =
    let l = c.loop-c in
    let a = c.args in
    searched_next a.late.now (graph_slices a.nodes.now a.endpoint.now a.from.now a.to.now a.via.now) c.requires.fit (pos a.allowed) a.arrivals.now c.requires.as_long.0 l.c l.first l.arrivals l.invariant c.loop-c-test.true _ c.arrive-first.ensures.0 _ c.arrive-first.ensures.1
    c.is_late.result (search rules) c.if-is_late.false

pub returns : goal.returns
returns c =
    let l = c.loop-c in
    let a = c.args in
    searched_all a.late.now (graph_slices a.nodes.now a.endpoint.now a.from.now a.to.now a.via.now) c.requires.fit (pos a.allowed) a.arrivals.now c.requires.as_long.0 l.c l.first l.arrivals l.invariant (omega arith)
