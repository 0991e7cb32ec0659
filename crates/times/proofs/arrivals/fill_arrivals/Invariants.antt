-- Invariant: the copies below c hold their times, and the fanin of c stands from `first` on.
use mathlib.Core.List.{[]}
use lib.IntN.{pos}
use Rattle.timing.specs.Times.{arrival_at, earliest_at}
use Rattle.timing.specs.Calls.{graph_slices, graph_of}
use Rattle.theorems.proofs.Elements.{Done}
use Rattle.times.specs.Passes.{delay_of}
use Rattle.times.specs.Fanins.{FaninFrom}
use Rattle.times.proofs.arrivals.fill_arrivals.Given as goal

abbrev pub invariant-loop-c : goal.invariant-loop-c
invariant-loop-c l =
    let G = graph_of (graph_slices l.nodes [] l.from l.to l.via) in
    FaninFrom l.to l.c l.first
    × Done (pos 0) (arrival_at (delay_of l.late) (pos 0) G) l.c l.initial.arrivals l.arrivals
    × Done (pos 0) (earliest_at (delay_of l.early) G) l.c l.initial.earliests l.earliests
