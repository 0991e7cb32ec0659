-- Arrivals and required times are small, so that their difference fits.
use mathlib.Core.Path.{sym, ◌∙◌, subst}
use mathlib.Core.List.{[]}
use Rattle.timing.specs.Calls.{graph_slices}
use Rattle.times.specs.Passes.{Small}
use Rattle.times.proofs.Passes.{arrivals_small, requireds_small, fit_ends, arrivals_any, earliests_any, slacks_are}
use Rattle.times.proofs.copies.fill_times.Goals as goal

pub fill_slacks-requires-clause-small : goal.fill_slacks-requires-clause-small
fill_slacks-requires-clause-small c =
    let a = c.args in
    let S = (graph_slices a.nodes.now a.endpoint.now a.from.now a.to.now a.via.now) in (
      subst Small (sym c.fill_arrivals.ensures.0) (arrivals_small a.late.now (graph_slices a.nodes.now [] a.from.now a.to.now a.via.now) (fit_ends c.requires.fit.0)),
      subst Small (sym c.fill_requireds.ensures) (requireds_small a.late.now S c.requires.fit.0 c.requires.fit.2 a.allowed c.requires.fit.3),
    )

pub returns : goal.returns
returns c =
    let a = c.args in
    let x = c.fill_arrivals.ensures in
    let y = c.fill_requireds.ensures in
    let z = x.0 ∙ arrivals_any a.late.now a.nodes.now a.endpoint.now a.from.now a.to.now a.via.now a.allowed in (
      z,
      y,
      c.fill_slacks.ensures ∙ slacks_are a.late.now a.nodes.now a.endpoint.now a.from.now a.to.now a.via.now a.allowed _ _ _ z y c.requires.as_long.2,
      x.1 ∙ earliests_any a.early.now a.nodes.now a.endpoint.now a.from.now a.to.now a.via.now,
    )
