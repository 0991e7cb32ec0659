-- Where each edge passes, each of the four tests passes.
use mathlib.Core.Path.{sym, subst}
use mathlib.Core.List.{[]}
use lib.Dec.{T}
use lib.ListN.{length}
use Rattle.timing.specs.Graphs.{design}
use Rattle.timing.specs.Tests.{strays, falls, out_of_range, early_above_late}
use Rattle.design.proofs.Passes.{four_pass}
use Rattle.design.proofs.quick.all_pass.Goals as goal

pub returns-then-ends-starts : goal.returns-then-ends-starts
returns-then-ends-starts c = λ e. absurd (subst T (sym e) tt)

pub returns-then-early-starts : goal.returns-then-early-starts
returns-then-early-starts c = λ e. absurd (subst T (sym e) tt)

pub returns-then-late-starts : goal.returns-then-late-starts
returns-then-late-starts c = λ e. absurd (subst T (sym e) tt)

pub returns : goal.returns
returns c =
    let a = c.args in
    let D = design a.n a.starts.now a.ends.now a.early.now a.late.now [] in
    λ e. four_pass 12 13 14 15 (strays D) (falls D) (out_of_range D) (early_above_late D) (length a.starts.now) (c.edges_pass.ensures e)
