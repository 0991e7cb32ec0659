-- The tests of the sizes, then those of the counts.
use mathlib.Core.Path.{◌≡◌, ◌∙◌}
use Rattle.std.proofs.Common.{rules}
use Rattle.std.specs.Prelude.{Err}
use Rattle.timing.specs.Answers.{Verdict, Passed}
use Rattle.deck_writer.specs.Writing.{deck_of}
use Rattle.deck_writer.proofs.Tests.{then_sizes}
use Rattle.deck_writer.proofs.counts.write_tests.Goals as goal

pub returns-in_err-and_list_sizes : goal.returns-in_err-and_list_sizes
returns-in_err-and_list_sizes c =
    let a = c.args in
    let d = deck_of a.n a.starts.now a.ends.now a.early.now a.late.now a.marked.now a.listed.now a.lengths.now 0 in
    let r = c.in_err-and_list_sizes.field-0.0 in
    let same : ◌≡◌ {A = Verdict} c.from_residual.result (Err r) = search rules in
    same ∙ then_sizes d _ (Err r) (c.design_sizes-sizes.ensures a.n a.marked.now) c.in_err-and_list_sizes.ensures

pub returns : goal.returns
returns c =
    let a = c.args in
    let d = deck_of a.n a.starts.now a.ends.now a.early.now a.late.now a.marked.now a.listed.now a.lengths.now 0 in
    c.count_tests.ensures ∙ then_sizes d _ Passed (c.design_sizes-sizes.ensures a.n a.marked.now) c.in_ok-and_list_sizes.ensures
