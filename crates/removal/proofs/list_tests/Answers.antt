-- Each verdict is handed on to the next test.
use Rattle.timing.specs.Graphs.{design}
use Rattle.timing.specs.Marks.{path_list}
use Rattle.timing.specs.Tests.{design_sizes, list_sizes, design_tests, list_tests}
use Rattle.removal.proofs.Whole.TestLaws.{list_chain}
use Rattle.removal.proofs.list_tests.Goals as goal

pub returns : goal.returns
returns c =
    let a = c.args in
    let D = design a.n a.starts.now a.ends.now a.early.now a.late.now a.marked.now in
    let L = path_list a.listed.now a.lengths.now in
    rw (c.and_list_tests.ensures a.n a.early.now a.late.now a.marked.now, c.and_design_tests-fit.ensures, c.then-sizes.ensures, c.and_list_sizes-sums.ensures, c.design_sizes-slices.ensures a.n a.marked.now)
    (list_chain (design_sizes D) (list_sizes L) a.others (design_tests D) (list_tests D L))
