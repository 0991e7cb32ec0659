-- Where 31 passes with half of the scratch, half is enough; else all of it is lent.
use native.Mathlib.Omega.{arith}
use mathlib.Core.Path.{sym, ◌∙◌}
use Rattle.timing.specs.Graphs.{design}
use Rattle.timing.specs.Marks.{path_list}
use Rattle.true_graph.proofs.Halves.{few_paths, half_same}
use Rattle.true_graph.proofs.remove_tested.Goals as goal

pub overflow_sub-candidates : goal.overflow_sub-candidates
overflow_sub-candidates c =
    let a = c.args in
    let D = design a.n a.starts.now a.ends.now a.early.now a.late.now a.marked.now in
    omega (arith, few_paths D (path_list a.listed.now a.lengths.now) c.requires)

pub returns-in-Ok : goal.returns-in-Ok
returns-in-Ok c =
    let a = c.args in
    let D = design a.n a.starts.now a.ends.now a.early.now a.late.now a.marked.now in
    rw (half_same D (path_list a.listed.now a.lengths.now) c.requires _ (sym c.scratch_test-half.ensures ∙ c.in-Ok.is)) at c.remove_in.ensures
