-- As of the removal in the largest room; there is none for 30 to test.
use mathlib.Core.Path.{◌≡◌, sym}
use Rattle.std.specs.Prelude.{Result, Err}
use Rattle.std.proofs.Common.{rules}
use lib.ListN.{length}
use Rattle.timing.specs.Answers.{Passed}
use Rattle.timing.specs.declared.GraphCounts.{GraphCounts}
use Rattle.timing.specs.declared.Refusal.{Refusal}
use Rattle.timing.specs.Graphs.{design, Graph}
use Rattle.timing.specs.Marks.{path_list}
use Rattle.timing.specs.Calls.{Outcome, largest_room}
use Rattle.removal.specs.Remove.{Sized}
use Rattle.removal.proofs.Whole.TestLaws.{design_refused, design_passed, design_numberable, design_sized, no_room, size_design, sized_kept}
use Rattle.removal.proofs.size_from_design.Goals as goal

pub returns-in_err-list_tests : goal.returns-in_err-list_tests
returns-in_err-list_tests c =
    let a = c.args in
    let r = c.in_err-list_tests.field-0.0 in
    let same : ◌≡◌ {A = Result GraphCounts Refusal} c.from_residual.result (Err r) = search rules in
    let P = λ (o : Outcome Graph). Sized o (Err r) a.scratch.now a.scratch.now in
    rw same
    (size_design P (design a.n a.starts.now a.ends.now a.early.now a.late.now a.marked.now) (path_list a.listed.now a.lengths.now) (length a.scratch.now)
    (design_refused a.n a.starts.now a.ends.now a.early.now a.late.now a.marked.now a.listed.now a.lengths.now Passed largest_room no_room (length a.scratch.now) P r (sym c.in_err-list_tests.ensures) (sized_kept r _)))

pub size_tested-requires : goal.size_tested-requires
size_tested-requires c =
    let a = c.args in
    design_numberable a.n a.starts.now a.ends.now a.early.now a.late.now a.marked.now a.listed.now a.lengths.now Passed (sym c.in_ok-list_tests.ensures)

pub returns : goal.returns
returns c =
    let a = c.args in
    let r = c.size_tested in
    let passed = sym c.in_ok-list_tests.ensures in
    let P = λ (o : Outcome Graph). Sized o r.result a.scratch.now r.new.scratch in
    size_design P (design a.n a.starts.now a.ends.now a.early.now a.late.now a.marked.now) (path_list a.listed.now a.lengths.now) (length a.scratch.now)
    (design_passed a.n a.starts.now a.ends.now a.early.now a.late.now a.marked.now a.listed.now a.lengths.now Passed largest_room no_room (length a.scratch.now) P passed
    (design_sized a.n a.starts.now a.ends.now a.early.now a.late.now a.marked.now a.listed.now a.lengths.now Passed passed r.result a.scratch.now _ r.ensures))
