-- Where the tests pass, the search has what it asks (`passed_ready`); a refusal stores nothing.
use mathlib.Core.Path.{◌≡◌, refl, sym}
use Rattle.std.specs.Prelude.{ℕ, Option, Result, Err}
use Rattle.std.proofs.Common.{rules}
use Rattle.timing.specs.declared.Refusal.{Refusal}
use Rattle.timing.specs.Graphs.{design}
use Rattle.timing.specs.Calls.{graph_slices, test_late, late_or_not, arrivals_after_late}
use Rattle.times.proofs.Passed.{passed_ready}
use Rattle.late.proofs.late_or_not.Goals as goal

pub returns-in_err-timing_tests : goal.returns-in_err-timing_tests
unfolding test_late late_or_not arrivals_after_late
returns-in_err-timing_tests c =
    let same : ◌≡◌ {A = Result (Option ℕ) Refusal} c.from_residual.result (Err c.in_err-timing_tests.field-0.0) = search rules in
    rw (← c.same_sizes-lent.ensures, ← c.in_err-timing_tests.ensures) (same, refl)

pub find_late-requires-clause-fit : goal.find_late-requires-clause-fit
find_late-requires-clause-fit c =
    let a = c.args in
    (passed_ready (design a.n a.starts.now a.ends.now a.early.now a.late.now a.marked.now) (graph_slices a.nodes.now a.endpoint.now a.from.now a.to.now a.via.now) a.allowed _ (sym c.in_ok-timing_tests.ensures)).late

pub returns : goal.returns
unfolding test_late late_or_not arrivals_after_late
returns c =
    let f = c.find_late.ensures in
    rw (← c.same_sizes-lent.ensures, ← c.in_ok-timing_tests.ensures, ← f.0) (refl, f.1)
