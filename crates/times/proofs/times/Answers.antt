-- Where the tests pass, the passes have what they ask (`passed_ready`); a refusal stores nothing.
use mathlib.Core.Path.{◌≡◌, refl, sym}
use Rattle.std.specs.Prelude.{Err}
use Rattle.std.proofs.Common.{rules}
use Rattle.timing.specs.Answers.{Verdict}
use Rattle.timing.specs.Graphs.{design}
use Rattle.timing.specs.Calls.{graph_slices, test_times, arrivals_after, requireds_after, slacks_after, earliests_after}
use Rattle.timing.proofs.Verdicts.{times_passed}
use Rattle.times.proofs.Passed.{passed_ready}
use Rattle.times.proofs.times.Goals as goal

pub returns-in_err-times_tests : goal.returns-in_err-times_tests
unfolding arrivals_after requireds_after slacks_after earliests_after
returns-in_err-times_tests c =
    let same : ◌≡◌ {A = Verdict} c.from_residual.result (Err c.in_err-times_tests.field-0.0) = search rules in
    rw (sym c.in_err-times_tests.ensures) (same, refl, refl, refl, refl)

pub fill_times-requires : goal.fill_times-requires
unfolding test_times
fill_times-requires c =
    let a = c.args in
    let r = passed_ready (design a.n a.starts.now a.ends.now a.early.now a.late.now a.marked.now) (graph_slices a.nodes.now a.endpoint.now a.from.now a.to.now a.via.now) a.allowed _ (sym c.in_ok-times_tests.ensures) in record { fit = (r.late, r.early, r.onward, r.allowed, r.endpoints); as_long = times_passed _ _ _ _ _ r.places }

pub returns : goal.returns
unfolding arrivals_after requireds_after slacks_after earliests_after
returns c =
    let f = c.fill_times.ensures in rw (sym c.in_ok-times_tests.ensures) (refl, f.0, f.1, f.2, f.3)
