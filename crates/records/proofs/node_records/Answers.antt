-- Where the tests pass, each slice has a place for each node; a refusal stores nothing.
use mathlib.Core.Path.{◌≡◌, refl, sym, ◌∙◌}
use lib.IntN.{pos}
use lib.ListN.{length}
use Rattle.std.specs.Prelude.{Err}
use Rattle.std.proofs.Common.{rules}
use Rattle.timing.specs.Answers.{Verdict}
use Rattle.timing.specs.Calls.{test_records, has_times, arrival_of, required_of, slack_of, earliest_of, records_after}
use Rattle.records.proofs.Records.{node_filled, records_sizes}
use Rattle.records.proofs.node_records.Goals as goal

pub returns-in_err-records_tests : goal.returns-in_err-records_tests
unfolding test_records records_after
returns-in_err-records_tests c =
    let same : ◌≡◌ {A = Verdict} c.from_residual.result (Err c.in_err-records_tests.field-0.0) = search rules in
    rw (sym c.in_err-records_tests.ensures) (same, refl, refl, refl, refl, refl)

pub fill_records-requires : goal.fill_records-requires
unfolding test_records
fill_records-requires c =
    let a = c.args in
    let n = records_sizes a.nodes.now a.arrivals.now a.requireds.now a.slacks.now a.earliests.now a.n (length a.known.now) (length a.na.now) (length a.nr.now) (length a.ns.now) (length a.ne.now) (sym c.in_ok-records_tests.ensures) in
    (n.1 ∙ sym n.0, n.2 ∙ sym n.0, n.3 ∙ sym n.0, n.4 ∙ sym n.0)

pub returns : goal.returns
unfolding test_records records_after
returns c =
    let a = c.args in
    let f = c.fill_records.ensures in
    let n = (records_sizes a.nodes.now a.arrivals.now a.requireds.now a.slacks.now a.earliests.now a.n (length a.known.now) (length a.na.now) (length a.nr.now) (length a.ns.now) (length a.ne.now) (sym c.in_ok-records_tests.ensures)).0 in
    rw (sym c.in_ok-records_tests.ensures) (
      refl,
      node_filled a.nodes.now a.arrivals.now a.requireds.now a.slacks.now a.earliests.now 0 has_times _ _ _ n f.0,
      node_filled a.nodes.now a.arrivals.now a.requireds.now a.slacks.now a.earliests.now (pos 0) arrival_of _ _ _ n f.1,
      node_filled a.nodes.now a.arrivals.now a.requireds.now a.slacks.now a.earliests.now (pos 0) required_of _ _ _ n f.2,
      node_filled a.nodes.now a.arrivals.now a.requireds.now a.slacks.now a.earliests.now (pos 0) slack_of _ _ _ n f.3,
      node_filled a.nodes.now a.arrivals.now a.requireds.now a.slacks.now a.earliests.now (pos 0) earliest_of _ _ _ n f.4,
    )
