use mathlib.Core.Path.{◌≡◌, refl, sym}
use Rattle.std.specs.Prelude.{Result, Err}
use Rattle.std.proofs.Common.{rules}
use Rattle.timing.specs.declared.NodeRecord.{NodeRecord}
use Rattle.timing.specs.declared.Refusal.{Refusal}
use Rattle.timing.specs.Calls.{record_of}
use Rattle.records.proofs.node_record.Goals as goal

pub returns-in_err-record_tests : goal.returns-in_err-record_tests
unfolding record_of
returns-in_err-record_tests c =
    let same : ◌≡◌ {A = Result NodeRecord Refusal} c.from_residual.result (Err c.in_err-record_tests.field-0.0) = search rules in
    rw (sym c.in_err-record_tests.ensures) same

pub returns : goal.returns
unfolding record_of
returns c = rw (sym c.in_ok-record_tests.ensures, c.node_times-times.ensures) refl
