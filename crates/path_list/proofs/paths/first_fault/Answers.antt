-- What the call found is what f finds in the path.
use mathlib.Core.Path.{◌≡◌, refl}
use Rattle.std.proofs.Common.{rules}
use Rattle.std.specs.Prelude.{Err}
use Rattle.std.proofs.lemmas.Fn.{says_at}
use Rattle.timing.specs.Answers.{Verdict}
use Rattle.path_list.proofs.Laws.{fault_path, sound_path}
use Rattle.path_list.proofs.paths.first_fault.Goals as goal

pub returns-in_err-unless_fault : goal.returns-in_err-unless_fault
returns-in_err-unless_fault g c = λ f says.
    let a = c.args in
    let l = c.loop-p in
    let cut = c.split_at.ensures in
    let same : ◌≡◌ {A = Verdict} c.from_residual.result (Err c.in_err-unless_fault.field-0.0) = search rules in
    rw same
    (fault_path a.number f l.rest.now a.lengths.now l.p c.loop-p-test.true c.least.ensures.0 cut.front cut.back
    (says _ _ (says_at g.F.Fn c.fault.ensures refl)) (l.invariant f says) (Err c.in_err-unless_fault.field-0.0) refl c.in_err-unless_fault.ensures)

pub loop-p-preserved : goal.loop-p-preserved
loop-p-preserved g c = λ f says.
    let a = c.args in
    let l = c.loop-p in
    let cut = c.split_at.ensures in
    sound_path a.number f l.rest.now a.lengths.now l.p c.loop-p-test.true c.least.ensures.0 cut.front cut.back
    (says _ _ (says_at g.F.Fn c.fault.ensures refl)) (l.invariant f says) c.in_ok-unless_fault.ensures
