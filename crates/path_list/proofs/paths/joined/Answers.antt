-- Where the search stops, the break that was found is the first of its path, and that path the first that has one.
use Prim.Native.Nat.{ℕ}
use native.Mathlib.Omega.{arith}
use mathlib.Core.Path.{◌≡◌, sym, ◌∙◌}
use mathlib.Core.Bool.{true}
use Rattle.std.specs.Prelude.{Option}
use Rattle.std.specs.Result.{is_err}
use Rattle.timing.specs.Answers.{Verdict}
use Rattle.timing.specs.Refusals.{unless_fault}
use Rattle.timing.specs.Tests.{first_break}
use Rattle.path_list.proofs.Laws.{fault_path}
use Rattle.path_list.proofs.Loops.{break_found}
use Rattle.path_list.proofs.paths.joined.Invariants.{meet}
use Rattle.path_list.proofs.paths.joined.Goals as goal

-- the path that the verdict names is path p, whatever the code calls it
of_path : {verdict : Verdict} (number p named : ℕ) (found : Option ℕ) → verdict ≡ unless_fault number named found → named ≡ p → verdict ≡ unless_fault number p found
of_path number p named found e q = rw (← q) e

pub returns-then-is_err : goal.returns-then-is_err
returns-then-is_err c =
    let a = c.args in
    let l = c.paths in
    let m = meet a.starts.now a.ends.now in
    let cut = c.split_at.ensures in
    let stops : is_err c.unless_fault-verdict.result ≡ true = sym c.is_err.ensures.value ∙ c.if-is_err.true in
    fault_path 24 (first_break m 0) l.rest.now a.lengths.now l.p c.paths-test.true c.least.ensures.0 cut.front cut.back
    (break_found m 24 _ _ _ c.join_test.ensures (rw c.unless_fault-verdict.ensures at stops)) l.invariant.1 _ stops
    (of_path 24 l.p _ _ c.unless_fault-verdict.ensures (omega arith))
