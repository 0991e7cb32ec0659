-- Each test is the verdict where those before it passed.
use mathlib.Core.Path.{◌≡◌, refl, sym, ap, ◌∙◌}
use Rattle.std.specs.Prelude.{Err}
use Rattle.std.proofs.Common.{rules}
use Rattle.timing.specs.Answers.{Verdict, Passed}
use lib.ListN.{length}
use Rattle.timing.specs.Lists.{upto}
use Rattle.timing.specs.Refusals.{◌then◌, first_bad}
use Rattle.timing.specs.Graphs.{Design, design}
use Rattle.timing.specs.Tests.{design_counts, strays, falls, out_of_range, early_above_late, wrong_marked, design_tests}
use Rattle.timing.proofs.Verdicts.{after_four}
use Rattle.design.proofs.and_design_tests.Goals as goal

-- the tests of the edges
abbrev edges_of : Design → Verdict
edges_of D =
    let all = upto (length D.starts) 0 in
    first_bad 12 (strays D) 0 all then (first_bad 13 (falls D) 0 all then (first_bad 14 (out_of_range D) 0 all then first_bad 15 (early_above_late D) 0 all))

-- where what came before passed: the counts, the tests of the edges as one verdict, and that of the marked nodes
chained : (D : Design) (before edges : Verdict) → before ≡ Passed
    → edges ≡ edges_of D
    → (design_counts D then (edges then first_bad 16 (wrong_marked D) 0 (upto (length D.marked) 0))) ≡ (before then design_tests D)
unfolding design_tests
chained D before edges p e =
    let all = upto (length D.starts) 0 in
    ap (λ (v : Verdict). design_counts D then v)
    (after_four (first_bad 12 (strays D) 0 all) (first_bad 13 (falls D) 0 all) (first_bad 14 (out_of_range D) 0 all) (first_bad 15 (early_above_late D) 0 all) (first_bad 16 (wrong_marked D) 0 (upto (length D.marked) 0)) e refl)
    ∙ ap (λ (v : Verdict). v then design_tests D) (sym p)

pub returns-in_err-design_counts : goal.returns-in_err-design_counts
returns-in_err-design_counts c =
    let a = c.args in
    let D = design a.n a.starts.now a.ends.now a.early.now a.late.now a.marked.now in
    let why = c.in_err-design_counts.field-0.0 in
    let same : ◌≡◌ {A = Verdict} c.from_residual-in_err-design_counts.result (Err why) = search rules in
    same
    ∙ ap (λ (v : Verdict). v then (edges_of D then first_bad 16 (wrong_marked D) 0 (upto (length D.marked) 0))) c.in_err-design_counts.ensures
    ∙ chained D a.before (edges_of D) c.in_ok-before.was refl

pub returns-in_err-edge_tests : goal.returns-in_err-edge_tests
returns-in_err-edge_tests c =
    let a = c.args in
    let D = design a.n a.starts.now a.ends.now a.early.now a.late.now a.marked.now in
    let why = c.in_err-edge_tests.field-0.0 in
    let same : ◌≡◌ {A = Verdict} c.from_residual-in_err-edge_tests.result (Err why) = search rules in
    same
    ∙ ap (λ (v : Verdict). v then (Err why then first_bad 16 (wrong_marked D) 0 (upto (length D.marked) 0))) c.in_ok-design_counts.ensures
    ∙ chained D a.before (Err why) c.in_ok-before.was c.in_err-edge_tests.ensures

pub returns : goal.returns
returns c =
    let a = c.args in
    let D = design a.n a.starts.now a.ends.now a.early.now a.late.now a.marked.now in
    c.all_rise.ensures
    ∙ ap (λ (v : Verdict). v then (Passed then first_bad 16 (wrong_marked D) 0 (upto (length D.marked) 0))) c.in_ok-design_counts.ensures
    ∙ chained D a.before Passed c.in_ok-before.was c.in_ok-edge_tests.ensures
