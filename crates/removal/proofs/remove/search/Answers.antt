-- 31 is tested with the count of candidates; where it passes, the scratch is enough.
use Prim.Native.Nat.{ℕ}
use mathlib.Core.Path.{sym, ap, ◌∙◌, subst}
use native.Mathlib.Omega.{arith}
use lib.ListN.{length}
use Rattle.std.proofs.lemmas.Bool.Decides.{nat_tests}
use Rattle.timing.specs.Tests.{words_test}
use Rattle.removal.specs.Remove.{WorkableIn}
use Rattle.removal.proofs.Whole.AnswerLaws.{work_countable, work_in}
use Rattle.removal.proofs.remove.search.Goals as goal

pub count_candidates-candidates-requires : goal.count_candidates-candidates-requires
count_candidates-candidates-requires c = work_countable _ _ _ _ _ _ _ _ c.requires.0

pub find-layout-requires : goal.find-layout-requires
find-layout-requires c =
    let a = c.args in
    let counted = c.count_candidates-candidates.ensures in
    let passed = ap (λ (k : ℕ). words_test k (length a.listed.now) (length a.from.now) (length a.scratch.now)) (sym counted) ∙ sym c.in_ok-scratch_test.ensures in (
      subst (λ (k : ℕ). WorkableIn a.starts.now a.listed.now a.lengths.now a.nodes.now a.endpoint.now a.from.now a.to.now a.via.now k a.scratch.now) (sym counted)
          (work_in _ _ _ _ _ _ _ _ a.scratch.now c.requires.0 passed (let e = c.if-is_empty.ensures in grind (arith, nat_tests))),
      c.requires.1,
    )
