-- How a loop that looks for the first bad place goes: at place k of m, what is left to look at is `upto (m - k) k`.
use Prim.Native.Nat.{ℕ, zero, suc, ◌+◌, ◌-◌, ◌≤◌, ◌<◌}
use native.Mathlib.Omega.{arith}
use native.Mathlib.Numerals.{add-one}
use mathlib.Core.Path.{◌≡◌, refl, sym, ap, ◌∙◌}
use mathlib.Core.Bool.{Bool, true, false}
use lib.Dec.{ltb}
use borrow.Author.Tests.{ltb-true, ltb-false}
use Rattle.std.specs.Prelude.{Option, None, Some, Err, MatchOption}
use Rattle.timing.specs.Answers.{Verdict, Passed}
use Rattle.timing.specs.Lists.{upto}
use Rattle.timing.specs.Refusals.{refusal, first_bad}

module _ (number : ℕ) (bad : ℕ → Bool) (k m : ℕ) where
  pub bad_here : k < m → bad k ≡ true → first_bad number bad k (upto (m - k) k) ≡ Err (refusal number k)
  bad_here h e =
      let d : m - k ≡ suc (m - suc k) = omega arith in
      rw (d, e)

  pub good_here : k < m → bad k ≡ false → first_bad number bad (k + 1) (upto (m - (k + 1)) (k + 1)) ≡ first_bad number bad k (upto (m - k) k)
  good_here h e =
      let d : m - k ≡ suc (m - suc k) = omega arith in
      rw (d, e, add-one k)

  pub none_left : m ≤ k → first_bad number bad k (upto (m - k) k) ≡ Passed
  none_left h =
      let d : m - k ≡ 0 = omega arith in
      rw d

pub all_left : (number : ℕ) (bad : ℕ → Bool) (m : ℕ) → first_bad number bad 0 (upto (m - 0) 0) ≡ first_bad number bad 0 (upto m 0)
all_left number bad m =
    let d : m - 0 ≡ m = omega arith in
    ap (λ (n : ℕ). first_bad number bad 0 (upto n 0)) d

-- where no place before `from` is bad, the first that is bad is the first from there on
pub none_before : (number : ℕ) (bad : ℕ → Bool) (count from : ℕ) → ((k : ℕ) → k < from → bad k ≡ false)
    → first_bad number bad from (upto (count - from) from) ≡ first_bad number bad 0 (upto count 0)
none_before number bad count zero h = all_left number bad count
none_before number bad count (suc f) h = go (ltb f count) refl ∙ none_before number bad count f (λ k l. h k (omega arith))
  where
    go : (b : Bool) → ltb f count ≡ b → first_bad number bad (suc f) (upto (count - suc f) (suc f)) ≡ first_bad number bad f (upto (count - f) f)
    go true e = rw (add-one f) at (good_here number bad f count (ltb-true f count e) (h f (omega arith)))
    go false e =
        let end = ltb-false f count e in
        none_left number bad (suc f) count (omega arith) ∙ sym (none_left number bad f count end)

-- a verdict by the first place that is bad, or by none, is that of the test over everything
pub first_found : (number : ℕ) (bad : ℕ → Bool) (count : ℕ) (found : Option ℕ) (verdict : Verdict)
    → MatchOption found (verdict ≡ Passed) (λ k. verdict ≡ Err (refusal number k))
    → MatchOption found ((k : ℕ) → k < count → bad k ≡ false) (λ i. (i < count) × (bad i ≡ true) × ((k : ℕ) → k < i → bad k ≡ false))
    → verdict ≡ first_bad number bad 0 (upto count 0)
first_found number bad count None verdict is fine =
    is ∙ sym (none_left number bad count count (omega arith)) ∙ none_before number bad count count fine
first_found number bad count (Some i) verdict is first =
    is ∙ sym (bad_here number bad i count first.0 first.1) ∙ none_before number bad count i first.2

-- What std's `find` over `0..count` tells (`first_from_Range`) of a test that is known below count alone, as `verdicts::first_bad` takes it.
pub found_below : (bad : ℕ → Bool) (count : ℕ) (found : Option ℕ)
    → MatchOption found ((k : ℕ) → 0 ≤ k → k < count → k < count → bad k ≡ false)
    (λ i. (0 ≤ i) × (i < count) × (i < count → bad i ≡ true) × ((k : ℕ) → 0 ≤ k → k < i → k < count → bad k ≡ false))
    → MatchOption found ((k : ℕ) → k < count → bad k ≡ false) (λ i. (i < count) × (bad i ≡ true) × ((k : ℕ) → k < i → bad k ≡ false))
found_below bad count None h = λ k l. h k (omega arith) l l
found_below bad count (Some i) h = (h.1, h.2 h.1, λ k l. h.3 k (omega arith) l (omega (arith, h.1)))
