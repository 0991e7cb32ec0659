-- The tests as they are called: from the left, and with 10 again before 32.
use Prim.Native.Nat.{ℕ}
use mathlib.Core.Path.{◌≡◌, refl, ap}
use mathlib.Core.List.{List, []}
use Rattle.std.specs.Prelude.{Err}
use Rattle.timing.specs.Answers.{Verdict, Passed}
use lib.IntN.{ℤ}
use Rattle.timing.specs.Graphs.{design}
use Rattle.timing.specs.Refusals.{◌then◌}
use Rattle.timing.specs.Tests.{design_sizes, design_tests, node_count, allowed_test, graph_test}
use Rattle.timing.specs.Calls.{GraphSlices, graph_of, graph_sizes, timing_tests}
use Rattle.theorems.proofs.Tested.{tests_count, no_delays}

chain : (d g a e t c w : Verdict) → (e ≡ Passed → c ≡ Passed)
    → ((((d then (g then a)) then e) then t) then (c then w)) ≡ (d then (g then (a then (e then (t then w)))))
chain (Err x) g a e t c w f = refl
chain Passed (Err x) a e t c w f = refl
chain Passed Passed (Err x) e t c w f = refl
chain Passed Passed Passed (Err x) t c w f = refl
chain Passed Passed Passed Passed (Err x) c w f = refl
chain Passed Passed Passed Passed Passed c w f = ap (λ (v : Verdict). v then w) (f refl)

pub called_tests : (n : ℕ) (starts ends : List ℕ) (early late : List ℤ) (marked : List ℕ) (S : GraphSlices) (t : ℕ) (lent : Verdict)
    → let D = design n starts ends early late marked in
    ((((design_sizes D then (graph_sizes S then lent)) then design_tests D) then allowed_test t)
    then (node_count n then graph_test (design n starts ends [] [] marked) (graph_of S)))
    ≡ timing_tests D S t lent
called_tests n starts ends early late marked S t lent =
    let D = design n starts ends early late marked in
    rw (no_delays n starts ends early late marked (graph_of S))
    (chain (design_sizes D) (graph_sizes S) lent (design_tests D) (allowed_test t) (node_count n) (graph_test D (graph_of S)) (tests_count D))
