-- Who can cause a refusal: "each returns its number and a place".
use Rattle.std.specs.Prelude.{ℕ, suc, Bool, cond, List, [], ◌∷◌, Option, Err, Some, None}
use Rattle.timing.specs.Answers.{Verdict, Passed}
use Rattle.timing.specs.declared.Refusal.{Refusal}

-- 02, request 4: "22 to 24 now carry two places, path and index"
abbrev pub refusal_within : ℕ → ℕ → ℕ → Refusal
refusal_within number place index = record { number = number; place = place; index = index }

-- a refusal with one place
abbrev pub refusal : ℕ → ℕ → Refusal
refusal number place = refusal_within number place 0

-- one test, and the next where it passes
infixr 4 ◌then◌
abbrev pub ◌then◌ : Verdict → Verdict → Verdict
Passed then v = v
Err r then v = Err r

-- a test whose place is 0
abbrev pub unless : ℕ → Bool → Verdict
unless number fit = cond fit Passed (Err (refusal number 0))

-- a test "over everything": the place is that of the first element that is bad, counted from k
abbrev pub first_bad : {A : Type 0} → ℕ → (A → Bool) → ℕ → List A → Verdict
first_bad number bad k [] = Passed
first_bad number bad k (x ∷ xs) = cond (bad x) (Err (refusal number k)) (first_bad number bad (suc k) xs)

-- a test of one path, from where its first fault is; the places are the path and the fault's index
abbrev pub unless_fault : ℕ → ℕ → Option ℕ → Verdict
unless_fault number place None = Passed
unless_fault number place (Some index) = Err (refusal_within number place index)

-- such a test "over everything": the place is that of the first path that has a fault, counted from k
abbrev pub first_fault : ℕ → (List ℕ → Option ℕ) → ℕ → List (List ℕ) → Verdict
first_fault number fault k [] = Passed
first_fault number fault k (path ∷ paths) = unless_fault number k (fault path) then first_fault number fault (suc k) paths
