-- Reading numbers one after the other. A reader goes from a place to what it found and the next place, or to a refusal.
use Rattle.std.specs.Prelude.{ℕ, zero, suc, cond, List, [], ◌∷◌, leb, length, Result, Ok, Err}
use Rattle.timing.specs.Answers.{Verdict, Passed}
use Rattle.timing.specs.declared.Taken.{Taken}
use Rattle.timing.specs.declared.Refusal.{Refusal}
use Rattle.timing.specs.Refusals.{refusal}
use Rattle.timing.specs.Numbers.{read_number}

pub data Parsed (A : Type 0) : Type 0 where
  found : A → ℕ → Parsed A
  stopped : Refusal → Parsed A

abbrev pub Reader : Type 0 → Type 0
Reader A = ℕ → Parsed A

-- what was read, handed to the reader of the rest
abbrev pub onward : {A B : Type 0} → Parsed A → (A → Reader B) → Parsed B
onward (found x at) f = f x at
onward (stopped r) f = stopped r

infixl 10 ◌>>=◌ ◌>>◌
abbrev pub ◌>>=◌ : {A B : Type 0} → Reader A → (A → Reader B) → Reader B
◌>>=◌ p f at = onward (p at) f

abbrev pub ◌>>◌ : {B : Type 0} → Reader (Unit {0}) → Reader B → Reader B
◌>>◌ p q at = onward (p at) (λ u. q)

abbrev pub return : {A : Type 0} → A → Reader A
return x at = found x at

-- a test of what was read so far
abbrev pub tested : Verdict → Reader (Unit {0})
tested Passed at = found tt at
tested (Err r) at = stopped r

abbrev pub parsed_number : Result Taken Refusal → Parsed ℕ
parsed_number (Ok t) = found t.value t.next
parsed_number (Err r) = stopped r

abbrev pub number : List ℕ → Reader ℕ
number s at = parsed_number (read_number s at)

-- k things, one after the other
abbrev pub repeated : {A : Type 0} → ℕ → Reader A → Reader (List A)
repeated zero p = return []
repeated (suc k) p = do
  x ← p
  xs ← repeated k p
  return (x ∷ xs)

-- three numbers: how an edge stands in a packed true graph
pub record Row : Type 0 where
  pub first : ℕ
  pub second : ℕ
  pub third : ℕ

abbrev pub row : List ℕ → Reader Row
row s = do
  a ← number s
  b ← number s
  c ← number s
  return (record { first = a; second = b; third = c })

-- 3: "bytes remain; offset of the first"
abbrev pub ended : List ℕ → Reader (Unit {0})
ended s at = cond (leb (length s) at) (found tt at) (stopped (refusal 3 at))
