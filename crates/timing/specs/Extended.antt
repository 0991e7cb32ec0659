-- "A longer list, and a shuffled one" (02, request 12): what is said of two removals from one graph, which is the design or an earlier true graph.
-- Crate `called` shows it of calls.
use Rattle.std.specs.Prelude.{ℕ, ◌≡◌, cond, eqb, ℤ, pos, get_or, ◌≤ℤ◌, Option, Some, None}
use mathlib.Core.List.{List, Memᴰ}
use Rattle.timing.specs.Answers.{Passed, Counts, SomeTimes}
use Rattle.timing.specs.declared.Times.{Times}
use Rattle.timing.specs.Marks.{paths_of}
use Rattle.timing.specs.Called.{Called, removal_of, front, verdict_in}

-- K "is extended by any paths" to L: every path of K is in L, wherever it stands there
abbrev pub ExtendedTo : List (List ℕ) → List (List ℕ) → Type 0
ExtendedTo K L = (p : List ℕ) → Memᴰ p K → Memᴰ p L

-- K and L are one list "with its paths reordered or repeated": the same paths are in both
abbrev pub SamePaths : List (List ℕ) → List (List ℕ) → Type 0
SamePaths K L = ExtendedTo K L × ExtendedTo L K

-- "gives the identical graph, numbers included, when removed from the same graph". Two calls on one design and one graph: with the same paths, and
-- neither refused, they answer the same counts, and leave the same in the five slices up to these counts.
abbrev pub SameGraph : Called → Called → Type 0
SameGraph a b =
    SamePaths (paths_of (removal_of a).list) (paths_of (removal_of b).list)
    → (k e : ℕ) → a.answer ≡ Counts k e → verdict_in b.answer ≡ Passed
    → (b.answer ≡ Counts k e) × (front k e b.after ≡ front k e a.after)

-- Arrival, required time, slack and earliest arrival before, and then after: "no node's slack falls and no node's arrival rises"; nor does the
-- required time fall, nor the earliest arrival.
pub record TimesNoWorse (a r s e a' r' s' e' : ℤ) : Type 0 where
  pub arrival : a' ≤ℤ a
  pub required : r ≤ℤ r'
  pub slack : s ≤ℤ s'
  pub earliest : e ≤ℤ e'

-- The same of a node's times before and after, "reading none as better than any number": so a node that has none keeps none.
abbrev pub NoWorse : Option Times → Option Times → Type 0
NoWorse x None = Unit {0}
NoWorse None (Some x) = ⊥
NoWorse (Some x) (Some x') = TimesNoWorse x.arrival x.required x.slack x.earliest x'.arrival x'.required x'.slack x'.earliest

-- a node's times as the five slices of `node_records` tell them: the first has 1 where it has times; where it has none, all five have 0
abbrev pub times_in : List ℕ → List ℤ → List ℤ → List ℤ → List ℤ → ℕ → Option Times
times_in known arrivals requireds slacks earliests v =
    cond (eqb (get_or known v 0) 1)
    (SomeTimes (get_or arrivals v (pos 0)) (get_or requireds v (pos 0)) (get_or slacks v (pos 0)) (get_or earliests v (pos 0)))
    None
