-- Times at copies and at nodes.
use Rattle.std.specs.Prelude.{ℕ, Bool, cond, ◌&&◌, not, List, [], ◌∷◌, map, eqb, ltb, ℤ, pos, ◌-ℤ◌, length, get_or, Option, None}
use Rattle.std.specs.Int.Signed.{lt_z}
use Rattle.timing.specs.Answers.{SomeTimes}
use Rattle.timing.specs.declared.Times.{Times}
use Rattle.timing.specs.declared.NodeRecord.{NodeRecord}
use Rattle.timing.specs.Lists.{is_nil, keep, upto}
use Rattle.timing.specs.Graphs.{Graph, ends_at, runs_to, runs_from, delay_along}

abbrev pub larger : ℤ → ℤ → ℤ
larger x y = cond (lt_z x y) y x

abbrev pub smaller : ℤ → ℤ → ℤ
smaller x y = cond (lt_z y x) y x

-- The largest and the smallest of some times. They start from the first one; every list that document 01 asks of has one.
abbrev pub largest : List ℤ → ℤ
largest [] = pos 0
largest (x ∷ []) = x
largest (x ∷ y ∷ xs) = larger x (largest (y ∷ xs))

abbrev pub smallest : List ℤ → ℤ
smallest [] = pos 0
smallest (x ∷ []) = x
smallest (x ∷ y ∷ xs) = smaller x (smallest (y ∷ xs))

-- "the smallest early delay of a path from a source copy, 0 at a source copy", for any delay d of a design edge
unfoldable pub earliest_at : (ℕ → ℤ) → Graph → ℕ → ℤ
earliest_at d G c = smallest (map (delay_along d) (runs_to G (length G.nodes) c))

-- the other times at a copy, which "go on using the late delay"; for any delay d of a design edge
module _ (d : ℕ → ℤ) (T : ℤ) (G : Graph) where
  -- "arrival is the largest delay of a path from a source copy (0 at a source copy)"
  unfoldable pub arrival_at : ℕ → ℤ
  arrival_at c = largest (map (delay_along d) (runs_to G (length G.nodes) c))

  -- "required is the smallest of T less the delay of a path to" where paths end: "required time at such a copy is T or the smaller figure
  -- from further on" (02, request 6)
  unfoldable pub required_at : ℕ → ℤ
  required_at c = smallest (map (λ r. T -ℤ delay_along d r) (runs_from G (length G.nodes) c))

  -- "slack is required less arrival"
  unfoldable pub slack_at : ℕ → ℤ
  slack_at c = required_at c -ℤ arrival_at c

  -- a copy "where paths end with an arrival above T" (02, request 10); and all of these, the lowest first
  abbrev pub late_at : ℕ → Bool
  late_at c = ends_at G c && lt_z T (arrival_at c)

  unfoldable pub late_copies : List ℕ
  late_copies = keep late_at (upto (length G.nodes) 0)

-- "At a node: the largest arrival, the smallest required and the smallest slack of its copies", and of its earliest arrivals "the
-- smallest over its copies", from the node and the four times of each copy; none "when it has no copy or is not below n"
unfoldable pub node_times : ℕ → List ℕ → List ℤ → List ℤ → List ℤ → List ℤ → ℕ → Option Times
node_times n nodes arrivals requireds slacks earliests v =
    let cs : List ℕ = keep (λ c. eqb (get_or nodes c 0) v) (upto (length nodes) 0) in
    let at : List ℤ → List ℤ = λ ts. map (λ c. get_or ts c (pos 0)) cs in
    cond
    (ltb v n && not (is_nil cs))
    (SomeTimes (largest (at arrivals)) (smallest (at requireds)) (smallest (at slacks)) (smallest (at earliests)))
    None

abbrev pub node_record : ℕ → List ℕ → List ℤ → List ℤ → List ℤ → List ℤ → ℕ → NodeRecord
node_record n nodes arrivals requireds slacks earliests v =
    record { node = v; times = node_times n nodes arrivals requireds slacks earliests v }
