-- The pass over the copies of a node.
use Rattle.std.specs.Prelude.{ℕ, cond, List, [], ◌∷◌, map, eqb, ℤ, pos, get_or, set, Option, Some, None}
use Rattle.timing.specs.Answers.{SomeTimes}
use Rattle.timing.specs.declared.Times.{Times}
use Rattle.timing.specs.Lists.{keep, upto}
use Rattle.timing.specs.Times.{larger, smaller, largest, smallest}

-- the times of a node with one more copy
abbrev pub with_copy : Option Times → ℤ → ℤ → ℤ → ℤ → Option Times
with_copy None a r s e = SomeTimes a r s e
with_copy (Some x) b q t f = SomeTimes (larger x.arrival b) (smaller x.required q) (smaller x.slack t) (smaller x.earliest f)

-- copy c counts where it is one of node v
abbrev pub gathered : List ℕ → List ℤ → List ℤ → List ℤ → List ℤ → ℕ → Option Times → ℕ → Option Times
gathered nodes ats rts sts ets v t c =
    cond (eqb (get_or nodes c 0) v) (with_copy t (get_or ats c (pos 0)) (get_or rts c (pos 0)) (get_or sts c (pos 0)) (get_or ets c (pos 0))) t

-- the times over some copies
abbrev pub times_of : List ℤ → List ℤ → List ℤ → List ℤ → List ℕ → Option Times
times_of ats rts sts ets [] = None
times_of ats rts sts ets (c ∷ cs) =
    SomeTimes
    (largest (map (λ i. get_or ats i (pos 0)) (c ∷ cs)))
    (smallest (map (λ i. get_or rts i (pos 0)) (c ∷ cs)))
    (smallest (map (λ i. get_or sts i (pos 0)) (c ∷ cs)))
    (smallest (map (λ i. get_or ets i (pos 0)) (c ∷ cs)))

-- the times of node v over the copies below c
abbrev pub node_so_far : List ℕ → List ℤ → List ℤ → List ℤ → List ℤ → ℕ → ℕ → Option Times
node_so_far nodes ats rts sts ets c v = times_of ats rts sts ets (keep (λ i. eqb (get_or nodes i 0) v) (upto c 0))

-- a time of a node with one more copy whose time is t: the first one counts, and then the better one
abbrev pub first_or : (ℤ → ℤ → ℤ) → ℕ → ℤ → ℤ → ℤ
first_or pick known old t = cond (eqb known 0) t (pick old t)

-- a time of each node, after a copy of node v
abbrev pub bettered : (ℤ → ℤ → ℤ) → List ℕ → List ℤ → ℕ → ℤ → List ℤ
bettered pick known times v t = set times v (first_or pick (get_or known v 0) (get_or times v (pos 0)) t)
