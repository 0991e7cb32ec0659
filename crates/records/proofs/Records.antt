-- The pass over the copies: one more copy, and what it is in the end.
use Prim.Native.Nat.{ℕ, suc, ◌+◌, ◌≤◌}
use native.Mathlib.Omega.{arith}
use native.Mathlib.Numerals.{add-one}
use mathlib.Core.Path.{◌≡◌, refl, sym, ◌∙◌, ap, ap₂}
use mathlib.Core.Bool.{Bool, true, false, cond, not}
use mathlib.Core.List.{List, [], ◌∷◌, ◌++◌, map}
use Rattle.std.specs.Prelude.{Option, Some, None}
use Rattle.timing.specs.Answers.{Verdict, Passed, SomeTimes}
use Rattle.timing.specs.declared.Times.{Times}
use lib.Dec.{eqb}
use lib.IntN.{ℤ, pos}
use lib.ListN.{length, get_or, set, replicate}
use borrow.Author.Tests.{lt-ltb, le-ltb, eq-eqb, ne_eqb}
use Rattle.timing.specs.Lists.{is_nil, keep, upto}
use Rattle.timing.specs.Refusals.{◌then◌}
use Rattle.timing.specs.Tests.{same_sizes, time_sizes, node_count}
use Rattle.timing.specs.Times.{larger, smaller, largest, smallest, node_times}
use Rattle.timing.specs.Calls.{test_records, has_times, arrival_of, required_of, slack_of, earliest_of}
use Rattle.timing.proofs.Verdicts.{then_passed, same_passed, times_passed}
use Rattle.theorems.proofs.Extremes.{larges, smalls}
use Rattle.records.specs.Records.{with_copy, gathered, times_of, node_so_far, first_or, bettered}
use Rattle.theorems.proofs.Elements.{at_each, each_one, set_place, each_same}
use Rattle.theorems.proofs.Splits.{upto_next, keep_yes, keep_no, best_snoc}

pub four : {a b c d x y z w : ℤ} → a ≡ x → b ≡ y → c ≡ z → d ≡ w → ◌≡◌ {A = (Option Times)} (SomeTimes a b c d) (SomeTimes x y z w)
four p q r s = cc

module _ (nodes : List ℕ) (ats rts sts ets : List ℤ) (v : ℕ) where
  times_next : (cs : List ℕ) (c : ℕ) → times_of ats rts sts ets (cs ++ (c ∷ [])) ≡ with_copy (times_of ats rts sts ets cs) (get_or ats c (pos 0)) (get_or rts c (pos 0)) (get_or sts c (pos 0)) (get_or ets c (pos 0))
  times_next [] c = refl
  times_next (i ∷ cs) c =
      four
      (best_snoc larges (λ j. get_or ats j (pos 0)) (get_or ats i (pos 0)) cs c)
      (best_snoc smalls (λ j. get_or rts j (pos 0)) (get_or rts i (pos 0)) cs c)
      (best_snoc smalls (λ j. get_or sts j (pos 0)) (get_or sts i (pos 0)) cs c)
      (best_snoc smalls (λ j. get_or ets j (pos 0)) (get_or ets i (pos 0)) cs c)

  abbrev is : ℕ → Bool
  is c = eqb (get_or nodes c 0) v

  pub copy_next : (c : ℕ) → gathered nodes ats rts sts ets v (times_of ats rts sts ets (keep is (upto c 0))) c ≡ times_of ats rts sts ets (keep is (upto (c + 1) 0))
  copy_next c =
      let z : 0 + c ≡ c = omega arith in
      go (is c) refl
      ∙ ap (λ (l : List ℕ). times_of ats rts sts ets (keep is l)) (ap (λ (x : ℕ). upto c 0 ++ (x ∷ [])) (sym z) ∙ sym (upto_next c 0) ∙ ap (λ (k : ℕ). upto k 0) (sym (add-one c)))
    where
      go : (b : Bool) → is c ≡ b
          → cond b (with_copy (times_of ats rts sts ets (keep is (upto c 0))) (get_or ats c (pos 0)) (get_or rts c (pos 0)) (get_or sts c (pos 0)) (get_or ets c (pos 0))) (times_of ats rts sts ets (keep is (upto c 0)))
          ≡ times_of ats rts sts ets (keep is (upto c 0 ++ (c ∷ [])))
      go true e = sym (ap (times_of ats rts sts ets) (keep_yes is (upto c 0) c e) ∙ times_next (keep is (upto c 0)) c)
      go false e = sym (ap (times_of ats rts sts ets) (keep_no is (upto c 0) c e))

  all : (cs : List ℕ) → times_of ats rts sts ets cs
      ≡ cond (not (is_nil cs)) (SomeTimes (largest (map (λ c. get_or ats c (pos 0)) cs)) (smallest (map (λ c. get_or rts c (pos 0)) cs)) (smallest (map (λ c. get_or sts c (pos 0)) cs)) (smallest (map (λ c. get_or ets c (pos 0)) cs))) None
  all [] = refl
  all (c ∷ cs) = refl

  pub node_is : (n : ℕ) → suc v ≤ n → times_of ats rts sts ets (keep is (upto (length nodes) 0)) ≡ node_times n nodes ats rts sts ets v
  unfolding node_times
  node_is n h = rw (lt-ltb v n h) (all (keep is (upto (length nodes) 0)))

  pub node_past : (n : ℕ) → n ≤ v → None ≡ node_times n nodes ats rts sts ets v
  unfolding node_times
  node_past n h = rw (le-ltb v n h)

-- All nodes at once: a copy counts for its node, and changes nothing at the others.
module _ (nodes : List ℕ) (ats rts sts ets : List ℤ) where
  abbrev so_far : ℕ → ℕ → Option Times
  so_far = node_so_far nodes ats rts sts ets

  abbrev counted : Option Times → ℕ → Option Times
  counted t c = with_copy t (get_or ats c (pos 0)) (get_or rts c (pos 0)) (get_or sts c (pos 0)) (get_or ets c (pos 0))

  met_here : (c : ℕ) → counted (so_far c (get_or nodes c 0)) c ≡ so_far (c + 1) (get_or nodes c 0)
  met_here c =
      ap (λ (b : Bool). cond b (counted (so_far c (get_or nodes c 0)) c) (so_far c (get_or nodes c 0))) (sym (eq-eqb (get_or nodes c 0) (get_or nodes c 0) refl))
      ∙ copy_next nodes ats rts sts ets (get_or nodes c 0) c

  met_other : (c v : ℕ) → (v ≡ get_or nodes c 0 → ⊥) → so_far c v ≡ so_far (c + 1) v
  met_other c v f =
      ap (λ (b : Bool). cond b (counted (so_far c v) c) (so_far c v)) (sym (ne_eqb (get_or nodes c 0) v (λ q. f (sym q)))) ∙ copy_next nodes ats rts sts ets v c

  -- one more copy of a node, in each of the five slices
  counts : (x : Option Times) (c : ℕ)
      → (1 ≡ has_times (counted x c))
      × (first_or larger (has_times x) (arrival_of x) (get_or ats c (pos 0)) ≡ arrival_of (counted x c))
      × (first_or smaller (has_times x) (required_of x) (get_or rts c (pos 0)) ≡ required_of (counted x c))
      × (first_or smaller (has_times x) (slack_of x) (get_or sts c (pos 0)) ≡ slack_of (counted x c))
      × (first_or smaller (has_times x) (earliest_of x) (get_or ets c (pos 0)) ≡ earliest_of (counted x c))
  counts (Some x) c = (refl, refl, refl, refl, refl)
  counts None c = (refl, refl, refl, refl, refl)

  known_next : (n c : ℕ) (known known' : List ℕ) → known ≡ map (λ v. has_times (so_far c v)) (upto n 0) → known' ≡ set known (get_or nodes c 0) 1
      → known' ≡ map (λ v. has_times (so_far (c + 1) v)) (upto n 0)
  known_next n c known known' k e =
      e
      ∙ rw k
      (set_place 0 (λ v. has_times (so_far c v)) (λ v. has_times (so_far (c + 1) v)) n (get_or nodes c 0) 1
      (λ h. (counts (so_far c (get_or nodes c 0)) c).0 ∙ ap has_times (met_here c)) (λ v h q. ap has_times (met_other c v q)))

  -- one of the four times, which one more copy makes better
  better_next : (pick : ℤ → ℤ → ℤ) (part : Option Times → ℤ) (t : ℤ) (n c : ℕ) (known : List ℕ) (old new : List ℤ)
      → known ≡ map (λ v. has_times (so_far c v)) (upto n 0) → old ≡ map (λ v. part (so_far c v)) (upto n 0)
      → new ≡ bettered pick known old (get_or nodes c 0) t
      → ((x : Option Times) → first_or pick (has_times x) (part x) t ≡ part (counted x c))
      → new ≡ map (λ v. part (so_far (c + 1) v)) (upto n 0)
  better_next pick part t n c known old new k o e one =
      e
      ∙ rw (k, o)
      (set_place (pos 0) (λ v. part (so_far c v)) (λ v. part (so_far (c + 1) v)) n (get_or nodes c 0) _
      (λ h.
      ap₂ (λ (k : ℕ) (z : ℤ). first_or pick k z t)
      (at_each 0 (λ v. has_times (so_far c v)) n (get_or nodes c 0) h)
      (at_each (pos 0) (λ v. part (so_far c v)) n (get_or nodes c 0) h)
      ∙ one (so_far c (get_or nodes c 0))
      ∙ ap part (met_here c))
      (λ v h q. ap part (met_other c v q)))

  -- each node's place tells its times over the copies below c
  pub record Gathered (n c : ℕ) (known : List ℕ) (na nr ns ne : List ℤ) : Type 0 where
    pub flags : known ≡ map (λ v. has_times (so_far c v)) (upto n 0)
    pub arrivals : na ≡ map (λ v. arrival_of (so_far c v)) (upto n 0)
    pub requireds : nr ≡ map (λ v. required_of (so_far c v)) (upto n 0)
    pub slacks : ns ≡ map (λ v. slack_of (so_far c v)) (upto n 0)
    pub earliests : ne ≡ map (λ v. earliest_of (so_far c v)) (upto n 0)

  -- before the first copy
  pub gathered_none : (n : ℕ) (known : List ℕ) (na nr ns ne : List ℤ) → known ≡ replicate n 0
      → na ≡ replicate n (pos 0) → nr ≡ replicate n (pos 0) → ns ≡ replicate n (pos 0) → ne ≡ replicate n (pos 0)
      → Gathered n 0 known na nr ns ne
  gathered_none n known na nr ns ne k a r s e = record {
    flags = k ∙ each_one 0 n 0;
    arrivals = a ∙ each_one (pos 0) n 0;
    requireds = r ∙ each_one (pos 0) n 0;
    slacks = s ∙ each_one (pos 0) n 0;
    earliests = e ∙ each_one (pos 0) n 0;
  }

  -- after one more
  module _ (n c : ℕ) (known known' : List ℕ) (na nr ns ne na' nr' ns' ne' : List ℤ) where
    pub gathered_next : Gathered n c known na nr ns ne → known' ≡ set known (get_or nodes c 0) 1
        → na' ≡ bettered larger known na (get_or nodes c 0) (get_or ats c (pos 0))
        → nr' ≡ bettered smaller known nr (get_or nodes c 0) (get_or rts c (pos 0))
        → ns' ≡ bettered smaller known ns (get_or nodes c 0) (get_or sts c (pos 0))
        → ne' ≡ bettered smaller known ne (get_or nodes c 0) (get_or ets c (pos 0))
        → Gathered n (c + 1) known' na' nr' ns' ne'
    gathered_next g k a r s e = record {
      flags = known_next n c known known' g.flags k;
      arrivals = better_next larger arrival_of _ n c known na na' g.flags g.arrivals a (λ x. (counts x c).1);
      requireds = better_next smaller required_of _ n c known nr nr' g.flags g.requireds r (λ x. (counts x c).2);
      slacks = better_next smaller slack_of _ n c known ns ns' g.flags g.slacks s (λ x. (counts x c).3);
      earliests = better_next smaller earliest_of _ n c known ne ne' g.flags g.earliests e (λ x. (counts x c).4);
    }

  -- after the last copy, with n written as m
  pub node_filled : {A : Type 0} (z : A) (f : Option Times → A) (n m : ℕ) (after : List A) → m ≡ n
      → after ≡ map (λ v. f (so_far (length nodes) v)) (upto m 0) → after ≡ map (λ v. f (node_times n nodes ats rts sts ets v)) (upto n 0)
  node_filled z f n m after e h =
      h
      ∙ ap (λ (k : ℕ). map (λ v. f (so_far (length nodes) v)) (upto k 0)) e
      ∙ each_same z (λ v. f (so_far (length nodes) v)) (λ v. f (node_times n nodes ats rts sts ets v)) n (λ v h. ap f (node_is nodes ats rts sts ets v n h))

  -- where the tests pass, each lent slice has a place for each node
  pub records_sizes : (n k a r s e : ℕ) → test_records n nodes ats rts sts ets k a r s e ≡ Passed → (k ≡ n) × (a ≡ n) × (r ≡ n) × (s ≡ n) × (e ≡ n)
  unfolding test_records
  records_sizes n k a r s e p =
      let v₂ : Verdict = time_sizes n a r s e then node_count n in
      let v₁ : Verdict = same_sizes n n k then v₂ in
      let p₁ = then_passed (time_sizes (length nodes) (length ats) (length rts) (length sts) (length ets)) v₁ p in
      let p₂ = then_passed (same_sizes n n k) v₂ p₁.1 in
      let q = times_passed n a r s e (then_passed (time_sizes n a r s e) (node_count n) p₂.1).0 in
      ((same_passed n n k p₂.0).1, q.0, q.1, q.2, q.3)
