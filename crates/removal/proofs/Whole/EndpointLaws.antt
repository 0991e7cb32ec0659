-- The endpoint numbers of a design's nodes, from two rounds of stores into places that are all 1.
use Prim.Native.Nat.{ℕ, zero, suc, ◌+◌, ◌≤◌, ◌<◌}
use native.Mathlib.Omega.{arith}
use native.Mathlib.Decide.{ℕ_discrete}
use mathlib.Core.Path.{◌≡◌, refl, sym, ap, ◌∙◌}
use mathlib.Core.Bool.{Bool, true, false, not, cond, ◌||◌}
use mathlib.Core.List.{List, [], ◌∷◌, map}
use lib.Dec.{eqb}
use lib.ListN.{length, get_or, set, take, drop, length-set}
use lib.Seq.{get_or-set_same, get_or-set_other}
use borrow.Author.Tests.{eq-eqb, ne_eqb}
use Rattle.timing.specs.Lists.{is_nil, any_of, keep, one_if, upto}
use Rattle.timing.specs.Graphs.{edges_of, is_endpoint, design, design_graph}
use Rattle.theorems.proofs.Lists.{length_upto}
use Rattle.removal.specs.Endpoints.{stored_at, AllOnes, EndpointsOf}

pub stored_length : (places : List ℕ) (v : ℕ) (t : List ℕ) → length (stored_at places v t) ≡ length t
stored_length [] v t = refl
stored_length (p ∷ places) v t = stored_length places v (set t p v) ∙ length-set t p v

cond_same : (b : Bool) (v : ℕ) → cond b v v ≡ v
cond_same true v = refl
cond_same false v = refl

-- what a place holds after the stores
stored_at_lem : (places : List ℕ) (v : ℕ) (t : List ℕ) (k : ℕ) → k < length t → get_or (stored_at places v t) k 0 ≡ cond (any_of (eqb k) places) v (get_or t k 0)
stored_at_lem [] v t k h = refl
stored_at_lem (p ∷ places) v t k h = stored_at_lem places v (set t p v) k (omega (arith, length-set t p v)) ∙ go (ℕ_discrete k p)
  where
    go : Dec (k ≡ p) → cond (any_of (eqb k) places) v (get_or (set t p v) k 0) ≡ cond (eqb k p || any_of (eqb k) places) v (get_or t k 0)
    go (yes q) =
        let here : get_or (set t p v) k 0 ≡ v = ap (λ (i : ℕ). get_or (set t p v) i 0) q ∙ get_or-set_same t p v 0 (omega arith) in
        ap (λ (x : ℕ). cond (any_of (eqb k) places) v x) here ∙ cond_same (any_of (eqb k) places) v
        ∙ ap (λ (b : Bool). cond (b || any_of (eqb k) places) v (get_or t k 0)) (sym (eq-eqb k p q))
    go (no f) =
        ap (λ (x : ℕ). cond (any_of (eqb k) places) v x) (get_or-set_other t p k v 0 f)
        ∙ ap (λ (b : Bool). cond (b || any_of (eqb k) places) v (get_or t k 0)) (sym (ne_eqb k p f))

pub drop_end : (l : List ℕ) (i : ℕ) → length l ≤ i → drop i l ≡ []
drop_end [] zero h = refl
drop_end [] (suc i) h = refl
drop_end (x ∷ l) zero h = absurd (omega arith)
drop_end (x ∷ l) (suc i) h = drop_end l i (omega arith)

-- a node is a sink where no edge starts
no_start : (v : ℕ) (starts ends names : List ℕ) → length ends ≡ length starts → length names ≡ length starts
    → is_nil (keep (λ e. eqb e.start v) (edges_of starts ends names)) ≡ not (any_of (eqb v) starts)
no_start v [] ends names p q = refl
no_start v (s ∷ starts) [] names p q = absurd (omega arith)
no_start v (s ∷ starts) (t ∷ ends) [] p q = absurd (omega arith)
no_start v (s ∷ starts) (t ∷ ends) (k ∷ names) p q = go (ℕ_discrete s v) (no_start v starts ends names (omega arith) (omega arith))
  where
    go : Dec (s ≡ v) → is_nil (keep (λ e. eqb e.start v) (edges_of starts ends names)) ≡ not (any_of (eqb v) starts)
        → is_nil (keep (λ e. eqb e.start v) (edges_of (s ∷ starts) (t ∷ ends) (k ∷ names))) ≡ not (any_of (eqb v) (s ∷ starts))
    go (yes e) r = rw (eq-eqb s v e, eq-eqb v s (sym e))
    go (no f) r = rw (ne_eqb s v f, ne_eqb v s (λ e. f (sym e))) r

-- 0 where an edge starts, and then 1 where it is marked
ends_rule : (s m : Bool) → cond m 1 (cond s 0 1) ≡ one_if (not s || m)
ends_rule true true = refl
ends_rule true false = refl
ends_rule false true = refl
ends_rule false false = refl

front_map : (f : ℕ → ℕ) (n i : ℕ) (l : List ℕ) → n ≤ length l → ((k v : ℕ) → k < n → i + k ≡ v → get_or l k 0 ≡ f v) → take n l ≡ map f (upto n i)
front_map f zero i l h e = refl
front_map f (suc n) i [] h e = absurd (omega arith)
front_map f (suc n) i (x ∷ l) h e =
    let first : x ≡ f i = e 0 i (omega arith) (omega arith) in
    let rest : take n l ≡ map f (upto n (suc i)) =
    front_map f n (suc i) l (omega arith) (λ k v m s. e (suc k) v (omega arith) (omega arith)) in
    λ j. first j ∷ rest j

pub endpoints_made : (n : ℕ) (starts marked t u w : List ℕ) → n ≤ length t → AllOnes n t → u ≡ stored_at starts 0 t → w ≡ stored_at marked 1 u → EndpointsOf n starts marked (take n w)
unfolding EndpointsOf design_graph
endpoints_made n starts marked t u w h ones a b ends early late q =
    front_map (λ v. one_if (is_endpoint (design n starts ends early late marked) v)) n 0 w (omega (arith, size_u, size_w))
    (λ k v l e. let z : k ≡ v = omega arith in here k l ∙ ap (λ (i : ℕ). one_if (is_endpoint (design n starts ends early late marked) i)) z)
  where
    size_u : length u ≡ length t
    size_u = ap length a ∙ stored_length starts 0 t

    size_w : length w ≡ length u
    size_w = ap length b ∙ stored_length marked 1 u

    here : (k : ℕ) → k < n → get_or w k 0 ≡ one_if (is_endpoint (design n starts ends early late marked) k)
    here k l =
        ap (λ (x : List ℕ). get_or x k 0) b ∙ stored_at_lem marked 1 u k (omega (arith, size_u))
        ∙ ap (λ (x : ℕ). cond (any_of (eqb k) marked) 1 x) (ap (λ (x : List ℕ). get_or x k 0) a ∙ stored_at_lem starts 0 t k (omega arith))
        ∙ ap (λ (x : ℕ). cond (any_of (eqb k) marked) 1 (cond (any_of (eqb k) starts) 0 x)) (ones k l)
        ∙ ends_rule (any_of (eqb k) starts) (any_of (eqb k) marked)
        ∙ ap (λ (s : Bool). one_if (s || any_of (eqb k) marked)) (sym (no_start k starts ends (upto (length starts) 0) q (length_upto (length starts) 0)))
