-- Times at a node, from the times of its copies: the record of a node is that of all runs to, from and through its copies.
-- This is the part of T4 that holds in any graph that rises; which paths of the design these runs are is not said here.
use Prim.Native.Nat.{ℕ, zero, suc, ◌+◌, ◌≤◌, ◌<◌}
use mathlib.Core.Path.{◌≡◌, refl, ap, ap₂, ◌∙◌}
use mathlib.Core.Logic.{◌⊎◌, ⊎_elim, ◌↔◌}
use mathlib.Core.Bool.{Bool, true, false, cond, ◌&&◌, not}
use mathlib.Core.List.{List, [], ◌∷◌, map, Memᴰ}
use Rattle.std.specs.Prelude.{Option, None}
use Rattle.timing.specs.Answers.{SomeTimes}
use Rattle.timing.specs.declared.Times.{Times}
use native.Mathlib.Omega.{arith}
use lib.Dec.{T, eqb, eqb→eq, eqb_refl, ltb, lt→ltb, ltb→lt}
use lib.IntN.{ℤ, pos, ◌-ℤ◌}
use lib.ListN.{length, get_or}
use Rattle.timing.specs.Lists.{is_nil, keep, upto}
use Rattle.timing.specs.Graphs.{Edge, Graph, node_of, delay_along}
use Rattle.timing.specs.Times.{largest, smallest, arrival_at, required_at, slack_at, earliest_at, node_times}
use Rattle.timing.specs.Paths.{Best}
use Rattle.theorems.proofs.Lists.{and_intro, and_left, and_right, mem_keep, of_keep, mem_upto, of_upto}
use Rattle.theorems.proofs.Runs.{Rising, Onward, Way}
use Rattle.theorems.proofs.Extremes.{AtMost, AtLeast, Some, not_nil, Picks, best_moved, best_nested, best_value, larges, smalls}
use Rattle.theorems.proofs.Times.{To, Through, arrival_best, required_best, slack_best, earliest_best}

-- what is held of each copy, read back
pub at_copy : {A : Type 0} (z : A) (f : ℕ → A) (n i c : ℕ) → c < n → get_or (map f (upto n i)) c z ≡ f (i + c)
at_copy z f zero i c h = absurd (omega arith)
at_copy z f (suc n) i zero h = ap f (omega arith)
at_copy z f (suc n) i (suc c) h = at_copy z f n (suc i) c (omega arith) ∙ ap f (omega arith)

pub map_on : {A B : Type 0} (f g : A → B) (l : List A) → ((x : A) → Memᴰ x l → f x ≡ g x) → map f l ≡ map g l
map_on f g [] e = refl
map_on f g (x ∷ l) e = ap₂ ◌∷◌ (e x (Memᴰ.head refl)) (map_on f g l (λ y m. e y (Memᴰ.tail m)))

-- the copies of a node
abbrev pub copies_of : Graph → ℕ → List ℕ
copies_of G v = keep (λ c. eqb (node_of G c) v) (upto (length G.nodes) 0)

abbrev pub CopyOf : Graph → ℕ → ℕ → Type 0
CopyOf G v c = (c < length G.nodes) × (node_of G c ≡ v)

pub mem_copies : (G : Graph) (v c : ℕ) → Memᴰ c (copies_of G v) ↔ CopyOf G v c
mem_copies G v c = (
  λ m. let r = of_keep (λ c. eqb (node_of G c) v) (upto (length G.nodes) 0) m in (omega (arith, (of_upto (length G.nodes) 0 c r.0).1), eqb→eq (node_of G c) v r.1),
  λ r. mem_keep (λ c. eqb (node_of G c) v) (mem_upto (length G.nodes) 0 c (omega arith) (omega (arith, r.0))) (rw r.1 (eqb_refl v)),
)

-- P at some copy of C
abbrev pub At : (ℕ → Type 0) → (ℕ → List Edge → Type 0) → List Edge → Type 0
At C P es = (c : ℕ) × C c × P c es

-- the best of the best values at the copies of a node
node_best : {le : ℤ → ℤ → Type 0} {pick : ℤ → ℤ → ℤ} {best : List ℤ → ℤ} → Picks le pick best
    → (G : Graph) (v : ℕ) (P : ℕ → List Edge → Type 0) (f : List Edge → ℤ) (m : ℕ → ℤ)
    → ((c : ℕ) → c < length G.nodes → Best le (P c) f (m c)) → Some (copies_of G v) → Best le (At (CopyOf G v) P) f (best (map m (copies_of G v)))
node_best K G v P f m each s =
    best_moved
    (best_nested K (λ c h. each c ((mem_copies G v c).0 h).0) (best_value K m (copies_of G v) s))
    (λ q w. let o = (mem_copies G v q.0).0 w.0 in (q.1, (q.0, o, w.1), refl))
    (λ es r. ((r.0, es), ((mem_copies G v r.0).1 r.1, r.2), refl))

-- the four times of a node's record, over runs
pub record NodeBest (early late : ℕ → ℤ) (t : ℤ) (G : Graph) (v : ℕ) (a r s e : ℤ) : Type 0 where
  pub arrival : Best AtMost (At (CopyOf G v) (To G)) (delay_along late) a
  pub required : Best AtLeast (At (CopyOf G v) (Way G)) (λ es. t -ℤ delay_along late es) r
  pub slack : Best AtLeast (At (CopyOf G v) (Through G)) (λ es. t -ℤ delay_along late es) s
  pub earliest : Best AtLeast (At (CopyOf G v) (To G)) (delay_along early) e

-- what a test decides
taken : {A : Type 0} (b : Bool) (x y : A) → T b → cond b x y ≡ x
taken true x y p = refl
taken false x y p = absurd p

not_taken : {A : Type 0} (b : Bool) (x y : A) → (T b → ⊥) → cond b x y ≡ y
not_taken true x y p = absurd (p tt)
not_taken false x y p = refl

-- a copy's times
abbrev pub copy_times_at : (ℕ → ℤ) → (ℕ → ℤ) → ℤ → Graph → ℕ → Option Times
copy_times_at early late t G c = SomeTimes (arrival_at late t G c) (required_at late t G c) (slack_at late t G c) (earliest_at early G c)

-- a node's times, from the slices that hold a time of each copy
abbrev pub node_times_at : (ℕ → ℤ) → (ℕ → ℤ) → ℤ → Graph → ℕ → ℕ → Option Times
node_times_at early late t G n v =
    let copies : List ℕ = upto (length G.nodes) 0 in
    node_times n G.nodes (map (arrival_at late t G) copies) (map (required_at late t G) copies) (map (slack_at late t G) copies)
    (map (earliest_at early G) copies) v

module _ (early late : ℕ → ℤ) (t : ℤ) (G : Graph) (n v : ℕ) where
  read_back : (f : ℕ → ℤ) → map (λ c. get_or (map f (upto (length G.nodes) 0)) c (pos 0)) (copies_of G v) ≡ map f (copies_of G v)
  read_back f =
      map_on (λ c. get_or (map f (upto (length G.nodes) 0)) c (pos 0)) f (copies_of G v)
      (λ c m. at_copy (pos 0) f (length G.nodes) 0 c ((mem_copies G v c).0 m).0 ∙ ap f (omega arith))

  -- a node below n that has copies
  pub node_times_lem : Rising G → Onward G → v < n → Some (copies_of G v)
      → (a : ℤ) × (r : ℤ) × (s : ℤ) × (e : ℤ) × (node_times_at early late t G n v ≡ SomeTimes a r s e) × NodeBest early late t G v a r s e
  unfolding node_times
  node_times_lem R O h s = (
    largest (map (arrival_at late t G) (copies_of G v)),
    smallest (map (required_at late t G) (copies_of G v)),
    smallest (map (slack_at late t G) (copies_of G v)),
    smallest (map (earliest_at early G) (copies_of G v)),
    rw (read_back (arrival_at late t G), read_back (required_at late t G), read_back (slack_at late t G), read_back (earliest_at early G)) (taken (ltb v n && not (is_nil (copies_of G v))) _ None (and_intro (ltb v n) (not (is_nil (copies_of G v))) (lt→ltb v n h) ((not_nil (copies_of G v)).1 s))),
    record {
      arrival = node_best larges G v (To G) (delay_along late) (arrival_at late t G) (arrival_best late t G R) s;
      required = node_best smalls G v (Way G) (λ es. t -ℤ delay_along late es) (required_at late t G) (required_best late t G R O) s;
      slack = node_best smalls G v (Through G) (λ es. t -ℤ delay_along late es) (slack_at late t G) (slack_best late t G R O) s;
      earliest = node_best smalls G v (To G) (delay_along early) (earliest_at early G) (earliest_best early G R) s;
    },
  )

  -- any other node
  pub node_none : (n ≤ v) ⊎ (Some (copies_of G v) → ⊥) → node_times_at early late t G n v ≡ None
  unfolding node_times
  node_none p =
      not_taken (ltb v n && not (is_nil (copies_of G v))) _ None
      (λ q. ⊎_elim
      (λ (h : n ≤ v). omega (arith, ltb→lt v n (and_left (ltb v n) (not (is_nil (copies_of G v))) q)))
      (λ f. f ((not_nil (copies_of G v)).0 (and_right (ltb v n) (not (is_nil (copies_of G v))) q)))
      p)
