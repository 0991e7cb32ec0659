-- The marks at a node: the empty one and then the live classes, in order.
use Prim.Native.Nat.{ℕ, zero, suc, ◌+◌, ◌≤◌, ◌<◌}
use native.Mathlib.Omega.{arith}
use mathlib.Core.Path.{◌≡◌, refl, sym, ap, ◌∙◌, subst}
use mathlib.Core.Logic.{inl, inr, ⊎_elim}
use mathlib.Core.Bool.{Bool, true, false, not, cond}
use mathlib.Core.List.{List, [], ◌∷◌, Memᴰ}
use lib.Dec.{T, eqb, eqb→eq, eqb_refl}
use lib.ListN.{length, get_or, take}
use lib.Seq.{take-suc, take-length}
use Rattle.timing.specs.Lists.{one_if, keep, count_of}
use Rattle.timing.specs.Marks.{tails}
use Rattle.timing.specs.Sorting.{place}
use Rattle.theorems.proofs.Lists.{and_intro, and_left, and_right, fails, get_d_mem, mem_keep, of_keep}
use Rattle.theorems.proofs.Sorting.{Sorted, place_stands}
use Rattle.theorems.proofs.Marks.{Tail, begins}
use Rattle.theorems.proofs.Counting.{count_cons, count_append, count_le, nodup_keep, sorted_nodup}
use Rattle.removal.specs.Classes.{Filled, class_before, classes_of, class_count, class_at, live_at, marks_at, At}
use Rattle.removal.proofs.Listing.ClassLaws.{class_order, classes_sorted, mem_classes, some_suffix, all_sorted, sorted_rises}
use Rattle.removal.proofs.Listing.FitLaws.{dead_whole, tail_suffix, suffix_cases}

-- what passes a test stands among all that do where those before it are counted, and in the same order
module _ {A : Type 0} (p : A → Bool) where
  count_next : (l : List A) (i : ℕ) (d : A) → i < length l → count_of p (take (suc i) l) ≡ cond (p (get_or l i d)) (suc (count_of p (take i l))) (count_of p (take i l))
  count_next l i d h =
      ap (count_of p) (take-suc l i d h)
      ∙ count_append p (take i l) (get_or l i d ∷ [])
      ∙ ap (λ (n : ℕ). count_of p (take i l) + n) (count_cons p (get_or l i d) [])
      ∙ go (p (get_or l i d))
    where
      go : (b : Bool) → count_of p (take i l) + (one_if b + 0) ≡ cond b (suc (count_of p (take i l))) (count_of p (take i l))
      go true = omega arith
      go false = omega arith

  keep_stands : (l : List A) (i : ℕ) (d : A) → i < length l → p (get_or l i d) ≡ true
      → (count_of p (take i l) < length (keep p l)) × (get_or (keep p l) (count_of p (take i l)) d ≡ get_or l i d)
  keep_stands [] i d h e = absurd (omega arith)
  keep_stands (x ∷ l) zero d h e = go (p x) e
    where
      go : (b : Bool) → b ≡ true → (0 < length (cond b (x ∷ keep p l) (keep p l))) × (get_or (cond b (x ∷ keep p l) (keep p l)) 0 d ≡ x)
      go true e = (omega arith, refl)
      go false e = absurd (subst T (sym e) tt)
  keep_stands (x ∷ l) (suc i) d h e = go (p x) (keep_stands l i d (omega arith) e)
    where
      go : (b : Bool) → (count_of p (take i l) < length (keep p l)) × (get_or (keep p l) (count_of p (take i l)) d ≡ get_or l i d)
          → (length (cond b (x ∷ keep p (take i l)) (keep p (take i l))) < length (cond b (x ∷ keep p l) (keep p l)))
          × (get_or (cond b (x ∷ keep p l) (keep p l)) (length (cond b (x ∷ keep p (take i l)) (keep p (take i l)))) d ≡ get_or l i d)
      go true r = (omega (arith, r.0), r.1)
      go false r = r

  keep_sorted : (lt : A → A → Bool) (l : List A) → Sorted lt l → Sorted lt (keep p l)
  keep_sorted lt [] s = tt
  keep_sorted lt (x ∷ l) s = go (p x) (keep_sorted lt l s.1)
    where
      go : (b : Bool) → Sorted lt (keep p l) → Sorted lt (cond b (x ∷ keep p l) (keep p l))
      go true r = (λ y m. s.0 y (of_keep p l m).0, r)
      go false r = r

  count_every : (l : List A) → ((x : A) → Memᴰ x l → p x ≡ true) → count_of p l ≡ length l
  count_every [] f = refl
  count_every (x ∷ l) f = omega (arith, count_cons p x l, ap one_if (f x (Memᴰ.head refl)), count_every l (λ y m. f y (Memᴰ.tail m)))

-- a list of edges that is not empty and starts at v
abbrev pub starts_with : List ℕ → ℕ → List ℕ → Bool
starts_with starts v [] = false
starts_with starts v (e ∷ w) = eqb (get_or starts e 0) v

-- how many of the classes up to t are live at v
abbrev pub live_to : List ℕ → List (List ℕ) → ℕ → ℕ → ℕ
live_to starts L v t = count_of (live_at starts L v) (take t (classes_of L))

module _ (starts : List ℕ) (L : List (List ℕ)) where
  -- the first is the empty one; a live class stands where the live ones up to it are counted
  pub marks_first : (v : ℕ) → get_or (marks_at starts L v) 0 [] ≡ []
  unfolding marks_at
  marks_first v = refl

  pub live_step : (v t : ℕ) → t < class_count L
      → live_to starts L v (suc t) ≡ cond (live_at starts L v (class_at L (suc t))) (suc (live_to starts L v t)) (live_to starts L v t)
  unfolding class_at
  live_step v t h = count_next (live_at starts L v) (classes_of L) t [] h

  pub live_stands : (v t : ℕ) → t < class_count L → live_at starts L v (class_at L (suc t)) ≡ true
      → (live_to starts L v (suc t) < length (marks_at starts L v)) × (get_or (marks_at starts L v) (live_to starts L v (suc t)) [] ≡ class_at L (suc t))
  unfolding marks_at class_at
  live_stands v t h q =
      let next : live_to starts L v (suc t) ≡ suc (live_to starts L v t) = live_step v t h ∙ ap (λ (b : Bool). cond b (suc (live_to starts L v t)) (live_to starts L v t)) q in
      let r = keep_stands (live_at starts L v) (classes_of L) t [] h q in
      (omega (arith, next, r.0), ap (λ (i : ℕ). get_or (marks_at starts L v) i []) next ∙ r.1)

  pub live_all : (v : ℕ) → length (marks_at starts L v) ≡ suc (live_to starts L v (class_count L))
  unfolding marks_at
  live_all v = ap (λ (l : List (List ℕ)). suc (count_of (live_at starts L v) l)) (sym (take-length (classes_of L)))

  -- a live list starts at v and begins with no listed path, and is so known
  live_sound : (v : ℕ) (w : List ℕ) → T (live_at starts L v w) → At starts v w × (starts_with starts v w ≡ true) × (begins L w ≡ false)
  live_sound v [] t = absurd t
  live_sound v (e ∷ w) t =
      let here : T (eqb (get_or starts e 0) v) = and_left (eqb (get_or starts e 0) v) (not (begins L (e ∷ w))) t in
      (eqb→eq (get_or starts e 0) v here, yes (eqb (get_or starts e 0) v) here, none (begins L (e ∷ w)) (and_right (eqb (get_or starts e 0) v) (not (begins L (e ∷ w))) t))
    where
      yes : (b : Bool) → T b → b ≡ true
      yes true t = refl
      yes false t = absurd t

      none : (b : Bool) → T (not b) → b ≡ false
      none true t = absurd t
      none false t = refl

  live_complete : (v : ℕ) (w : List ℕ) → 0 < length w → At starts v w → begins L w ≡ false → T (live_at starts L v w)
  live_complete v [] h a b = absurd (omega arith)
  live_complete v (e ∷ w) h a b = and_intro (eqb (get_or starts e 0) v) (not (begins L (e ∷ w))) (rw a (eqb_refl v)) (rw b tt)

  -- a live class is a tail: no listed path is live
  live_tail : (v : ℕ) (w : List ℕ) → Memᴰ w (keep (live_at starts L v) (classes_of L)) → Memᴰ w (tails L) × T (live_at starts L v w)
  live_tail v w m =
      let r = of_keep (live_at starts L v) (classes_of L) m in (
        ⊎_elim (λ k. absurd (fails (begins L w) (live_sound v w r.1).2 (dead_whole L w k))) (λ k. k) (suffix_cases L w ((mem_classes L w).0 r.0)),
        r.1,
      )

  marks_sorted : (v : ℕ) → Sorted class_before (marks_at starts L v)
  unfolding marks_at
  marks_sorted v = (
    λ w m. (all_sorted L).0 w (of_keep (live_at starts L v) (classes_of L) m).0,
    keep_sorted (live_at starts L v) class_before (classes_of L) (classes_sorted L),
  )

  -- they rise strictly by length and then by edges; each but the first is a tail that starts at v and begins with no listed path; and every such tail is there
  pub marks_rise : (v i j : ℕ) → i < j → j < length (marks_at starts L v)
      → T (class_before (get_or (marks_at starts L v) i []) (get_or (marks_at starts L v) j []))
  marks_rise v i j h k = sorted_rises class_before (marks_at starts L v) [] i j (marks_sorted v) h k

  pub marks_sound : Filled L → (v j : ℕ) → suc j < length (marks_at starts L v)
      → Tail L (get_or (marks_at starts L v) (suc j) []) × At starts v (get_or (marks_at starts L v) (suc j) []) × (begins L (get_or (marks_at starts L v) (suc j) []) ≡ false)
  unfolding marks_at
  marks_sound f v j h =
      let w : List ℕ = get_or (keep (live_at starts L v) (classes_of L)) j [] in
      let r = live_tail v w (get_d_mem (keep (live_at starts L v) (classes_of L)) j [] (omega arith)) in
      let s = live_sound v w r.1 in
      (inr r.0, s.0, s.2)

  pub marks_all : Filled L → (v : ℕ) (m : List ℕ) → Tail L m → At starts v m → begins L m ≡ false
      → (j : ℕ) × (j < length (marks_at starts L v)) × (get_or (marks_at starts L v) j [] ≡ m)
  unfolding marks_at
  marks_all f v m (inl e) a b = (0, omega arith, sym e)
  marks_all f v m (inr t) a b =
      let s = tail_suffix L m t in
      let k = mem_keep (live_at starts L v) ((mem_classes L m).1 s) (live_complete v m (some_suffix L m s) a b) in
      let r = place_stands class_before class_order m [] (marks_at starts L v) (marks_sorted v) (Memᴰ.tail k) in
      (place class_before m (marks_at starts L v), r.0, r.1)

  -- not more than there are tails that start at the node
  pub marks_few : Filled L → (v : ℕ) → length (marks_at starts L v) ≤ suc (count_of (starts_with starts v) (tails L))
  unfolding marks_at
  marks_few f v =
      let live : List (List ℕ) = keep (live_at starts L v) (classes_of L) in
      omega (
        arith,
        count_every (starts_with starts v) live (λ w m. (live_sound v w (live_tail v w m).1).1),
        count_le (starts_with starts v) live (tails L)
            (nodup_keep (live_at starts L v) (classes_of L) (sorted_nodup class_before class_order (classes_of L) (classes_sorted L)))
            (λ w m. (live_tail v w m).0),
      )
