-- Lists of names: P1 and K1 to K5. Read a path from its end to its start, and the mark is the state of a deterministic
-- automaton: the mark of e before w, and whether a listed path begins there, depend on e and the mark of w alone.
use Prim.Native.Nat.{ℕ, ◌≤◌}
use mathlib.Core.Path.{◌≡◌, refl, sym, ap, ap₂, ◌∙◌}
use mathlib.Core.Logic.{◌⊎◌, inl, inr, ⊎_elim, ◌↔◌}
use mathlib.Core.Bool.{Bool, true, false, not, cond, ◌&&◌, ◌||◌}
use mathlib.Core.List.Memᴰ
use mathlib.Core.List.{List, [], ◌∷◌, ◌++◌, flat_map, Memᴰ, tail-eq_of_cons-eq, cons≢nil, append_assoc}
use native.Mathlib.Omega.{arith}
use lib.Dec.{T, eqb, ltb, eqb→eq, eqb_refl}
use lib.ListN.{length}
use borrow.Author.Tests.{ltb-true, ltb-false}
use Rattle.timing.specs.Lists.{any_of, keep}
use Rattle.timing.specs.Marks.{is_prefix, occurs, permitted, suffixes, tails_of, tails, longer, longest, mark}
use Rattle.theorems.proofs.Lists.{and_intro, and_left, and_right, same_test, any_of_intro, any_of_elim, mem_flat_map, of_flat_map, mem_keep, of_keep}

-- w begins with s, as a statement
abbrev pub Prefix : List ℕ → List ℕ → Type 0
Prefix [] w = Unit {0}
Prefix (a ∷ s) [] = ⊥
Prefix (a ∷ s) (b ∷ w) = (a ≡ b) × Prefix s w

pub prefix_sound : (s w : List ℕ) → T (is_prefix s w) → Prefix s w
prefix_sound [] w p = tt
prefix_sound (a ∷ s) [] p = p
prefix_sound (a ∷ s) (b ∷ w) p = (eqb→eq a b (and_left (eqb a b) (is_prefix s w) p), prefix_sound s w (and_right (eqb a b) (is_prefix s w) p))

pub prefix_complete : (s w : List ℕ) → Prefix s w → T (is_prefix s w)
prefix_complete [] w p = tt
prefix_complete (a ∷ s) [] p = p
prefix_complete (a ∷ s) (b ∷ w) p = and_intro (eqb a b) (is_prefix s w) (rw p.0 (eqb_refl b)) (prefix_complete s w p.1)

pub prefix_trans : (a b c : List ℕ) → Prefix a b → Prefix b c → Prefix a c
prefix_trans [] b c p q = tt
prefix_trans (x ∷ a) [] c p q = absurd p
prefix_trans (x ∷ a) (y ∷ b) [] p q = q
prefix_trans (x ∷ a) (y ∷ b) (z ∷ c) p q = (p.0 ∙ q.0, prefix_trans a b c p.1 q.1)

-- of two prefixes of one list the shorter is a prefix of the longer
pub prefix_shorter : (a b w : List ℕ) → Prefix a w → Prefix b w → length a ≤ length b → Prefix a b
prefix_shorter [] b w p q h = tt
prefix_shorter (x ∷ a) [] w p q h = absurd (omega arith)
prefix_shorter (x ∷ a) (y ∷ b) [] p q h = absurd p
prefix_shorter (x ∷ a) (y ∷ b) (z ∷ w) p q h = (p.0 ∙ sym q.0, prefix_shorter a b w p.1 q.1 (omega arith))

pub prefix_whole : (a b : List ℕ) → Prefix a b → length b ≤ length a → a ≡ b
prefix_whole [] [] p h = refl
prefix_whole [] (y ∷ b) p h = absurd (omega arith)
prefix_whole (x ∷ a) [] p h = absurd p
prefix_whole (x ∷ a) (y ∷ b) p h = ap₂ ◌∷◌ p.0 (prefix_whole a b p.1 (omega arith))

-- a list that may be a mark: empty, or a tail
abbrev pub Tail : List (List ℕ) → List ℕ → Type 0
Tail L t = (t ≡ []) ⊎ Memᴰ t (tails L)

-- the longest of a list is there, unless the list is empty, and none is longer
pub longest_there : (l : List (List ℕ)) → (longest l ≡ []) ⊎ Memᴰ (longest l) l
longest_there [] = inl refl
longest_there (t ∷ ts) = go (ltb (length t) (length (longest ts))) (longest_there ts)
  where
    go : (b : Bool) → (longest ts ≡ []) ⊎ Memᴰ (longest ts) ts → (cond b (longest ts) t ≡ []) ⊎ Memᴰ (cond b (longest ts) t) (t ∷ ts)
    go true (inl e) = inl e
    go true (inr m) = inr (Memᴰ.tail m)
    go false h = inr (Memᴰ.head refl)

pub longest_most : (l : List (List ℕ)) (t : List ℕ) → Memᴰ t l → length t ≤ length (longest l)
longest_most [] t m = absurd (Memᴰ.not-nil m)
longest_most (s ∷ l) t m = go (ltb (length s) (length (longest l))) refl (⊎_elim (λ e. inl (ap length e)) (λ h. inr (longest_most l t h)) (Memᴰ.cases_cons m))
  where
    go : (b : Bool) → ltb (length s) (length (longest l)) ≡ b → (length t ≡ length s) ⊎ (length t ≤ length (longest l)) → length t ≤ length (cond b (longest l) s)
    go true e (inl h) = omega (arith, ltb-true (length s) (length (longest l)) e)
    go true e (inr h) = h
    go false e (inl h) = omega arith
    go false e (inr h) = omega (arith, ltb-false (length s) (length (longest l)) e)

-- what the mark is
module _ (L : List (List ℕ)) (w : List ℕ) where
  mark_cases : (mark L w ≡ []) ⊎ (Memᴰ (mark L w) (tails L) × T (is_prefix (mark L w) w))
  unfolding mark
  mark_cases = ⊎_elim inl (λ m. inr (of_keep (λ t. is_prefix t w) (tails L) m)) (longest_there (keep (λ t. is_prefix t w) (tails L)))

  pub mark_tail : Tail L (mark L w)
  mark_tail = ⊎_elim inl (λ h. inr h.0) mark_cases

  pub mark_prefix : Prefix (mark L w) w
  mark_prefix = ⊎_elim (λ e. rw e tt) (λ h. prefix_sound (mark L w) w h.1) mark_cases

  pub mark_most : (t : List ℕ) → Tail L t → Prefix t w → Prefix t (mark L w)
  unfolding mark
  mark_most t (inl e) p = rw e tt
  mark_most t (inr m) p = prefix_shorter t (mark L w) w p mark_prefix (longest_most (keep (λ s. is_prefix s w) (tails L)) t (mem_keep (λ s. is_prefix s w) m (prefix_complete t w p)))

  -- and nothing else is
  pub mark_unique : (m : List ℕ) → Tail L m → Prefix m w → ((t : List ℕ) → Tail L t → Prefix t w → length t ≤ length m) → mark L w ≡ m
  mark_unique m tl p most = sym (prefix_whole m (mark L w) (mark_most m tl p) (most (mark L w) mark_tail mark_prefix))

pub prefix_length : (a b : List ℕ) → Prefix a b → length a ≤ length b
prefix_length [] b p = omega arith
prefix_length (x ∷ a) [] p = absurd p
prefix_length (x ∷ a) (y ∷ b) p = omega (arith, prefix_length a b p.1)

-- tails are closed under dropping the first edge, and hold what is left of a listed path
suffix_self : (s : List ℕ) → (s ≡ []) ⊎ Memᴰ s (suffixes s)
suffix_self [] = inl refl
suffix_self (a ∷ s) = inr (Memᴰ.head refl)

suffix_step : (e : ℕ) (t s : List ℕ) → Memᴰ (e ∷ t) (suffixes s) → (t ≡ []) ⊎ Memᴰ t (suffixes s)
suffix_step e t [] m = absurd (Memᴰ.not-nil m)
suffix_step e t (x ∷ s) m = go (⊎_elim (λ q. go' (tail-eq_of_cons-eq q)) (λ h. suffix_step e t s h) (Memᴰ.cases_cons m))
  where
    go' : t ≡ s → (t ≡ []) ⊎ Memᴰ t (suffixes s)
    go' q = rw q (suffix_self s)

    go : (t ≡ []) ⊎ Memᴰ t (suffixes s) → (t ≡ []) ⊎ Memᴰ t ((x ∷ s) ∷ suffixes s)
    go (inl q) = inl q
    go (inr h) = inr (Memᴰ.tail h)

module _ (L : List (List ℕ)) where
  pub tail_of_path : (e : ℕ) (t : List ℕ) → Memᴰ (e ∷ t) L → Tail L t
  unfolding tails
  tail_of_path e t m = ⊎_elim inl (λ h. inr (mem_flat_map tails_of m h)) (suffix_self t)

  tail_within : (e : ℕ) (t p : List ℕ) → Memᴰ p L → Memᴰ (e ∷ t) (tails_of p) → Tail L t
  unfolding tails
  tail_within e t [] m h = absurd (Memᴰ.not-nil h)
  tail_within e t (x ∷ p) m h = ⊎_elim inl (λ k. inr (mem_flat_map tails_of m k)) (suffix_step e t p h)

  pub tail_step : (e : ℕ) (t : List ℕ) → Tail L (e ∷ t) → Tail L t
  unfolding tails
  tail_step e t (inl q) = absurd (cons≢nil q)
  tail_step e t (inr m) = let r = of_flat_map tails_of L m in tail_within e t r.0 r.1 r.2

  -- a mark or a listed path that e ∷ w begins with is one that e ∷ mark L w begins with
  tail_reads : (e : ℕ) (w t : List ℕ) → Tail L t → Prefix t (e ∷ w) → Prefix t (e ∷ mark L w)
  tail_reads e w [] tl p = tt
  tail_reads e w (x ∷ t) tl p = (p.0, mark_most L w t (tail_step x t tl) p.1)

  path_reads : (e : ℕ) (w t : List ℕ) → Memᴰ t L → Prefix t (e ∷ w) → Prefix t (e ∷ mark L w)
  path_reads e w [] m p = tt
  path_reads e w (x ∷ t) m p = (p.0, mark_most L w t (tail_of_path x t m) p.1)

  back : (e : ℕ) (w t : List ℕ) → Prefix t (e ∷ mark L w) → Prefix t (e ∷ w)
  back e w t p = prefix_trans t (e ∷ mark L w) (e ∷ w) p (refl, mark_prefix L w)

  -- K1
  pub mark_reads : (e : ℕ) (w : List ℕ) → mark L (e ∷ w) ≡ mark L (e ∷ mark L w)
  mark_reads e w =
      mark_unique L (e ∷ w) (mark L (e ∷ mark L w)) (mark_tail L _) (back e w (mark L (e ∷ mark L w)) (mark_prefix L (e ∷ mark L w)))
      (λ t tl p. prefix_length t _ (mark_most L (e ∷ mark L w) t tl (tail_reads e w t tl p)))

  -- K2
  abbrev pub Begins : List ℕ → Type 0
  Begins w = (p : List ℕ) × Memᴰ p L × Prefix p w

  pub begins_reads : (e : ℕ) (w : List ℕ) → Begins (e ∷ w) ↔ Begins (e ∷ mark L w)
  begins_reads e w = (λ b. (b.0, b.1, path_reads e w b.0 b.1 b.2), λ b. (b.0, b.1, back e w b.0 b.2))

-- K3
module _ (L K : List (List ℕ)) (sub : (t : List ℕ) → Tail L t → Tail K t) (w : List ℕ) where
  pub mark_below : Prefix (mark L w) (mark K w)
  mark_below = mark_most K w (mark L w) (sub (mark L w) (mark_tail L w)) (mark_prefix L w)

  pub mark_through : mark L w ≡ mark L (mark K w)
  mark_through =
      mark_unique L w (mark L (mark K w)) (mark_tail L _)
      (prefix_trans (mark L (mark K w)) (mark K w) w (mark_prefix L _) (mark_prefix K w))
      (λ t tl p. prefix_length t _ (mark_most L (mark K w) t tl (mark_most K w t (sub t tl) p)))

tails_append : (L K : List (List ℕ)) → tails (L ++ K) ≡ tails L ++ tails K
unfolding tails flat_map
tails_append [] K = refl
tails_append (p ∷ L) K = rw (tails_append L K) (sym (append_assoc (tails_of p) (tails L) (tails K)))

pub tail_left : (L K : List (List ℕ)) (t : List ℕ) → Tail L t → Tail (L ++ K) t
tail_left L K t (inl e) = inl e
tail_left L K t (inr m) = inr (rw tails_append (Memᴰ.append_left (tails K) m))

pub tail_right : (L K : List (List ℕ)) (t : List ℕ) → Tail K t → Tail (L ++ K) t
tail_right L K t (inl e) = inl e
tail_right L K t (inr m) = inr (rw tails_append (Memᴰ.append_right (tails L) m))

pub tail_cases : (L K : List (List ℕ)) (t : List ℕ) → Tail (L ++ K) t → Tail L t ⊎ Tail K t
tail_cases L K t (inl e) = inl (inl e)
tail_cases L K t (inr m) = ⊎_elim (λ h. inl (inr h)) (λ h. inr (inr h)) (Memᴰ.append_cases (tails L) (rw tails_append at m))

-- the mark of two lists put end to end is the longer of the two marks
pub mark_append : (L K : List (List ℕ)) (w : List ℕ) → mark (L ++ K) w ≡ longer (mark L w) (mark K w)
mark_append L K w = go (ltb (length (mark L w)) (length (mark K w))) refl
  where
    either : (t : List ℕ) → Tail (L ++ K) t → Prefix t w → (length t ≤ length (mark L w)) ⊎ (length t ≤ length (mark K w))
    either t tl p =
        ⊎_elim
        (λ h. inl (prefix_length t (mark L w) (mark_most L w t h p)))
        (λ h. inr (prefix_length t (mark K w) (mark_most K w t h p)))
        (tail_cases L K t tl)

    go : (b : Bool) → ltb (length (mark L w)) (length (mark K w)) ≡ b → mark (L ++ K) w ≡ cond b (mark K w) (mark L w)
    go true e =
        let lt = ltb-true (length (mark L w)) (length (mark K w)) e in
        mark_unique (L ++ K) w (mark K w) (tail_right L K _ (mark_tail K w)) (mark_prefix K w)
        (λ t tl p. ⊎_elim (λ h. omega arith) (λ h. h) (either t tl p))
    go false e =
        let ge = ltb-false (length (mark L w)) (length (mark K w)) e in
        mark_unique (L ++ K) w (mark L w) (tail_left L K _ (mark_tail L w)) (mark_prefix L w)
        (λ t tl p. ⊎_elim (λ h. h) (λ h. omega arith) (either t tl p))

pub mark_through_left : (L K : List (List ℕ)) (w : List ℕ) → mark L w ≡ mark L (mark (L ++ K) w)
mark_through_left L K w = mark_through L (L ++ K) (tail_left L K) w

pub mark_through_right : (L K : List (List ℕ)) (w : List ℕ) → mark K w ≡ mark K (mark (L ++ K) w)
mark_through_right L K w = mark_through K (L ++ K) (tail_right L K) w

-- some listed path is what w begins with
abbrev pub begins : List (List ℕ) → List ℕ → Bool
begins L w = any_of (λ p. is_prefix p w) L

-- K2 as an equation of tests
pub begins_same : (L : List (List ℕ)) (e : ℕ) (w : List ℕ) → begins L (e ∷ w) ≡ begins L (e ∷ mark L w)
begins_same L e w = same_test (begins L (e ∷ w)) (begins L (e ∷ mark L w)) (across (e ∷ w) (e ∷ mark L w) (begins_reads L e w).0) (across (e ∷ mark L w) (e ∷ w) (begins_reads L e w).1)
  where
    across : (u v : List ℕ) → (Begins L u → Begins L v) → T (begins L u) → T (begins L v)
    across u v f t =
        let r = any_of_elim (λ p. is_prefix p u) L t in
        let s = f (r.0, r.1, prefix_sound r.0 u r.2) in
        any_of_intro (λ p. is_prefix p v) s.1 (prefix_complete s.0 v s.2)

or_swap : (a b c d : Bool) → ((a || b) || (c || d)) ≡ ((a || c) || (b || d))
or_swap true b c d = refl
or_swap false true true d = refl
or_swap false true false d = refl
or_swap false false true d = refl
or_swap false false false d = refl

occurs_cons : (L : List (List ℕ)) (e : ℕ) (w : List ℕ) → any_of (λ p. occurs p (e ∷ w)) L ≡ (begins L (e ∷ w) || any_of (λ p. occurs p w) L)
occurs_cons [] e w = refl
occurs_cons (p ∷ L) e w = ap (λ b. (is_prefix p (e ∷ w) || occurs p w) || b) (occurs_cons L e w) ∙ or_swap (is_prefix p (e ∷ w)) (occurs p w) (begins L (e ∷ w)) (any_of (λ p. occurs p w) L)

not_or : (a b : Bool) → not (a || b) ≡ (not a && not b)
not_or true b = refl
not_or false b = refl

pub permitted_cons : (L : List (List ℕ)) (e : ℕ) (w : List ℕ) → permitted L (e ∷ w) ≡ (not (begins L (e ∷ w)) && permitted L w)
unfolding permitted
permitted_cons L e w = ap not (occurs_cons L e w) ∙ not_or (begins L (e ∷ w)) (any_of (λ p. occurs p w) L)

-- every suffix of a permitted path is permitted
pub permitted_rest : (L : List (List ℕ)) (u w : List ℕ) → T (permitted L (u ++ w)) → T (permitted L w)
permitted_rest L [] w t = t
permitted_rest L (e ∷ u) w t = permitted_rest L u w (and_right (not (begins L (e ∷ (u ++ w)))) (permitted L (u ++ w)) (rw permitted_cons at t))

-- K5: two permitted paths with the same mark can follow the same edges, and then have the same mark again
pub splice : (L : List (List ℕ)) (w v : List ℕ) → mark L w ≡ mark L v → T (permitted L v) → (p : List ℕ) → T (permitted L (p ++ w))
    → T (permitted L (p ++ v)) × (mark L (p ++ w) ≡ mark L (p ++ v))
splice L w v e t [] h = (t, e)
splice L w v e t (x ∷ p) h =
    let s : T (not (begins L (x ∷ (p ++ w))) && permitted L (p ++ w)) = rw permitted_cons at h in
    let r = splice L w v e t p (and_right (not (begins L (x ∷ (p ++ w)))) (permitted L (p ++ w)) s) in
    let b : begins L (x ∷ (p ++ w)) ≡ begins L (x ∷ (p ++ v)) =
    begins_same L x (p ++ w) ∙ ap (λ (m : List ℕ). begins L (x ∷ m)) r.1 ∙ sym (begins_same L x (p ++ v)) in (
      rw permitted_cons (and_intro (not (begins L (x ∷ (p ++ v)))) (permitted L (p ++ v)) (rw b at (and_left (not (begins L (x ∷ (p ++ w)))) (permitted L (p ++ w)) s)) r.0),
      mark_reads L x (p ++ w) ∙ ap (λ (m : List ℕ). mark L (x ∷ m)) r.1 ∙ sym (mark_reads L x (p ++ v)),
    )

-- one edge in front: permitted where no listed path begins there
pub permitted_front : (L : List (List ℕ)) (e : ℕ) (w : List ℕ) → begins L (e ∷ mark L w) ≡ false → T (permitted L w) → T (permitted L (e ∷ w))
permitted_front L e w b t =
    rw permitted_cons (and_intro (not (begins L (e ∷ w))) (permitted L w) (rw (begins_same L e w, b) tt) t)

pub front_permitted : (L : List (List ℕ)) (e : ℕ) (w : List ℕ) → T (permitted L (e ∷ w)) → (begins L (e ∷ mark L w) ≡ false) × T (permitted L w)
front_permitted L e w h =
    let s : T (not (begins L (e ∷ w)) && permitted L w) = rw permitted_cons at h in
    (sym (begins_same L e w) ∙ none (begins L (e ∷ w)) (and_left (not (begins L (e ∷ w))) (permitted L w) s), and_right (not (begins L (e ∷ w))) (permitted L w) s)
  where
    none : (b : Bool) → T (not b) → b ≡ false
    none true t = absurd t
    none false t = refl

-- a path is permitted by two lists put end to end where it is by both
pub permitted_append : (L K : List (List ℕ)) (w : List ℕ) → permitted (L ++ K) w ≡ (permitted L w && permitted K w)
unfolding permitted
permitted_append L K w = ap not (both (λ p. occurs p w) L K) ∙ not_or (any_of (λ p. occurs p w) L) (any_of (λ p. occurs p w) K)
  where
    or_assoc : (a b c : Bool) → (a || (b || c)) ≡ ((a || b) || c)
    or_assoc true b c = refl
    or_assoc false b c = refl

    both : (f : List ℕ → Bool) (L K : List (List ℕ)) → any_of f (L ++ K) ≡ (any_of f L || any_of f K)
    both f [] K = refl
    both f (p ∷ L) K = ap (λ (b : Bool). f p || b) (both f L K) ∙ or_assoc (f p) (any_of f L) (any_of f K)
