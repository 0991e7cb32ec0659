-- What a word begins with: the longest class and the listed paths that it begins with, and the search along failure links for that class.
use Prim.Native.Nat.{ℕ, zero, suc, ◌≤◌, ◌<◌}
use native.Mathlib.Omega.{arith}
use native.Mathlib.Decide.{dec_lt}
use mathlib.Core.Path.{◌≡◌, refl, sym, ap, ap₂, ◌∙◌, subst}
use mathlib.Core.Logic.{◌⊎◌, inl, inr, ⊎_elim}
use mathlib.Core.Bool.{false}
use mathlib.Core.List.Memᴰ
use mathlib.Core.List.{List, [], ◌∷◌, flat_map, Memᴰ}
use lib.Dec.{T}
use lib.ListN.{length}
use Rattle.timing.specs.Lists.{is_nil}
use Rattle.timing.specs.Marks.{is_prefix, suffixes, tails_of, tails, mark}
use Rattle.theorems.proofs.Lists.{fails, same_test, any_of_intro, any_of_elim, mem_flat_map, of_flat_map}
use Rattle.theorems.proofs.Marks.{Prefix, Tail, Begins, begins, prefix_sound, prefix_complete, prefix_trans, prefix_shorter, prefix_whole, prefix_length, mark_unique}
use Rattle.removal.specs.Classes.{Filled, all_suffixes, class_count, class_at, Fit, Fails, Root, Child}
use Rattle.removal.proofs.Listing.ClassLaws.{class_zero, class_suffix, suffix_class, class_shorter, class_after}

prefix_self : (w : List ℕ) → Prefix w w
prefix_self [] = tt
prefix_self (e ∷ w) = (refl, prefix_self w)

-- of two lists that a word begins with, one that is no shorter than the other and no longer is the same
prefix_same : (v u w : List ℕ) → Prefix v w → Prefix u w → length v ≡ length u → v ≡ u
prefix_same v u w p q e = prefix_whole v u (prefix_shorter v u w p q (omega arith)) (omega arith)

none_left : (w : List ℕ) → length w ≤ 0 → w ≡ []
none_left [] h = refl
none_left (e ∷ w) h = absurd (omega arith)

-- the test as a statement
begins_sound : (L : List (List ℕ)) (w : List ℕ) → T (begins L w) → Begins L w
begins_sound L w t = let r = any_of_elim (λ p. is_prefix p w) L t in (r.0, r.1, prefix_sound r.0 w r.2)

begins_complete : (L : List (List ℕ)) (w : List ℕ) → Begins L w → T (begins L w)
begins_complete L w b = any_of_intro (λ p. is_prefix p w) b.1 (prefix_complete b.0 w b.2)

pub dead_whole : (L : List (List ℕ)) (w : List ℕ) → Memᴰ w L → T (begins L w)
dead_whole L w m = begins_complete L w (w, m, prefix_self w)

pub dead_longer : (L : List (List ℕ)) (v w : List ℕ) → Prefix v w → T (begins L v) → T (begins L w)
dead_longer L v w p b = let r = begins_sound L v b in begins_complete L w (r.0, r.1, prefix_trans r.0 v w r.2 p)

-- The search along failure links for the longest class that e and then class f begin with. It has come to class c: class f begins with it, and no longer
-- one has a child over e.
pub record Along (L : List (List ℕ)) (f e c : ℕ) : Type 0 where
  pub inside : c ≤ f
  pub begins : Prefix (class_at L c) (class_at L f)
  pub longest : (u t : ℕ) → u ≤ class_count L → t ≤ class_count L → Prefix (class_at L u) (class_at L f) → class_at L t ≡ e ∷ class_at L u → length (class_at L u) ≤ length (class_at L c)

module _ (L : List (List ℕ)) where
  -- every list begins with class 0
  zero_begins : (w : List ℕ) → Prefix (class_at L 0) w
  zero_begins w = rw class_zero tt

  -- a class that e and then w begin with is empty, or e and then a class that w begins with
  first_edge : (t e : ℕ) (w : List ℕ) → t ≤ class_count L → Prefix (class_at L t) (e ∷ w)
      → (class_at L t ≡ []) ⊎ ((u : ℕ) × (u ≤ class_count L) × (class_at L t ≡ e ∷ class_at L u) × Prefix (class_at L u) w)
  first_edge t e w h = go (class_at L t) refl
    where
      go : (v : List ℕ) → class_at L t ≡ v → Prefix v (e ∷ w)
          → (class_at L t ≡ []) ⊎ ((u : ℕ) × (u ≤ class_count L) × (class_at L t ≡ e ∷ class_at L u) × Prefix (class_at L u) w)
      go [] q p = inl q
      go (x ∷ v) q p =
          let r = class_after L t x v h q in
          inr (r.0, omega (arith, r.1), q ∙ ap₂ ◌∷◌ p.0 (sym r.2), subst (λ (y : List ℕ). Prefix y w) (sym r.2) p.1)

  -- so the longest that e and then w begin with is found among these
  fit_front : (e : ℕ) (w : List ℕ) (r : ℕ) → r ≤ class_count L → Prefix (class_at L r) (e ∷ w)
      → ((u t : ℕ) → u ≤ class_count L → t ≤ class_count L → Prefix (class_at L u) w → class_at L t ≡ e ∷ class_at L u → length (class_at L t) ≤ length (class_at L r))
      → Fit L (e ∷ w) r
  fit_front e w r h p most =
      record {
        inside = h;
        begins = p;
        longest = λ t k q.
            ⊎_elim
            (λ (n : class_at L t ≡ []). omega (arith, ap length n))
            (λ (s : (u : ℕ) × (u ≤ class_count L) × (class_at L t ≡ e ∷ class_at L u) × Prefix (class_at L u) w). most s.0 t s.1 k s.3 s.2)
            (first_edge t e w k q);
      }

  pub along_start : (f e : ℕ) → f ≤ class_count L → Along L f e f
  along_start f e h =
      record {
        inside = omega arith;
        begins = prefix_self (class_at L f);
        longest = λ u t hu ht p q. prefix_length (class_at L u) (class_at L f) p;
      }

  -- a class as long as c that f begins with is c, which has no child over e
  pub along_next : (f e c d : ℕ) → f ≤ class_count L → Along L f e c → Child L c e 0 → Fails L c d → (d < c) × Along L f e d
  along_next f e c d h a n x = (
    lower,
    record {
      inside = omega (arith, a.inside, lower);
      begins = prefix_trans (class_at L d) (class_at L c) (class_at L f) x.begins a.begins;
      longest = λ u t hu ht p q.
          let least = a.longest u t hu ht p q in
          let other : length (class_at L u) ≡ length (class_at L c) → ⊥ = λ l. n.none refl t ht (q ∙ ap (λ (v : List ℕ). e ∷ v) (prefix_same (class_at L u) (class_at L c) (class_at L f) p a.begins l)) in
          x.longest u hu (prefix_shorter (class_at L u) (class_at L c) (class_at L f) p a.begins least) (omega arith);
    },
  )
    where
      lower : d < c
      lower = class_shorter L d c x.inside (omega (arith, a.inside)) x.shorter

  pub along_found : (f e c r : ℕ) → f ≤ class_count L → Along L f e c → 0 < r → Child L c e r → Fit L (e ∷ class_at L f) r
  along_found f e c r h a p x =
      let is : class_at L r ≡ e ∷ class_at L c = x.is p in
      fit_front e (class_at L f) r x.inside (subst (λ (v : List ℕ). Prefix v (e ∷ class_at L f)) (sym is) (refl, a.begins))
      (λ u t hu ht b q. omega (arith, a.longest u t hu ht b q, ap length q, ap length is))

  pub along_none : (f e root : ℕ) → f ≤ class_count L → Along L f e 0 → Root L e root → Fit L (e ∷ class_at L f) root
  along_none f e zero h a x =
      fit_front e (class_at L f) 0 (omega arith) (zero_begins (e ∷ class_at L f))
      (λ u t hu ht b q. absurd (x.none refl t ht (q ∙ ap (λ (v : List ℕ). e ∷ v) (none_left (class_at L u) (omega (arith, a.longest u t hu ht b q, ap length (class_zero L)))))))
  along_none f e (suc r) h a x =
      let is : class_at L (suc r) ≡ e ∷ [] = x.is (omega arith) in
      fit_front e (class_at L f) (suc r) x.inside (subst (λ (v : List ℕ). Prefix v (e ∷ class_at L f)) (sym is) (refl, tt))
      (λ u t hu ht b q. omega (arith, a.longest u t hu ht b q, ap length q, ap length is, ap length (class_zero L)))

  -- the failure link of a class, by the link of what follows its first edge
  pub fails_one : (t e : ℕ) → 0 < t → t ≤ class_count L → class_at L t ≡ e ∷ [] → Fails L t 0
  fails_one t e p h q =
      record {
        inside = omega arith;
        begins = zero_begins (class_at L t);
        shorter = omega (arith, ap length q, ap length (class_zero L));
        longest = λ u hu b s. omega (arith, ap length q, ap length (class_zero L));
      }

  -- a shorter class that e and then class u begin with is empty, or e and then one that class f begins with
  pub fails_more : (t u e f c : ℕ) → t ≤ class_count L → class_at L t ≡ e ∷ class_at L u → 0 < u → u ≤ class_count L → Fails L u f → Fit L (e ∷ class_at L f) c → Fails L t c
  fails_more t u e f c h q p k x y =
      record {
        inside = y.inside;
        begins = subst (λ (w : List ℕ). Prefix (class_at L c) w) (sym q) (prefix_trans (class_at L c) (e ∷ class_at L f) (e ∷ class_at L u) y.begins (refl, x.begins));
        shorter = omega (arith, prefix_length (class_at L c) (e ∷ class_at L f) y.begins, x.shorter, ap length q);
        longest = λ v hv b s.
            ⊎_elim
            (λ (n : class_at L v ≡ []). omega (arith, ap length n))
            (λ (r : (w : ℕ) × (w ≤ class_count L) × (class_at L v ≡ e ∷ class_at L w) × Prefix (class_at L w) (class_at L u)). within v hv s r.0 r.1 r.2 r.3)
            (first_edge v e (class_at L u) hv (subst (λ (w : List ℕ). Prefix (class_at L v) w) q b));
      }
    where
      within : (v : ℕ) → v ≤ class_count L → length (class_at L v) < length (class_at L t) → (w : ℕ) → w ≤ class_count L → class_at L v ≡ e ∷ class_at L w → Prefix (class_at L w) (class_at L u)
          → length (class_at L v) ≤ length (class_at L c)
      within v hv s w hw z b =
          let least = x.longest w hw b (omega (arith, ap length z, ap length q)) in
          y.longest v hv (subst (λ (l : List ℕ). Prefix l (e ∷ class_at L f)) (sym z) (refl, prefix_shorter (class_at L w) (class_at L f) (class_at L u) b x.begins least))

  pub fails_lower : (t f : ℕ) → t ≤ class_count L → Fails L t f → f < t
  fails_lower t f h x = class_shorter L f t x.inside h x.shorter

  -- a listed path is a class, and so is a tail; a class is one of these
  listed_suffix : (p : List ℕ) → is_nil p ≡ false → Memᴰ p L → Memᴰ p (all_suffixes L)
  unfolding all_suffixes
  listed_suffix [] n m = absurd (subst T n tt)
  listed_suffix (e ∷ p) n m = mem_flat_map suffixes m (Memᴰ.head refl)

  pub tail_suffix : (w : List ℕ) → Memᴰ w (tails L) → Memᴰ w (all_suffixes L)
  unfolding tails all_suffixes
  tail_suffix w m = let r = of_flat_map tails_of L m in mem_flat_map suffixes r.1 (within r.0 r.2)
    where
      within : (p : List ℕ) → Memᴰ w (tails_of p) → Memᴰ w (suffixes p)
      within [] h = absurd (Memᴰ.not-nil h)
      within (e ∷ p) h = Memᴰ.tail h

  pub suffix_cases : (w : List ℕ) → Memᴰ w (all_suffixes L) → Memᴰ w L ⊎ Memᴰ w (tails L)
  unfolding tails all_suffixes
  suffix_cases w m = let r = of_flat_map suffixes L m in within r.0 r.1 r.2
    where
      within : (p : List ℕ) → Memᴰ p L → Memᴰ w (suffixes p) → Memᴰ w L ⊎ Memᴰ w (flat_map tails_of L)
      within [] m h = absurd (Memᴰ.not-nil h)
      within (e ∷ p) m h = ⊎_elim (λ q. inl (subst (λ (v : List ℕ). Memᴰ v L) (sym q) m)) (λ k. inr (mem_flat_map tails_of m k)) (Memᴰ.cases_cons h)

  -- a class begins with a listed path if it is one, or if its failure link does
  pub dead_class : Filled L → (t f : ℕ) → 0 < t → t ≤ class_count L → Fails L t f → T (begins L (class_at L t)) → Memᴰ (class_at L t) L ⊎ T (begins L (class_at L f))
  dead_class fl t f p h x b = go (begins_sound L (class_at L t) b)
    where
      go : Begins L (class_at L t) → Memᴰ (class_at L t) L ⊎ T (begins L (class_at L f))
      go w = elim (dec_lt (length w.0) (length (class_at L t))) [
        | yes l ↦
            let r = suffix_class L w.0 (listed_suffix w.0 (fl w.0 w.1) w.1) in
            let u : ℕ = r.0 in
            let is : class_at L u ≡ w.0 = r.3 in
            let here : Prefix (class_at L u) (class_at L t) = subst (λ (v : List ℕ). Prefix v (class_at L t)) (sym is) w.2 in
            let least = x.longest u r.2 here (omega (arith, ap length is)) in
            inr (begins_complete L (class_at L f) (w.0, w.1, prefix_shorter w.0 (class_at L f) (class_at L t) w.2 x.begins (omega (arith, ap length is))))
        | no n ↦ inl (subst (λ (v : List ℕ). Memᴰ v L) (prefix_whole w.0 (class_at L t) w.2 (omega arith)) w.1)
      ]

  -- what a word begins with, by the longest class that it begins with
  pub fit_begins : Filled L → (w : List ℕ) (r : ℕ) → Fit L w r → begins L w ≡ begins L (class_at L r)
  fit_begins fl w r x = same_test (begins L w) (begins L (class_at L r)) (λ b. there (begins_sound L w b)) (dead_longer L (class_at L r) w x.begins)
    where
      there : Begins L w → T (begins L (class_at L r))
      there b =
          let s = suffix_class L b.0 (listed_suffix b.0 (fl b.0 b.1) b.1) in
          let most = x.longest s.0 s.2 (subst (λ (v : List ℕ). Prefix v w) (sym s.3) b.2) in
          begins_complete L (class_at L r) (b.0, b.1, prefix_shorter b.0 (class_at L r) w b.2 x.begins (omega (arith, ap length s.3)))

  pub fit_mark : Filled L → (w : List ℕ) (r : ℕ) → Fit L w r → begins L w ≡ false → mark L w ≡ class_at L r
  fit_mark fl w r x b = mark_unique L w (class_at L r) (is_tail r refl) x.begins most
    where
      is_tail : (t : ℕ) → t ≡ r → Tail L (class_at L r)
      is_tail zero q = inl (ap (class_at L) (sym q) ∙ class_zero L)
      is_tail (suc t) q =
          ⊎_elim
          (λ m. absurd (fails (begins L w) b (dead_longer L (class_at L r) w x.begins (dead_whole L (class_at L r) m))))
          inr
          (suffix_cases (class_at L r) (class_suffix L r (omega arith) x.inside))

      most : (t : List ℕ) → Tail L t → Prefix t w → length t ≤ length (class_at L r)
      most t (inl e) p = omega (arith, ap length e)
      most t (inr m) p =
          let s = suffix_class L t (tail_suffix t m) in
          omega (arith, ap length s.3, x.longest s.0 s.2 (subst (λ (v : List ℕ). Prefix v w) (sym s.3) p))
