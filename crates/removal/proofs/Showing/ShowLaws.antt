-- Laws of pass 2: the slot to which an edge leads is found by its mark, and a pass that shows slots by the flags of lower copies
-- shows what paths show.
use Prim.Native.Nat.{ℕ, zero, suc, ◌+◌, ◌≤◌, ◌<◌}
use native.Mathlib.Omega.{arith}
use native.Mathlib.Decide.{ℕ_discrete}
use mathlib.Core.Path.{◌≡◌, refl, sym, ap, ap₂, ◌∙◌, subst}
use mathlib.Core.Logic.{◌⊎◌, inl, inr, ⊎_elim}
use mathlib.Core.Bool.{Bool, true, false, cond, not, ◌&&◌, ◌||◌}
use mathlib.Core.List.{List, [], ◌∷◌, ◌++◌, map, flat_map, Memᴰ, append-nil}
use lib.Dec.{T, eqb, ltb, eqb→eq}
use lib.ListN.{length, length-append, length-map}
use borrow.Author.Tests.{lt-ltb, le-ltb, ltb-true, eq-eqb}
use Rattle.timing.specs.Lists.{one_if, keep, sum}
use Rattle.timing.specs.Graphs.{Design, Edge, Graph, edges_in, starts_at}
use Rattle.timing.specs.Marks.{PathList, paths_of, mark}
use Rattle.theorems.proofs.Lists.{holds}
use Rattle.theorems.proofs.Runs.{mem_in}
use Rattle.theorems.proofs.Counting.{count_positive, of_count}
use Rattle.removal.specs.Slots.{slots, Used, same_mark, first_from, slot_of, dead_along, start_slot}
use Rattle.removal.specs.Result.{Slot, slot_at, shown_in, shown_below, number_of, shown_slots, numbered_edge, slot_edges, shown_edges}
use Rattle.removal.specs.Show.{from_shown, start_flag, reached_by, shown_by, edges_to, shows, shown_to, finally, edges_before, final_flag, Passed}
use Rattle.removal.proofs.Reaching.SlotLaws.{Setting}
use Rattle.removal.proofs.Reaching.FlagLaws.{ReachedRow, ShownRow, StepOn, shown_same, start_slot_lem, shown_row}
use Rattle.removal.proofs.Showing.ResultLaws.{Linking, of_shown}
use Rattle.removal.proofs.Showing.GrowLaws.{keep_same, shown_next, shown_next_copy, number_next, number_next_copy, below_same, number_same}

is_true : (b : Bool) → T b → b ≡ true
is_true true t = refl
is_true false t = absurd t

-- marks are compared
same_refl : (m : List ℕ) → same_mark m m ≡ true
same_refl [] = refl
same_refl (x ∷ m) = ap₂ (λ (a b : Bool). a && b) (eq-eqb x x refl) (same_refl m)

same_eq : (m k : List ℕ) → same_mark m k ≡ true → m ≡ k
same_eq [] [] e = refl
same_eq [] (y ∷ k) e = absurd (subst T (sym e) tt)
same_eq (x ∷ m) [] e = absurd (subst T (sym e) tt)
same_eq (x ∷ m) (y ∷ k) e = go (eqb x y) refl e (same_eq m k)
  where
    go : (b : Bool) → eqb x y ≡ b → (b && same_mark m k) ≡ true → (same_mark m k ≡ true → m ≡ k) → x ∷ m ≡ y ∷ k
    go true q f h = ap₂ (λ (a : ℕ) (l : List ℕ). a ∷ l) (eqb→eq x y (holds (eqb x y) q)) (h f)
    go false q f h = absurd (subst T (sym f) tt)

same_false : (m k : List ℕ) → (m ≡ k → ⊥) → same_mark m k ≡ false
same_false m k f = go (same_mark m k) refl
  where
    go : (b : Bool) → same_mark m k ≡ b → same_mark m k ≡ false
    go true q = absurd (f (same_eq m k q))
    go false q = q

first_is : (p : ℕ → Bool) (n i j : ℕ) → i ≤ j → j < i + n → p j ≡ true → ((k : ℕ) → i ≤ k → k < j → p k ≡ false) → first_from p n i ≡ j
first_is p zero i j a b f g = absurd (omega arith)
first_is p (suc n) i j a b f g = go (ℕ_discrete i j) (λ h. first_is p n (suc i) j h (omega arith) f (λ k l. g k (omega arith)))
  where
    go : Dec (i ≡ j) → (suc i ≤ j → first_from p n (suc i) ≡ j) → cond (p i) i (first_from p n (suc i)) ≡ j
    go (yes e) h = ap (λ (b : Bool). cond b i (first_from p n (suc i))) (ap p e ∙ f) ∙ e
    go (no d) h = ap (λ (b : Bool). cond b i (first_from p n (suc i))) (g i (omega arith) (omega arith)) ∙ h (omega arith)

-- the slot of a mark is the used one
pub slot_of_lem : (marks : ℕ → ℕ → List ℕ) (B : ℕ → ℕ) (a j : ℕ) (m : List ℕ) → j < slots B a → marks a j ≡ m → Used marks a j → slot_of marks B a m ≡ j
unfolding slot_of
slot_of_lem marks B a j m h e u =
    first_is (λ i. same_mark (marks a i) m) (slots B a) 0 j (omega arith) (omega arith)
    (ap (λ (k : List ℕ). same_mark k m) e ∙ same_refl m)
    (λ k z l. same_false (marks a k) m (λ q. u k l (q ∙ sym e)))

-- a flag that is kept and one that is made
module _ (L : PathList) (marks : ℕ → ℕ → List ℕ) (B : ℕ → ℕ) (flags : ℕ → ℕ → ℕ) (c j : ℕ) (e : Edge) where
  pub start_dead : dead_along L marks B c j e ≡ true → start_flag L marks B flags c j e ≡ 0
  unfolding start_flag
  start_dead d = ap (λ (b : Bool). cond b 0 (cond (ltb 1 (flags e.start (start_slot L marks B c j e))) (flags e.start (start_slot L marks B c j e)) 0)) d

  pub start_live : (k : ℕ) → dead_along L marks B c j e ≡ false → start_slot L marks B c j e ≡ k → start_flag L marks B flags c j e ≡ cond (ltb 1 (flags e.start k)) (flags e.start k) 0
  unfolding start_flag
  start_live k d q =
      ap (λ (b : Bool). cond b 0 (cond (ltb 1 (flags e.start (start_slot L marks B c j e))) (flags e.start (start_slot L marks B c j e)) 0)) d
      ∙ ap (λ (i : ℕ). cond (ltb 1 (flags e.start i)) (flags e.start i) 0) q

  -- the flag is not 0 where the slot at the start is shown
  pub start_shown : ltb 0 (start_flag L marks B flags c j e) ≡ from_shown L marks B (shown_by flags) c j e
  unfolding start_flag from_shown
  start_shown = go (dead_along L marks B c j e) (flags e.start (start_slot L marks B c j e))
    where
      small : (v : ℕ) (b : Bool) → ltb 1 v ≡ b → ltb 0 (cond b v 0) ≡ b
      small v true q = lt-ltb 0 v (omega (arith, ltb-true 1 v q))
      small v false q = refl

      go : (d : Bool) (v : ℕ) → ltb 0 (cond d 0 (cond (ltb 1 v) v 0)) ≡ (not d && ltb 1 v)
      go true v = refl
      go false v = small v (ltb 1 v) refl

-- the rule for a slot, taken apart
rule_apart : (r s t : Bool) → (r && (s || t)) ≡ true → (r ≡ true) × ((s ≡ true) ⊎ (t ≡ true))
rule_apart false s t e = absurd (subst T (sym e) tt)
rule_apart true true t e = (refl, inl refl)
rule_apart true false t e = (refl, inr e)

rule_first : (r s t : Bool) → r ≡ true → s ≡ true → (r && (s || t)) ≡ true
rule_first r s t p q = ap₂ (λ (a b : Bool). a && (b || t)) p q

rule_second : (r s t : Bool) → r ≡ true → t ≡ true → (r && (s || t)) ≡ true
rule_second r true t p q = ap (λ (a : Bool). a && true) p
rule_second r false t p q = ap₂ (λ (a b : Bool). a && b) p q

live_shown : (d f : Bool) → (not d && f) ≡ true → (d ≡ false) × (f ≡ true)
live_shown true f e = absurd (subst T (sym e) tt)
live_shown false f e = (refl, e)

module _ (D : Design) (G : Graph) (L : PathList) (marks : ℕ → ℕ → List ℕ) (B : ℕ → ℕ) (S : Setting D G L marks B) where
  -- the slot at the start of an edge is there and has the mark
  start_is : (c j : ℕ) (e : Edge) → Memᴰ e G.edges → dead_along L marks B c j e ≡ false
      → (start_slot L marks B c j e < slots B e.start) × (marks e.start (start_slot L marks B c j e) ≡ mark (paths_of L) (e.name ∷ marks c j))
  start_is c j e m b =
      let r = start_slot_lem D G L marks B S e m (marks c j) b in
      let q = slot_of_lem marks B e.start r.0 (mark (paths_of L) (e.name ∷ marks c j)) r.1 r.2 r.3 in
      (omega (arith, r.1, q), ap (marks e.start) q ∙ r.2)

  -- the test depends on the flags of lower copies
  module _ (shown after : ℕ → ℕ → Bool) (c : ℕ) (below : (d k : ℕ) → d < c → k < slots B d → after d k ≡ shown d k) where
    pub from_same : (j : ℕ) (e : Edge) → Memᴰ e (edges_in G c) → from_shown L marks B after c j e ≡ from_shown L marks B shown c j e
    unfolding from_shown
    from_same j e m =
        let i = (mem_in G c e).0 m in
        go (dead_along L marks B c j e)
        (λ q. below e.start (start_slot L marks B c j e) (omega (arith, S.legal.rising.up e i.0, i.1)) (start_is c j e i.0 q).0) refl
      where
        go : (d : Bool) → (dead_along L marks B c j e ≡ false → after e.start (start_slot L marks B c j e) ≡ shown e.start (start_slot L marks B c j e)) → dead_along L marks B c j e ≡ d
            → (not d && after e.start (start_slot L marks B c j e)) ≡ (not d && shown e.start (start_slot L marks B c j e))
        go true f q = refl
        go false f q = f q

    pub edges_same : (j : ℕ) → edges_to G L marks B after c j ≡ edges_to G L marks B shown c j
    edges_same j = ap length (keep_same (from_shown L marks B after c j) (from_shown L marks B shown c j) (edges_in G c) (from_same j))

    pub shows_same : (reached here : ℕ → ℕ → Bool) (j : ℕ) → here c j ≡ reached c j → shows G L marks B here after c j ≡ shows G L marks B reached shown c j
    unfolding shows
    shows_same reached here j q = ap₂ (λ (a : Bool) (n : ℕ). a && (starts_at G c || ltb 0 n)) q (edges_same j)

  -- how far the copies below have come does not matter
  to_same : (reached : ℕ → ℕ → Bool) (n m c j : ℕ) → c < n → c < m → shown_to G L marks B reached n c j ≡ shown_to G L marks B reached m c j
  unfolding shown_to
  to_same reached zero m c j h k = absurd (omega arith)
  to_same reached (suc n) zero c j h k = absurd (omega arith)
  to_same reached (suc n) (suc m) c j h k =
      shows_same (shown_to G L marks B reached m) (shown_to G L marks B reached n) c
      (λ d i l s. to_same reached n m d i (omega arith) (omega arith)) reached reached j refl

  pub final_is : (reached : ℕ → ℕ → Bool) (c j : ℕ) → finally G L marks B reached c j ≡ shows G L marks B reached (finally G L marks B reached) c j
  unfolding shown_to
  final_is reached c j =
      shows_same (finally G L marks B reached) (shown_to G L marks B reached c) c
      (λ d i l s. to_same reached c (suc d) d i l (omega arith)) reached reached j refl

  -- an edge from a shown slot is a step on
  pub from_step : (shown : ℕ → ℕ → Bool) (c j : ℕ) (e : Edge) → Memᴰ e G.edges → e.end ≡ c → from_shown L marks B shown c j e ≡ true
      → StepOn G L marks B shown c j e (start_slot L marks B c j e)
  unfolding from_shown
  from_step shown c j e m q f =
      let r = live_shown (dead_along L marks B c j e) (shown e.start (start_slot L marks B c j e)) f in
      let s = start_is c j e m r.0 in
      (m, q, r.0, s.0, s.1, r.1)

  pub step_from : (shown : ℕ → ℕ → Bool) (c j : ℕ) (e : Edge) (k : ℕ) → ShownRow G L marks B shown e.start → StepOn G L marks B shown c j e k
      → from_shown L marks B shown c j e ≡ true
  unfolding from_shown
  step_from shown c j e k row (m, q, b, h, x, f) =
      let u = ((row k h).0 f).0 in
      let s = slot_of_lem marks B e.start k (mark (paths_of L) (e.name ∷ marks c j)) h x u in
      ap₂ (λ (d a : Bool). not d && a) b (ap (shown e.start) s ∙ f)

  pub links : (shown : ℕ → ℕ → Bool) → ((c : ℕ) → c < length G.nodes → ShownRow G L marks B shown c)
      → Linking G L marks B shown (from_shown L marks B shown) (start_slot L marks B)
  links shown right =
      record {
        sound = λ c j h k f e m q t. from_step shown c j e m q t;
        complete = λ c j h k f e i s. step_from shown c j e i (right e.start (omega (arith, S.legal.rising.up e s.0, S.legal.rising.inside e s.0))) s;
      }

  -- what the rule shows is what paths show
  final_row : (reached : ℕ → ℕ → Bool) (c : ℕ) → c < length G.nodes → ReachedRow G L marks B reached c
      → ((d : ℕ) → d < c → ShownRow G L marks B (finally G L marks B reached) d) → ShownRow G L marks B (finally G L marks B reached) c
  unfolding shows
  final_row reached c h here lower =
      let shown = finally G L marks B reached in
      shown_row D G L marks B S reached shown c h here lower
      (record {
        sound = λ j k f.
            let r = rule_apart (reached c j) (starts_at G c) (ltb 0 (edges_to G L marks B shown c j)) (sym (final_is reached c j) ∙ f) in (
              r.0,
              ⊎_elim
                  (λ (s : starts_at G c ≡ true). inl (holds (starts_at G c) s))
                  (λ (s : ltb 0 (edges_to G L marks B shown c j) ≡ true).
                  let t = of_count (from_shown L marks B shown c j) (edges_in G c) (ltb-true 0 (edges_to G L marks B shown c j) s) in
                  let i = (mem_in G c t.0).0 t.1 in
                  let step : StepOn G L marks B shown c j t.0 (start_slot L marks B c j t.0) =
                  from_step shown c j t.0 i.0 i.1 (is_true (from_shown L marks B shown c j t.0) t.2) in
                  inr (t.0, start_slot L marks B c j t.0, step))
                  r.1,
            );
        starts = λ j k f t.
            final_is reached c j ∙ rule_first (reached c j) (starts_at G c) (ltb 0 (edges_to G L marks B shown c j)) f (is_true (starts_at G c) t);
        steps = λ j k f e i s.
            final_is reached c j
            ∙ rule_second (reached c j) (starts_at G c) (ltb 0 (edges_to G L marks B shown c j)) f
            (lt-ltb 0 (edges_to G L marks B shown c j)
            (count_positive (from_shown L marks B shown c j) (edges_in G c) ((mem_in G c e).1 (s.0, s.1))
            (holds (from_shown L marks B shown c j e)
            (step_from shown c j e i (lower e.start (omega (arith, S.legal.rising.up e s.0, s.1))) s))));
      })

  pub final_rows : (reached : ℕ → ℕ → Bool) → ((c : ℕ) → c < length G.nodes → ReachedRow G L marks B reached c)
      → (c : ℕ) → c < length G.nodes → ShownRow G L marks B (finally G L marks B reached) c
  final_rows reached r c h = go (suc c) c (omega arith) h
    where
      go : (k c : ℕ) → c < k → c < length G.nodes → ShownRow G L marks B (finally G L marks B reached) c
      go zero c a l = absurd (omega arith)
      go (suc k) c a l = final_row reached c l (r c l) (λ d b. go k d (omega arith) (omega arith))

-- sums over slots
sum_append : {A : Type 0} (f : A → ℕ) (k l : List A) → sum (map f (k ++ l)) ≡ sum (map f k) + sum (map f l)
sum_append f [] l = omega arith
sum_append f (x ∷ k) l = omega (arith, sum_append f k l)

pub sum_same : {A : Type 0} (f g : A → ℕ) (l : List A) → ((x : A) → Memᴰ x l → f x ≡ g x) → sum (map f l) ≡ sum (map g l)
sum_same f g [] h = refl
sum_same f g (x ∷ l) h = omega (arith, h x (Memᴰ.head refl), sum_same f g l (λ y m. h y (Memᴰ.tail m)))

length_flat_map : {A B : Type 0} (f : A → List B) (n : A → ℕ) (l : List A) → ((x : A) → length (f x) ≡ n x) → length (flat_map f l) ≡ sum (map n l)
unfolding flat_map
length_flat_map f n [] h = refl
length_flat_map f n (x ∷ l) h = omega (arith, length-append (f x) (flat_map f l), h x, length_flat_map f n l h)

-- a flag says whether its slot is shown
pub flag_shown : (b : Bool) (x v f : ℕ) → f ≡ cond b (2 + x) v → v ≤ 1 → ltb 1 f ≡ b
flag_shown true x v f e h = lt-ltb 1 f (omega arith)
flag_shown false x v f e h = le-ltb 1 f (omega arith)

module _ (G : Graph) (L : PathList) (marks : ℕ → ℕ → List ℕ) (B : ℕ → ℕ) (shown : ℕ → ℕ → Bool) where
  abbrev edges_of_slot : Slot → ℕ
  edges_of_slot s = edges_to G L marks B shown s.copy s.slot

  pub before_next : (c j : ℕ) → edges_before G L marks B shown c (suc j) ≡ edges_before G L marks B shown c j + cond (shown c j) (edges_to G L marks B shown c j) 0
  before_next c j =
      let a = ap (λ (l : List Slot). sum (map edges_of_slot (shown_below B shown c ++ l))) (shown_next B shown c j) in
      let b = sum_append edges_of_slot (shown_below B shown c) (shown_in shown c j ++ cond (shown c j) (slot_at c j ∷ []) []) in
      let d = sum_append edges_of_slot (shown_in shown c j) (cond (shown c j) (slot_at c j ∷ []) []) in
      let e = sum_append edges_of_slot (shown_below B shown c) (shown_in shown c j) in
      omega (arith, a, b, d, e, go (shown c j))
    where
      go : (b : Bool) → sum (map edges_of_slot (cond b (slot_at c j ∷ []) [])) ≡ cond b (edges_to G L marks B shown c j) 0
      go true = omega arith
      go false = refl

  pub before_next_copy : (c : ℕ) → edges_before G L marks B shown (suc c) 0 ≡ edges_before G L marks B shown c (slots B c)
  before_next_copy c =
      ap (λ (l : List Slot). sum (map edges_of_slot l)) (append-nil (shown_below B shown (suc c)) ∙ shown_next_copy B shown c)

  -- the edges before the end are those of the result
  edges_all : (n : ℕ) → n ≡ length G.nodes
      → length (shown_edges G B shown (edges_in G) (from_shown L marks B shown) (start_slot L marks B)) ≡ edges_before G L marks B shown n 0
  edges_all n q =
      length_flat_map (slot_edges B shown (edges_in G) (from_shown L marks B shown) (start_slot L marks B)) edges_of_slot (shown_slots G B shown)
      (λ s. length-map (keep (from_shown L marks B shown s.copy s.slot) (edges_in G s.copy)) (numbered_edge B shown (start_slot L marks B) s))
      ∙ ap (λ (l : List Slot). sum (map edges_of_slot l)) (ap (shown_below B shown) (sym q) ∙ sym (append-nil (shown_below B shown n)))

-- The pass, from slot to slot.
module _ (D : Design) (G : Graph) (L : PathList) (marks : ℕ → ℕ → List ℕ) (B : ℕ → ℕ) (S : Setting D G L marks B) (first : ℕ → ℕ → ℕ) where
  pub pass_start : ((d i : ℕ) → d < length G.nodes → i < slots B d → first d i ≤ 1) → Passed G L marks B first first 0 0 0 0
  unfolding flat_map
  pass_start low =
      record {
        low = low;
        lower = λ d i h k. absurd (omega arith);
        here = λ i h k. absurd (omega arith);
        rest = λ i h k l. refl;
        higher = λ d i h k l. refl;
        numbered = refl;
        counted = refl;
      }

  -- the flags of lower copies say what is shown there
  pub lower_shown : (flags : ℕ → ℕ → ℕ) (c j k e : ℕ) → c ≤ length G.nodes → Passed G L marks B first flags c j k e
      → (d i : ℕ) → d < c → i < slots B d → shown_by flags d i ≡ finally G L marks B (reached_by first) d i
  lower_shown flags c j k e h p d i l m =
      flag_shown (finally G L marks B (reached_by first) d i) (number_of B (finally G L marks B (reached_by first)) d i) (first d i) (flags d i) (p.lower d i l m) (p.low d i (omega arith) m)

  -- one slot more
  module _ (flags after : ℕ → ℕ → ℕ) (c j k e : ℕ) (inside : c < length G.nodes) (slot : j < slots B c) (p : Passed G L marks B first flags c j k e) where
    pub rule_is : shows G L marks B (reached_by flags) (shown_by flags) c j ≡ finally G L marks B (reached_by first) c j
    rule_is =
        shows_same D G L marks B S (finally G L marks B (reached_by first)) (shown_by flags) c (lower_shown flags c j k e (omega arith) p) (reached_by first) (reached_by flags) j
        (ap (ltb 0) (p.rest j (omega arith) inside slot))
        ∙ sym (final_is D G L marks B S (reached_by first) c j)

    edges_is : edges_to G L marks B (shown_by flags) c j ≡ edges_to G L marks B (finally G L marks B (reached_by first)) c j
    edges_is = edges_same D G L marks B S (finally G L marks B (reached_by first)) (shown_by flags) c (lower_shown flags c j k e (omega arith) p) j

    pub pass_slot : (copies edges : ℕ)
        → ((d i : ℕ) → d < length G.nodes → i < slots B d → (d ≡ c → i ≡ j → ⊥) → after d i ≡ flags d i)
        → after c j ≡ cond (shows G L marks B (reached_by flags) (shown_by flags) c j) (2 + k) (flags c j)
        → copies ≡ k + one_if (shows G L marks B (reached_by flags) (shown_by flags) c j)
        → edges ≡ e + cond (shows G L marks B (reached_by flags) (shown_by flags) c j) (edges_to G L marks B (shown_by flags) c j) 0
        → Passed G L marks B first after c (suc j) copies edges
    pass_slot copies edges others new more links =
        let shown = finally G L marks B (reached_by first) in
        let own : after c j ≡ final_flag G L marks B first c j =
        new
        ∙ ap₂ (λ (b : Bool) (v : ℕ). cond b (2 + k) v) rule_is (p.rest j (omega arith) inside slot)
        ∙ ap (λ (n : ℕ). cond (shown c j) (2 + n) (first c j)) p.numbered in
        record {
          low = p.low;
          lower = λ d i h l. others d i (omega arith) l (λ q r. omega arith) ∙ p.lower d i h l;
          here = λ i h l.
              elim (ℕ_discrete i j) [
                | yes q ↦ subst (λ (x : ℕ). after c x ≡ final_flag G L marks B first c x) (sym q) own
                | no q ↦ others c i inside l (λ r t. q t) ∙ p.here i (omega arith) l
              ];
          rest = λ i h m l. others c i inside l (λ r t. omega arith) ∙ p.rest i (omega arith) m l;
          higher = λ d i h m l. others d i m l (λ r t. omega arith) ∙ p.higher d i h m l;
          numbered = omega (arith, p.numbered, ap one_if rule_is, number_next B shown c j);
          counted = omega (
            arith,
            p.counted,
            ap₂ (λ (b : Bool) (n : ℕ). cond b n 0) rule_is edges_is,
            before_next G L marks B shown c j,
          );
        }

  -- one copy more
  pub pass_copy : (flags : ℕ → ℕ → ℕ) (c k e : ℕ) → Passed G L marks B first flags c (slots B c) k e → Passed G L marks B first flags (suc c) 0 k e
  pass_copy flags c k e p =
      let shown = finally G L marks B (reached_by first) in
      record {
        low = p.low;
        lower = λ d i h l.
            elim (ℕ_discrete d c) [
              | yes q ↦
                  subst (λ (x : ℕ). i < slots B x → flags x i ≡ final_flag G L marks B first x i) (sym q) (λ m. p.here i m m) l
              | no q ↦ p.lower d i (omega arith) l
            ];
        here = λ i h l. absurd (omega arith);
        rest = λ i h m l. p.higher (suc c) i (omega arith) m l;
        higher = λ d i h m l. p.higher d i (omega arith) m l;
        numbered = p.numbered ∙ sym (number_next_copy B shown c);
        counted = p.counted ∙ sym (before_next_copy G L marks B shown c);
      }

  -- at the end the flags say what is shown, with its numbers
  module _ (flags : ℕ → ℕ → ℕ) (k e : ℕ) (p : Passed G L marks B first flags (length G.nodes) 0 k e) where
    agree : (d i : ℕ) → d < length G.nodes → i < slots B d → shown_by flags d i ≡ finally G L marks B (reached_by first) d i
    agree = lower_shown flags (length G.nodes) 0 k e (omega arith) p

    pub end_rows : ((c : ℕ) → c < length G.nodes → ReachedRow G L marks B (reached_by first) c)
        → (c : ℕ) → c < length G.nodes → ShownRow G L marks B (shown_by flags) c
    end_rows reached c h =
        shown_same G L marks B (finally G L marks B (reached_by first)) (shown_by flags) c (λ j l. agree c j h l) (final_rows D G L marks B S (reached_by first) reached c h)

    pub end_numbers : (c j : ℕ) → c < length G.nodes → j < slots B c → shown_by flags c j ≡ true → flags c j ≡ 2 + number_of B (shown_by flags) c j
    end_numbers c j h l f =
        let shown = finally G L marks B (reached_by first) in
        let n = number_same B shown (shown_by flags) c (λ d i m o. agree d i (omega arith) o) j (λ i m. agree c i h (omega arith)) in
        p.lower c j h l ∙ ap (λ (b : Bool). cond b (2 + number_of B shown c j) (first c j)) (sym (agree c j h l) ∙ f) ∙ ap (λ (x : ℕ). 2 + x) (sym n)

    pub end_copies : k ≡ length (shown_slots G B (shown_by flags))
    end_copies =
        let a = below_same B (finally G L marks B (reached_by first)) (shown_by flags) (length G.nodes) agree in
        omega (arith, p.numbered, ap length a)

    pub end_edges : e ≡ length (shown_edges G B (shown_by flags) (edges_in G) (from_shown L marks B (shown_by flags)) (start_slot L marks B))
    end_edges =
        let shown = finally G L marks B (reached_by first) in
        let n = length G.nodes in
        let a = below_same B shown (shown_by flags) n agree in
        p.counted
        ∙ sym (sum_same (edges_of_slot G L marks B (shown_by flags)) (edges_of_slot G L marks B shown) (shown_below B shown n ++ [])
        (λ s m.
        let o = of_shown B shown n s (subst (λ (l : List Slot). Memᴰ s l) (append-nil (shown_below B shown n)) m) in
        edges_same D G L marks B S shown (shown_by flags) s.copy (λ d i h l. agree d i (omega (arith, o.0)) l) s.slot))
        ∙ ap (λ (l : List Slot). sum (map (edges_of_slot G L marks B (shown_by flags)) (l ++ []))) (sym a)
        ∙ sym (edges_all G L marks B (shown_by flags) n refl)
