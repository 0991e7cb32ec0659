-- A slot that is shown is reached, and no more edges come to it than come into its copy. So what is reached bounds the result.
use Prim.Native.Nat.{ℕ, zero, suc, ◌+◌, ◌-◌, ◌*◌, ◌≤◌, ◌<◌}
use native.Mathlib.Omega.{arith}
use mathlib.Core.Path.{◌≡◌, refl, sym, ap, ◌∙◌, subst}
use mathlib.Core.Bool.{Bool, true, false, cond}
use mathlib.Core.List.{List, [], ◌∷◌, flat_map}
use lib.Dec.{ltb}
use lib.ListN.{length, get_or, take, length-map}
use Rattle.timing.specs.Lists.{one_if, count_of, upto}
use Rattle.timing.specs.Graphs.{Design, Graph, edges_in}
use Rattle.timing.specs.Marks.{PathList}
use Rattle.theorems.proofs.Lists.{length_upto}
use Rattle.theorems.proofs.Counting.{count_cons}
use Rattle.removal.specs.declared.rows.Layout.{Layout}
use Rattle.removal.specs.Slots.{slots, slot_base, slot_marks}
use Rattle.removal.specs.Rows.{slots_in, Tabled, Ready, flag_in, run_from, run_to, edge_in, run}
use Rattle.removal.specs.Result.{number_of}
use Rattle.removal.specs.Show.{from_shown, reached_by, edges_to, finally, edges_before}
use Rattle.removal.specs.Fill.{Fits}
use Rattle.removal.specs.Bounds.{reached_to}
use Rattle.removal.proofs.Reaching.SlotLaws.{Setting, setting_of}
use Rattle.removal.proofs.Reaching.RowLaws.{base_next, base_read}
use Rattle.removal.proofs.Showing.GrowLaws.{number_next, number_next_copy}
use Rattle.removal.proofs.Showing.ShowLaws.{before_next, before_next_copy}
use Rattle.removal.proofs.Whole.ResetLaws.{final_reached}

count_most : {A : Type 0} (p : A → Bool) (xs : List A) → count_of p xs ≤ length xs
count_most p [] = omega arith
count_most p (x ∷ xs) = omega (arith, count_cons p x xs, count_most p xs, one (p x))
  where
    one : (b : Bool) → one_if b ≤ 1
    one true = omega arith
    one false = omega arith

-- one slot more is counted if it is reached
pub reached_next : (reached : ℕ → ℕ → Bool) (c j : ℕ) → count_of (reached c) (upto (suc j) 0) ≡ count_of (reached c) (upto j 0) + one_if (reached c j)
reached_next reached c j = omega (arith, number_next (λ d. 0) reached c j)

module _ (D : Design) (G : Graph) (L : PathList) (marks : ℕ → ℕ → List ℕ) (B : ℕ → ℕ) (S : Setting D G L marks B) (reached : ℕ → ℕ → Bool) (c : ℕ) where
  abbrev shown : ℕ → ℕ → Bool
  shown = finally G L marks B reached

  abbrev most : ℕ
  most = length (edges_in G c)

  step : (j : ℕ) → (one_if (shown c j) ≤ one_if (reached c j)) × (cond (shown c j) (edges_to G L marks B shown c j) 0 ≤ one_if (reached c j) * most)
  step j = go (shown c j) (reached c j) (final_reached D G L marks B S reached c j)
    where
      go : (a b : Bool) → (a ≡ true → b ≡ true) → (one_if a ≤ one_if b) × (cond a (edges_to G L marks B shown c j) 0 ≤ one_if b * most)
      go true b f = subst (λ (x : Bool). (1 ≤ one_if x) × (edges_to G L marks B shown c j ≤ one_if x * most)) (sym (f refl)) (omega arith, omega (arith, count_most (from_shown L marks B shown c j) (edges_in G c)))
      go false b f = (omega arith, omega arith)

  spread : (a b m : ℕ) → (a + b) * m ≡ a * m + b * m
  spread zero b m = let z : 0 + b ≡ b = omega arith in omega (arith, ap (λ (x : ℕ). x * m) z)
  spread (suc a) b m = let z : suc a + b ≡ suc (a + b) = omega arith in omega (arith, ap (λ (x : ℕ). x * m) z, spread a b m)

  -- of the first j slots
  bound_to : (j : ℕ) → (number_of B shown c j ≤ number_of B shown c 0 + count_of (reached c) (upto j 0))
      × (edges_before G L marks B shown c j ≤ edges_before G L marks B shown c 0 + count_of (reached c) (upto j 0) * most)
  bound_to zero = (omega arith, omega arith)
  bound_to (suc j) =
      let h = bound_to j in
      let s = step j in
      let n = reached_next reached c j in (
        omega (arith, h.0, s.0, number_next B shown c j, n),
        omega (arith, h.1, s.1, before_next G L marks B shown c j, ap (λ (x : ℕ). x * most) n ∙ spread (count_of (reached c) (upto j 0)) (one_if (reached c j)) most),
      )

  pub bound_copy : (number_of B shown (suc c) 0 ≤ number_of B shown c 0 + count_of (reached c) (upto (slots B c) 0))
      × (edges_before G L marks B shown (suc c) 0 ≤ edges_before G L marks B shown c 0 + count_of (reached c) (upto (slots B c) 0) * most)
  bound_copy =
      let h = bound_to (slots B c) in
      (omega (arith, h.0, number_next_copy B shown c), omega (arith, h.1, before_next_copy G L marks B shown c))

-- the bounds of the copies below c
pub record BoundedTo (l : Layout) (s : List ℕ) (c from copies edges : ℕ) : Type 0 where
  pub inside : c ≤ l.copies
  pub start : from ≡ run_from l (take l.slots s) c
  pub few_copies : copies ≤ slot_base (slots_in l (take l.slots s)) c
  pub few_edges : edges ≤ copies * 65536
  pub bounds : (D : Design) (L : PathList) (G : Graph) → Tabled D L G l (take l.slots s)
      → (number_of (slots_in l (take l.slots s)) (finally G L (slot_marks D L G) (slots_in l (take l.slots s)) (reached_by (flag_in l s))) c 0 ≤ copies)
      × (edges_before G L (slot_marks D L G) (slots_in l (take l.slots s)) (finally G L (slot_marks D L G) (slots_in l (take l.slots s)) (reached_by (flag_in l s))) c 0 ≤ edges)

module _ (l : Layout) (s : List ℕ) where
  pub bounded_start : BoundedTo l s 0 0 0 0
  unfolding flat_map
  bounded_start = record { inside = omega arith; start = refl; few_copies = omega arith; few_edges = omega arith; bounds = λ D L G t. (omega arith, omega arith) }

  module _ (r : Ready l s) (c from copies edges : ℕ) (h : c < l.copies) (x : BoundedTo l s c from copies edges) where
    abbrev p : List ℕ
    p = take l.slots s

    pub run_up : from ≤ run_to l p c
    run_up = omega (arith, x.start, r.tabled.up c h)

    pub run_few : run_to l p c - from ≤ 65536
    run_few = omega (arith, r.tabled.within c h, r.tabled.few_edges)

    pub reached_few : reached_to l s c (slots_in l p c) ≤ slots_in l p c
    reached_few = omega (arith, count_most (λ j. ltb 0 (flag_in l s c j)) (upto (slots_in l p c) 0), length_upto (slots_in l p c) 0)

    product : (a m : ℕ) → m ≤ 65536 → a * m ≤ a * 65536
    product zero m k = omega arith
    product (suc a) m k = omega (arith, product a m k)

    pub edges_few : reached_to l s c (slots_in l p c) * (run_to l p c - from) ≤ reached_to l s c (slots_in l p c) * 65536
    edges_few = product (reached_to l s c (slots_in l p c)) (run_to l p c - from) run_few

    pub bounded_next : BoundedTo l s (c + 1) (run_to l p c) (copies + reached_to l s c (slots_in l p c)) (edges + reached_to l s c (slots_in l p c) * (run_to l p c - from))
    bounded_next =
        let next : suc c ≡ c + 1 = omega arith in
        subst (λ (d : ℕ). BoundedTo l s d (run_to l p c) (copies + reached_to l s c (slots_in l p c)) (edges + reached_to l s c (slots_in l p c) * (run_to l p c - from))) next
        (record {
          inside = omega arith;
          start = refl;
          few_copies = omega (arith, x.few_copies, reached_few, base_next (slots_in l p) c);
          few_edges = omega (arith, x.few_edges, edges_few);
          bounds = λ D L G t.
              let S = setting_of D L G l p t in
              let b = bound_copy D G L (slot_marks D L G) (slots_in l p) S (reached_by (flag_in l s)) c in
              let o = x.bounds D L G t in
              let e : length (edges_in G c) ≡ run_to l p c - from =
              ap length (t.into c h) ∙ length-map (run l p c) (edge_in l p c) ∙ length_upto (run_to l p c - run_from l p c) (run_from l p c) ∙ ap (λ (i : ℕ). run_to l p c - i) (sym x.start) in
              (omega (arith, b.0, o.0), omega (arith, b.1, o.1, ap (λ (m : ℕ). reached_to l s c (slots_in l p c) * m) e));
        })

  pub bounded_all : (c from copies edges : ℕ) → c ≡ l.copies → BoundedTo l s c from copies edges → Fits l s copies edges
  unfolding Fits
  bounded_all c from copies edges q x D L G t =
      let n : c ≡ length G.nodes = q ∙ sym t.copies in
      let b = subst (λ (d : ℕ).
      (number_of (slots_in l (take l.slots s)) (finally G L (slot_marks D L G) (slots_in l (take l.slots s)) (reached_by (flag_in l s))) d 0 ≤ copies)
      × (edges_before G L (slot_marks D L G) (slots_in l (take l.slots s)) (finally G L (slot_marks D L G) (slots_in l (take l.slots s)) (reached_by (flag_in l s))) d 0 ≤ edges)) n (x.bounds D L G t) in
      (omega (arith, b.0), b.1)

-- the slots of a copy stand from its base on
pub reached_at : (l : Layout) (s : List ℕ) → Ready l s → (c : ℕ) → c < l.copies → (n : ℕ)
    → count_of (λ i. ltb 0 (get_or s (get_or s (l.base + c) 0 + i) 0)) (upto n 0) ≡ reached_to l s c n
reached_at l s r c h n = λ i. count_of (λ j. ltb 0 (get_or s (base_read l s r c (omega arith) i + j) 0)) (upto n 0)
