-- The row at hand: flags are written to it one after the other, and its edges are written to the room.
use Prim.Native.Nat.{ℕ, zero, suc, ◌+◌, ◌-◌, ◌≤◌, ◌<◌}
use native.Mathlib.Omega.{arith}
use native.Mathlib.Decide.{ℕ_discrete}
use mathlib.Core.Path.{◌≡◌, refl, sym, ap, ◌∙◌, subst}
use mathlib.Core.Bool.{Bool, true, false, cond}
use mathlib.Core.List.{List, [], ◌∷◌, ◌++◌, map, map-append}
use lib.Dec.{ltb}
use lib.ListN.{length, get_or, set, length-set, length-append, length-map}
use lib.Seq.{take-set-le, get_or-set_same, get_or-set_other}
use borrow.Author.Tests.{lt-ltb, ltb-true}
use Rattle.timing.specs.Lists.{keep, upto}
use Rattle.theorems.proofs.Splits.{upto_next}
use Rattle.removal.specs.declared.rows.Layout.{Layout}
use Rattle.removal.specs.Patches.{patch_at, lead_at}
use Rattle.removal.specs.Fill.{Edged, shown_flag, comes_at, RowRoom, RowWritten, default_from, default_at, row_edge, row_edges, RowRead, RowFull}
use Rattle.removal.proofs.Showing.GrowLaws.{keep_last}
use Rattle.removal.proofs.Filling.RoomLaws.{edged_none, edged_more, Sizes, edged_sizes}

-- one flag after the other
module _ {l : Layout} {s : List ℕ} {n : ℕ} {e w : ℕ → ℕ} (r : RowRoom l s n e w) where
  module _ {t : List ℕ} {i : ℕ} (x : RowWritten l s t i e w) (h : i < n) where
    row_inside : (l.comes + e i < length t) × (w i < length t)
    row_inside = (omega (arith, r.edges i h, r.comes, x.size), omega (arith, r.places i h, r.comes, x.size))

    -- the flag that is written next is that of s still
    row_flag : get_or t (w i) 0 ≡ get_or s (w i) 0
    row_flag = x.below (w i) (r.places i h)

    row_next : (v : ℕ) → v ≡ shown_flag (get_or t (w i) 0) → RowWritten l s (set t (l.comes + e i) v) (suc i) e w
    row_next v q =
        record {
          size = length-set t (l.comes + e i) v ∙ x.size;
          tables = take-set-le l.slots t (l.comes + e i) v (omega (arith, r.slots)) ∙ x.tables;
          below = λ k b. get_or-set_other t (l.comes + e i) k v 0 (λ z. omega arith) ∙ x.below k b;
          new = λ k b.
              elim (ℕ_discrete k i) [
                | yes z ↦
                    ap (λ (m : ℕ). get_or (set t (l.comes + e i) v) (l.comes + e m) 0) z ∙ get_or-set_same t (l.comes + e i) v 0 row_inside.0
                    ∙ q ∙ ap shown_flag row_flag ∙ ap (λ (m : ℕ). shown_flag (get_or s (w m) 0)) (sym z)
                | no z ↦
                    get_or-set_other t (l.comes + e i) (l.comes + e k) v 0 (λ y. r.apart k i (omega arith) h (omega arith)) ∙ x.new k (omega arith)
              ];
          rest = λ m f.
              get_or-set_other t (l.comes + e i) (l.comes + m) v 0 (λ y. f i (omega arith) (omega arith)) ∙ x.rest m (λ k b. f k (omega arith));
        }

-- the edges of the row, one after the other
keep_grows : (p : ℕ → Bool) (n m i : ℕ) → n ≤ m → length (keep p (upto n i)) ≤ length (keep p (upto m i))
keep_grows p zero m i h = omega arith
keep_grows p (suc n) zero i h = absurd (omega arith)
keep_grows p (suc n) (suc m) i h = go (p i) (keep_grows p n m (suc i) (omega arith))
  where
    go : (b : Bool) → length (keep p (upto n (suc i))) ≤ length (keep p (upto m (suc i)))
        → length (cond b (i ∷ keep p (upto n (suc i))) (keep p (upto n (suc i)))) ≤ length (cond b (i ∷ keep p (upto m (suc i))) (keep p (upto m (suc i))))
    go true k = omega arith
    go false k = k

keep_few : (p : ℕ → Bool) (n i : ℕ) → length (keep p (upto n i)) ≤ n
keep_few p zero i = omega arith
keep_few p (suc n) i = go (p i) (keep_few p n (suc i))
  where
    go : (b : Bool) → length (keep p (upto n (suc i))) ≤ n → length (cond b (i ∷ keep p (upto n (suc i))) (keep p (upto n (suc i)))) ≤ suc n
    go true k = omega arith
    go false k = omega arith

-- if as many are kept as there are, each is kept
all_kept : (p : ℕ → Bool) (n i : ℕ) → length (keep p (upto n i)) ≡ n → (q : ℕ) → i ≤ q → q < i + n → p q ≡ true
all_kept p zero i e q lo hi = absurd (omega arith)
all_kept p (suc n) i e q lo hi = go (p i) refl e (λ z y. all_kept p n (suc i) z q y (omega arith))
  where
    go : (b : Bool) → p i ≡ b → length (cond b (i ∷ keep p (upto n (suc i))) (keep p (upto n (suc i)))) ≡ suc n
        → (length (keep p (upto n (suc i))) ≡ n → suc i ≤ q → p q ≡ true) → p q ≡ true
    go true x y again =
        elim (ℕ_discrete i q) [
          | yes z ↦ ap p (sym z) ∙ x
          | no z ↦ again (omega arith) (omega arith)
        ]
    go false x y again = absurd (omega (arith, y, keep_few p n (suc i)))

edge_last : (l : Layout) (s : List ℕ) (number n i : ℕ) → row_edges l s number (upto (suc n) i) ≡ row_edges l s number (upto n i) ++ map (row_edge l s number) (cond (ltb 0 (comes_at l s (i + n))) ((i + n) ∷ []) [])
edge_last l s number n i =
    ap (row_edges l s number) (upto_next n i)
    ∙ ap (map (row_edge l s number)) (keep_last (λ q. ltb 0 (comes_at l s q)) (upto n i) (i + n))
    ∙ map-append (row_edge l s number) (keep (λ q. ltb 0 (comes_at l s q)) (upto n i)) (cond (ltb 0 (comes_at l s (i + n))) ((i + n) ∷ []) [])

-- the edges before q are written
abbrev pub RowSoFar : Layout → List ℕ → ℕ → ℕ → List ℕ → List ℕ → List ℕ → List ℕ → List ℕ → List ℕ → ℕ → ℕ → ℕ → Type 0
RowSoFar l s p0 number room-from₀ room-to₀ room-via₀ room-from room-to room-via k at q =
    Edged (row_edges l s number (upto (q - p0) p0)) k room-from₀ room-to₀ room-via₀ room-from room-to room-via at

module _ {l : Layout} {s : List ℕ} {p0 p1 number : ℕ} {room-from₀ room-to₀ room-via₀ : List ℕ} {k : ℕ} (r : RowRead l s p0 p1 number room-from₀ room-to₀ room-via₀ k) where
  -- a row with as many edges from shown slots as it has edges is full
  pub row_full : {edges : ℕ} → length (row_edges l s number (upto (p1 - p0) p0)) ≡ edges → edges ≡ p1 - p0 → RowFull l s p0 p1
  row_full e h q lo hi z =
      let p : ℕ → Bool = λ q. ltb 0 (comes_at l s q) in
      let m : length (keep p (upto (p1 - p0) p0)) ≡ p1 - p0 = sym (length-map (keep p (upto (p1 - p0) p0)) (row_edge l s number)) ∙ e ∙ h in
      let some = ltb-true 0 (comes_at l s q) (all_kept p (p1 - p0) p0 m q lo (omega (arith, r.up))) in
      omega (arith, some, z)

  module _ {room-from room-to room-via : List ℕ} {at q : ℕ} (x : RowSoFar l s p0 number room-from₀ room-to₀ room-via₀ room-from room-to room-via k at q) (lo : p0 ≤ q) (hi : q < p1) where
    edges_sizes : Sizes room-from₀ room-to₀ room-via₀ room-from room-to room-via
    edges_sizes = edged_sizes (row_edges l s number (upto (q - p0) p0)) k at room-from₀ room-to₀ room-via₀ room-from room-to room-via x

    step : (b : Bool) → ltb 0 (comes_at l s q) ≡ b → row_edges l s number (upto ((q + 1) - p0) p0) ≡ row_edges l s number (upto (q - p0) p0) ++ map (row_edge l s number) (cond b (q ∷ []) [])
    step b e =
        let z : (q + 1) - p0 ≡ suc (q - p0) = omega arith in
        let y : p0 + (q - p0) ≡ q = omega arith in
        ap (λ (n : ℕ). row_edges l s number (upto n p0)) z ∙ edge_last l s number (q - p0) p0
        ∙ ap (λ (m : ℕ). row_edges l s number (upto (q - p0) p0) ++ map (row_edge l s number) (cond (ltb 0 (comes_at l s m)) (m ∷ []) [])) y
        ∙ ap (λ (b : Bool). row_edges l s number (upto (q - p0) p0) ++ map (row_edge l s number) (cond b (q ∷ []) [])) e

    skip : comes_at l s q ≡ 0 → RowSoFar l s p0 number room-from₀ room-to₀ room-via₀ room-from room-to room-via k at (q + 1)
    skip z =
        rw (step false (ap (ltb 0) z))
        (edged_more (row_edges l s number (upto (q - p0) p0)) [] k at at room-from₀ room-to₀ room-via₀ room-from room-to room-via room-from room-to room-via x (edged_none at room-from room-to room-via))

    pub edge_skip : comes_at l s q ≡ 0 → {from' to' via' : List ℕ} {n : ℕ} → from' ≡ room-from → to' ≡ room-to → via' ≡ room-via → n ≡ at
        → RowSoFar l s p0 number room-from₀ room-to₀ room-via₀ from' to' via' k n (q + 1)
    edge_skip z a b d e = rw (a, b, d, e) (skip z)

    module _ (some : comes_at l s q ≡ 0 → ⊥) where
      on : ltb 0 (comes_at l s q) ≡ true
      on = lt-ltb 0 (comes_at l s q) (omega arith)

      pub edge_room : (at < length room-from) × (at < length room-to) × (at < length room-via)
      edge_room =
          let a = ap length (step true on) in
          let b = length-append (row_edges l s number (upto (q - p0) p0)) (row_edge l s number q ∷ []) in
          let g = keep_grows (λ q. ltb 0 (comes_at l s q)) ((q + 1) - p0) (p1 - p0) p0 (omega arith) in
          let u = length-map (keep (λ q. ltb 0 (comes_at l s q)) (upto ((q + 1) - p0) p0)) (row_edge l s number) in
          let v = length-map (keep (λ q. ltb 0 (comes_at l s q)) (upto (p1 - p0) p0)) (row_edge l s number) in
          let h : at < length room-from = omega (arith, a, b, g, u, v, x.next, r.fit, edges_sizes.starts) in
          (h, omega (arith, h, edges_sizes.starts, edges_sizes.ends, r.same.0), omega (arith, h, edges_sizes.starts, edges_sizes.names, r.same.1))

      write : RowSoFar l s p0 number room-from₀ room-to₀ room-via₀ (set room-from at (comes_at l s q - 2)) (set room-to at number) (set room-via at (get_or s (l.name + q) 0)) k (at + 1) (q + 1)
      write =
          rw (step true on)
          (edged_more (row_edges l s number (upto (q - p0) p0)) (row_edge l s number q ∷ []) k at (at + 1) room-from₀ room-to₀ room-via₀ room-from room-to room-via
          (set room-from at (comes_at l s q - 2)) (set room-to at number) (set room-via at (get_or s (l.name + q) 0)) x
          (record { starts = refl; ends = refl; names = refl; next = refl }))

      pub edge_write : {from' to' via' : List ℕ} {n : ℕ} → from' ≡ set room-from at (comes_at l s q - 2) → to' ≡ set room-to at number → via' ≡ set room-via at (get_or s (l.name + q) 0) → n ≡ at + 1
          → RowSoFar l s p0 number room-from₀ room-to₀ room-via₀ from' to' via' k n (q + 1)
      edge_write a b d e = rw (a, b, d, e) write

-- the row of slot 0, edge by edge: the edges before q have their flags
abbrev pub LoadedTo : Layout → List ℕ → ℕ → List ℕ → ℕ → Type 0
LoadedTo l s p0 t q = RowWritten l s t (q - p0) (λ i. p0 + i) (default_from l s p0)

module _ {l : Layout} {s : List ℕ} {p0 p1 : ℕ} (r : RowRoom l s (p1 - p0) (λ i. p0 + i) (default_from l s p0)) where
  module _ {t : List ℕ} {q : ℕ} (x : LoadedTo l s p0 t q) (lo : p0 ≤ q) (hi : q < p1) where
    here : p0 + (q - p0) ≡ q
    here = omega arith

    turn : q - p0 < p1 - p0
    turn = omega arith

    edge_low : q < l.edges
    edge_low = omega (arith, r.edges (q - p0) turn)

    load_default : get_or t (l.default + q) 0 ≡ default_from l s p0 (q - p0)
    load_default = x.below (l.default + q) (omega (arith, r.default, edge_low)) ∙ ap (λ (i : ℕ). get_or s (l.default + i) 0) (sym here)

    pub load_inside : get_or t (l.default + q) 0 < length t
    load_inside = omega (arith, (row_inside r x turn).1, load_default)

    pub load_next : {v : ℕ} → v ≡ shown_flag (get_or t (get_or t (l.default + q) 0) 0) → LoadedTo l s p0 (set t (l.comes + q) v) (q + 1)
    load_next {v} e =
        let z : suc (q - p0) ≡ (q + 1) - p0 = omega arith in
        subst (λ (n : ℕ). RowWritten l s (set t (l.comes + q) v) n (λ i. p0 + i) (default_from l s p0)) z
        (subst (λ (i : ℕ). RowWritten l s (set t (l.comes + i) v) (suc (q - p0)) (λ i. p0 + i) (default_from l s p0)) here
        (row_next r x turn v (e ∙ ap (λ (i : ℕ). shown_flag (get_or t i 0)) load_default)))

-- and with its patches, one after the other
module _ {l : Layout} {s : List ℕ} {k : ℕ} (r : RowRoom l s k (patch_at l s) (lead_at l s)) {t : List ℕ} {i : ℕ} (x : RowWritten l s t i (patch_at l s) (lead_at l s)) (h : i < k) where
  patch_read : patch_at l t i ≡ patch_at l s i
  patch_read = x.below (l.patch + i) (omega (arith, r.patch, r.few))

  lead_read : lead_at l t i ≡ lead_at l s i
  lead_read = x.below (l.lead + i) (omega (arith, r.lead, r.few))

  pub patch_next : {v : ℕ} → v ≡ shown_flag (get_or t (lead_at l t i) 0) → RowWritten l s (set t (l.comes + patch_at l t i) v) (i + 1) (patch_at l s) (lead_at l s)
  patch_next {v} e =
      let z : suc i ≡ i + 1 = omega arith in
      subst (λ (n : ℕ). RowWritten l s (set t (l.comes + patch_at l t i) v) n (patch_at l s) (lead_at l s)) z
      (subst (λ (q : ℕ). RowWritten l s (set t (l.comes + q) v) (suc i) (patch_at l s) (lead_at l s)) (sym patch_read)
      (row_next r x h v (e ∙ ap (λ (w : ℕ). shown_flag (get_or t w 0)) lead_read)))

-- and back
module _ {l : Layout} {s : List ℕ} {k : ℕ} (r : RowRoom l s k (patch_at l s) (default_at l s)) {t : List ℕ} {i : ℕ} (x : RowWritten l s t i (patch_at l s) (default_at l s)) (h : i < k) where
  edge_read : patch_at l t i ≡ patch_at l s i
  edge_read = x.below (l.patch + i) (omega (arith, r.patch, r.few))

  default_read : default_at l t i ≡ default_at l s i
  default_read =
      ap (λ (q : ℕ). get_or t (l.default + q) 0) edge_read
      ∙ x.below (l.default + patch_at l s i) (omega (arith, r.default, r.edges i h))

  pub unpatch_next : {v : ℕ} → v ≡ shown_flag (get_or t (default_at l t i) 0) → RowWritten l s (set t (l.comes + patch_at l t i) v) (i + 1) (patch_at l s) (default_at l s)
  unpatch_next {v} e =
      let z : suc i ≡ i + 1 = omega arith in
      subst (λ (n : ℕ). RowWritten l s (set t (l.comes + patch_at l t i) v) n (patch_at l s) (default_at l s)) z
      (subst (λ (q : ℕ). RowWritten l s (set t (l.comes + q) v) (suc i) (patch_at l s) (default_at l s)) (sym edge_read)
      (row_next r x h v (e ∙ ap (λ (w : ℕ). shown_flag (get_or t w 0)) default_read)))
