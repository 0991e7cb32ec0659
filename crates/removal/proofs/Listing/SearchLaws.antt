-- The children of a class stand by their edges, so that one is found by halving.
use Prim.Native.Nat.{ℕ, zero, suc, ◌+◌, ◌-◌, ◌*◌, ◌/◌, ◌%◌, ◌≤◌, ◌<◌}
use native.Mathlib.Omega.{arith}
use native.Mathlib.Decide.{ℕ_discrete, dec_lt}
use mathlib.Core.Path.{◌≡◌, refl, sym, ap, ◌∙◌, subst}
use mathlib.Core.List.{List}
use lib.ListN.{length, get_or}
use Rattle.removal.specs.declared.classes.Lists.{Lists}
use Rattle.removal.specs.Classes.{class_count, Child}
use Rattle.removal.specs.Tables.{packed, kid_from, kid_to, kid_in, kids_in, Kid, Searchable}
use Rattle.removal.proofs.Listing.Region.{table_at}

-- the edges before lo are below e, and those from hi on are not
pub record Sought (s : List ℕ) (kids first end e lo hi : ℕ) : Type 0 where
  pub least : first ≤ lo
  pub order : lo ≤ hi
  pub most : hi ≤ end
  pub below : (i : ℕ) → first ≤ i → i < lo → get_or s (kids + i) 0 / 32768 < e
  pub above : (i : ℕ) → hi ≤ i → i < end → e ≤ get_or s (kids + i) 0 / 32768

pub sought_start : (s : List ℕ) (kids first end e : ℕ) → first ≤ end → Sought s kids first end e first end
sought_start s kids first end e h = record {
  least = omega arith;
  order = h;
  most = omega arith;
  below = λ i h l. absurd (omega arith);
  above = λ i h l. absurd (omega arith);
}

pub packed_high : (a b : ℕ) → b < 32768 → packed a b / 32768 ≡ a
packed_high a b h = omega arith

module _ (L : List (List ℕ)) (l : Lists) (s : List ℕ) (u : ℕ) (some : 1 ≤ u) (inside : u ≤ class_count L) (g : Searchable L l s) where
  pub kid_place : (l.kid + u < length s) × (l.kids + class_count L ≤ length s)
  kid_place =
      let h = g.held in
      (omega (arith, h.laid.kid, h.room, h.few), omega (arith, h.laid.kids, h.room, h.few))

  abbrev first : ℕ
  first = get_or s (l.kid + u - 1) 0

  abbrev end : ℕ
  end = get_or s (l.kid + u) 0

  abbrev word : ℕ → ℕ
  word i = get_or s (l.kids + i) 0

  pub from_is : kid_from (kid_in l s) u ≡ first
  from_is = go u some refl
    where
      go : (v : ℕ) → 1 ≤ v → u ≡ v → kid_from (kid_in l s) v ≡ get_or s (l.kid + v - 1) 0
      go zero h e = absurd (omega arith)
      go (suc v) h e =
          let i : l.kid + v ≡ l.kid + suc v - 1 = omega arith in
          table_at s l.kid (l.edges + 1) v (omega (arith, g.held.few)) ∙ ap (λ (i : ℕ). get_or s i 0) i

  pub to_is : kid_to (kid_in l s) u ≡ end
  to_is = table_at s l.kid (l.edges + 1) u (omega (arith, g.held.few))

  pub kids_up : first ≤ end
  kids_up = omega (arith, g.kids.up u inside, from_is, to_is)

  pub kids_within : end ≤ class_count L
  kids_within = omega (arith, g.kids.within u inside, to_is)

  pub kid_inside : (i : ℕ) → i < end → l.kids + i < length s
  kid_inside i h = omega (arith, kid_place.1, kids_within)

  pub word_is : (i : ℕ) → i < end → get_or (kids_in l s) i 0 ≡ word i
  word_is i h = table_at s l.kids l.edges i (omega (arith, kids_within, g.held.few))

  pub kid_at : (i : ℕ) → first ≤ i → i < end → Kid L u (word i)
  kid_at i h k = rw (word_is i k) at (g.kids.each u inside i (omega (arith, from_is)) (omega (arith, to_is)))

  pub small : (t : ℕ) → t ≤ class_count L → t < 32768
  small t h = omega (arith, g.held.few, g.held.few_edges)

  edges_rise : (i j : ℕ) → first ≤ i → i < j → j < end → word i / 32768 < word j / 32768
  edges_rise i j h k m =
      let a = kid_at i h (omega arith) in
      let b = kid_at j (omega arith) m in
      let p = small a.child a.inside in
      let q = small b.child b.inside in
      let r = g.kids.rises u inside i j (omega (arith, from_is)) k (omega (arith, to_is)) a.edge a.child b.edge b.child
      (word_is i (omega arith) ∙ a.word) (word_is j m ∙ b.word) p q in
      omega (arith, a.word, b.word)

  module _ (e lo hi mid : ℕ) (n : Sought s l.kids first end e lo hi) (least : lo ≤ mid) (most : mid < hi) where
    pub sought_up : word mid / 32768 < e → Sought s l.kids first end e (mid + 1) hi
    sought_up x = record {
      least = omega (arith, n.least);
      order = omega arith;
      most = n.most;
      below = λ i h k. go i h k (ℕ_discrete i mid);
      above = n.above;
    }
      where
        go : (i : ℕ) → first ≤ i → i < mid + 1 → Dec (i ≡ mid) → word i / 32768 < e
        go i h k (yes q) = rw q x
        go i h k (no f) = omega (arith, edges_rise i mid h (omega arith) (omega (arith, n.most)))

    pub sought_down : e ≤ word mid / 32768 → Sought s l.kids first end e lo mid
    sought_down x = record {
      least = n.least;
      order = least;
      most = omega (arith, n.most);
      below = n.below;
      above = λ i h k. go i h k (ℕ_discrete i mid);
    }
      where
        go : (i : ℕ) → mid ≤ i → i < end → Dec (i ≡ mid) → e ≤ word i / 32768
        go i h k (yes q) = rw q x
        go i h k (no f) = omega (arith, edges_rise mid i (omega (arith, n.least)) (omega arith) k)

  pub child_found : (e i : ℕ) → first ≤ i → i < end → word i / 32768 ≡ e → Child L u e (word i % 32768)
  child_found e i h k x =
      let a = kid_at i h k in
      let p = small a.child a.inside in
      let w : word i ≡ a.edge * 32768 + a.child = a.word in
      let c : a.child ≡ word i % 32768 = omega arith in
      let d : a.edge ≡ e = omega arith in
      rw (← c, ← d) (record { inside = a.inside; is = λ q. a.class; none = λ q. absurd (omega (arith, a.some)) })

  -- where lo is not over the edge, no child is: those before it are over lower edges, those after it over higher ones
  module _ (e lo hi : ℕ) (h : hi ≤ lo) (n : Sought s l.kids first end e lo hi) (x : lo < end → word lo / 32768 ≡ e → ⊥) where
    beside : (i : ℕ) → first ≤ i → i < end → word i / 32768 ≡ e → Dec (i < lo) → Dec (i ≡ lo) → ⊥
    beside i least most edge (yes m) d = omega (arith, n.below i least m)
    beside i least most edge (no m) (yes q) = x (omega arith) (subst (λ (j : ℕ). word j / 32768 ≡ e) q edge)
    beside i least most edge (no m) (no q) = omega (arith, edges_rise lo i n.least (omega arith) most, n.above lo h (omega arith))

    none : (t : ℕ) → t ≤ class_count L → (i : ℕ) × (kid_from (kid_in l s) u ≤ i) × (i < kid_to (kid_in l s) u) × (get_or (kids_in l s) i 0 ≡ packed e t) → ⊥
    none t k z =
        let i = z.0 in
        let m : i < end = omega (arith, z.2, to_is) in
        let w : word i / 32768 ≡ e = ap (λ (v : ℕ). v / 32768) (sym (word_is i m) ∙ z.3) ∙ packed_high e t (small t k) in
        beside i (omega (arith, z.1, from_is)) m w (dec_lt i lo) (ℕ_discrete i lo)

    pub child_none : Child L u e 0
    child_none = record { inside = omega arith; is = λ q. absurd (omega arith); none = λ q t k y. none t k (g.kids.every u t e inside k y) }
