-- Laws of flagging in the row of one copy, store by store: what flagging a place leaves, and then the patches and the defaults, one after the other.
use Prim.Native.Nat.{ℕ, suc, ◌+◌, ◌≤◌, ◌<◌}
use native.Mathlib.Omega.{arith}
use native.Mathlib.Decide.{ℕ_discrete}
use mathlib.Core.Path.{◌≡◌, refl, sym, ◌∙◌, ap, subst}
use mathlib.Core.Logic.{◌⊎◌, inl, inr, ⊎_elim}
use mathlib.Core.List.{List}
use lib.ListN.{length, get_or, take, set, length-set}
use lib.Seq.{take-set-le, get_or-set_same, get_or-set_other, get_or-take}
use borrow.Author.Tests.{eq-eqb, ne_eqb}
use Rattle.removal.specs.declared.rows.Layout.{Layout}
use Rattle.removal.specs.Rows.{dead_place, default_in}
use Rattle.removal.specs.Patches.{patch_at, lead_at}
use Rattle.removal.specs.Push.{flag_set, Lands, cover_at, HitOnly, Settled, Pushable, PatchesPushed, Defaulting, DefaultsPushed}

-- nothing is hit
pub hit_none : (l : Layout) (s t : List ℕ) (Hit : ℕ → Type 0) → ((x : ℕ) → x < l.seen → get_or t x 0 ≡ get_or s x 0) → HitOnly l s t Hit
hit_none l s t Hit same x h = inl (same x h)

-- what is hit twice
pub hit_join : (l : Layout) (s t u : List ℕ) (A B C : ℕ → Type 0) → HitOnly l s t A → HitOnly l t u B → ((x : ℕ) → A x → C x) → ((x : ℕ) → B x → C x) → HitOnly l s u C
hit_join l s t u A B C a b f g x h =
    ⊎_elim
    (λ (q : get_or u x 0 ≡ get_or t x 0).
    ⊎_elim
    (λ (r : get_or t x 0 ≡ get_or s x 0). inl (q ∙ r))
    (λ (r : (get_or t x 0 ≡ 1) × (x ≡ dead_place l → ⊥) × A x). inr (q ∙ r.0, r.1, f x r.2))
    (a x h))
    (λ (q : (get_or u x 0 ≡ 1) × (x ≡ dead_place l → ⊥) × B x). inr (q.0, q.1, g x q.2))
    (b x h)

-- a flag stays
pub hit_keeps : (l : Layout) (s t : List ℕ) (A : ℕ → Type 0) → HitOnly l s t A → (x : ℕ) → x < l.seen → 0 < get_or s x 0 → 0 < get_or t x 0
hit_keeps l s t A a x h f =
    ⊎_elim
    (λ (q : get_or t x 0 ≡ get_or s x 0). omega arith)
    (λ (q : (get_or t x 0 ≡ 1) × (x ≡ dead_place l → ⊥) × A x). omega (arith, q.0))
    (a x h)

pub settled_keeps : (l : Layout) (s t : List ℕ) (A : ℕ → Type 0) → HitOnly l s t A → (x : ℕ) → Lands l x → Settled l s x → Settled l t x
settled_keeps l s t A a x h z =
    elim (ℕ_discrete x (dead_place l)) [
      | yes q ↦ inl q
      | no f ↦ ⊎_elim (λ (q : x ≡ dead_place l). inl q) (λ (y : 0 < get_or s x 0). inr (hit_keeps l s t A a x (h f).1 y)) z
    ]

-- flagging one place
module _ (l : Layout) (s : List ℕ) (x : ℕ) where
  pub flag_dead : x ≡ dead_place l → flag_set l s x ≡ s
  flag_dead q = rw (eq-eqb x (dead_place l) q)

  pub flag_live : (x ≡ dead_place l → ⊥) → flag_set l s x ≡ set s x 1
  flag_live f = rw (ne_eqb x (dead_place l) f)

  pub flag_size : length (flag_set l s x) ≡ length s
  flag_size =
      elim (ℕ_discrete x (dead_place l)) [
        | yes q ↦ ap length (flag_dead q)
        | no f ↦ ap length (flag_live f) ∙ length-set s x 1
      ]

  pub flag_tables : Lands l x → take l.slots (flag_set l s x) ≡ take l.slots s
  flag_tables h =
      elim (ℕ_discrete x (dead_place l)) [
        | yes q ↦ ap (take l.slots) (flag_dead q)
        | no f ↦ ap (take l.slots) (flag_live f) ∙ take-set-le l.slots s x 1 (h f).0
      ]

  flag_other : (i : ℕ) → (i ≡ x → ⊥) → get_or (flag_set l s x) i 0 ≡ get_or s i 0
  flag_other i g =
      elim (ℕ_discrete x (dead_place l)) [
        | yes q ↦ ap (λ (t : List ℕ). get_or t i 0) (flag_dead q)
        | no f ↦ ap (λ (t : List ℕ). get_or t i 0) (flag_live f) ∙ get_or-set_other s x i 1 0 g
      ]

  pub flag_above : Lands l x → (i : ℕ) → l.seen ≤ i → get_or (flag_set l s x) i 0 ≡ get_or s i 0
  flag_above h i k =
      elim (ℕ_discrete x (dead_place l)) [
        | yes q ↦ ap (λ (t : List ℕ). get_or t i 0) (flag_dead q)
        | no f ↦ flag_other i (λ (e : i ≡ x). omega (arith, (h f).1))
      ]

  pub flag_only : x < length s ⊎ (x ≡ dead_place l) → HitOnly l s (flag_set l s x) (λ y. y ≡ x)
  flag_only k y h =
      elim (ℕ_discrete y x) [
        | yes e ↦
            elim (ℕ_discrete x (dead_place l)) [
              | yes q ↦ inl (ap (λ (t : List ℕ). get_or t y 0) (flag_dead q))
              | no f ↦
                  ⊎_elim
                  (λ (n : x < length s).
                  inr (ap (λ (t : List ℕ). get_or t y 0) (flag_live f) ∙ ap (λ (i : ℕ). get_or (set s x 1) i 0) e ∙ get_or-set_same s x 1 0 n, (λ (q : y ≡ dead_place l). f (sym e ∙ q)), e))
                  (λ (q : x ≡ dead_place l). absurd (f q))
                  k
            ]
        | no g ↦ inl (flag_other y g)
      ]

  pub flag_settled : x < length s ⊎ (x ≡ dead_place l) → Settled l (flag_set l s x) x
  flag_settled k =
      elim (ℕ_discrete x (dead_place l)) [
        | yes q ↦ inl q
        | no f ↦
            ⊎_elim
            (λ (n : x < length s). let e : get_or (flag_set l s x) x 0 ≡ 1 = ap (λ (t : List ℕ). get_or t x 0) (flag_live f) ∙ get_or-set_same s x 1 0 n in inr (omega arith))
            (λ (q : x ≡ dead_place l). absurd (f q))
            k
      ]

-- a place that lands is in the scratch, or the dead one
pub lands_inside : (l : Layout) (x n : ℕ) → l.seen ≤ n → Lands l x → (x < n) ⊎ (x ≡ dead_place l)
lands_inside l x n h k =
    elim (ℕ_discrete x (dead_place l)) [
      | yes q ↦ inr q
      | no f ↦ inl (omega (arith, (k f).1))
    ]

-- one more patch: its edge is counted, and its place flagged
module _ (l : Layout) (s t : List ℕ) (k i : ℕ) (a : Pushable l s k) (m : PatchesPushed l s t i) (h : i < k) where
  pub patch_same : patch_at l t i ≡ patch_at l s i
  patch_same = m.above (l.patch + i) (omega arith)

  pub lead_same : lead_at l t i ≡ lead_at l s i
  lead_same = m.above (l.lead + i) (omega (arith, a.ready.work.patch))

  abbrev q : ℕ
  q = patch_at l s i

  abbrev x : ℕ
  x = lead_at l s i

  abbrev u : List ℕ
  u = set t (l.cover + q) (cover_at l t q + 1)

  abbrev w : List ℕ
  w = flag_set l u x

  below : q < l.edges
  below = a.edges i h

  pub seen_inside : l.seen ≤ length t
  seen_inside = omega (arith, m.size, a.ready.work.seen, a.ready.work.cover, a.ready.work.patch, a.ready.work.lead, a.ready.work.comes)

  pub cover_inside : l.cover + patch_at l s i < length t
  cover_inside = omega (arith, below, m.size, a.ready.work.cover, a.ready.work.patch, a.ready.work.lead, a.ready.work.comes)

  lands : Lands l x
  lands = a.lands i h

  inside : (x < length u) ⊎ (x ≡ dead_place l)
  inside = lands_inside l x (length u) (omega (arith, seen_inside, length-set t (l.cover + q) (cover_at l t q + 1))) lands

  stored : (y : ℕ) → (y ≡ l.cover + q → ⊥) → get_or u y 0 ≡ get_or t y 0
  stored y f = get_or-set_other t (l.cover + q) y (cover_at l t q + 1) 0 f

  on : HitOnly l t w (λ y. y ≡ x)
  on =
      hit_join l t u w (λ y. y ≡ x) (λ y. y ≡ x) (λ y. y ≡ x)
      (hit_none l t u (λ y. y ≡ x) (λ y n. stored y (λ (e : y ≡ l.cover + q). omega (arith, a.ready.work.seen))))
      (flag_only l u x inside) (λ y e. e) (λ y e. e)

  -- the edge was not counted before
  first : cover_at l t q ≡ cover_at l s q
  first = m.other q below (λ j n e. a.apart j i n h e)

  above_w : (y : ℕ) → l.seen ≤ y → (y ≡ l.cover + q → ⊥) → get_or w y 0 ≡ get_or t y 0
  above_w y n f = flag_above l u x lands y n ∙ stored y f

  here : cover_at l w q ≡ suc (cover_at l s q)
  here =
      let e : cover_at l w q ≡ cover_at l t q + 1 = flag_above l u x lands (l.cover + q) (omega (arith, a.ready.work.seen)) ∙ get_or-set_same t (l.cover + q) (cover_at l t q + 1) 0 cover_inside in
      omega (arith, e, first)

  there : (r : ℕ) → (r ≡ q → ⊥) → cover_at l w r ≡ cover_at l t r
  there r f = above_w (l.cover + r) (omega (arith, a.ready.work.seen)) (λ (e : l.cover + r ≡ l.cover + q). f (omega arith))

  next_settled : (j : ℕ) → j < suc i → Settled l w (lead_at l s j)
  next_settled j n =
      elim (ℕ_discrete j i) [
        | yes e ↦ subst (λ (y : ℕ). Settled l w (lead_at l s y)) (sym e) (flag_settled l u x inside)
        | no f ↦ settled_keeps l t w (λ y. y ≡ x) on (lead_at l s j) (a.lands j (omega arith)) (m.settled j (omega arith))
      ]

  next_once : (j : ℕ) → j < suc i → cover_at l w (patch_at l s j) ≡ suc (cover_at l s (patch_at l s j))
  next_once j n =
      elim (ℕ_discrete j i) [
        | yes e ↦ subst (λ (y : ℕ). cover_at l w (patch_at l s y) ≡ suc (cover_at l s (patch_at l s y))) (sym e) here
        | no f ↦ there (patch_at l s j) (a.apart j i (omega arith) h) ∙ m.once j (omega arith)
      ]

  patch_next : PatchesPushed l s w (suc i)
  patch_next =
      record {
        size = flag_size l u x ∙ length-set t (l.cover + q) (cover_at l t q + 1) ∙ m.size;
        tables = flag_tables l u x lands ∙ take-set-le l.slots t (l.cover + q) (cover_at l t q + 1) (omega (arith, a.ready.work.slots, a.ready.work.seen)) ∙ m.tables;
        seen = λ y n o. above_w y n (λ (e : y ≡ l.cover + q). omega arith) ∙ m.seen y n o;
        above = λ y n. above_w y (omega (arith, a.ready.work.seen, a.ready.work.cover)) (λ (e : y ≡ l.cover + q). omega (arith, below, a.ready.work.cover)) ∙ m.above y n;
        only = hit_join l s t w (λ y. (j : ℕ) × (j < i) × (y ≡ lead_at l s j)) (λ y. y ≡ x) (λ y. (j : ℕ) × (j < suc i) × (y ≡ lead_at l s j)) m.only on
            (λ y z. (z.0, omega (arith, z.1), z.2))
            (λ y e. (i, omega arith, e));
        settled = next_settled;
        once = next_once;
        other = λ r n f. there r (λ (e : r ≡ q). f i (omega arith) (sym e)) ∙ m.other r n (λ j o. f j (omega arith));
      }

  pub patch_turn : (v : List ℕ) → v ≡ flag_set l (set t (l.cover + patch_at l t i) (cover_at l t (patch_at l t i) + 1)) (lead_at l t i) → (n : ℕ) → n ≡ suc i → PatchesPushed l s v n
  patch_turn v e n o =
      let z : v ≡ w = e ∙ ap (λ (r : ℕ). flag_set l (set t (l.cover + r) (cover_at l t r + 1)) (lead_at l t i)) patch_same ∙ ap (λ (y : ℕ). flag_set l u y) lead_same in
      subst (λ (y : List ℕ). PatchesPushed l s y n) (sym z) (subst (λ (y : ℕ). PatchesPushed l s w y) (sym o) patch_next)

-- one more edge: its default is flagged where not all reached slots patch it
module _ (l : Layout) (s t : List ℕ) (p0 p1 q r : ℕ) (a : Defaulting l s p0 p1) (m : DefaultsPushed l (take l.slots s) s t p0 q r) (from : p0 ≤ q) (to : q < p1) where
  abbrev tables_now : List ℕ
  tables_now = take l.slots s

  abbrev default_to : ℕ
  default_to = default_in l tables_now q

  pub default_seen : l.seen ≤ length t
  default_seen = omega (arith, m.size, a.ready.work.seen, a.ready.work.cover, a.ready.work.patch, a.ready.work.lead, a.ready.work.comes)

  pub cover_same : cover_at l t q ≡ cover_at l s q
  cover_same = m.above (l.cover + q) (omega (arith, a.ready.work.seen))

  default_lands : Lands l default_to
  default_lands = a.lands q from to

  default_inside : (default_to < length t) ⊎ (default_to ≡ dead_place l)
  default_inside = lands_inside l default_to (length t) default_seen default_lands

  abbrev Hit : ℕ → ℕ → Type 0
  Hit n y = (b : ℕ) × (p0 ≤ b) × (b < n) × (cover_at l s b < r) × (y ≡ default_in l tables_now b)

  pub default_skip : (cover_at l t q < r → ⊥) → (n : ℕ) → n ≡ suc q → DefaultsPushed l (take l.slots s) s t p0 n r
  default_skip f n e =
      record {
        size = m.size;
        tables = m.tables;
        above = m.above;
        only = hit_join l s t t (Hit q) (Hit q) (Hit n) m.only (hit_none l t t (Hit q) (λ y h. refl))
            (λ y z. (z.0, z.1, omega (arith, z.2), z.3, z.4))
            (λ y z. (z.0, z.1, omega (arith, z.2), z.3, z.4));
        settled = λ b h k g.
            elim (ℕ_discrete b q) [
              | yes o ↦ absurd (f (omega (arith, cover_same, subst (λ (y : ℕ). cover_at l s y < r) o g)))
              | no o ↦ m.settled b h (omega arith) g
            ];
      }

  pub default_turn : cover_at l t q < r → (v : List ℕ) → v ≡ flag_set l t (default_in l (take l.slots s) q) → (n : ℕ) → n ≡ suc q → DefaultsPushed l (take l.slots s) s v p0 n r
  default_turn g v z n e =
      subst (λ (y : List ℕ). DefaultsPushed l tables_now s y p0 n r) (sym z)
      (record {
        size = flag_size l t default_to ∙ m.size;
        tables = flag_tables l t default_to default_lands ∙ m.tables;
        above = λ i h. flag_above l t default_to default_lands i h ∙ m.above i h;
        only = hit_join l s t (flag_set l t default_to) (Hit q) (λ y. y ≡ default_to) (Hit n) m.only (flag_only l t default_to default_inside)
            (λ y z. (z.0, z.1, omega (arith, z.2), z.3, z.4))
            (λ y o. (q, from, omega arith, omega (arith, g, cover_same), o));
        settled = λ b h k f.
            elim (ℕ_discrete b q) [
              | yes o ↦ subst (λ (y : ℕ). Settled l (flag_set l t default_to) (default_in l tables_now y)) (sym o) (flag_settled l t default_to default_inside)
              | no o ↦ settled_keeps l t (flag_set l t default_to) (λ y. y ≡ default_to) (flag_only l t default_to default_inside) (default_in l tables_now b) (a.lands b h (omega arith)) (m.settled b h (omega arith) f)
            ];
      })

-- where the edge leads is read from the tables
pub default_read : (l : Layout) (s t : List ℕ) (p0 p1 q r : ℕ) → Defaulting l s p0 p1 → DefaultsPushed l (take l.slots s) s t p0 q r → q < p1 → get_or t (l.default + q) 0 ≡ default_in l (take l.slots s) q
default_read l s t p0 p1 q r a m h =
    sym (get_or-take l.slots t (l.default + q) 0 (omega (arith, a.within, a.ready.tabled.laid.default))) ∙ ap (λ (y : List ℕ). get_or y (l.default + q) 0) m.tables

pub place_low : (l : Layout) (s t : List ℕ) (p0 p1 q r : ℕ) → Defaulting l s p0 p1 → DefaultsPushed l (take l.slots s) s t p0 q r → p0 ≤ q → q < p1
    → (get_or t (l.default + q) 0 ≡ dead_place l → ⊥) → get_or t (l.default + q) 0 < length t
place_low l s t p0 p1 q r a m g h f =
    let e = default_read l s t p0 p1 q r a m h in
    omega (arith, e, default_seen l s t p0 p1 q r a m g h, (a.lands q g h (λ (z : default_in l (take l.slots s) q ≡ dead_place l). f (e ∙ z))).1)
