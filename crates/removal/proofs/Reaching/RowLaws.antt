-- Laws of the tables while slots are marked: they are read from the scratch, and each slot has a place of its own.
use Prim.Native.Nat.{ℕ, zero, suc, ◌+◌, ◌≤◌, ◌<◌}
use native.Mathlib.Omega.{arith}
use native.Mathlib.Decide.{dec_lt}
use mathlib.Core.Path.{◌≡◌, sym, ◌∙◌, ap, subst}
use mathlib.Core.List.{List, map}
use lib.ListN.{length, get_or, take}
use lib.Seq.{get_or-take}
use Rattle.timing.specs.Lists.{sum, upto}
use Rattle.removal.specs.Slots.{slots, slot_base}
use Rattle.removal.specs.declared.rows.Layout.{Layout}
use Rattle.removal.specs.Rows.{slots_in, Tabled, WorkLaid, Ready, slot_place}
use Rattle.removal.specs.Patches.{NamesIn}

sum_map_suc : (f : ℕ → ℕ) (n i : ℕ) → sum (map f (upto (suc n) i)) ≡ sum (map f (upto n i)) + f (i + n)
sum_map_suc f zero i = let e : i ≡ i + 0 = omega arith in omega (arith, ap f e)
sum_map_suc f (suc n) i =
    let e : suc i + n ≡ i + suc n = omega arith in omega (arith, sum_map_suc f n (suc i), ap f e)

-- the slots of the next copy stand after those of a copy
pub base_next : (B : ℕ → ℕ) (c : ℕ) → slot_base B (suc c) ≡ slot_base B c + slots B c
base_next B c = let e : 0 + c ≡ c = omega arith in omega (arith, sum_map_suc (slots B) c 0, ap (slots B) e)

-- so those of a lower copy stand before those of a higher one
pub base_up : (B : ℕ → ℕ) (c n : ℕ) → c < n → slot_base B c + slots B c ≤ slot_base B n
base_up B c zero h = absurd (omega arith)
base_up B c (suc n) h = go (dec_lt c n) (base_up B c n)
  where
    go : Dec (c < n) → (c < n → slot_base B c + slots B c ≤ slot_base B n) → slot_base B c + slots B c ≤ slot_base B (suc n)
    go (yes l) up = omega (arith, up l, base_next B n)
    go (no f) up = let e : c ≡ n = omega arith in omega (arith, base_next B n, ap (slot_base B) e, ap (slots B) e)

pub slot_inside : (B : ℕ → ℕ) (c j n : ℕ) → c < n → j < slots B c → slot_base B c + j < slot_base B n
slot_inside B c j n h k = omega (arith, base_up B c n h)

-- distinct slots have distinct places
pub slots_apart : (B : ℕ → ℕ) (c d i j : ℕ) → c < d → i < slots B c → slot_base B c + i < slot_base B d + j
slots_apart B c d i j h k = omega (arith, base_up B c d h)

pub place_one : (B : ℕ → ℕ) (c d i j : ℕ) → i < slots B c → j < slots B d → slot_base B c + i ≡ slot_base B d + j → (c ≡ d) × (i ≡ j)
place_one B c d i j h k q = go (dec_lt c d) (dec_lt d c)
  where
    go : Dec (c < d) → Dec (d < c) → (c ≡ d) × (i ≡ j)
    go (yes l) m = absurd (omega (arith, slots_apart B c d i j l h))
    go (no f) (yes m) = absurd (omega (arith, slots_apart B d c j i m k))
    go (no f) (no g) = let e : c ≡ d = omega arith in (e, omega (arith, ap (slot_base B) e))

module _ (l : Layout) (s : List ℕ) (r : Ready l s) where
  abbrev p : List ℕ
  p = take l.slots s

  -- what stands where the tables do not change is read there
  pub read : (i : ℕ) → i < l.slots → get_or s i 0 ≡ get_or (take l.slots s) i 0
  read i h = sym (get_or-take l.slots s i 0 h)

  pub words : l.slots ≤ length s
  words = omega (arith, r.work.slots, r.work.seen, r.work.cover, r.work.patch, r.work.lead, r.work.comes)

  pub base_read : (c : ℕ) → c ≤ l.copies → get_or s (l.base + c) 0 ≡ l.slots + slot_base (slots_in l (take l.slots s)) c
  base_read c k = read (l.base + c) (omega (arith, r.tabled.laid.base, r.tabled.laid.into, r.tabled.laid.start, r.tabled.laid.name, r.tabled.laid.default)) ∙ r.tabled.bases c k

  -- the slots of a copy are those between its base and the next
  pub count_read : (c : ℕ) → c < l.copies → get_or s (l.base + suc c) 0 ≡ get_or s (l.base + c) 0 + slots (slots_in l (take l.slots s)) c
  count_read c k = omega (arith, base_read (suc c) (omega arith), base_read c (omega arith), base_next (slots_in l (take l.slots s)) c)

  -- a slot's place is in the scratch, past the tables and before those that the passes work in
  pub place_inside : (c j : ℕ) → c < l.copies → j < slots (slots_in l (take l.slots s)) c → slot_place l (take l.slots s) c j < l.seen
  place_inside c j k i = omega (arith, r.work.slots, slot_inside (slots_in l (take l.slots s)) c j l.copies k i)

-- the tables are ready while they and the length of the scratch stay
pub ready_same : (l : Layout) (s t : List ℕ) → length t ≡ length s → take l.slots t ≡ take l.slots s → Ready l s → Ready l t
ready_same l s t n q r =
    record {
      design = r.design;
      list = r.list;
      graph = r.graph;
      tabled = subst (λ (p : List ℕ). Tabled r.design r.list r.graph l p) (sym q) r.tabled;
      work = subst (λ (w : ℕ). WorkLaid l (take l.slots t) w) (sym n) (subst (λ (p : List ℕ). WorkLaid l p (length s)) (sym q) r.work);
      few = subst (λ (p : List ℕ). l.slots + slot_base (slots_in l p) l.copies + 2 < 4294967296) (sym q) r.few;
    }

pub names_same : (l : Layout) (s t : List ℕ) (n : ℕ) → take l.slots t ≡ take l.slots s → NamesIn l s n → NamesIn l t n
names_same l s t n q h = subst (λ (p : List ℕ). (e : ℕ) → e < l.edges → get_or p (l.name + e) 0 < n) (sym q) h

pub names_more : (l : Layout) (s : List ℕ) (n m : ℕ) → n ≤ m → NamesIn l s n → NamesIn l s m
names_more l s n m h names q k = omega (arith, names q k)
