-- Flagging over all copies: the rows are what pass 1 makes.
use Prim.Native.Nat.{ℕ, zero, suc, ◌+◌, ◌-◌, ◌≤◌, ◌<◌}
use native.Mathlib.Omega.{arith}
use native.Mathlib.Decide.{ℕ_discrete}
use mathlib.Core.Path.{◌≡◌, refl, sym, ◌∙◌, ap, subst}
use mathlib.Core.Logic.{◌⊎◌, inl, inr, ⊎_elim}
use mathlib.Core.List.Memᴰ
use mathlib.Core.List.{List, Memᴰ}
use lib.Dec.{T, ltb, eqb→eq}
use lib.ListN.{length, get_or, take, set, length-set}
use lib.Seq.{take-set-le, get_or-set_same, get_or-set_other}
use borrow.Author.Tests.{ltb-true, lt-ltb, eq-eqb, ne_eqb}
use Rattle.timing.specs.Graphs.{Design, Edge, Graph, endpoint_of, ends_at}
use Rattle.timing.specs.Marks.{PathList}
use Rattle.theorems.proofs.Lists.{holds, of_upto}
use Rattle.theorems.proofs.Runs.{mem_in}
use Rattle.removal.specs.declared.rows.Layout.{Layout}
use Rattle.removal.specs.Slots.{slots, slot_base, Used, slot_marks}
use Rattle.removal.specs.Rows.{slots_in, slot_place, InRun, run, run_from, run_to, edge_in, Tabled, Ready}
use Rattle.removal.specs.Flags.{ReachedRow, StepBack, Backward}
use Rattle.removal.specs.Reach.{flag_of, reached_of, Still, Pushes, CopyPushed, end_set, RowsReached, AllZero}
use Rattle.removal.proofs.Reaching.SlotLaws.{used_empty, setting_of}
use Rattle.removal.proofs.Reaching.FlagLaws.{reached_same, reached_row}
use Rattle.removal.proofs.Reaching.RowLaws.{read, slot_inside, place_one, base_read, count_read, place_inside}
use Rattle.removal.proofs.Reaching.TargetLaws.{edge_mem}

pub still_refl : (l : Layout) (s : List ℕ) → Still l s s
still_refl l s = record { size = refl; tables = refl }

pub still_trans : (l : Layout) (s t u : List ℕ) → Still l s t → Still l t u → Still l s u
still_trans l s t u a b = record { size = b.size ∙ a.size; tables = b.tables ∙ a.tables }

-- where the words of `base` say that slots stand
module _ (l : Layout) (s : List ℕ) (r : Ready l s) (c : ℕ) (copy : c < l.copies) where
  pub slot_at : (j : ℕ) → get_or s (l.base + c) 0 + j ≡ slot_place l (take l.slots s) c j
  slot_at j = omega (arith, base_read l s r c (omega arith))

  pub slot_first : get_or s (l.base + c) 0 ≡ slot_place l (take l.slots s) c 0
  slot_first = omega (arith, base_read l s r c (omega arith))

  pub slot_low : (j : ℕ) → j < slots (slots_in l (take l.slots s)) c → get_or s (l.base + c) 0 + j < length s
  slot_low j h =
      omega (arith, slot_at j, place_inside l s r c j copy h, r.work.seen, r.work.cover, r.work.patch, r.work.lead, r.work.comes)

  pub count_at : get_or s (l.base + c + 1) 0 ≡ get_or s (l.base + c) 0 + slots (slots_in l (take l.slots s)) c
  count_at = let e : l.base + c + 1 ≡ l.base + suc c = omega arith in ap (λ (i : ℕ). get_or s i 0) e ∙ count_read l s r c copy

  pub run_at : get_or s (l.into + c) 0 ≡ run_to l (take l.slots s) c
  run_at = let t = r.tabled.laid in read l s r (l.into + c) (omega (arith, t.into, t.start, t.name, t.default))

-- paths end at a copy where its endpoint number is 1
ends_if : (G : Graph) (endpoint : List ℕ) (c : ℕ) → G.endpoints ≡ endpoint → get_or endpoint c 0 ≡ 1 → T (ends_at G c)
ends_if G endpoint c q z = holds (ends_at G c) (eq-eqb (endpoint_of G c) 1 (ap (λ (k : List ℕ). get_or k c 0) q ∙ z))

ends_only : (G : Graph) (endpoint : List ℕ) (c : ℕ) → G.endpoints ≡ endpoint → T (ends_at G c) → get_or endpoint c 0 ≡ 1
ends_only G endpoint c q t = ap (λ (k : List ℕ). get_or k c 0) (sym q) ∙ eqb→eq (endpoint_of G c) 1 t

-- Slot 0 of copy c was set if its endpoint number is 1, and nothing else.
pub record EndMarked (l : Layout) (endpoint p s t : List ℕ) (c : ℕ) : Type 0 where
  pub still : Still l s t
  pub above : (i : ℕ) → l.seen ≤ i → get_or t i 0 ≡ get_or s i 0
  pub others : (d i : ℕ) → d < l.copies → i < slots (slots_in l p) d → (d ≡ c → ⊥) → flag_of l p t d i ≡ flag_of l p s d i
  pub small : (i : ℕ) → i < slots (slots_in l p) c → (flag_of l p t c i ≡ flag_of l p s c i) ⊎ (flag_of l p t c i ≡ 1)
  pub sound : (i : ℕ) → i < slots (slots_in l p) c → 0 < flag_of l p t c i → (0 < flag_of l p s c i) ⊎ ((get_or endpoint c 0 ≡ 1) × (i ≡ 0))
  pub complete : get_or endpoint c 0 ≡ 1 → 0 < flag_of l p t c 0

module _ (l : Layout) (endpoint p s : List ℕ) (c : ℕ) where
  end_same : (get_or endpoint c 0 ≡ 1 → ⊥) → EndMarked l endpoint p s s c
  end_same not-one =
      record {
        still = still_refl l s;
        above = λ i h. refl;
        others = λ d i h k f. refl;
        small = λ i h. inl refl;
        sound = λ i h f. inl f;
        complete = λ z. absurd (not-one z);
      }

  end_stored : get_or endpoint c 0 ≡ 1 → c < l.copies → l.slots + slot_base (slots_in l p) l.copies ≤ l.seen → l.seen ≤ length s
      → EndMarked l endpoint p s (set s (slot_place l p c 0) 1) c
  end_stored is_one copy room words =
      record {
        still = record { size = length-set s (slot_place l p c 0) 1; tables = take-set-le l.slots s (slot_place l p c 0) 1 (omega arith) };
        above = λ i h. get_or-set_other s (slot_place l p c 0) i 1 0 (λ (e : i ≡ slot_place l p c 0). omega (arith, within));
        others = λ d i h k f. store_other d i k (λ q. f q.0);
        small = λ i h. elim (ℕ_discrete i 0) [ yes q ↦ inr (ap (flag_of l p t c) q ∙ here) | no f ↦ inl (other i h f) ];
        sound = λ i h y. elim (ℕ_discrete i 0) [ yes q ↦ inr (is_one, q) | no f ↦ inl (omega (arith, y, other i h f)) ];
        complete = λ z. omega (arith, here);
      }
    where
      t : List ℕ
      t = set s (slot_place l p c 0) 1

      within : slot_place l p c 0 < l.seen
      within = omega (arith, slot_inside (slots_in l p) c 0 l.copies copy (omega arith))

      here : flag_of l p t c 0 ≡ 1
      here = get_or-set_same s (slot_place l p c 0) 1 0 (omega (arith, within))

      store_other : (d i : ℕ) → i < slots (slots_in l p) d → ((d ≡ c) × (i ≡ 0) → ⊥) → flag_of l p t d i ≡ flag_of l p s d i
      store_other d i h f =
          get_or-set_other s (slot_place l p c 0) (slot_place l p d i) 1 0
          (λ (q : slot_place l p d i ≡ slot_place l p c 0). f (place_one (slots_in l p) d c i 0 h (omega arith) (omega arith)))

      other : (i : ℕ) → i < slots (slots_in l p) c → (i ≡ 0 → ⊥) → flag_of l p t c i ≡ flag_of l p s c i
      other i h f = store_other c i h (λ q. f q.1)

pub end_marked : (l : Layout) (endpoint p : List ℕ) (c : ℕ) → c < l.copies
    → (s t : List ℕ) → take l.slots s ≡ p → l.slots + slot_base (slots_in l p) l.copies ≤ l.seen → l.seen ≤ length s → t ≡ end_set l endpoint s c → EndMarked l endpoint p s t c
end_marked l endpoint p c copy s t same room words q =
    subst (λ (u : List ℕ). EndMarked l endpoint p s u c) (sym q) (go (ℕ_discrete (get_or endpoint c 0) 1))
  where
    go : Dec (get_or endpoint c 0 ≡ 1) → EndMarked l endpoint p s (end_set l endpoint s c) c
    go (yes z) = rw (eq-eqb (get_or endpoint c 0) 1 z, same) (end_stored l endpoint p s c z copy room words)
    go (no f) = rw (ne_eqb (get_or endpoint c 0) 1 f) (end_same l endpoint p s c f)

-- The rows from copy c on are right, and the flags of the copies below c are what the edges to those rows set.
pub record RowsPushed (l : Layout) (endpoint p s t : List ℕ) (c : ℕ) : Type 0 where
  pub reached : RowsReached l endpoint p s t c
  pub sound : (D : Design) (L : PathList) (G : Graph) → Tabled D L G l p → (d i : ℕ) → d < c → d < l.copies → i < slots (slots_in l p) d → 0 < flag_of l p t d i
      → (b : ℕ) × (q : ℕ) × (k : ℕ) × (c ≤ b) × (b < l.copies) × Pushes D L G l p t b d i q k
  pub complete : (D : Design) (L : PathList) (G : Graph) → Tabled D L G l p → (d i b q k : ℕ) → d < c → d < l.copies → c ≤ b → b < l.copies
      → Pushes D L G l p t b d i q k → 0 < flag_of l p t d i

pub rows_start : (l : Layout) (endpoint p s : List ℕ) → AllZero l p s → RowsPushed l endpoint p s s l.copies
rows_start l endpoint p s z =
    record {
      reached = record { still = still_refl l s; small = λ d i h n. omega (arith, z d i h n); rows = λ D L G x q d h k. absurd (omega arith) };
      sound = λ D L G x d i m h n f. absurd (omega (arith, f, z d i h n));
      complete = λ D L G x d i b q k m h n o y. absurd (omega arith);
    }

-- an edge of the graph, by its number
pub edge_number : (D : Design) (L : PathList) (G : Graph) (l : Layout) (p : List ℕ) → Tabled D L G l p → (e : Edge) → Memᴰ e G.edges
    → (e.end < l.copies) × ((q : ℕ) × InRun l p e.end q × (edge_in l p e.end q ≡ e))
edge_number D L G l p x e m =
    let inside : e.end < l.copies = omega (arith, x.legal.rising.inside e m, x.copies) in
    let w = Memᴰ.of_map (edge_in l p e.end) (run l p e.end) (subst (λ (es : List Edge). Memᴰ e es) (x.into e.end inside) ((mem_in G e.end e).1 (m, refl))) in
    let o = of_upto (run_to l p e.end - run_from l p e.end) (run_from l p e.end) w.0 w.1 in
    let edge : InRun l p e.end w.0 = record { from = o.0; to = omega (arith, o.0, o.1, x.up e.end inside) } in
    (inside, (w.0, edge, w.2))

-- one more copy: its slot 0 is marked if paths end there, and then what its slots reach
module _ (l : Layout) (endpoint p s t v u : List ℕ) (c : ℕ) (copy : c < l.copies) (a : RowsPushed l endpoint p s t (suc c))
    (m : EndMarked l endpoint p t v c) (b : CopyPushed l p v u c) where
  -- the flags of the higher copies stay, and those of lower ones until c's slots are followed
  still : (d i : ℕ) → c < d → d < l.copies → i < slots (slots_in l p) d → flag_of l p u d i ≡ flag_of l p t d i
  still d i h k n = b.higher d i (omega arith) k n ∙ m.others d i k n (λ q. omega arith)

  lower : (d i : ℕ) → d < c → i < slots (slots_in l p) d → flag_of l p v d i ≡ flag_of l p t d i
  lower d i h n = m.others d i (omega arith) n (λ q. omega arith)

  -- a flag that was set stays so
  keeps : (d i : ℕ) → d < l.copies → i < slots (slots_in l p) d → 0 < flag_of l p v d i → 0 < flag_of l p u d i
  keeps d i h k f =
      ⊎_elim
      (λ (q : flag_of l p u d i ≡ flag_of l p v d i). omega arith)
      (λ (q : flag_of l p u d i ≡ 1). omega arith)
      (b.small d i h k)

  kept : (i : ℕ) → i < slots (slots_in l p) c → 0 < flag_of l p t c i → 0 < flag_of l p u c i
  kept i n f =
      ⊎_elim
      (λ (q : flag_of l p v c i ≡ flag_of l p t c i). omega (arith, b.higher c i (omega arith) copy n))
      (λ (q : flag_of l p v c i ≡ 1). omega (arith, b.higher c i (omega arith) copy n))
      (m.small i n)

  -- edges to copy e that set flags from some slots do so from the same slots after, where their flags are as before
  moved : (D : Design) (L : PathList) (G : Graph) (x y : List ℕ) (e d i q k : ℕ) → (k < slots (slots_in l p) e → flag_of l p y e k ≡ flag_of l p x e k)
      → Pushes D L G l p x e d i q k → Pushes D L G l p y e d i q k
  moved D L G x y e d i q k same z =
      record { edge = z.edge; start = z.start; slot = z.slot; reached = omega (arith, z.reached, same z.slot); leads = z.leads }

  module _ (D : Design) (L : PathList) (G : Graph) (x : Tabled D L G l p) where
    step_from : (i e q k : ℕ) → c < e → e < l.copies → Pushes D L G l p t e c i q k
        → StepBack G L (slot_marks D L G) (slots_in l p) (reached_of l p u) c (edge_in l p e q) k (slot_marks D L G c i)
    step_from i e q k up h y = (
      edge_mem D L G l p x e q h y.edge,
      y.start,
      y.slot,
      lt-ltb 0 (flag_of l p u e k) (omega (arith, y.reached, still e k up h y.slot)),
      y.leads.alive,
      y.leads.is,
    )

    step_sets : (e : Edge) (k i : ℕ) → i < slots (slots_in l p) c → Used (slot_marks D L G) c i
        → StepBack G L (slot_marks D L G) (slots_in l p) (reached_of l p u) c e k (slot_marks D L G c i) → 0 < flag_of l p t c i
    step_sets e k i h w z =
        let r = edge_number D L G l p x e z.0 in
        let o = r.1 in
        let q : ℕ = o.0 in
        let y = subst (λ (d : Edge). StepBack G L (slot_marks D L G) (slots_in l p) (reached_of l p u) c d k (slot_marks D L G c i)) (sym o.2) z in
        let up : c < e.end = omega (arith, x.legal.rising.up e z.0, z.1) in
        a.complete D L G x c i e.end q k (omega arith) copy up r.0
        (record {
          edge = o.1;
          start = y.1;
          slot = y.2;
          reached = omega (arith, ltb-true 0 (flag_of l p u e.end k) y.3, still e.end k up r.0 y.2);
          leads = record { alive = y.4; inside = h; is = y.5; used = w };
        })

    module _ (q : G.endpoints ≡ endpoint) where
      -- so the row of copy c is what pass 1 makes of the higher rows
      backward : Backward G L (slot_marks D L G) (slots_in l p) (reached_of l p u) c
      backward =
          record {
            sound = λ i h f.
                ⊎_elim
                (λ (y : 0 < flag_of l p t c i).
                let z = a.sound D L G x c i (omega arith) copy h y in
                (z.5.leads.used, inr (edge_in l p z.0 z.1, z.2, step_from i z.0 z.1 z.2 (omega (arith, z.3)) z.4 z.5)))
                (λ (y : (get_or endpoint c 0 ≡ 1) × (i ≡ 0)). (
                  subst (λ (j : ℕ). Used (slot_marks D L G) c j) (sym y.1) (used_empty (slot_marks D L G) c),
                  inl (ends_if G endpoint c q y.0, y.1),
                ))
                (m.sound i h (omega (arith, ltb-true 0 (flag_of l p u c i) f, b.higher c i (omega arith) copy h)));
            ends = λ y. lt-ltb 0 (flag_of l p u c 0) (omega (arith, m.complete (ends_only G endpoint c q y), b.higher c 0 (omega arith) copy (omega arith)));
            steps = λ e k i h w y. lt-ltb 0 (flag_of l p u c i) (kept i h (step_sets e k i h w y));
          }

      higher : (d : ℕ) → c < d → d < l.copies → ReachedRow G L (slot_marks D L G) (slots_in l p) (reached_of l p u) d
      higher d h k =
          reached_same G L (slot_marks D L G) (slots_in l p) (reached_of l p t) (reached_of l p u) d
          (λ j n. ap (λ (w : ℕ). ltb 0 w) (still d j h k n))
          (a.reached.rows D L G x q d (omega arith) k)

      here : ReachedRow G L (slot_marks D L G) (slots_in l p) (reached_of l p u) c
      here =
          reached_row D G L (slot_marks D L G) (slots_in l p)
          (setting_of D L G l p x)
          (reached_of l p u) c (omega (arith, x.copies))
          (λ d h k. higher d h (omega (arith, x.copies)))
          backward

      rows : (d : ℕ) → c ≤ d → d < l.copies → ReachedRow G L (slot_marks D L G) (slots_in l p) (reached_of l p u) d
      rows d h k =
          elim (ℕ_discrete c d) [
            | yes e ↦ subst (λ (y : ℕ). ReachedRow G L (slot_marks D L G) (slots_in l p) (reached_of l p u) y) e here
            | no f ↦ higher d (omega arith) k
          ]

    sound : (d i : ℕ) → d < c → d < l.copies → i < slots (slots_in l p) d → 0 < flag_of l p u d i
        → (e : ℕ) × (q : ℕ) × (k : ℕ) × (c ≤ e) × (e < l.copies) × Pushes D L G l p u e d i q k
    sound d i h k n f =
        ⊎_elim
        (λ (y : 0 < flag_of l p v d i).
        let z = a.sound D L G x d i (omega arith) k n (omega (arith, y, lower d i h n)) in
        (z.0, z.1, z.2, omega (arith, z.3), z.4, moved D L G t u z.0 d i z.1 z.2 (λ o. still z.0 z.2 (omega (arith, z.3)) z.4 o) z.5))
        (λ (z : (q : ℕ) × (k : ℕ) × Pushes D L G l p v c d i q k).
        (c, z.0, z.1, omega arith, copy, moved D L G v u c d i z.0 z.1 (λ o. b.higher c z.1 (omega arith) copy o) z.2))
        (b.sound D L G x d i k n f)

    complete : (d i e q k : ℕ) → d < c → d < l.copies → c ≤ e → e < l.copies → Pushes D L G l p u e d i q k → 0 < flag_of l p u d i
    complete d i e q k h n up o y =
        elim (ℕ_discrete e c) [
          | yes z ↦
              let w : Pushes D L G l p u c d i q k = subst (λ (g : ℕ). Pushes D L G l p u g d i q k) z y in
              b.complete D L G x d i q k n (moved D L G u v c d i q k (λ g. sym (b.higher c k (omega arith) copy g)) w)
          | no f ↦
              keeps d i n y.leads.inside
              (omega (
                arith,
                a.complete D L G x d i e q k (omega arith) n (omega arith) o (moved D L G u t e d i q k (λ g. sym (still e k (omega arith) o g)) y),
                lower d i h y.leads.inside,
              ))
        ]

  low : (d i : ℕ) → d < l.copies → i < slots (slots_in l p) d → flag_of l p v d i ≤ 1
  low d i h n =
      elim (ℕ_discrete d c) [
        | yes q ↦
            subst (λ (y : ℕ). i < slots (slots_in l p) y → flag_of l p v y i ≤ 1) (sym q)
            (λ (o : i < slots (slots_in l p) c).
            ⊎_elim
            (λ (y : flag_of l p v c i ≡ flag_of l p t c i). omega (arith, a.reached.small c i copy o))
            (λ (y : flag_of l p v c i ≡ 1). omega arith)
            (m.small i o))
            n
        | no f ↦ omega (arith, m.others d i h n f, a.reached.small d i h n)
      ]

  small : (d i : ℕ) → d < l.copies → i < slots (slots_in l p) d → flag_of l p u d i ≤ 1
  small d i h n =
      ⊎_elim
      (λ (y : flag_of l p u d i ≡ flag_of l p v d i). omega (arith, low d i h n))
      (λ (y : flag_of l p u d i ≡ 1). omega arith)
      (b.small d i h n)

  pub rows_next : RowsPushed l endpoint p s u c
  rows_next =
      record {
        reached = record { still = still_trans l s t u a.reached.still (still_trans l t v u m.still b.still); small = small; rows = rows };
        sound = sound;
        complete = complete;
      }

-- the flag of slot 0 is 0 or 1 where paths end is noted
pub end_small : (l : Layout) (endpoint p s t v : List ℕ) (c n : ℕ) → c < l.copies → RowsPushed l endpoint p s t n → EndMarked l endpoint p t v c → flag_of l p v c 0 ≤ 1
end_small l endpoint p s t v c n copy a m =
    ⊎_elim
    (λ (y : flag_of l p v c 0 ≡ flag_of l p t c 0). omega (arith, a.reached.small c 0 copy (omega arith)))
    (λ (y : flag_of l p v c 0 ≡ 1). omega arith)
    (m.small 0 (omega arith))

-- the edges into the copies below c come first
pub run_within : (D : Design) (L : PathList) (G : Graph) (l : Layout) (p : List ℕ) → Tabled D L G l p → (c : ℕ) → c ≤ l.copies → run_from l p c ≤ l.edges
run_within D L G l p x zero h = omega arith
run_within D L G l p x (suc c) h = x.within c (omega arith)
