-- The row of a slot: what collecting its patches leaves is what counting its edges and showing the slot ask, and what these leave is what
-- the next row asks.
use Prim.Native.Nat.{ℕ, suc, ◌+◌, ◌*◌, ◌≤◌, ◌<◌}
use native.Mathlib.Omega.{arith}
use mathlib.Core.Path.{◌≡◌, refl, sym, ap, ◌∙◌, subst}
use mathlib.Core.List.{List}
use lib.ListN.{length, get_or, take}
use Rattle.removal.specs.declared.rows.Layout.{Layout}
use Rattle.removal.specs.Slots.{slots, slot_base}
use Rattle.removal.specs.Rows.{slots_in, Ready, Idle, slot_place, flag_in, run_from, run_to}
use Rattle.removal.specs.Patches.{NamesIn, Noted, Patched, Collected}
use Rattle.removal.specs.Show.{EdgesMeet, RowLent, PatchedRow, RowMet, SlotRoom, SlotShown, WorkKept, RowShown, PassedTo}
use Rattle.removal.proofs.Reaching.RowLaws.{read, base_read, count_read, place_inside, ready_same, names_same}
use Rattle.removal.proofs.Showing.ShowTables.{seen_inside}
use Rattle.removal.proofs.Showing.ShowSteps.{not_reached, flags_alike, meets_alike, meets_back, slot_after, meets_shown, to_next}

-- where names stand is noted for the tables
noted_same : (l : Layout) (s t pos : List ℕ) (c : ℕ) → take l.slots t ≡ take l.slots s → Noted l s pos c → Noted l t pos c
noted_same l s t pos c q n = rw q n

-- the flags stay where patches are collected, and no edge is seen
module _ (l : Layout) (s t : List ℕ) (c j k : ℕ) (r : Ready l s) (x : Collected l s t c j k) where
  collected_alike : (i : ℕ) → i < l.seen → get_or t i 0 ≡ get_or s i 0
  collected_alike i h = x.below i (omega (arith, r.work.seen, r.work.cover))

  collected_idle : Idle l s → Idle l t
  collected_idle idle q h = x.below (l.seen + q) (omega (arith, r.work.seen, r.work.cover)) ∙ idle q h

  collected_ready : Ready l t
  collected_ready = ready_same l s t x.size x.tables r

module _ {l : Layout} {s pos : List ℕ} {c j p0 p1 defaults : ℕ} (a : RowLent l s pos c j p0 p1 defaults) where
  -- the base of the copy tells where the slot's flag stands
  flag_place : get_or s (l.base + c) 0 + j ≡ slot_place l (take l.slots s) c j
  flag_place = omega (arith, base_read l s a.ready c (omega (arith, a.copy)))

  pub flag_inside : get_or s (l.base + c) 0 + j < length s
  flag_inside = omega (arith, flag_place, place_inside l s a.ready c j a.copy a.slot, seen_inside a.ready)

  pub flag_read : get_or s (get_or s (l.base + c) 0 + j) 0 ≡ flag_in l s c j
  flag_read = ap (λ (i : ℕ). get_or s i 0) flag_place

  -- the row of the empty mark has no patches
  pub row_empty : j ≡ 0 → RowMet l s s c j 0 defaults
  row_empty z =
      subst (λ (i : ℕ). RowMet l s s c i 0 defaults) (sym z)
      (record {
        collected = record {
          size = refl;
          below = λ i h. refl;
          above = λ i h. refl;
          tables = refl;
          patched = record {
            few = omega arith;
            edges = λ i h. absurd (omega arith);
            apart = λ i h m n. absurd (omega arith);
            leads = λ D L G t i h. absurd (omega arith);
            rest = λ D L G t q h none. t.defaults c a.copy q h;
          };
        };
        meets = a.meets;
      })

  -- those of any other are collected, and then its edges are counted
  module _ {t : List ℕ} {k : ℕ} (x : Collected l s t c j k) where
    pub row_patched : PatchedRow l t c j k defaults
    row_patched =
        record {
          ready = collected_ready l s t c j k a.ready x;
          copy = a.copy;
          patched = subst (λ (p : List ℕ). Patched l p t c j k) (sym x.tables) x.patched;
          meets = meets_alike l s t a.ready x.tables (collected_alike l s t c j k a.ready x) c 0 defaults a.copy a.meets;
        }

    pub row_met : {n : ℕ} → EdgesMeet l t c j n → RowMet l s t c j k n
    row_met {n} m =
        record {
          collected = x;
          meets = meets_back l s t a.ready x.tables (collected_alike l s t c j k a.ready x) c j n a.copy m;
        }

  -- a slot that is not reached
  pub row_off : {copies edges : ℕ} → edges ≤ copies * 65536 → get_or s (get_or s (l.base + c) 0 + j) 0 ≡ 0 → RowShown l s s c j defaults copies edges copies edges
  row_off {copies} {edges} few z =
      record { shown = not_reached l s c j copies edges few (sym flag_read ∙ z); idle = a.idle; meets = a.meets }

  -- and one that is
  module _ {t : List ℕ} {k n : ℕ} (x : RowMet l s t c j k n) {copies edges : ℕ} where
    pub row_room : (get_or s (get_or s (l.base + c) 0 + j) 0 ≡ 0 → ⊥) → copies ≤ slot_base (slots_in l (take l.slots s)) c + j → edges ≤ copies * 65536
        → SlotRoom l t c j p0 p1 copies edges × EdgesMeet l t c j n
    row_room f few_copies few_edges =
        let y = x.collected in
        let alike = collected_alike l s t c j k a.ready y in (
          record {
            ready = collected_ready l s t c j k a.ready y;
            copy = a.copy;
            slot = subst (λ (p : List ℕ). j < slots (slots_in l p) c) (sym y.tables) a.slot;
            from = subst (λ (p : List ℕ). p0 ≡ run_from l p c) (sym y.tables) a.from;
            to = subst (λ (p : List ℕ). p1 ≡ run_to l p c) (sym y.tables) a.to;
            reached =
                let g : flag_in l s c j ≡ 0 → ⊥ = λ e. f (flag_read ∙ e) in
                omega (arith, g, flags_alike l s t a.ready y.tables alike c j a.copy a.slot);
            few_copies = subst (λ (p : List ℕ). copies ≤ slot_base (slots_in l p) c + j) (sym y.tables) few_copies;
            few_edges = few_edges;
          },
          meets_alike l s t a.ready y.tables alike c j n a.copy x.meets,
        )

    pub row_shown : {u : List ℕ} {more links : ℕ} → SlotShown l t u c j copies edges more links × WorkKept l t u → RowShown l s u c j defaults copies edges more links
    row_shown {u} {more} {links} (y, w) =
        let z = x.collected in
        let alike = collected_alike l s t c j k a.ready z in
        record {
          shown = slot_after l s t a.ready z.tables alike u c j copies edges more links z.size a.copy a.slot y;
          idle = λ q h. w (l.seen + q) (omega arith) ∙ collected_idle l s t c j k a.ready z a.idle q h;
          meets =
              meets_shown l t u c j copies edges more links (collected_ready l s t c j k a.ready z) a.copy
              (subst (λ (p : List ℕ). j < slots (slots_in l p) c) (sym z.tables) a.slot) y 0 defaults
              (meets_alike l s t a.ready z.tables alike c 0 defaults a.copy a.meets);
        }

-- what is read of a copy
pub record CopyWords (l : Layout) (s : List ℕ) (c : ℕ) : Type 0 where
  pub into_is : get_or s (l.into + c) 0 ≡ run_to l (take l.slots s) c
  pub next_is : get_or s (l.base + c + 1) 0 ≡ get_or s (l.base + c) 0 + slots (slots_in l (take l.slots s)) c

pub copy_words : {l : Layout} {s : List ℕ} {c : ℕ} → Ready l s → c < l.copies → CopyWords l s c
copy_words {l} {s} {c} r h =
    let e : l.base + c + 1 ≡ l.base + suc c = omega arith in
    let laid = r.tabled.laid in
    record {
      into_is = read l s r (l.into + c) (omega (arith, laid.into, laid.start, laid.name, laid.default));
      next_is = ap (λ (i : ℕ). get_or s i 0) e ∙ count_read l s r c h;
    }

-- what the next row asks
pub row_next : {l : Layout} {s t pos : List ℕ} {c j p0 p1 defaults copies edges more links : ℕ} → Ready l s → NamesIn l s (length pos)
    → (0 < j → Noted l s pos c) → c < l.copies → j < slots (slots_in l (take l.slots s)) c → p0 ≡ run_from l (take l.slots s) c
    → p1 ≡ run_to l (take l.slots s) c → PassedTo l s t c copies edges c j more links → Idle l t → EdgesMeet l t c 0 defaults
    → RowLent l t pos c j p0 p1 defaults × (more ≤ slot_base (slots_in l (take l.slots t)) c + j) × (links ≤ more * 65536)
row_next {l} {s} {t} {pos} {c} {j} {p0} {p1} {defaults} {copies} {edges} {more} {links} ready names noted copy slot from to x idle meets =
    let next = to_next x in (
      record {
        ready = ready_same l s t x.size x.tables ready;
        idle = idle;
        names = names_same l s t (length pos) x.tables names;
        noted = λ h. noted_same l s t pos c x.tables (noted h);
        copy = copy;
        slot = subst (λ (p : List ℕ). j < slots (slots_in l p) c) (sym x.tables) slot;
        from = subst (λ (p : List ℕ). p0 ≡ run_from l p c) (sym x.tables) from;
        to = subst (λ (p : List ℕ). p1 ≡ run_to l p c) (sym x.tables) to;
        meets = meets;
      },
      next.0,
      next.1,
    )
