-- What is shown depends on what is reached, slot by slot. So where the flags of shown slots are 1 again, what will be shown is what was shown.
use Prim.Native.Nat.{ℕ, zero, suc, ◌+◌, ◌≤◌, ◌<◌}
use native.Mathlib.Omega.{arith}
use mathlib.Core.Path.{◌≡◌, refl, sym, ap, ◌∙◌, subst}
use mathlib.Core.Bool.{Bool, true, false, cond, ◌&&◌, ◌||◌}
use mathlib.Core.List.{List, [], ◌++◌, map, Memᴰ, append-nil}
use lib.Dec.{T, ltb}
use lib.ListN.{length, take}
use borrow.Author.Tests.{ltb-true, lt-ltb}
use Rattle.timing.specs.Lists.{one_if, sum}
use Rattle.timing.specs.Graphs.{Design, Graph, starts_at}
use Rattle.timing.specs.Marks.{PathList}
use Rattle.removal.specs.declared.rows.Layout.{Layout}
use Rattle.removal.specs.Slots.{slots, slot_marks}
use Rattle.removal.specs.Rows.{slots_in, Tabled, flag_in}
use Rattle.removal.specs.Flags.{ReachedRow}
use Rattle.removal.specs.Result.{Slot, shown_below, shown_slots}
use Rattle.removal.specs.Show.{reached_by, edges_to, shows, finally, edges_before, AllShown, FlagsReset}
use Rattle.removal.specs.Fill.{LowFlags, RowsFlagged, Fits}
use Rattle.removal.proofs.Reaching.SlotLaws.{Setting, setting_of}
use Rattle.removal.proofs.Reaching.FlagLaws.{reached_same}
use Rattle.removal.proofs.Showing.GrowLaws.{below_same}
use Rattle.removal.proofs.Showing.ResultLaws.{of_shown}
use Rattle.removal.proofs.Showing.ShowLaws.{edges_same, shows_same, final_is, sum_same}

first_true : (a b : Bool) → (a && b) ≡ true → a ≡ true
first_true true b e = refl
first_true false b e = absurd (subst T (sym e) tt)

module _ (D : Design) (G : Graph) (L : PathList) (marks : ℕ → ℕ → List ℕ) (B : ℕ → ℕ) (S : Setting D G L marks B) where
  -- only reached slots are shown
  pub final_reached : (reached : ℕ → ℕ → Bool) (c j : ℕ) → finally G L marks B reached c j ≡ true → reached c j ≡ true
  unfolding shows
  final_reached reached c j e =
      first_true (reached c j) (starts_at G c || ltb 0 (edges_to G L marks B (finally G L marks B reached) c j)) (sym (final_is D G L marks B S reached c j) ∙ e)

  module _ (reached after : ℕ → ℕ → Bool) (same : (c j : ℕ) → c < length G.nodes → j < slots B c → after c j ≡ reached c j) where
    final_below : (n c j : ℕ) → c < n → c < length G.nodes → j < slots B c → finally G L marks B after c j ≡ finally G L marks B reached c j
    final_below zero c j a h k = absurd (omega arith)
    final_below (suc n) c j a h k =
        final_is D G L marks B S after c j
        ∙ shows_same D G L marks B S (finally G L marks B reached) (finally G L marks B after) c
        (λ d i b m. final_below n d i (omega arith) (omega arith) m) reached after j (same c j h k)
        ∙ sym (final_is D G L marks B S reached c j)

    pub final_same : (c j : ℕ) → c < length G.nodes → j < slots B c → finally G L marks B after c j ≡ finally G L marks B reached c j
    final_same c j h k = final_below (suc c) c j (omega arith) h k

    pub slots_same : shown_slots G B (finally G L marks B after) ≡ shown_slots G B (finally G L marks B reached)
    slots_same = below_same B (finally G L marks B reached) (finally G L marks B after) (length G.nodes) final_same

    pub before_same : edges_before G L marks B (finally G L marks B after) (length G.nodes) 0 ≡ edges_before G L marks B (finally G L marks B reached) (length G.nodes) 0
    before_same =
        ap (λ (k : List Slot). sum (map (λ (s : Slot). edges_to G L marks B (finally G L marks B after) s.copy s.slot) (k ++ []))) slots_same
        ∙ sum_same (λ (s : Slot). edges_to G L marks B (finally G L marks B after) s.copy s.slot) (λ (s : Slot). edges_to G L marks B (finally G L marks B reached) s.copy s.slot)
        (shown_below B (finally G L marks B reached) (length G.nodes) ++ [])
        (λ s m.
        let o = of_shown B (finally G L marks B reached) (length G.nodes) s (subst (λ (k : List Slot). Memᴰ s k) (append-nil (shown_below B (finally G L marks B reached) (length G.nodes))) m) in
        edges_same D G L marks B S (finally G L marks B reached) (finally G L marks B after) s.copy (λ d i h k. final_same d i (omega (arith, o.0)) k) s.slot)

-- a flag that is final, reset
reset_is : (b : Bool) (n v : ℕ) → v ≤ 1 → (b ≡ true → ltb 0 v ≡ true) → one_if (ltb 0 (cond b (2 + n) v)) ≡ v
reset_is true n v h f = omega (arith, ltb-true 0 v (f refl), ap one_if (lt-ltb 0 (2 + n) (omega arith)))
reset_is false n zero h f = refl
reset_is false n (suc zero) h f = refl
reset_is false n (suc (suc v)) h f = absurd (omega arith)

module _ (l : Layout) (s t u : List ℕ) (copies edges : ℕ) (shown : AllShown l s t copies edges) (reset : FlagsReset l t u) (low : LowFlags l s) where
  tables : take l.slots u ≡ take l.slots s
  tables = reset.tables ∙ shown.tables

  module _ (D : Design) (L : PathList) (G : Graph) (x : Tabled D L G l (take l.slots s)) where
    pub flags_back : (c j : ℕ) → c < l.copies → j < slots (slots_in l (take l.slots s)) c → flag_in l u c j ≡ flag_in l s c j
    flags_back c j h k =
        let p = shown.passed D L G x low in
        let B = slots_in l (take l.slots s) in
        let f = finally G L (slot_marks D L G) B (reached_by (flag_in l s)) in
        reset.flags c j h (subst (λ (p : List ℕ). j < slots (slots_in l p) c) (sym shown.tables) k)
        ∙ ap (λ (v : ℕ). one_if (ltb 0 v)) (p.lower c j (omega (arith, x.copies)) k)
        ∙ reset_is (f c j) _ (flag_in l s c j) (low c j h k) (final_reached D G L (slot_marks D L G) B (setting_of D L G l (take l.slots s) x) (reached_by (flag_in l s)) c j)

    back : (c j : ℕ) → c < length G.nodes → j < slots (slots_in l (take l.slots s)) c → reached_by (flag_in l u) c j ≡ reached_by (flag_in l s) c j
    back c j h k = ap (ltb 0) (flags_back c j (omega (arith, x.copies)) k)

    fits_back : (length (shown_slots G (slots_in l (take l.slots s)) (finally G L (slot_marks D L G) (slots_in l (take l.slots s)) (reached_by (flag_in l u)))) ≤ copies)
        × (edges_before G L (slot_marks D L G) (slots_in l (take l.slots s)) (finally G L (slot_marks D L G) (slots_in l (take l.slots s)) (reached_by (flag_in l u))) (length G.nodes) 0 ≤ edges)
    fits_back =
        let p = shown.passed D L G x low in
        let S = setting_of D L G l (take l.slots s) x in
        let B = slots_in l (take l.slots s) in (
          omega (arith, p.numbered, ap length (slots_same D G L (slot_marks D L G) B S (reached_by (flag_in l s)) (reached_by (flag_in l u)) back)),
          omega (arith, p.counted, before_same D G L (slot_marks D L G) B S (reached_by (flag_in l s)) (reached_by (flag_in l u)) back),
        )

  pub low_back : (D : Design) (L : PathList) (G : Graph) → Tabled D L G l (take l.slots s) → LowFlags l u
  low_back D L G x c j h k =
      let m : j < slots (slots_in l (take l.slots s)) c = subst (λ (p : List ℕ). j < slots (slots_in l p) c) tables k in
      omega (arith, flags_back D L G x c j h m, low c j h m)

  pub rows_back : (endpoint : List ℕ) → RowsFlagged l s endpoint → RowsFlagged l u endpoint
  unfolding RowsFlagged
  rows_back endpoint rows D L G y q c h =
      let x : Tabled D L G l (take l.slots s) = subst (λ (p : List ℕ). Tabled D L G l p) tables y in
      subst (λ (p : List ℕ). ReachedRow G L (slot_marks D L G) (slots_in l p) (reached_by (flag_in l u)) c) (sym tables)
      (reached_same G L (slot_marks D L G) (slots_in l (take l.slots s)) (reached_by (flag_in l s)) (reached_by (flag_in l u)) c (λ j k. back D L G x c j (omega (arith, x.copies)) k) (rows D L G x q c h))

  pub room_back : (nodes starts : ℕ) → copies ≤ nodes → edges ≤ starts → Fits l u nodes starts
  unfolding Fits
  room_back nodes starts a b D L G y =
      let x : Tabled D L G l (take l.slots s) = subst (λ (p : List ℕ). Tabled D L G l p) tables y in
      subst (λ (p : List ℕ).
      (length (shown_slots G (slots_in l p) (finally G L (slot_marks D L G) (slots_in l p) (reached_by (flag_in l u)))) ≤ nodes)
      × (edges_before G L (slot_marks D L G) (slots_in l p) (finally G L (slot_marks D L G) (slots_in l p) (reached_by (flag_in l u))) (length G.nodes) 0 ≤ starts)) (sym tables)
      (let z = fits_back D L G x in (omega (arith, z.0), omega (arith, z.1)))
