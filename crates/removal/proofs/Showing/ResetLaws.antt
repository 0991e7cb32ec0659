-- From what is shown back to what is reached, flag by flag.
use Prim.Native.Nat.{ℕ, ◌+◌, ◌≤◌, ◌<◌}
use native.Mathlib.Omega.{arith}
use mathlib.Core.Path.{◌≡◌, sym, ap, ◌∙◌}
use mathlib.Core.List.{List}
use lib.Dec.{ltb}
use lib.ListN.{length, get_or, take, drop}
use borrow.Rule.Slice.PartMut.{put_mid}
use Rattle.std.proofs.Common.{rules}
use Rattle.std.proofs.lemmas.List.{places, get_or-drop, get_or-take}
use Rattle.std.proofs.lemmas.Slice.{take-put_mid_below}
use Rattle.timing.specs.Lists.{one_if}
use Rattle.removal.specs.declared.rows.Layout.{Layout}
use Rattle.removal.specs.Slots.{slot_base}
use Rattle.removal.specs.Rows.{slots_in, Ready, slot_place}
use Rattle.removal.specs.Show.{FlagsReset}
use Rattle.removal.proofs.Reaching.RowLaws.{slot_inside}

-- the flags before i are 1 where they were not 0, and those from i on are as they were
pub record Resetting (s t : List ℕ) (i : ℕ) : Type 0 where
  pub done : (x : ℕ) → x < i → get_or t x 0 ≡ one_if (ltb 0 (get_or s x 0))
  pub rest : (x : ℕ) → i ≤ x → get_or t x 0 ≡ get_or s x 0

-- n elements from a on are those of t now
module _ (s t : List ℕ) (a n : ℕ) (fit : a + n ≤ length s) (size : length t ≡ n) where
  put_size : length (put_mid a n s t) ≡ length s
  put_size = search (rules, places)

  put_below : take a (put_mid a n s t) ≡ take a s
  put_below = take-put_mid_below a n s t a (omega arith) (omega arith)

  put_here : (x : ℕ) → x < n → get_or (put_mid a n s t) (a + x) 0 ≡ get_or t x 0
  put_here x h = search (rules, places)

  put_past : (y : ℕ) → a + n ≤ y → get_or (put_mid a n s t) y 0 ≡ get_or s y 0
  put_past y h = search (rules, places)

-- the n flags are those of t now: each is reset
module _ {l : Layout} {s t : List ℕ} {n i : ℕ} (r : Ready l s) (n_is : n ≡ slot_base (slots_in l (take l.slots s)) l.copies)
    (fit : l.slots + n ≤ length s) (size : length t ≡ n) (x : Resetting (take n (drop l.slots s)) t i) (all : n ≤ i) where
  reset_flag : (y : ℕ) → y < n → get_or (put_mid l.slots n s t) (l.slots + y) 0 ≡ one_if (ltb 0 (get_or s (l.slots + y) 0))
  reset_flag y h =
      put_here s t l.slots n fit size y h ∙ x.done y (omega arith)
      ∙ ap (λ (v : ℕ). one_if (ltb 0 v)) (get_or-take n (drop l.slots s) y 0 h ∙ get_or-drop l.slots s y 0)

  pub reset_end : FlagsReset l s (put_mid l.slots n s t)
  reset_end =
      record {
        size = put_size s t l.slots n fit size;
        tables = put_below s t l.slots n fit size;
        above = λ y h. put_past s t l.slots n fit size y (omega (arith, r.work.slots));
        flags = λ c j h k.
            let B = slots_in l (take l.slots s) in
            let e : l.slots + slot_base B c + j ≡ l.slots + (slot_base B c + j) = omega arith in
            ap (λ (w : List ℕ). get_or (put_mid l.slots n s t) (slot_place l w c j) 0) (put_below s t l.slots n fit size)
            ∙ ap (λ (y : ℕ). get_or (put_mid l.slots n s t) y 0) e
            ∙ reset_flag (slot_base B c + j) (omega (arith, n_is, slot_inside B c j l.copies h k))
            ∙ ap (λ (y : ℕ). one_if (ltb 0 (get_or s y 0))) (sym e);
      }
