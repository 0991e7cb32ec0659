-- The laws of tables and frames.
use Prim.Native.Nat.{ℕ, ◌+◌, ◌-◌, ◌≤◌, ◌<◌}
use native.Mathlib.Omega.{arith}
use mathlib.Core.Path.{◌≡◌, refl, ◌∙◌, ap}
use mathlib.Core.List.{List, ◌++◌}
use lib.ListN.{length, get_or, take, drop, set, length-set, length-take, length-drop, length-append, take-append-drop}
use lib.Seq.{get_or-take, get_or-drop, take-set-le, take-set-lt, drop-set-lt, drop-set-add, drop-append-le, take-append-le, drop-append-add, drop-drop, drop_at, take_at, length-take-le}
use Rattle.removal.specs.Table.{table, Frame}

pub table_length : (s : List ℕ) (base n : ℕ) → base + n ≤ length s → length (table s base n) ≡ n
unfolding table
table_length s base n h = simp (length-take, length-drop) (omega arith)

pub table_at : (s : List ℕ) (base n i : ℕ) → i < n → get_or (table s base n) i 0 ≡ get_or s (base + i) 0
unfolding table
table_at s base n i h = rw (get_or-take, get_or-drop)

-- a store inside is a store in the table
pub table_in : (s : List ℕ) (base n i a : ℕ) → i < n → table (set s (base + i) a) base n ≡ set (table s base n) i a
unfolding table
table_in s base n i a h = rw (drop-set-add, take-set-lt)

-- a store before it, or past its end, leaves it
pub table_before : (s : List ℕ) (base n i a : ℕ) → i < base → table (set s i a) base n ≡ table s base n
unfolding table
table_before s base n i a h = rw drop-set-lt

pub table_past : (s : List ℕ) (base n i a : ℕ) → base + n ≤ i → table (set s i a) base n ≡ table s base n
unfolding table
table_past s base n i a h =
    let e : i ≡ base + (i - base) = omega arith in
    rw (e, drop-set-add, take-set-le n (drop base s) (i - base) a (omega arith))

-- frames
pub frame_refl : (s : List ℕ) (base n : ℕ) → Frame s s base n
frame_refl s base n = record { size = refl; below = λ b m h. refl; above = λ b m h. refl }

pub frame_set : (s t : List ℕ) (base n i a : ℕ) → base ≤ i → i < base + n → Frame s t base n → Frame s (set t i a) base n
frame_set s t base n i a h l f = record {
  size = length-set t i a ∙ f.size;
  below = λ b m k. table_past t b m i a (omega arith) ∙ f.below b m k;
  above = λ b m k. table_before t b m i a (omega arith) ∙ f.above b m k;
}

pub frame_trans : (s t u : List ℕ) (base n : ℕ) → Frame s t base n → Frame t u base n → Frame s u base n
frame_trans s t u base n f g = record {
  size = g.size ∙ f.size;
  below = λ b m k. g.below b m k ∙ f.below b m k;
  above = λ b m k. g.above b m k ∙ f.above b m k;
}

-- a frame of a part is a frame of the whole
pub frame_wider : (s t : List ℕ) (b m base n : ℕ) → base ≤ b → b + m ≤ base + n → Frame s t b m → Frame s t base n
frame_wider s t b m base n h l f = record {
  size = f.size;
  below = λ i j k. f.below i j (omega arith);
  above = λ i j k. f.above i j (omega arith);
}

-- a table that was lent as a part and came back as ys
front_same : (p x y : List ℕ) (b m : ℕ) → b + m ≤ length p → table (p ++ x) b m ≡ table (p ++ y) b m
unfolding table
front_same p x y b m h =
    let d : b ≤ length p = omega arith in
    let t : m ≤ length (drop b p) = rw length-drop (omega arith) in
    rw (drop-append-le b p x d, drop-append-le b p y d, take-append-le m (drop b p) (x), take-append-le m (drop b p) y)

module _ (s ys : List ℕ) (base n : ℕ) (room : base + n ≤ length s) (same : length ys ≡ n) where
  abbrev pub back : List ℕ
  back = take base s ++ (ys ++ drop n (drop base s))

  head : length (take base s) ≡ base
  head = length-take-le base s (omega arith)

  pub back_table : table (take base s ++ (ys ++ drop n (drop base s))) base n ≡ ys
  unfolding table
  back_table = rw (drop_at (take base s) (ys ++ drop n (drop base s)) base head, take_at ys (drop n (drop base s)) n same)

  pub back_size : length (take base s ++ (ys ++ drop n (drop base s))) ≡ length s
  back_size = simp (length-append, length-drop, head, same) (omega arith)

  tail_same : (b : ℕ) → base + n ≤ b → drop b (take base s ++ (ys ++ drop n (drop base s))) ≡ drop b s
  tail_same b h =
      let d = b - (base + n) in
      let e : b ≡ length (take base s) + (length ys + d) = omega (arith, head, same) in
      let g : base + (n + d) ≡ b = omega arith in
      ap (λ (i : ℕ). drop i (take base s ++ (ys ++ drop n (drop base s)))) e
      ∙ drop-append-add (take base s) (ys ++ drop n (drop base s)) (length ys + d)
      ∙ drop-append-add ys (drop n (drop base s)) d
      ∙ drop-drop d n (drop base s) ∙ drop-drop (n + d) base s ∙ ap (λ (i : ℕ). drop i s) g

  pub back_frame : Frame s (take base s ++ (ys ++ drop n (drop base s))) base n
  unfolding table
  back_frame = record {
    size = back_size;
    below = λ b m h. front_same (take base s) (ys ++ drop n (drop base s)) (drop base s) b m (rw head (omega arith)) ∙ ap (λ (x : List ℕ). table x b m) (take-append-drop base s);
    above = λ b m h. ap (take m) (tail_same b h);
  }
