-- A list of which each path is without a fault passes, and what shows that of 22 and of 23.
use Prim.Native.Nat.{ℕ, suc, ◌+◌, ◌-◌, ◌≤◌, ◌<◌}
use native.Mathlib.Omega.{arith}
use mathlib.Core.Path.{◌≡◌, refl}
use mathlib.Core.List.{List, [], ◌∷◌}
use Rattle.std.specs.Prelude.{Option, None}
use Rattle.timing.specs.Answers.{Passed}
use lib.ListN.{length, get_or, take, drop, length-take, length-drop}
use lib.Seq.{get_or-take, get_or-drop}
use borrow.Author.Tests.{lt-ltb}
use Rattle.timing.specs.Lists.{sum}
use Rattle.timing.specs.Refusals.{first_fault}
use Rattle.timing.specs.Marks.{cut}
use Rattle.timing.specs.Tests.{empty_at, first_unknown}
use Rattle.path_list.proofs.Laws.{offset, offset_next, offset_most, length_cut, cut_at, part_filled}

module _ (number : ℕ) (fault : List ℕ → Option ℕ) where
  all_sound : (k : ℕ) (paths : List (List ℕ)) → ((p : ℕ) → p < length paths → fault (get_or paths p []) ≡ None) → first_fault number fault k paths ≡ Passed
  all_sound k [] h = refl
  all_sound k (path ∷ paths) h = rw (h 0 (omega arith)) (all_sound (suc k) paths (λ p l. h (suc p) (omega arith)))

  pub cut_sound : (flat lengths : List ℕ) → ((p : ℕ) → p < length lengths → fault (take (get_or lengths p 0) (drop (offset lengths p) flat)) ≡ None)
      → first_fault number fault 0 (cut flat lengths) ≡ Passed
  cut_sound flat lengths h =
      all_sound 0 (cut flat lengths)
      (λ p l.
      let here : p < length lengths = omega (arith, length_cut flat lengths) in
      rw (cut_at flat lengths p here) (h p here))

-- 22: no path is empty where no length is 0 and the lengths do not pass the flat list
pub filled_sound : (flat lengths : List ℕ) → sum lengths ≤ length flat → ((p : ℕ) → p < length lengths → 0 < get_or lengths p 0)
    → first_fault 22 empty_at 0 (cut flat lengths) ≡ Passed
filled_sound flat lengths fits filled =
    cut_sound 22 empty_at flat lengths
    (λ p l.
    let from = offset lengths p in
    let k = get_or lengths p 0 in
    let d : from + k - from ≡ k = omega arith in
    rw d at (part_filled flat from (from + k) (omega (arith, filled p l)) (omega (arith, offset_next lengths p l, offset_most lengths (p + 1)))))

-- 23: what is true of each edge of the flat list is true of each edge of a path
pub below_part : (m : ℕ) (flat : List ℕ) (from k : ℕ) → ((i : ℕ) → i < length flat → get_or flat i 0 < m)
    → (i : ℕ) → i < length (take k (drop from flat)) → get_or (take k (drop from flat)) i 0 < m
below_part m flat from k h i l =
    let n : i < k = omega (arith, length-take k (drop from flat)) in
    rw (get_or-take k (drop from flat) i 0 n, get_or-drop from flat i 0) (h (from + i) (omega (arith, length-take k (drop from flat), length-drop from flat)))

none_unknown : (m i : ℕ) (path : List ℕ) → ((j : ℕ) → j < length path → get_or path j 0 < m) → first_unknown m i path ≡ None
none_unknown m i [] h = refl
none_unknown m i (k ∷ path) h = rw (lt-ltb k m (h 0 (omega arith))) (none_unknown m (suc i) path (λ j l. h (suc j) (omega arith)))

pub named_sound : (m : ℕ) (flat lengths : List ℕ) → ((i : ℕ) → i < length flat → get_or flat i 0 < m) → first_fault 23 (first_unknown m 0) 0 (cut flat lengths) ≡ Passed
named_sound m flat lengths h =
    cut_sound 23 (first_unknown m 0) flat lengths
    (λ p l. none_unknown m 0 (take (get_or lengths p 0) (drop (offset lengths p) flat)) (below_part m flat (offset lengths p) (get_or lengths p 0) h))
