-- The flat list and its paths: how a loop passes over them, and what later proofs need of a path and its offset.
use Prim.Native.Nat.{ℕ, zero, suc, ◌+◌, ◌-◌, ◌≤◌, ◌<◌, min}
use native.Mathlib.Omega.{arith}
use native.Mathlib.Numerals.{add-one}
use mathlib.Core.Path.{◌≡◌, refl, sym, ◌∙◌, ap}
use mathlib.Core.Bool.{true, false}
use mathlib.Core.List.{List, [], ◌∷◌, ◌++◌, flat_map}
use Rattle.std.specs.Prelude.{Option, Ok, Err, None}
use Rattle.std.specs.Result.{is_err}
use Rattle.timing.specs.Answers.{Verdict, Passed}
use lib.ListN.{length, get_or, take, drop, length-take, length-drop, drop_of_length-le, take-append-drop}
use Rattle.std.proofs.lemmas.List.{take_min, drop_min}
use lib.Seq.{drop-cons, drop-drop}
use Rattle.timing.specs.Lists.{sum}
use Rattle.timing.specs.Refusals.{unless_fault, first_fault, ◌then◌}
use Rattle.timing.specs.Marks.{cut}
use Rattle.timing.specs.Tests.{empty_at}

-- where no path is left, a loop that looks for the first path with a fault has found none
pub no_path_left : (number : ℕ) (fault : List ℕ → Option ℕ) (flat lengths : List ℕ) (p from : ℕ) → length lengths ≤ p
    → first_fault number fault p (cut (drop from flat) (drop p lengths)) ≡ Passed
no_path_left number fault flat lengths p from h = rw (drop_of_length-le lengths {i = p} h)

-- How a loop that looks for the first path with a fault goes: at path p, what is left of the flat list is cut by the rest of the
-- lengths. The path that the code looks at is the front of it, and all of it where the length passes it.
module _ (number : ℕ) (fault : List ℕ → Option ℕ) (rest lengths : List ℕ) (p : ℕ) (here : p < length lengths)
    {n : ℕ} (ends : n ≡ min (get_or lengths p 0) (length rest)) {path after : List ℕ} (front : path ≡ take n rest) (back : after ≡ drop n rest)
    {found : Option ℕ} (is : found ≡ fault path) where
  next_path : first_fault number fault p (cut rest (drop p lengths))
      ≡ (unless_fault number p found then first_fault number fault (p + 1) (cut after (drop (p + 1) lengths)))
  next_path =
      let k = get_or lengths p 0 in
      let t : take n rest ≡ take k rest = ap (λ (m : ℕ). take m rest) ends ∙ take_min k rest in
      let d : drop n rest ≡ drop k rest = ap (λ (m : ℕ). drop m rest) ends ∙ drop_min k rest in
      rw (is, front, back, t, d, drop-cons lengths p 0 here, add-one p)

  -- where the code finds a fault in the path, and where it finds none
  module _ {all : Verdict} (so_far : first_fault number fault p (cut rest (drop p lengths)) ≡ all) where
    pub fault_path : (verdict : Verdict) → is_err verdict ≡ true → verdict ≡ unless_fault number p found → verdict ≡ all
    fault_path (Ok x) stops e = absurd (let z : false ≡ true = stops in cc)
    fault_path (Err r) stops e = sym (next_path ∙ rw (← e)) ∙ so_far

    pub sound_path : Passed ≡ unless_fault number p found → first_fault number fault (p + 1) (cut after (drop (p + 1) lengths)) ≡ all
    sound_path e = sym (next_path ∙ rw (← e)) ∙ so_far

-- what a part of the flat list holds
pub part_length : (flat : List ℕ) (from to : ℕ) → to ≤ length flat → length (take (to - from) (drop from flat)) ≡ to - from
part_length flat from to h = simp (length-take, length-drop) (omega arith)

-- and that it has edges
pub part_filled : (flat : List ℕ) (from to : ℕ) → from < to → to ≤ length flat → empty_at (take (to - from) (drop from flat)) ≡ None
part_filled flat from to h b = go (take (to - from) (drop from flat)) (omega (arith, part_length flat from to b))
  where
    go : (l : List ℕ) → 0 < length l → empty_at l ≡ None
    go [] h = absurd (omega arith)
    go (x ∷ l) h = refl

-- Where path i of the flat list starts, and what it and the paths after it are.
abbrev pub offset : List ℕ → ℕ → ℕ
offset lengths i = sum (take i lengths)

pub offset_next : (lengths : List ℕ) (i : ℕ) → i < length lengths → offset lengths (i + 1) ≡ offset lengths i + get_or lengths i 0
offset_next [] i h = absurd (omega arith)
offset_next (k ∷ lengths) zero h = omega arith
offset_next (k ∷ lengths) (suc i) h =
    let e : suc i + 1 ≡ suc (i + 1) = omega arith in
    rw e (omega (arith, offset_next lengths i (omega arith)))

-- no path ends behind the last
pub offset_most : (lengths : List ℕ) (i : ℕ) → offset lengths i ≤ sum lengths
offset_most [] zero = omega arith
offset_most [] (suc i) = omega arith
offset_most (k ∷ lengths) zero = omega arith
offset_most (k ∷ lengths) (suc i) = omega (arith, offset_most lengths i)

pub length_cut : (flat lengths : List ℕ) → length (cut flat lengths) ≡ length lengths
length_cut flat [] = refl
length_cut flat (k ∷ lengths) = ap suc (length_cut (drop k flat) lengths)

pub cut_from : (flat lengths : List ℕ) (i : ℕ) → drop i (cut flat lengths) ≡ cut (drop (offset lengths i) flat) (drop i lengths)
cut_from flat [] zero = refl
cut_from flat [] (suc i) = refl
cut_from flat (k ∷ lengths) zero = refl
cut_from flat (k ∷ lengths) (suc i) = cut_from (drop k flat) lengths i ∙ ap (λ (l : List ℕ). cut l (drop i lengths)) (drop-drop (offset lengths i) k flat)

pub cut_at : (flat lengths : List ℕ) (i : ℕ) → i < length lengths → get_or (cut flat lengths) i [] ≡ take (get_or lengths i 0) (drop (offset lengths i) flat)
cut_at flat [] i h = absurd (omega arith)
cut_at flat (k ∷ lengths) zero h = refl
cut_at flat (k ∷ lengths) (suc i) h =
    cut_at (drop k flat) lengths i (omega arith) ∙ ap (λ (l : List ℕ). take (get_or lengths i 0) l) (drop-drop (offset lengths i) k flat)

-- Where the lengths add up to the flat list, each path lies in it, and has as many edges as its length says.
module _ (flat lengths : List ℕ) (adds : sum lengths ≡ length flat) (i : ℕ) (here : i < length lengths) where
  pub path_inside : offset lengths i + get_or lengths i 0 ≤ length flat
  path_inside = omega (arith, offset_next lengths i here, offset_most lengths (i + 1))

  pub path_length : length (get_or (cut flat lengths) i []) ≡ get_or lengths i 0
  path_length = ap length (cut_at flat lengths i here) ∙ simp (length-take, length-drop) (omega (arith, path_inside))

-- the paths put end to end are the flat list
pub cut_whole : (flat lengths : List ℕ) → sum lengths ≡ length flat → flat_map (λ (p : List ℕ). p) (cut flat lengths) ≡ flat
unfolding flat_map
cut_whole [] [] e = refl
cut_whole (x ∷ flat) [] e = absurd (omega arith)
cut_whole flat (k ∷ lengths) e =
    ap (λ (l : List ℕ). take k flat ++ l) (cut_whole (drop k flat) lengths (omega (arith, length-drop k flat))) ∙ take-append-drop k flat
