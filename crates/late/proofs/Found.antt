-- The search: the arrivals below copy c stand in their places, the others are as they were, and no copy below c is late.
use Prim.Native.Nat.{ℕ, ◌+◌, ◌-◌, ◌≤◌, ◌<◌}
use native.Mathlib.Omega.{arith}
use native.Mathlib.Decide.{dec_lt}
use native.Mathlib.Numerals.{add-one}
use mathlib.Core.Path.{◌≡◌, refl, sym, ◌∙◌, ap}
use mathlib.Core.Bool.{Bool, true, false, ◌&&◌}
use lib.Dec.{eqb}
use lib.Signed.{lt_z}
use mathlib.Core.List.{List, [], ◌∷◌, ◌++◌, map}
use Rattle.timing.specs.Answers.{Passed, Late, OnTime}
use lib.IntN.{ℤ, pos}
use lib.ListN.{length, get_or, set, drop, length-append, length-drop, get_or-append}
use lib.Seq.{get_or-append-add, get_or-drop, ext_get_or}
use Rattle.timing.specs.Lists.{keep, upto, placed}
use Rattle.timing.specs.Times.{largest, arrival_at, late_at, late_copies}
use Rattle.timing.specs.Calls.{GraphSlices, graph_of, lowest_late}
use Rattle.theorems.proofs.Elements.{Done, done_none, size_each, at_each}
use Rattle.theorems.proofs.Splits.{upto_next, upto_split, keep_append, keep_yes, keep_no}
use Rattle.times.specs.Passes.{delay_of, Fit}
use Rattle.times.specs.Fanins.{best_over, Fanin, FaninFrom, Ready}
use Rattle.times.proofs.Fanins.{arrivals_pass, fanin_first, fanin_next, copy_ready, copy_done}

upto_last : (c : ℕ) → upto (c + 1) 0 ≡ upto c 0 ++ (c ∷ [])
upto_last c = let z : 0 + c ≡ c = omega arith in ap (λ (n : ℕ). upto n 0) (add-one c) ∙ upto_next c 0 ∙ ap (λ (x : ℕ). upto c 0 ++ (x ∷ [])) z

-- places that are done, in front of what was there
module _ {A : Type 0} (z : A) (f : ℕ → A) (c : ℕ) (old l : List A) (h : c ≤ length old) (d : Done z f c old l) where
  abbrev xs : List A
  xs = map f (upto c 0)

  placed_size : length (xs ++ drop (length xs) old) ≡ length old
  placed_size = omega (arith, length-append xs (drop (length xs) old), length-drop (length xs) old, size_each f c, h)

  placed_at : (i : ℕ) → Dec (i < c) → get_or l i z ≡ get_or (xs ++ drop (length xs) old) i z
  placed_at i (yes k) = d.below i k ∙ sym (get_or-append xs (drop (length xs) old) z i (omega (arith, size_each f c, k)) ∙ at_each z f c i k)
  placed_at i (no k) =
      let m = i - length xs in
      let q : length xs + m ≡ i = omega (arith, size_each f c, k) in
      d.above i (omega (arith, k))
      ∙ ap (λ (j : ℕ). get_or old j z) (sym q)
      ∙ sym (get_or-drop (length xs) old m z)
      ∙ sym (get_or-append-add xs (drop (length xs) old) m z)
      ∙ ap (λ (j : ℕ). get_or (xs ++ drop (length xs) old) j z) q

  pub done_placed : l ≡ placed (map f (upto c 0)) old
  done_placed = ext_get_or z l (xs ++ drop (length xs) old) (d.size ∙ sym placed_size) (λ i k. placed_at i (dec_lt i c))

-- ---- the copies that are late
module _ (late : ℕ → Bool) where
  none_next : (c : ℕ) → keep late (upto c 0) ≡ [] → late c ≡ false → keep late (upto (c + 1) 0) ≡ []
  none_next c e q = ap (keep late) (upto_last c) ∙ keep_no late (upto c 0) c q ∙ e

  late_here : (n c : ℕ) → c < n → keep late (upto c 0) ≡ [] → late c ≡ true → lowest_late Passed (keep late (upto n 0)) ≡ Late c
  late_here n c h e q =
      let m = n - (c + 1) in
      let a : n ≡ (c + 1) + m = omega (arith, h) in
      ap (λ (k : ℕ). lowest_late Passed (keep late (upto k 0))) a
      ∙ ap (λ (l : List ℕ). lowest_late Passed (keep late l)) (upto_split (c + 1) m 0)
      ∙ ap (lowest_late Passed) (keep_append late (upto (c + 1) 0) (upto m (0 + (c + 1))))
      ∙ ap (λ (l : List ℕ). lowest_late Passed (l ++ keep late (upto m (0 + (c + 1))))) (ap (keep late) (upto_last c) ∙ keep_yes late (upto c 0) c q ∙ ap (λ (l : List ℕ). l ++ (c ∷ [])) e)

-- ---- the search at copy c, whose edges stand from `first` on; `old` is what was lent
pub record Searched (delays : List ℤ) (S : GraphSlices) (t : ℤ) (old arrivals : List ℤ) (c first : ℕ) : Type 0 where
  pub next : FaninFrom S.ends c first
  pub done : Done (pos 0) (arrival_at (delay_of delays) t (graph_of S)) c old arrivals
  pub none : keep (late_at (delay_of delays) t (graph_of S)) (upto c 0) ≡ []

module _ (delays : List ℤ) (S : GraphSlices) (F : Fit delays S) (t : ℤ) (old : List ℤ) where
  abbrev at : ℕ → ℤ
  at = arrival_at (delay_of delays) t (graph_of S)

  abbrev late : ℕ → Bool
  late = late_at (delay_of delays) t (graph_of S)

  pub searched_none : Searched delays S t old old 0 0
  searched_none = record { next = fanin_first delays S F; done = done_none (pos 0) at old; none = refl }

  module _ (size : length old ≡ length S.nodes) (c first : ℕ) (arrivals : List ℤ) (s : Searched delays S t old arrivals c first) (h : c < length S.nodes) where
    pub searched_ready : Ready delays S.starts S.ends S.names arrivals c first
    searched_ready = copy_ready delays S F (arrivals_pass delays S F t) c first old arrivals h size s.done s.next

    -- what copy c was given
    module _ (last : ℕ) (fanin : Fanin S.ends c first last) (after : List ℤ)
        (e : after ≡ set arrivals c (best_over largest delays S.starts S.names arrivals first last)) where
      found_done : Done (pos 0) at (c + 1) old after
      found_done = rw e (copy_done delays S F (arrivals_pass delays S F t) c first old arrivals h size s.done s.next last fanin)

      module _ (found : Bool) (is : found ≡ (eqb (get_or S.endpoints c 0) 1 && lt_z t (get_or after c (pos 0)))) where
        found_is : late c ≡ found
        found_is = rw (found_done.below c (omega arith)) at (sym is)

        pub found_late : found ≡ true → (Late c ≡ lowest_late Passed (late_copies (delay_of delays) t (graph_of S))) × (after ≡ placed (map at (upto (c + 1) 0)) old)
        unfolding late_copies
        found_late q = (sym (late_here late (length S.nodes) c h s.none (found_is ∙ q)), done_placed (pos 0) at (c + 1) old after (omega (arith, h, size)) found_done)

        pub searched_next : found ≡ false → Searched delays S t old after (c + 1) last
        searched_next q = record {
          next = fanin_next S.ends c first last s.next fanin;
          done = found_done;
          none = none_next late c s.none (found_is ∙ q);
        }

  -- behind the last copy
  pub searched_all : length old ≡ length S.nodes → (c first : ℕ) (arrivals : List ℤ) → Searched delays S t old arrivals c first → c ≡ length S.nodes
      → (OnTime ≡ lowest_late Passed (late_copies (delay_of delays) t (graph_of S))) × (arrivals ≡ placed (map at (upto (length S.nodes) 0)) old)
  unfolding late_copies
  searched_all size c first arrivals s q = rw (sym q) (rw s.none refl, done_placed (pos 0) at c old arrivals (omega (arith, size, q)) s.done)
