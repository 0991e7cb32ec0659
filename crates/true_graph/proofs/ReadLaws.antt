-- Reading a deck: every refusal is small, and what is found fits the tables.
use Prim.Native.Nat.{ℕ, zero, suc, ◌+◌, ◌≤◌}
use native.Mathlib.Omega.{arith}
use mathlib.Core.Path.{◌≡◌, refl, sym, subst}
use mathlib.Core.Bool.{Bool, true, false, cond}
use mathlib.Core.List.{List, ◌∷◌}
use Rattle.std.specs.Prelude.{Result, Ok, Err}
use Rattle.timing.specs.Answers.{Verdict, Passed}
use Rattle.timing.specs.declared.Groups.{Groups}
use Rattle.timing.specs.declared.NoNumber.{NoNumber}
use Rattle.timing.specs.declared.NoNumber.TheVariants.{Ended, Unfit}
use lib.Dec.{leb}
use lib.ListN.{length, drop, length-drop, length-map}
use borrow.Author.Tests.{leb-true}
use Rattle.timing.specs.Refusals.{refusal, unless, ◌then◌}
use Rattle.timing.specs.Numbers.{groups_in, number_answer, read_number}
use Rattle.timing.specs.Delays.{delay_of}
use Rattle.timing.specs.Parsing.{Parsed, found, stopped, Reader, onward, ◌>>=◌, return, tested, parsed_number, number, repeated, ended}
use Rattle.timing.specs.Decks.{Deck, Tables, EdgeRow, edge_row, paths, read_deck}
use Rattle.timing.specs.Tests.{marked_count}
use Rattle.timing.specs.Calls.{Outcome, made, refused, parsed}
use Rattle.timing.proofs.Verdicts.{unless_passed}
use Rattle.packed.proofs.Numbers.{Inside, number_inside}
use Rattle.deck_reader.specs.Reading.{deck_from, edge_count, edges_place, rows_from, Fits}
use Rattle.deck_reader.proofs.Reading.{Is, is_deck}
use Rattle.true_graph.specs.Small.{SmallRefusal, Small}
use Rattle.true_graph.proofs.Small.{small_then, small_unless}

-- of at most 65,536 bytes: no place that is found is past them, and what is refused is small
module _ (s : List ℕ) (few : length s ≤ 65536) where
  abbrev pub Within : {A : Type 0} → Parsed A → Type 0
  Within (found x at) = at ≤ length s
  Within (stopped r) = SmallRefusal r

  within_onward : {A B : Type 0} (p : Parsed A) (f : A → Reader B) → Within p → ((x : A) (at : ℕ) → at ≤ length s → Within (f x at)) → Within (onward p f)
  within_onward (found x at) f h k = k x at h
  within_onward (stopped r) f h k = h

  within_number : (at : ℕ) → at ≤ length s → Within (number s at)
  unfolding read_number
  within_number at h = go (groups_in 15 4 (drop at s)) (number_inside 15 4 (drop at s))
    where
      go : (g : Result Groups NoNumber) → Inside (drop at s) g → Within (parsed_number (number_answer (length s) at g))
      go (Ok m) i = omega (arith, i.1, length-drop at s)
      go (Err Ended) i = (omega arith, omega arith)
      go (Err Unfit) i = (omega arith, omega arith)

  -- what comes after a test, where it passes
  within_tested : {B : Type 0} (v : Verdict) (at : ℕ) (f : Unit {0} → Reader B) → Small v → (v ≡ Passed → Within (f tt at)) → Within (onward (tested v at) f)
  within_tested Passed at f a k = k refl
  within_tested (Err r) at f a k = a

  within_count : {B : Type 0} (k n limit table at : ℕ) (f : Unit {0} → Reader B) → k ≤ 36 → Within (f tt at)
      → Within (onward (tested (unless k (leb n limit) then unless 36 (leb n table)) at) f)
  within_count k n limit table at f l w =
      within_tested (unless k (leb n limit) then unless 36 (leb n table)) at f
      (small_then (unless k (leb n limit)) (unless 36 (leb n table)) (small_unless k l (leb n limit)) (λ e. small_unless 36 (omega arith) (leb n table))) (λ e. w)

  within_repeated : {A : Type 0} (p : Reader A) → ((at : ℕ) → at ≤ length s → Within (p at)) → (k at : ℕ) → at ≤ length s → Within (repeated k p at)
  within_repeated p w zero at h = h
  within_repeated {A} p w (suc k) at h =
      within_onward (p at) (λ x. repeated k p >>= (λ xs. return (x ∷ xs))) (w at h)
      (λ x a i. within_onward (repeated k p a) (λ xs. return (x ∷ xs)) (within_repeated p w k a i) (λ xs b j. j))

  within_edge : (at : ℕ) → at ≤ length s → Within (edge_row s at)
  within_edge at h =
      within_onward (number s at) _ (within_number at h)
      (λ a p i. within_onward (number s p) _ (within_number p i)
      (λ b q j. within_onward (number s q) _ (within_number q j)
      (λ c r k. within_onward (number s r) _ (within_number r k) (λ d t l. l))))

  within_paths : (table k sum at : ℕ) → at ≤ length s → Within (paths s table k sum at)
  within_paths table zero sum at h = h
  within_paths table (suc k) sum at h =
      within_onward (number s at) _ (within_number at h)
      (λ n a i. within_count 21 (sum + n) 8192 table a _ (omega arith)
      (within_onward (repeated n (number s) a) _ (within_repeated (number s) within_number n a i)
      (λ p c l. within_onward (paths s table k (sum + n) c) _ (within_paths table k (sum + n) c l) (λ rest d m. m))))

  within_ended : (at : ℕ) → at ≤ length s → Within (ended s at)
  within_ended at h = go (leb (length s) at)
    where
      go : (b : Bool) → Within {A = Unit {0}} (cond b (found tt at) (stopped (refusal 3 at)))
      go true = h
      go false = (omega arith, omega arith)

  -- 16 has the place n, for which 10 has passed
  within_marked : {B : Type 0} (n k table at : ℕ) (f : Unit {0} → Reader B) → unless 10 (leb n 4096) ≡ Passed → Within (f tt at)
      → Within (onward (tested (marked_count n k then unless 36 (leb k table)) at) f)
  within_marked n k table at f e w =
      within_tested (marked_count n k then unless 36 (leb k table)) at f
      (small_then (marked_count n k) (unless 36 (leb k table)) (go (leb k n)) (λ q. small_unless 36 (omega arith) (leb k table))) (λ q. w)
    where
      go : (b : Bool) → Small (cond b Passed (Err (refusal 16 n)))
      go true = tt
      go false = (omega arith, omega (arith, leb-true n 4096 (unless_passed 10 (leb n 4096) e)))

  pub within_deck : (tables : Tables) → Within (read_deck s tables)
  unfolding read_deck
  within_deck tables =
      within_onward (number s 0) _ (within_number 0 (omega arith))
      (λ n a h. within_tested (unless 10 (leb n 4096)) a _ (small_unless 10 (omega arith) (leb n 4096))
      (λ ten. within_onward (number s a) _ (within_number a h)
      (λ m c j. within_count 11 m 16384 tables.edges c _ (omega arith)
      (within_onward (repeated m (edge_row s) c) _ (within_repeated (edge_row s) within_edge m c j)
      (λ rows e l. within_onward (number s e) _ (within_number e l)
      (λ count f o. within_count 20 count 1024 tables.paths f _ (omega arith)
      (within_onward (paths s tables.listed count 0 f) _ (within_paths tables.listed count 0 f o)
      (λ list t r. within_onward (number s t) _ (within_number t r)
      (λ k x y. within_marked n k tables.marked x _ ten
      (within_onward (repeated k (number s) x) _ (within_repeated (number s) within_number k x y)
      (λ marked z w. within_onward (number s z) _ (within_number z w)
      (λ allowed u v. within_onward (ended s u) _ (within_ended u v) (λ q aa bb. bb)))))))))))))

-- a deck that is read has four slices of edges of one length
pub record Even (d : Deck) : Type 0 where
  pub ends : length d.design.ends ≡ length d.design.starts
  pub early : length d.design.early ≡ length d.design.starts
  pub late : length d.design.late ≡ length d.design.starts

abbrev pub EvenRead : Outcome Deck → Type 0
EvenRead (made d) = Even d
EvenRead (refused r) = Unit {0}

pub even_read : (s : List ℕ) (tables : Tables) → EvenRead (parsed (read_deck s tables))
unfolding deck_from
even_read s tables = go (read_deck s tables) (is_deck s tables)
  where
    rows : List EdgeRow
    rows = rows_from s (edge_count s 0) (edges_place s 0)

    even : Even (deck_from s 0)
    even =
        let a = length-map rows (λ (r : EdgeRow). r.start) in
        let b = length-map rows (λ (r : EdgeRow). r.end) in
        let c = length-map rows (λ (r : EdgeRow). delay_of r.early) in
        let d = length-map rows (λ (r : EdgeRow). delay_of r.late) in
        record { ends = omega (arith, a, b); early = omega (arith, a, c); late = omega (arith, a, d) }

    go : (p : Parsed Deck) → Is (λ x next. (x ≡ deck_from s 0) × Fits s 0 tables) p → EvenRead (parsed p)
    go (found x at) h = subst Even (sym h.0) even
    go (stopped r) h = tt
