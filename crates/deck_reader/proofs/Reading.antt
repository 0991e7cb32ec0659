-- What a reader found is what stands there; and how the tables are filled with it.
use Prim.Native.Nat.{ℕ, zero, suc, ◌+◌, ◌-◌, ◌≤◌, ◌<◌}
use native.Mathlib.Omega.{arith}
use native.Mathlib.Numerals.{add-one}
use mathlib.Core.Path.{◌≡◌, refl, sym, ◌∙◌, ap}
use mathlib.Core.List.{List, ◌∷◌, ◌++◌, map}
use Rattle.std.specs.Prelude.{Result, Ok, Err}
use Rattle.timing.specs.Answers.{Verdict, Passed, DeckFound}
use Rattle.timing.specs.declared.Taken.{Taken}
use Rattle.timing.specs.declared.DeckCounts.{DeckCounts}
use lib.Dec.{leb}
use lib.IntN.{ℤ}
use lib.ListN.{length, set, drop, length-append, length-map}
use lib.Seq.{sets, sets-eq}
use Rattle.timing.specs.declared.Refusal.{Refusal}
use Rattle.timing.specs.Lists.{placed}
use Rattle.timing.specs.Marks.{PathList, path_list}
use Rattle.timing.specs.Numbers.{read_number}
use Rattle.timing.specs.Refusals.{unless, ◌then◌}
use Rattle.timing.specs.Parsing.{Parsed, found, stopped, Reader, onward, ◌>>=◌, ◌>>◌, return, tested, parsed_number, number, repeated, ended}
use Rattle.timing.specs.Decks.{Deck, Tables, EdgeRow, edge_row, design_of, paths, read_deck}
use Rattle.timing.specs.Tests.{edge_sizes, marked_count}
use Rattle.timing.specs.Calls.{Outcome, made, refused, parsed, filled, deck_read, deck_answer}
use Rattle.timing.specs.Looks.{value_of, next_of, value_at, next_at}
use Rattle.deck_reader.specs.Reading.{verdict_of, numbers_from, numbers_end, edge_row_at, edge_row_end, rows_from, rows_end, starts_from, counted_from, counted_end, edges_from, lengths_from, paths_end, edges_place, edge_count, design_from, count_place, list_from, list_end, marked_from, lists_end, deck_from, Fits}
use Rattle.timing.proofs.Verdicts.{then_passed, unless_passed}
use Rattle.deck_reader.proofs.Looking.{count_passed}
use Rattle.packed.proofs.Rooms.{sets_append}
use borrow.Author.Tests.{leb-true}

-- what is so of anything that was found
abbrev pub Is : {A : Type 0} → (A → ℕ → Type 0) → Parsed A → Type 0
Is P (found x at) = P x at
Is P (stopped r) = Unit {0}

pub is_onward : {A B : Type 0} (P : A → ℕ → Type 0) (Q : B → ℕ → Type 0) (p : Parsed A) (f : A → Reader B) → Is P p → ((x : A) (at : ℕ) → P x at → Is Q (f x at)) → Is Q (onward p f)
is_onward P Q (found x at) f h k = k x at h
is_onward P Q (stopped r) f h k = tt

abbrev NumberIs : List ℕ → ℕ → ℕ → ℕ → Type 0
NumberIs s at x next = (x ≡ value_at s at) × (next ≡ next_at s at)

is_number : (s : List ℕ) (at : ℕ) → Is (NumberIs s at) (number s at)
unfolding value_at next_at
is_number s at = by (read_number s at)
  where
    by : (r : Result Taken Refusal) → Is (λ x next. (x ≡ value_of r) × (next ≡ next_of at r)) (parsed_number r)
    by (Ok t) = (refl, refl)
    by (Err r) = tt

abbrev pub TestIs : Verdict → ℕ → Unit {0} → ℕ → Type 0
TestIs v at u next = (v ≡ Passed) × (next ≡ at)

pub is_tested : (v : Verdict) (at : ℕ) → Is (TestIs v at) (tested v at)
is_tested Passed at = (refl, refl)
is_tested (Err r) at = tt

abbrev NumbersIs : List ℕ → ℕ → ℕ → List ℕ → ℕ → Type 0
NumbersIs s k at xs next = (xs ≡ numbers_from s k at) × (next ≡ numbers_end s k at)

pub is_numbers : (s : List ℕ) (k at : ℕ) → Is (NumbersIs s k at) (repeated k (number s) at)
is_numbers s zero at = (refl, refl)
is_numbers s (suc k) at =
    is_onward (NumberIs s at) (NumbersIs s (suc k) at) (number s at) (λ x. repeated k (number s) >>= (λ xs. return (x ∷ xs))) (is_number s at)
    (λ x a h. is_onward (NumbersIs s k a) (NumbersIs s (suc k) at) (repeated k (number s) a) (λ xs. return (x ∷ xs)) (is_numbers s k a)
    (λ xs b g. (rw (h.0, g.0, h.1), rw (g.1, h.1))))

abbrev RowIs : List ℕ → ℕ → EdgeRow → ℕ → Type 0
RowIs s at r next = (r ≡ edge_row_at s at) × (next ≡ edge_row_end s at)

is_row : (s : List ℕ) (at : ℕ) → Is (RowIs s at) (edge_row s at)
is_row s at =
    is_onward (NumberIs s at) (RowIs s at) (number s at) _ (is_number s at)
    (λ a p h. is_onward (NumberIs s p) (RowIs s at) (number s p) _ (is_number s p)
    (λ b q g. is_onward (NumberIs s q) (RowIs s at) (number s q) _ (is_number s q)
    (λ c n f. is_onward (NumberIs s n) (RowIs s at) (number s n) _ (is_number s n)
    (λ d o e. (rw (h.0, g.0, f.0, e.0, f.1, g.1, h.1), rw (e.1, f.1, g.1, h.1))))))

abbrev RowsIs : List ℕ → ℕ → ℕ → List EdgeRow → ℕ → Type 0
RowsIs s k at rs next = (rs ≡ rows_from s k at) × (next ≡ rows_end s k at)

is_rows : (s : List ℕ) (k at : ℕ) → Is (RowsIs s k at) (repeated k (edge_row s) at)
is_rows s zero at = (refl, refl)
is_rows s (suc k) at =
    is_onward (RowIs s at) (RowsIs s (suc k) at) (edge_row s at) (λ r. repeated k (edge_row s) >>= (λ rs. return (r ∷ rs))) (is_row s at)
    (λ r a h. is_onward (RowsIs s k a) (RowsIs s (suc k) at) (repeated k (edge_row s) a) (λ rs. return (r ∷ rs)) (is_rows s k a)
    (λ rs b g. (rw (h.0, g.0, h.1), rw (g.1, h.1))))

pub length_numbers : (s : List ℕ) (k at : ℕ) → length (numbers_from s k at) ≡ k
length_numbers s zero at = refl
length_numbers s (suc k) at = ap suc (length_numbers s k (next_at s at))

pub length_rows : (s : List ℕ) (k at : ℕ) → length (rows_from s k at) ≡ k
length_rows s zero at = refl
length_rows s (suc k) at = ap suc (length_rows s k (edge_row_end s at))

pub length_lengths : (s : List ℕ) (k at : ℕ) → length (lengths_from s k at) ≡ k
length_lengths s zero at = refl
length_lengths s (suc k) at = ap suc (length_lengths s k (counted_end s at))

-- the paths, and that their edges fit the table
abbrev PathsIs : List ℕ → ℕ → ℕ → ℕ → ℕ → PathList → ℕ → Type 0
PathsIs s table k sum at l next =
    (l ≡ path_list (edges_from s k at) (lengths_from s k at)) × (next ≡ paths_end s k at) × (sum ≤ table → sum + length (edges_from s k at) ≤ table)

is_paths : (s : List ℕ) (table k sum at : ℕ) → Is (PathsIs s table k sum at) (paths s table k sum at)
is_paths s table zero sum at = (refl, refl, λ h. omega arith)
is_paths s table (suc k) sum at =
    let test : ℕ → Verdict = λ n. unless 21 (leb (sum + n) 8192) then unless 36 (leb (sum + n) table) in
    is_onward (NumberIs s at) (PathsIs s table (suc k) sum at) (number s at)
    (λ n. tested (test n) >> (repeated n (number s) >>= (λ p. paths s table k (sum + n) >>= (λ rest. return (path_list (p ++ rest.edges) (n ∷ rest.lengths)))))) (is_number s at)
    (λ n a h. is_onward (TestIs (test n) a) (PathsIs s table (suc k) sum at) (tested (test n) a)
    (λ u. repeated n (number s) >>= (λ p. paths s table k (sum + n) >>= (λ rest. return (path_list (p ++ rest.edges) (n ∷ rest.lengths))))) (is_tested (test n) a)
    (λ u b t. is_onward (NumbersIs s n b) (PathsIs s table (suc k) sum at) (repeated n (number s) b)
    (λ p. paths s table k (sum + n) >>= (λ rest. return (path_list (p ++ rest.edges) (n ∷ rest.lengths)))) (is_numbers s n b)
    (λ p d g. is_onward (PathsIs s table k (sum + n) d) (PathsIs s table (suc k) sum at) (paths s table k (sum + n) d)
    (λ rest. return (path_list (p ++ rest.edges) (n ∷ rest.lengths))) (is_paths s table k (sum + n) d)
    (λ rest e f. last n a b d e p rest h t g f))))
  where
    last : (n a b d e : ℕ) (p : List ℕ) (rest : PathList) → NumberIs s at n a
        → ((unless 21 (leb (sum + n) 8192) then unless 36 (leb (sum + n) table)) ≡ Passed) × (b ≡ a) → NumbersIs s n b p d → PathsIs s table k (sum + n) d rest e
        → PathsIs s table (suc k) sum at (path_list (p ++ rest.edges) (n ∷ rest.lengths)) e
    last n a b d e p rest h t g f =
        let q : d ≡ counted_end s at = rw (g.1, t.1, h.0, h.1) in
        let w = count_passed 21 sum n 8192 table t.0 in
        let m = length-append (numbers_from s (value_at s at) (next_at s at)) (edges_from s k (counted_end s at)) in
        let v = length_numbers s (value_at s at) (next_at s at) in
        let z = f.2 w.1 in
        let y : sum + n + length (edges_from s k (counted_end s at)) ≤ table = rw (← q) z in (
          rw (f.0, g.0, t.1, q, h.0, h.1),
          rw (f.1, q),
          λ l. omega (arith, h.0),
        )

-- the whole deck
abbrev DeckIs : List ℕ → Tables → Deck → ℕ → Type 0
DeckIs s tables d next = (d ≡ deck_from s 0) × Fits s 0 tables

module _ (s : List ℕ) (tables : Tables) where
  found_deck : (n a m b count p t many q z e : ℕ) (rows : List EdgeRow) (list : PathList) (marked : List ℕ) → (n ≡ value_at s 0) × (a ≡ next_at s 0) → (m ≡ value_at s a) × (b ≡ next_at s a) → m ≤ tables.edges
      → (c : ℕ) → RowsIs s m b rows c → (count ≡ value_at s c) × (p ≡ next_at s c) → count ≤ tables.paths → PathsIs s tables.listed count 0 p list t
      → (many ≡ value_at s t) × (q ≡ next_at s t) → many ≤ tables.marked → NumbersIs s many q marked z → e ≡ value_at s z
      → DeckIs s tables (record { design = design_of n rows marked; list = list; allowed = e }) 0
  unfolding deck_from count_place list_end
  found_deck n a m b count p t many q z e rows list marked h g ml c r k cl l o ol w x =
      let mi : m ≡ edge_count s 0 = rw (g.0, h.1) in
      let bi : b ≡ edges_place s 0 = rw (g.1, h.1) in
      let ci : c ≡ count_place s 0 = rw (r.1, mi, bi) in
      let ki : count ≡ value_at s (count_place s 0) = rw (k.0, ci) in
      let pi : p ≡ next_at s (count_place s 0) = rw (k.1, ci) in
      let ri : rows ≡ rows_from s (edge_count s 0) (edges_place s 0) = rw (r.0, mi, bi) in
      let ti : t ≡ list_end s (count_place s 0) = rw (l.1, ki, pi) in
      let li : list ≡ list_from s (count_place s 0) = rw (l.0, ki, pi) in
      let fi : 0 + length (list_from s (count_place s 0)).edges ≤ tables.listed = rw (← ki, ← pi) (l.2 (omega arith)) in
      let oi : many ≡ value_at s (list_end s (count_place s 0)) = rw (o.0, ti) in
      let qi : q ≡ next_at s (list_end s (count_place s 0)) = rw (o.1, ti) in
      let wi : marked ≡ marked_from s (count_place s 0) = rw (w.0, oi, qi) in
      let zi : z ≡ lists_end s (count_place s 0) = rw (w.1, oi, qi) in (
        rw (h.0, ri, li, wi, x, zi),
        record { edges = rw (← mi) ml; paths = rw (← ki) cl; listed = omega arith; marked = rw (← oi) ol },
      )

le_table : (test m limit table : ℕ) → (unless test (leb m limit) then unless 36 (leb m table)) ≡ Passed → m ≤ table
le_table test m limit table e = leb-true m table (unless_passed 36 (leb m table) (then_passed (unless test (leb m limit)) (unless 36 (leb m table)) e).1)

-- the count of marked nodes, likewise
le_marked : (n m table : ℕ) → (marked_count n m then unless 36 (leb m table)) ≡ Passed → m ≤ table
le_marked n m table e = leb-true m table (unless_passed 36 (leb m table) (then_passed (marked_count n m) (unless 36 (leb m table)) e).1)

is_any : {A : Type 0} (p : Parsed A) → Is (λ x next. Unit {0}) p
is_any (found x at) = tt
is_any (stopped r) = tt

pub is_deck : (s : List ℕ) (tables : Tables) → Is (DeckIs s tables) (read_deck s tables)
unfolding read_deck
is_deck s tables =
    let Q = DeckIs s tables in
    is_onward (NumberIs s 0) Q (number s 0) _ (is_number s 0)
    (λ n a h. is_onward (TestIs (unless 10 (leb n 4096)) a) Q (tested (unless 10 (leb n 4096)) a) _ (is_tested (unless 10 (leb n 4096)) a)
    (λ u a' ta. is_onward (NumberIs s a') Q (number s a') _ (is_number s a')
    (λ m b g. is_onward (TestIs (unless 11 (leb m 16384) then unless 36 (leb m tables.edges)) b) Q (tested (unless 11 (leb m 16384) then unless 36 (leb m tables.edges)) b) _
    (is_tested (unless 11 (leb m 16384) then unless 36 (leb m tables.edges)) b)
    (λ u' b' tb. is_onward (RowsIs s m b') Q (repeated m (edge_row s) b') _ (is_rows s m b')
    (λ rows c r. is_onward (NumberIs s c) Q (number s c) _ (is_number s c)
    (λ count p k. is_onward (TestIs (unless 20 (leb count 1024) then unless 36 (leb count tables.paths)) p) Q (tested (unless 20 (leb count 1024) then unless 36 (leb count tables.paths)) p) _
    (is_tested (unless 20 (leb count 1024) then unless 36 (leb count tables.paths)) p)
    (λ u'' p' tp. is_onward (PathsIs s tables.listed count 0 p') Q (paths s tables.listed count 0 p') _ (is_paths s tables.listed count 0 p')
    (λ list t l. is_onward (NumberIs s t) Q (number s t) _ (is_number s t)
    (λ many o k'. is_onward (TestIs (marked_count n many then unless 36 (leb many tables.marked)) o) Q (tested (marked_count n many then unless 36 (leb many tables.marked)) o) _
    (is_tested (marked_count n many then unless 36 (leb many tables.marked)) o)
    (λ u''' o' to. is_onward (NumbersIs s many o') Q (repeated many (number s) o') _ (is_numbers s many o')
    (λ marked y w. is_onward (NumberIs s y) Q (number s y) _ (is_number s y)
    (λ e f q. is_onward (λ x next. Unit {0}) Q (ended s f) _ (is_any (ended s f))
    (λ v z x. found_deck s tables n a' m b' count p' t many o' y e rows list marked (h.0, ta.1 ∙ h.1) (g.0, tb.1 ∙ g.1) (le_table 11 m 16384 tables.edges tb.0)
    c r (k.0, tp.1 ∙ k.1) (le_table 20 count 1024 tables.paths tp.0) l (k'.0, to.1 ∙ k'.1) (le_marked n many tables.marked to.0) w q.0)))))))))))))

-- what the verdict says of what was read
pub read_passed : (s : List ℕ) (tables : Tables) → verdict_of (read_deck s tables) ≡ Passed → (parsed (read_deck s tables) ≡ made (deck_from s 0)) × Fits s 0 tables
read_passed s tables e = by (read_deck s tables) e (is_deck s tables)
  where
    by : (p : Parsed Deck) → verdict_of p ≡ Passed → Is (DeckIs s tables) p → (parsed p ≡ made (deck_from s 0)) × Fits s 0 tables
    by (found d at) q h = (ap made h.0, h.1)
    by (stopped r) q h = cc

pub read_refused : (p : Parsed Deck) (r : Refusal) → verdict_of p ≡ Err r → parsed p ≡ refused r
read_refused (found d at) r e = cc
read_refused (stopped q) r e = let d : q ≡ r = cc in ap refused d

-- Filling: numbers to a table.
module _ (s : List ℕ) (count i at : ℕ) where
  pub numbers_step : (l : List ℕ) (from v next : ℕ) → i < count → (v ≡ value_at s at) × (next ≡ next_at s at)
      → (numbers_end s (count - (i + 1)) next ≡ numbers_end s (count - i) at)
      × (sets (set l (from + i) v) (from + (i + 1)) (numbers_from s (count - (i + 1)) next) ≡ sets l (from + i) (numbers_from s (count - i) at))
  numbers_step l from v next h e =
      let d : count - i ≡ suc (count - (i + 1)) = omega arith in
      let f : from + (i + 1) ≡ suc (from + i) = omega arith in
      rw (d, f, e.0, e.1) (refl, refl)

-- rows to a table: one of the four, by what it holds of a row
module _ {A : Type 0} (f : EdgeRow → A) (s : List ℕ) (m i at : ℕ) where
  pub rows_step : (l l' : List A) (next : ℕ) → i < m → next ≡ edge_row_end s at → l' ≡ set l i (f (edge_row_at s at))
      → sets l' (i + 1) (map f (rows_from s (m - (i + 1)) next)) ≡ sets l i (map f (rows_from s (m - i) at))
  rows_step l l' next h e g =
      let d : m - i ≡ suc (m - (i + 1)) = omega arith in
      rw (d, e, g, add-one i)

pub rows_next : (s : List ℕ) (m i at next : ℕ) → i < m → next ≡ edge_row_end s at → rows_end s (m - (i + 1)) next ≡ rows_end s (m - i) at
rows_next s m i at next h e =
    let d : m - i ≡ suc (m - (i + 1)) = omega arith in
    rw (d, e)

-- paths to the two tables
module _ (s : List ℕ) (count k at : ℕ) (h : k < count) where
  pub paths_sum : length (edges_from s (count - k) at) ≡ value_at s at + length (edges_from s (count - (k + 1)) (counted_end s at))
  paths_sum =
      let d : count - k ≡ suc (count - (k + 1)) = omega arith in
      rw (d, length-append (numbers_from s (value_at s at) (next_at s at)) (edges_from s (count - (k + 1)) (counted_end s at)), length_numbers s (value_at s at) (next_at s at))

  pub paths_next : (next : ℕ) → next ≡ counted_end s at → paths_end s (count - (k + 1)) next ≡ paths_end s (count - k) at
  paths_next next e =
      let d : count - k ≡ suc (count - (k + 1)) = omega arith in
      rw (d, e)

  pub edges_step : (l l' : List ℕ) (from n next : ℕ) → n ≡ value_at s at → next ≡ counted_end s at → l' ≡ sets l from (numbers_from s (value_at s at) (next_at s at))
      → sets l' (from + n) (edges_from s (count - (k + 1)) next) ≡ sets l from (edges_from s (count - k) at)
  edges_step l l' from n next e g f =
      let d : count - k ≡ suc (count - (k + 1)) = omega arith in
      let b : n ≡ length (numbers_from s (value_at s at) (next_at s at)) = e ∙ sym (length_numbers s (value_at s at) (next_at s at)) in
      rw (d, f, g, b) (sym (sets_append l from (numbers_from s (value_at s at) (next_at s at)) (edges_from s (count - (k + 1)) (counted_end s at))))

  pub lengths_step : (l l' : List ℕ) (next : ℕ) → next ≡ counted_end s at → l' ≡ set l k (value_at s at)
      → sets l' (k + 1) (lengths_from s (count - (k + 1)) next) ≡ sets l k (lengths_from s (count - k) at)
  lengths_step l l' next e f =
      let d : count - k ≡ suc (count - (k + 1)) = omega arith in
      rw (d, f, e, add-one k)

-- what fits a table from its front on is placed there
pub sets_placed : {A : Type 0} (l vs : List A) → length vs ≤ length l → sets l 0 vs ≡ placed vs l
sets_placed l vs h =
    let d : 0 + length vs ≡ length vs = omega arith in
    sets-eq vs l 0 (omega arith) ∙ ap (λ (n : ℕ). vs ++ drop n l) d

-- the design's tables, placed
module _ (s : List ℕ) (from m at : ℕ) (mi : m ≡ edge_count s from) (ai : at ≡ edges_place s from) where
  pub rows_placed : {A : Type 0} (f : EdgeRow → A) (l l' : List A) → m ≤ length l → l' ≡ sets l 0 (map f (rows_from s m at)) → l' ≡ placed (map f (rows_from s (edge_count s from) (edges_place s from))) l
  rows_placed f l l' h e =
      let n : length (map f (rows_from s m at)) ≡ m = length-map (rows_from s m at) f ∙ length_rows s m at in
      e ∙ sets_placed l (map f (rows_from s m at)) (omega arith) ∙ rw (mi, ai)

  pub count_place_lem : (next : ℕ) → next ≡ rows_end s m at → next ≡ count_place s from
  unfolding count_place
  count_place_lem next e = e ∙ rw (mi, ai)

-- the list's
module _ (s : List ℕ) (from k at : ℕ) (ki : k ≡ value_at s from) (ai : at ≡ next_at s from) where
  pub listed_placed : (l l' : List ℕ) → length (edges_from s k at) ≤ length l → l' ≡ sets l 0 (edges_from s k at) → l' ≡ placed (list_from s from).edges l
  listed_placed l l' h e = e ∙ sets_placed l (edges_from s k at) h ∙ rw (ki, ai)

  pub lengths_placed : (l l' : List ℕ) → k ≤ length l → l' ≡ sets l 0 (lengths_from s k at) → l' ≡ placed (list_from s from).lengths l
  lengths_placed l l' h e =
      let n = length_lengths s k at in
      e ∙ sets_placed l (lengths_from s k at) (omega arith) ∙ rw (ki, ai)

  pub list_end_lem : (next : ℕ) → next ≡ paths_end s k at → next ≡ list_end s from
  unfolding list_end
  list_end_lem next e = e ∙ rw (ki, ai)

  pub list_fits : (listed lengths : ℕ) → (length (list_from s from).edges ≤ listed) × (value_at s from ≤ lengths) → (length (edges_from s k at) ≤ listed) × (k ≤ lengths)
  list_fits listed lengths h = rw (ki, ai) h

-- and the marked nodes
pub marked_placed : (s : List ℕ) (from at : ℕ) (ai : at ≡ list_end s from) (l l' : List ℕ) → value_at s (list_end s from) ≤ length l → l' ≡ sets l 0 (counted_from s at) → l' ≡ placed (marked_from s from) l
marked_placed s from at ai l l' h e =
    let n = length_numbers s (value_at s (list_end s from)) (next_at s (list_end s from)) in
    e ∙ rw ai (sets_placed l (marked_from s from) (omega arith))

-- The parts make the deck: the design, the lists from the place behind the design, and T from the place behind the lists.
module _ (s : List ℕ) (next : ℕ) (behind : next ≡ count_place s 0) where
  pub deck_filled : (nodes edges listed paths many t last : ℕ) (starts starts' ends ends' : List ℕ) (early early' late late' : List ℤ) (table table' lengths lengths' marked marked' : List ℕ)
      → (nodes ≡ (design_from s 0).nodes) × (edges ≡ edge_count s 0)
      → (paths ≡ value_at s next) × (listed ≡ length (list_from s next).edges) × (many ≡ value_at s (list_end s next)) × (last ≡ lists_end s next) → t ≡ value_at s last
      → (starts' ≡ placed (design_from s 0).starts starts) × (ends' ≡ placed (design_from s 0).ends ends) × (early' ≡ placed (design_from s 0).early early) × (late' ≡ placed (design_from s 0).late late)
      → (table' ≡ placed (list_from s next).edges table) × (lengths' ≡ placed (list_from s next).lengths lengths) × (marked' ≡ placed (marked_from s next) marked)
      → (let d = deck_from s 0 in (DeckFound nodes edges listed paths many t ≡ deck_answer (made d)) × (starts' ≡ placed d.design.starts starts) × (ends' ≡ placed d.design.ends ends)
      × (early' ≡ placed d.design.early early) × (late' ≡ placed d.design.late late) × (table' ≡ placed d.list.edges table) × (lengths' ≡ placed d.list.lengths lengths)
      × (marked' ≡ placed d.design.marked marked))
  unfolding deck_from
  deck_filled nodes edges listed paths many t last starts starts' ends ends' early early' late late' table table' lengths lengths' marked marked' h g q f e =
      let n : length (starts_from s (edge_count s 0) (edges_place s 0)) ≡ edge_count s 0 = length-map (rows_from s (edge_count s 0) (edges_place s 0)) (λ (r : EdgeRow). r.start) ∙ length_rows s (edge_count s 0) (edges_place s 0) in
      let p : length (lengths_from s (value_at s (count_place s 0)) (next_at s (count_place s 0))) ≡ value_at s (count_place s 0) = length_lengths s (value_at s (count_place s 0)) (next_at s (count_place s 0)) in
      let l = list_end s (count_place s 0) in
      let m : length (numbers_from s (value_at s l) (next_at s l)) ≡ value_at s l = length_numbers s (value_at s l) (next_at s l) in
      let a : DeckFound nodes edges listed paths many t ≡ deck_answer (made (deck_from s 0)) = rw (h.0, h.1, g.0, g.1, g.2, q, g.3, n, p, behind, m) in
      (a, f.0, f.1, f.2, f.3, rw (← behind) e.0, rw (← behind) e.1, rw (← behind) e.2)

-- The reader as a whole: 30, then a refusal by the look, then the deck.
module _ (s : List ℕ) (starts ends early late listed lengths marked : ℕ) where
  pub read_sizes : (r : Refusal) → edge_sizes starts ends early late ≡ Err r → deck_read s starts ends early late listed lengths marked ≡ refused r
  unfolding deck_read
  read_sizes r e = rw e

  pub read_stopped : (r : Refusal) → edge_sizes starts ends early late ≡ Passed → verdict_of (read_deck s (record { edges = starts; listed = listed; paths = lengths; marked = marked })) ≡ Err r
      → deck_read s starts ends early late listed lengths marked ≡ refused r
  unfolding deck_read
  read_stopped r e f = rw e (read_refused (read_deck s (record { edges = starts; listed = listed; paths = lengths; marked = marked })) r f)

  pub read_made : edge_sizes starts ends early late ≡ Passed → verdict_of (read_deck s (record { edges = starts; listed = listed; paths = lengths; marked = marked })) ≡ Passed
      → deck_read s starts ends early late listed lengths marked ≡ made (deck_from s 0)
  unfolding deck_read
  read_made e f = rw e (read_passed s (record { edges = starts; listed = listed; paths = lengths; marked = marked }) f).0

-- the answer and the tables
module _ (starts ends : List ℕ) (early late : List ℤ) (listed lengths marked : List ℕ) (o : Outcome Deck) where
  pub tables_kept : (r : Refusal) → o ≡ refused r
      → (Err r ≡ deck_answer o) × (starts ≡ filled (λ d. d.design.starts) o starts) × (ends ≡ filled (λ d. d.design.ends) o ends) × (early ≡ filled (λ d. d.design.early) o early)
      × (late ≡ filled (λ d. d.design.late) o late) × (listed ≡ filled (λ d. d.list.edges) o listed) × (lengths ≡ filled (λ d. d.list.lengths) o lengths)
      × (marked ≡ filled (λ d. d.design.marked) o marked)
  tables_kept r e = rw e (refl, refl, refl, refl, refl, refl, refl, refl)

  pub tables_filled : (d : Deck) (answer : Result DeckCounts Refusal) (starts' ends' : List ℕ) (early' late' : List ℤ) (listed' lengths' marked' : List ℕ) → o ≡ made d
      → (answer ≡ deck_answer (made d)) × (starts' ≡ placed d.design.starts starts) × (ends' ≡ placed d.design.ends ends) × (early' ≡ placed d.design.early early)
      × (late' ≡ placed d.design.late late) × (listed' ≡ placed d.list.edges listed) × (lengths' ≡ placed d.list.lengths lengths)
      × (marked' ≡ placed d.design.marked marked)
      → (answer ≡ deck_answer o) × (starts' ≡ filled (λ d. d.design.starts) o starts) × (ends' ≡ filled (λ d. d.design.ends) o ends) × (early' ≡ filled (λ d. d.design.early) o early)
      × (late' ≡ filled (λ d. d.design.late) o late) × (listed' ≡ filled (λ d. d.list.edges) o listed) × (lengths' ≡ filled (λ d. d.list.lengths) o lengths)
      × (marked' ≡ filled (λ d. d.design.marked) o marked)
  tables_filled d answer starts' ends' early' late' listed' lengths' marked' e f = rw e f
