-- How far a reader gets, whatever it finds.
use Prim.Native.Nat.{ℕ, suc, ◌+◌, ◌-◌, ◌*◌, ◌≤◌, ◌<◌}
use native.Mathlib.Omega.{arith}
use mathlib.Core.Path.{◌≡◌, refl, sym, ◌∙◌, ap}
use mathlib.Core.List.{List, ◌∷◌, ◌++◌}
use Rattle.std.specs.Prelude.{Result, Ok, Err}
use Rattle.timing.specs.Answers.{Verdict, Passed, Value}
use Rattle.timing.specs.declared.Taken.{Taken}
use lib.Dec.{leb}
use borrow.Author.Tests.{leb-true}
use Rattle.timing.specs.declared.Refusal.{Refusal}
use Rattle.timing.specs.Marks.{PathList, path_list}
use Rattle.timing.specs.Numbers.{read_number}
use Rattle.timing.specs.Refusals.{unless, ◌then◌}
use Rattle.timing.specs.Parsing.{Parsed, found, stopped, Reader, onward, ◌>>=◌, ◌>>◌, return, tested, parsed_number, number, repeated, ended}
use Rattle.timing.specs.Tests.{marked_count}
use Rattle.timing.specs.Decks.{Deck, Tables, edge_row, design_of, paths, read_deck}
use Rattle.timing.specs.Looks.{looked, number_of, value_of, next_of, value_at}
use Rattle.deck_reader.specs.Reading.{verdict_of, behind_look, nodes_in, count_in, path_in, edges_in, design_in, list_in, marked_count_in, marked_in, lists_in, tail_in}
use Rattle.timing.proofs.Verdicts.{then_passed, unless_passed}
use Rattle.packed_lists.proofs.Looking.{looked_made, Spans, spans_number, spans_rows}

-- a reader that goes on, from where the one before it stopped
verdict_onward : {A B C : Type 0} (p : Parsed A) (f : A → Reader B) (g : A → Reader C) → ((x : A) (at : ℕ) → verdict_of (f x at) ≡ verdict_of (g x at)) → verdict_of (onward p f) ≡ verdict_of (onward p g)
verdict_onward (found x at) f g h = h x at
verdict_onward (stopped r) f g h = refl

pub onward_assoc : {A B C : Type 0} (p : Parsed A) (f : A → Reader B) (g : B → Reader C) → onward (onward p f) g ≡ onward p (λ x at. onward (f x at) g)
onward_assoc (found x at) f g = refl
onward_assoc (stopped r) f g = refl

-- A count: what its tests say.
pub count_passed : (test sum n limit table : ℕ) → (unless test (leb (sum + n) limit) then unless 36 (leb (sum + n) table)) ≡ Passed → (sum + n ≤ limit) × (sum + n ≤ table)
count_passed test sum n limit table e =
    let p = then_passed (unless test (leb (sum + n) limit)) (unless 36 (leb (sum + n) table)) e in
    (leb-true (sum + n) limit (unless_passed test (leb (sum + n) limit) p.0), leb-true (sum + n) table (unless_passed 36 (leb (sum + n) table) p.1))

-- a length that passed its tests leaves the sum small
pub path_small : (s : List ℕ) (table sum at v next : ℕ) → number_of (path_in s table sum at) ≡ Value v next → sum + v ≤ 8192
path_small s table sum at v next e = one (read_number s at) e
  where
    kept : (n : ℕ) (p : Parsed (List ℕ)) → number_of (onward p (λ xs. return n)) ≡ Value v next → n ≡ v
    kept n (found xs a) q = ap value_of q
    kept n (stopped r) q = cc

    two : (n a : ℕ) (w : Verdict) → (unless 21 (leb (sum + n) 8192) then unless 36 (leb (sum + n) table)) ≡ w
        → number_of (onward (onward (tested w a) (λ u. return n)) (λ n. repeated n (number s) >>= (λ p. return n))) ≡ Value v next → sum + v ≤ 8192
    two n a Passed f q =
        let k = kept n (repeated n (number s) a) q in
        omega (arith, count_passed 21 sum n 8192 table f)
    two n a (Err r) f q = cc

    one : (r : Result Taken Refusal) → number_of (onward (onward (parsed_number r) (λ n. tested (unless 21 (leb (sum + n) 8192) then unless 36 (leb (sum + n) table)) >> return n)) (λ n. repeated n (number s) >>= (λ p. return n))) ≡ Value v next → sum + v ≤ 8192
    one (Ok t) q = two t.value t.next (unless 21 (leb (sum + t.value) 8192) then unless 36 (leb (sum + t.value) table)) refl q
    one (Err r) q = cc

-- Paths: the first, then the rest from the sum on.
path_first : (r : Result Taken Refusal) (test : ℕ → Verdict) (edges : ℕ → Reader (List ℕ)) (rest : ℕ → Reader PathList)
    → looked (onward (parsed_number r) (λ n. tested (test n) >> (edges n >>= (λ p. rest n >>= (λ l. return (path_list (p ++ l.edges) (n ∷ l.lengths)))))))
    ≡ looked (onward (onward (onward (parsed_number r) (λ n. tested (test n) >> return n)) (λ n. edges n >>= (λ p. return n))) rest)
path_first (Err q) test edges rest = refl
path_first (Ok t) test edges rest = two (test t.value)
  where
    three : (q : Parsed (List ℕ)) → looked (onward q (λ p. rest t.value >>= (λ l. return (path_list (p ++ l.edges) (t.value ∷ l.lengths))))) ≡ looked (onward (onward q (λ p. return t.value)) rest)
    three (found p a) = looked_made (rest t.value a) (λ (l : PathList). path_list (p ++ l.edges) (t.value ∷ l.lengths))
    three (stopped e) = refl

    two : (w : Verdict) → looked (onward (tested w t.next) (λ u. edges t.value >>= (λ p. rest t.value >>= (λ l. return (path_list (p ++ l.edges) (t.value ∷ l.lengths))))))
        ≡ looked (onward (onward (onward (tested w t.next) (λ u. return t.value)) (λ n. edges n >>= (λ p. return n))) rest)
    two Passed = three (edges t.value t.next)
    two (Err e) = refl

pub paths_first : (s : List ℕ) (table k sum at : ℕ) → looked (paths s table (suc k) sum at) ≡ looked (onward (path_in s table sum at) (λ n. paths s table k (sum + n)))
paths_first s table k sum at = path_first (read_number s at) (λ n. unless 21 (leb (sum + n) 8192) then unless 36 (leb (sum + n) table)) (λ n. repeated n (number s)) (λ n. paths s table k (sum + n))

pub paths_turn : (s : List ℕ) (table count k sum at v next : ℕ) → k < count → number_of (path_in s table sum at) ≡ Value v next
    → looked (paths s table (count - (k + 1)) (sum + v) next) ≡ looked (paths s table (count - k) sum at)
paths_turn s table count k sum at v next h e =
    let d : count - k ≡ suc (count - (k + 1)) = omega arith in
    rw d (by (path_in s table sum at) e ∙ sym (paths_first s table (count - (k + 1)) sum at))
  where
    by : (p : Parsed ℕ) → number_of p ≡ Value v next → looked (paths s table (count - (k + 1)) (sum + v) next) ≡ looked (onward p (λ n. paths s table (count - (k + 1)) (sum + n)))
    by (found n a) q =
        let f : v ≡ n = sym (ap value_of q) in
        let g : next ≡ a = sym (ap (next_of 0) q) in
        rw (f, g)
    by (stopped r) q = cc

-- what stands behind a count, by what the look at the count answered
number_at : {B : Type 0} (p : Parsed ℕ) (f : ℕ → Reader B) (n at : ℕ) (l : Result ℕ Refusal) → number_of p ≡ Value n at → l ≡ looked (f n at) → l ≡ looked (onward p f)
number_at (found x a) f n at l q g =
    let d : n ≡ x = sym (ap value_of q) in
    let b : at ≡ a = sym (ap (next_of 0) q) in
    rw (← d, ← b) g
number_at (stopped r) f n at l q g = cc

-- the edges, whose rows were looked at as numbers
edge_spans : (s : List ℕ) → Spans s 4 (edge_row s)
edge_spans s = spans_number s 3 _ (λ a. spans_number s 2 _ (λ b. spans_number s 1 _ (λ c. spans_number s 0 _ (λ d at. refl))))

pub edges_at : (s : List ℕ) (table at m next : ℕ) (l : Result ℕ Refusal) → number_of (count_in s 0 11 16384 table at) ≡ Value m next → l ≡ looked (repeated (4 * m) (number s) next) → l ≡ looked (edges_in s table at)
edges_at s table at m next l e h =
    number_at (count_in s 0 11 16384 table at) (λ m. repeated m (edge_row s)) m next l e (h ∙ sym (spans_rows s 4 (edge_row s) (edge_spans s) m next))

-- The look at the whole is the reader's verdict.
-- what stands behind a part, by what the look at the part answered
behind : {A B : Type 0} (p : Parsed A) (f : Reader B) (at : ℕ) → looked p ≡ Ok at → verdict_of (f at) ≡ verdict_of (onward p (λ x. f))
behind (found x a) f at q = let b : at ≡ a = cc in rw b
behind (stopped r) f at q = cc

behind_none : {A B : Type 0} (p : Parsed A) (f : Reader B) (r : Refusal) → looked p ≡ Err r → Err r ≡ verdict_of (onward p (λ x. f))
behind_none (found x a) f r q = cc
behind_none (stopped r') f r q = cc

counted : {A B : Type 0} (s : List ℕ) (test limit table at : ℕ) (f : ℕ → Reader A) (g : ℕ → Reader B) → ((n a : ℕ) → verdict_of (f n a) ≡ verdict_of (g n a))
    → verdict_of (onward (count_in s 0 test limit table at) f) ≡ verdict_of (onward (number s at) (λ n. tested (unless test (leb n limit) then unless 36 (leb n table)) >> g n))
counted {A} {B} s test limit table at f g h = one (read_number s at)
  where
    two : (n a : ℕ) (w : Verdict) → verdict_of (onward (onward (tested w a) (λ u. return n)) f) ≡ verdict_of (onward (tested w a) (λ u. g n))
    two n a Passed = h n a
    two n a (Err r) = refl

    one : (r : Result Taken Refusal) → verdict_of (onward (onward (parsed_number r) (λ n. tested (unless test (leb (0 + n) limit) then unless 36 (leb (0 + n) table)) >> return n)) f)
        ≡ verdict_of (onward (parsed_number r) (λ n. tested (unless test (leb n limit) then unless 36 (leb n table)) >> g n))
    one (Ok t) =
        let n = t.value in
        let d : 0 + n ≡ n = omega arith in
        rw d (two n t.next (unless test (leb n limit) then unless 36 (leb n table)))
    one (Err r) = refl

-- a number with a test of its own, which is the number that stands there
judged : {A B : Type 0} (s : List ℕ) (at : ℕ) (test : ℕ → Verdict) (f : ℕ → Reader A) (g : ℕ → Reader B) → ((n a : ℕ) → value_at s at ≡ n → verdict_of (f n a) ≡ verdict_of (g n a))
    → verdict_of (onward (onward (number s at) (λ n. tested (test n) >> return n)) f) ≡ verdict_of (onward (number s at) (λ n. tested (test n) >> g n))
unfolding value_at
judged {A} {B} s at test f g h = one (read_number s at) refl
  where
    two : (n a : ℕ) (w : Verdict) → value_of (read_number s at) ≡ n → verdict_of (onward (onward (tested w a) (λ u. return n)) f) ≡ verdict_of (onward (tested w a) (λ u. g n))
    two n a Passed e = h n a e
    two n a (Err r) e = refl

    one : (r : Result Taken Refusal) → read_number s at ≡ r → verdict_of (onward (onward (parsed_number r) (λ n. tested (test n) >> return n)) f) ≡ verdict_of (onward (parsed_number r) (λ n. tested (test n) >> g n))
    one (Ok t) q = two t.value t.next (test t.value) (ap value_of q)
    one (Err r) q = refl

tail_made : {A : Type 0} (s : List ℕ) (at : ℕ) (f : ℕ → A) → verdict_of (tail_in s at) ≡ verdict_of ((number s >>= (λ t. ended s >> return (f t))) at)
tail_made {A} s at f = verdict_onward (number s at) (λ t. ended s) (λ t. ended s >> return (f t)) (λ t a. by t (ended s a))
  where
    by : (t : ℕ) (p : Parsed (Unit {0})) → verdict_of p ≡ verdict_of (onward p (λ u. return (f t)))
    by t (found u a) = refl
    by t (stopped r) = refl

-- the reader's rest behind the edges, for the deck that it makes with these
abbrev rest_reader : List ℕ → Tables → ℕ → (PathList → List ℕ → ℕ → Deck) → Reader Deck
rest_reader s tables n f = do
  count ← number s
  tested (unless 20 (leb count 1024) then unless 36 (leb count tables.paths))
  list ← paths s tables.listed count 0
  k ← number s
  tested (marked_count n k then unless 36 (leb k tables.marked))
  marked ← repeated k (number s)
  allowed ← number s
  ended s
  return (f list marked allowed)

rest_made : (s : List ℕ) (tables : Tables) (n : ℕ) (f : PathList → List ℕ → ℕ → Deck) (at : ℕ)
    → verdict_of ((lists_in s n tables.listed tables.paths tables.marked >>= (λ marked. tail_in s)) at) ≡ verdict_of (rest_reader s tables n f at)
rest_made s tables n f at =
    ap verdict_of (onward_assoc (list_in s tables.listed tables.paths at) (λ list. marked_in s n tables.marked) (λ marked. tail_in s))
    ∙ ap verdict_of (onward_assoc (count_in s 0 20 1024 tables.paths at) (λ count. paths s tables.listed count 0) (λ list. marked_in s n tables.marked >>= (λ marked. tail_in s)))
    ∙ counted s 20 1024 tables.paths at _ _
    (λ count b. verdict_onward (paths s tables.listed count 0 b) _ _
    (λ list c. ap verdict_of (onward_assoc (marked_count_in s n tables.marked c) (λ k. repeated k (number s)) (λ marked. tail_in s))
    ∙ judged s c (λ k. marked_count n k then unless 36 (leb k tables.marked)) _ _
    (λ k d e. verdict_onward (repeated k (number s) d) _ _ (λ marked g. tail_made s g (f list marked)))))

module _ (s : List ℕ) (tables : Tables) where
  abbrev lists_reader : ℕ → Reader (List ℕ)
  lists_reader n = lists_in s n tables.listed tables.paths tables.marked

  -- the lists, T and the end
  abbrev rest_look : Reader (Unit {0})
  rest_look = lists_reader (value_at s 0) >>= (λ l. tail_in s)

  look_whole : verdict_of (onward (design_in s tables.edges 0) (λ d. rest_look)) ≡ verdict_of (read_deck s tables)
  unfolding read_deck
  look_whole =
      ap verdict_of (onward_assoc (nodes_in s 0) (λ n. edges_in s tables.edges) (λ rows. rest_look))
      ∙ judged s 0 (λ n. unless 10 (leb n 4096)) _ _
      (λ n a e. ap verdict_of (onward_assoc (count_in s 0 11 16384 tables.edges a) (λ m. repeated m (edge_row s)) (λ rows. rest_look)) ∙ counted s 11 16384 tables.edges a _ _
      (λ m b. verdict_onward (repeated m (edge_row s) b) _ _
      (λ rows c. ap (λ (k : ℕ). verdict_of ((lists_reader k >>= (λ l. tail_in s)) c)) e
      ∙ rest_made s tables n (λ list marked allowed. record { design = design_of n rows marked; list = list; allowed = allowed }) c)))

  pub look_stop : (r : Refusal) → looked (design_in s tables.edges 0) ≡ Err r → Err r ≡ verdict_of (read_deck s tables)
  look_stop r e = behind_none (design_in s tables.edges 0) rest_look r e ∙ look_whole

  module _ (at : ℕ) (e : looked (design_in s tables.edges 0) ≡ Ok at) where
    pub look_stop_lists : (r : Refusal) → looked (lists_reader (value_at s 0) at) ≡ Err r → Err r ≡ verdict_of (read_deck s tables)
    look_stop_lists r f =
        behind_none (lists_reader (value_at s 0) at) (tail_in s) r f
        ∙ behind (design_in s tables.edges 0) rest_look at e
        ∙ look_whole

    pub look_rest : (next : ℕ) → looked (lists_reader (value_at s 0) at) ≡ Ok next → verdict_of (tail_in s next) ≡ verdict_of (read_deck s tables)
    look_rest next f =
        behind (lists_reader (value_at s 0) at) (tail_in s) next f
        ∙ behind (design_in s tables.edges 0) rest_look at e
        ∙ look_whole

-- the look, part by part, is the reader's verdict
pub look_is : (s : List ℕ) (tables : Tables)
    → behind_look (looked (design_in s tables.edges 0)) (λ at. behind_look (looked (lists_in s (value_at s 0) tables.listed tables.paths tables.marked at)) (λ next. verdict_of (tail_in s next)))
    ≡ verdict_of (read_deck s tables)
look_is s tables = by_design (looked (design_in s tables.edges 0)) refl
  where
    by_lists : (at : ℕ) → looked (design_in s tables.edges 0) ≡ Ok at → (l : Result ℕ Refusal) → looked (lists_in s (value_at s 0) tables.listed tables.paths tables.marked at) ≡ l
        → behind_look l (λ next. verdict_of (tail_in s next)) ≡ verdict_of (read_deck s tables)
    by_lists at e (Ok next) f = look_rest s tables at e next f
    by_lists at e (Err r) f = look_stop_lists s tables at e r f

    by_design : (d : Result ℕ Refusal) → looked (design_in s tables.edges 0) ≡ d
        → behind_look d (λ at. behind_look (looked (lists_in s (value_at s 0) tables.listed tables.paths tables.marked at)) (λ next. verdict_of (tail_in s next))) ≡ verdict_of (read_deck s tables)
    by_design (Ok at) e = by_lists at e (looked (lists_in s (value_at s 0) tables.listed tables.paths tables.marked at)) refl
    by_design (Err r) e = look_stop s tables r e
