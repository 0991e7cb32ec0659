-- How far a reader gets, whatever it finds.
use Prim.Native.Nat.{ℕ, zero, suc, ◌*◌, ◌≤◌, ◌<◌}
use mathlib.Core.Path.{◌≡◌, refl, sym, ◌∙◌, ap}
use mathlib.Core.List.{List, [], ◌∷◌}
use Rattle.std.specs.Prelude.{Result, Ok, Err}
use Rattle.timing.specs.Answers.{Verdict, Passed, Counts, Value}
use Rattle.timing.specs.declared.Taken.{Taken}
use lib.Dec.{leb}
use lib.ListN.{length, length-map}
use borrow.Author.Tests.{le-leb, lt-leb}
use Rattle.timing.specs.declared.Refusal.{Refusal}
use Rattle.timing.specs.Graphs.{Edge, edge, Graph}
use Rattle.timing.specs.Numbers.{read_number}
use Rattle.timing.specs.GraphBytes.{CopyRow, copy_row, graph_from, read_graph}
use Rattle.timing.specs.Refusals.{refusal, unless, ◌then◌}
use Rattle.timing.specs.Parsing.{Parsed, found, stopped, Reader, onward, ◌>>=◌, ◌>>◌, return, tested, parsed_number, number, repeated, Row, row, ended}
use Rattle.timing.specs.Calls.{parsed, graph_answer}
use Rattle.timing.specs.Looks.{looked, number_of, value_of, next_of}
use Rattle.packed_lists.proofs.Looking.{rows_numbers}
use Rattle.graph_reader.specs.Reading.{count_in, edges_in, made_of}

-- What a look says of what was found.
pub number_is : {n at : ℕ} (p : Parsed ℕ) → number_of p ≡ Value n at → p ≡ found n at
number_is {n} {at} (found x a) q =
    let d : x ≡ n = ap value_of q in
    let b : a ≡ at = ap (next_of 0) q in
    rw (d, b)
number_is (stopped r) q = cc

pub number_no : {r : Refusal} (p : Parsed ℕ) → number_of p ≡ Err r → p ≡ stopped r
number_no (found x a) q = cc
number_no {r} (stopped r') q = cc

module _ {A : Type 0} where
  pub looked_is : {at : ℕ} (p : Parsed A) → looked p ≡ Ok at → (x : A) × (p ≡ found x at)
  looked_is {at} (found x a) q = let d : a ≡ at = cc in (x, rw d)
  looked_is (stopped r) q = cc

  pub looked_no : {r : Refusal} (p : Parsed A) → looked p ≡ Err r → p ≡ stopped r
  looked_no (found x a) q = cc
  looked_no {r} (stopped r') q = cc

-- The edges, and 3. Their rows were looked at as numbers.
module _ (s : List ℕ) (edges at m next : ℕ) (e : number_of (count_in s 65536 34 edges at) ≡ Value m next) where
  pub edges_end : (n after : ℕ) → looked (repeated (3 * m) (number s) next) ≡ Ok after → length s ≤ after → Counts n m ≡ made_of n (edges_in s edges at)
  edges_end n after f h =
      let r = looked_is (repeated m (row s) next) (sym (rows_numbers s m next) ∙ f) in
      rw (number_is (count_in s 65536 34 edges at) e, r.1, le-leb (length s) after h)

  pub edges_more : (n after : ℕ) → looked (repeated (3 * m) (number s) next) ≡ Ok after → after < length s → Err (refusal 3 after) ≡ made_of n (edges_in s edges at)
  edges_more n after f h =
      let r = looked_is (repeated m (row s) next) (sym (rows_numbers s m next) ∙ f) in
      rw (number_is (count_in s 65536 34 edges at) e, r.1, lt-leb (length s) after h)

  pub edges_stop : (n : ℕ) (q : Refusal) → looked (repeated (3 * m) (number s) next) ≡ Err q → Err q ≡ made_of n (edges_in s edges at)
  edges_stop n q f = rw (number_is (count_in s 65536 34 edges at) e, looked_no (repeated m (row s) next) (sym (rows_numbers s m next) ∙ f))

-- k things are k
pub repeated_length : {A : Type 0} (p : Reader A) (k at : ℕ) → (xs : List A) (a : ℕ) → repeated k p at ≡ found xs a → length xs ≡ k
repeated_length p zero at xs a e = let d : xs ≡ [] = cc in rw d
repeated_length {A} p (suc k) at xs a e = one (p at) e (λ b. repeated_length p k b)
  where
    two : (x : A) (q : Parsed (List A)) → onward q (λ ys b. found (x ∷ ys) b) ≡ found xs a → ((ys : List A) (b : ℕ) → q ≡ found ys b → length ys ≡ k) → length xs ≡ suc k
    two x (found ys b) f below =
        let d : xs ≡ x ∷ ys = cc in
        rw d (ap suc (below ys b refl))
    two x (stopped r) f below = cc

    one : (q : Parsed A) → onward q (λ x. repeated k p >>= (λ ys. return (x ∷ ys))) ≡ found xs a → ((b : ℕ) (ys : List A) (c : ℕ) → repeated k p b ≡ found ys c → length ys ≡ k) → length xs ≡ suc k
    one (found x b) f below = two x (repeated k p b) f (below b)
    one (stopped r) f below = cc

-- The whole graph: its copies, and then its edges.
abbrev pub edge_of_row : Row → Edge
edge_of_row r = edge r.first r.second r.third

-- the reader's edges, for the graph that they make with some copies
abbrev pub edges_reader : List ℕ → ℕ → List CopyRow → Reader Graph
edges_reader s edges copies = do
  m ← number s
  tested (unless 32 (leb m 65536) then unless 34 (leb m edges))
  rows ← repeated m (row s)
  ended s
  return (graph_from copies rows)

edges_made : (s : List ℕ) (edges at n : ℕ) (copies : List CopyRow) → length copies ≡ n → graph_answer (parsed (edges_reader s edges copies at)) ≡ made_of n (edges_in s edges at)
edges_made s edges at n copies l = one (read_number s at)
  where
    four : (m : ℕ) (rows : List Row) (p : Parsed (Unit {0})) → length rows ≡ m
        → graph_answer (parsed (onward p (λ u. return (graph_from copies rows)))) ≡ made_of n (onward p (λ u. return m))
    four m rows (found u a) k = rw (length-map rows edge_of_row, k, length-map copies (λ q. q.node), l)
    four m rows (stopped r) k = refl

    three : (m : ℕ) (p : Parsed (List Row)) → ((rows : List Row) (a : ℕ) → p ≡ found rows a → length rows ≡ m)
        → graph_answer (parsed (onward p (λ rows. ended s >> return (graph_from copies rows)))) ≡ made_of n (onward p (λ rows. ended s >> return m))
    three m (found rows a) k = four m rows (ended s a) (k rows a refl)
    three m (stopped r) k = refl

    two : (m a : ℕ) (v : Verdict)
        → graph_answer (parsed (onward (tested v a) (λ u. repeated m (row s) >>= (λ rows. ended s >> return (graph_from copies rows)))))
        ≡ made_of n (onward (onward (tested v a) (λ u. return m)) (λ m. repeated m (row s) >>= (λ rows. ended s >> return m)))
    two m a Passed = three m (repeated m (row s) a) (repeated_length (row s) m a)
    two m a (Err r) = refl

    one : (r : Result Taken Refusal)
        → graph_answer (parsed (onward (parsed_number r) (λ m. tested (unless 32 (leb m 65536) then unless 34 (leb m edges)) >> (repeated m (row s) >>= (λ rows. ended s >> return (graph_from copies rows))))))
        ≡ made_of n (onward (onward (parsed_number r) (λ m. tested (unless 32 (leb m 65536) then unless 34 (leb m edges)) >> return m)) (λ m. repeated m (row s) >>= (λ rows. ended s >> return m)))
    one (Ok t) = two t.value t.next (unless 32 (leb t.value 65536) then unless 34 (leb t.value edges))
    one (Err r) = refl

-- a count that passed, and what the reader does with it
pub count_parts : (s : List ℕ) (limit full room at n next : ℕ) → count_in s limit full room at ≡ found n next
    → (read_number s at ≡ Value n next) × ((unless 32 (leb n limit) then unless full (leb n room)) ≡ Passed)
count_parts s limit full room at n next e = one (read_number s at) refl e
  where
    two : (m a : ℕ) (v : Verdict) → read_number s at ≡ Value m a → (unless 32 (leb m limit) then unless full (leb m room)) ≡ v → onward (tested v a) (λ u. return m) ≡ found n next
        → (read_number s at ≡ Value n next) × ((unless 32 (leb n limit) then unless full (leb n room)) ≡ Passed)
    two m a Passed q t f =
        let d : m ≡ n = cc in
        let b : a ≡ next = cc in
        (q ∙ rw (d, b), rw d at t)
    two m a (Err r) q t f = cc

    one : (r : Result Taken Refusal) → read_number s at ≡ r → onward (parsed_number r) (λ m. tested (unless 32 (leb m limit) then unless full (leb m room)) >> return m) ≡ found n next
        → (read_number s at ≡ Value n next) × ((unless 32 (leb n limit) then unless full (leb n room)) ≡ Passed)
    one (Ok t) q f = two t.value t.next (unless 32 (leb t.value limit) then unless full (leb t.value room)) q refl f
    one (Err r) q f = cc

counted : {B : Type 0} (s : List ℕ) (limit full room at : ℕ) (r : Refusal) (f : ℕ → Reader B) → count_in s limit full room at ≡ stopped r
    → onward (number s at) (λ n. tested (unless 32 (leb n limit) then unless full (leb n room)) >> f n) ≡ stopped r
counted {B} s limit full room at r f e = one (read_number s at) e
  where
    two : (m a : ℕ) (v : Verdict) → onward (tested v a) (λ u. return m) ≡ stopped r → onward (tested v a) (λ u. f m) ≡ stopped r
    two m a Passed q = cc
    two m a (Err r') q = cc

    one : (q : Result Taken Refusal) → onward (parsed_number q) (λ m. tested (unless 32 (leb m limit) then unless full (leb m room)) >> return m) ≡ stopped r
        → onward (parsed_number q) (λ n. tested (unless 32 (leb n limit) then unless full (leb n room)) >> f n) ≡ stopped r
    one (Ok t) q = two t.value t.next (unless 32 (leb t.value limit) then unless full (leb t.value room)) q
    one (Err r') q = cc

-- what the reader answers, by what the looks do
module _ (s : List ℕ) (copies edges n next : ℕ) (e : number_of (count_in s 16384 33 copies 0) ≡ Value n next) where
  pub graph_rest : (after : ℕ) → looked (repeated n (copy_row s) next) ≡ Ok after → made_of n (edges_in s edges after) ≡ graph_answer (parsed (read_graph s copies edges))
  unfolding read_graph
  graph_rest after f =
      let p = count_parts s 16384 33 copies 0 n next (number_is (count_in s 16384 33 copies 0) e) in
      let r = looked_is (repeated n (copy_row s) next) f in
      rw (p.0, p.1, r.1) (sym (edges_made s edges after n r.0 (repeated_length (copy_row s) n next r.0 after r.1)))

  pub graph_stop : (q : Refusal) → looked (repeated n (copy_row s) next) ≡ Err q → Err q ≡ graph_answer (parsed (read_graph s copies edges))
  unfolding read_graph
  graph_stop q f =
      let p = count_parts s 16384 33 copies 0 n next (number_is (count_in s 16384 33 copies 0) e) in
      rw (p.0, p.1, looked_no (repeated n (copy_row s) next) f)

pub graph_none : (s : List ℕ) (copies edges : ℕ) (q : Refusal) → number_of (count_in s 16384 33 copies 0) ≡ Err q → Err q ≡ graph_answer (parsed (read_graph s copies edges))
unfolding read_graph
graph_none s copies edges q e = rw (counted s 16384 33 copies 0 q (λ n. repeated n (copy_row s) >>= edges_reader s edges) (number_no (count_in s 16384 33 copies 0) e))
