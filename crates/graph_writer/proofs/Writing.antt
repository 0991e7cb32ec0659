-- The numbers of a graph, one after the other: what is left to be written, how many bytes they take, and the writer's tests.
use Prim.Native.Nat.{ℕ, ◌+◌, ◌*◌, ◌≤◌, ◌<◌}
use native.Mathlib.Omega.{arith}
use native.Mathlib.Numerals.{add-one}
use mathlib.Core.Path.{◌≡◌, refl, sym, ◌∙◌, ap}
use mathlib.Core.Bool.{◌&&◌}
use mathlib.Core.List.{List, [], ◌∷◌, ◌++◌, flat_map, append_assoc}
use Rattle.std.specs.Prelude.{Ok, Err}
use Rattle.timing.specs.Answers.{Verdict, Passed}
use lib.Dec.{leb, leb→le}
use lib.ListN.{length, get_or, drop, drop_of_length-le}
use lib.Seq.{sets, drop-cons}
use Rattle.timing.specs.WellFormed.{zero_or_one}
use Rattle.timing.specs.Graphs.{Graph, edges_of}
use Rattle.timing.specs.GraphBytes.{copy_numbers, graph_numbers, packed_graph}
use Rattle.timing.specs.Refusals.{◌then◌}
use Rattle.timing.specs.Refusals.{unless as passed_if}
use Rattle.timing.specs.Tests.{room_sizes}
use Rattle.timing.specs.Calls.{graph_slices, graph_of, room_of, writing, room_after_writing, graph_write_tests}
use Rattle.theorems.proofs.Lists.{and_left, and_right, holds, length_edges}
use Rattle.timing.proofs.Verdicts.{then_passed, unless_passed, room_passed}
use Rattle.packed_lists.specs.Writing.{bytes_of, size, Wrote}
use Rattle.packed_lists.proofs.Writing.{size_append, size_cons, size_none}
use Rattle.timing.specs.Numbers.{packed}
use Rattle.packed.proofs.Numbers.{packed_size}
use Rattle.packed_lists.proofs.Sizes.{size_most}
use Rattle.packed.proofs.Rooms.{written_sets, answer_fits}
use Rattle.graph_writer.specs.Writing.{Fits, rows_of, rows_from}

-- the copies, and the rows of three, from a place on
pub copies_turn : (s t : List ℕ) (k : ℕ) → k < length s → k < length t
    → copy_numbers (drop k s) (drop k t) ≡ (get_or s k 0 ∷ get_or t k 0 ∷ []) ++ copy_numbers (drop (k + 1) s) (drop (k + 1) t)
copies_turn s t k f g = rw (drop-cons s k 0 f, drop-cons t k 0 g, add-one k)

pub copies_done : (s t : List ℕ) (k : ℕ) → length s ≤ k → copy_numbers (drop k s) (drop k t) ≡ []
copies_done s t k h = rw (drop_of_length-le s h)

pub rows_turn : (s t n : List ℕ) (k : ℕ) → k < length s → k < length t → k < length n
    → rows_from k s t n ≡ (get_or s k 0 ∷ get_or t k 0 ∷ get_or n k 0 ∷ []) ++ rows_from (k + 1) s t n
unfolding flat_map
rows_turn s t n k f g h = rw (drop-cons s k 0 f, drop-cons t k 0 g, drop-cons n k 0 h, add-one k)

pub rows_done : (s t n : List ℕ) (k : ℕ) → length s ≤ k → rows_from k s t n ≡ []
unfolding flat_map
rows_done s t n k h = rw (drop_of_length-le s h)

-- The numbers of a graph whose slices of edges are as long as each other.
module _ (nodes endpoint from to via : List ℕ) (e : length to ≡ length from) (f : length via ≡ length from) where
  pub edge_count_lem : length (edges_of from to via) ≡ length from
  edge_count_lem = omega (arith, length_edges from to via)

  pub graph_numbers_lem : graph_numbers (graph_of (graph_slices nodes endpoint from to via))
      ≡ (length nodes ∷ []) ++ copy_numbers nodes endpoint ++ (length from ∷ []) ++ rows_of from to via
  unfolding graph_numbers
  graph_numbers_lem = rw edge_count_lem (ap (λ (l : List ℕ). length nodes ∷ l) (sym (append_assoc (copy_numbers nodes endpoint) (length from ∷ []) (rows_of from to via))))

  pub size_graph : size (length nodes ∷ copy_numbers nodes endpoint) + size (length from ∷ rows_of from to via)
      ≡ length (packed_graph (graph_of (graph_slices nodes endpoint from to via)))
  unfolding packed_graph graph_numbers bytes_of
  size_graph = rw edge_count_lem (sym (size_append (length nodes ∷ copy_numbers nodes endpoint) (length from ∷ rows_of from to via)))

-- How many bytes they take, and at most.
pub number_most : (x : ℕ) → length (packed x) ≤ 5
number_most x = (packed_size 4 x).1

pub size_copies : (s t : List ℕ) → length t ≡ length s → size (copy_numbers s t) ≡ size s + size t
unfolding flat_map
size_copies [] [] e = omega (arith, size_none)
size_copies [] (y ∷ t) e = absurd (omega arith)
size_copies (x ∷ s) [] e = absurd (omega arith)
size_copies (x ∷ s) (y ∷ t) e =
    omega (arith, size_cons x (y ∷ copy_numbers s t), size_cons y (copy_numbers s t), size_cons x s, size_cons y t, size_copies s t (omega arith))

pub size_rows : (s t n : List ℕ) → length t ≡ length s → length n ≡ length s → size (rows_of s t n) ≡ size s + size t + size n
unfolding flat_map
size_rows [] [] [] e f = omega (arith, size_none)
size_rows [] (y ∷ t) n e f = absurd (omega arith)
size_rows [] [] (z ∷ n) e f = absurd (omega arith)
size_rows (x ∷ s) [] n e f = absurd (omega arith)
size_rows (x ∷ s) (y ∷ t) [] e f = absurd (omega arith)
size_rows (x ∷ s) (y ∷ t) (z ∷ n) e f =
    omega (
      arith,
      size_cons x (y ∷ z ∷ rows_of s t n),
      size_cons y (z ∷ rows_of s t n),
      size_cons z (rows_of s t n),
      size_cons x s,
      size_cons y t,
      size_cons z n,
      size_rows s t n (omega arith) (omega arith),
    )

-- the bytes of a graph: five at most for each number, and a room that has them has those of its parts
pub packed_graph_lem : (G : Graph) → packed_graph G ≡ bytes_of (graph_numbers G)
unfolding packed_graph bytes_of
packed_graph_lem G = refl

module _ (nodes endpoint from to via : List ℕ) (f : Fits nodes endpoint from to via) where
  pub graph_most : length (packed_graph (graph_of (graph_slices nodes endpoint from to via))) ≤ 10 + 10 * length nodes + 15 * length from
  unfolding bytes_of
  graph_most =
      omega (
        arith,
        size_graph nodes endpoint from to via f.ends f.names,
        size_cons (length nodes) (copy_numbers nodes endpoint),
        size_copies nodes endpoint f.endpoints,
        size_cons (length from) (rows_of from to via),
        size_rows from to via f.ends f.names,
        (packed_size 4 (length nodes)).1,
        (packed_size 4 (length from)).1,
        size_most nodes,
        size_most endpoint,
        size_most from,
        size_most to,
        size_most via,
        f.endpoints,
        f.ends,
        f.names,
      )

  -- the four parts one after the other
  pub size_parts : length (packed_graph (graph_of (graph_slices nodes endpoint from to via)))
      ≡ size (length nodes ∷ []) + size (copy_numbers nodes endpoint) + size (length from ∷ []) + size (rows_of from to via)
  size_parts =
      omega (
        arith,
        size_graph nodes endpoint from to via f.ends f.names,
        size_append (length nodes ∷ []) (copy_numbers nodes endpoint),
        size_append (length from ∷ []) (rows_of from to via),
      )

-- The writer's tests by the lengths and the endpoint numbers, and what they say where they pass.
pub tests_are : (nodes endpoint from to via : List ℕ)
    → graph_write_tests (graph_slices nodes endpoint from to via)
    ≡ (room_sizes (room_of (graph_slices nodes endpoint from to via))
    then passed_if 32 (leb (length nodes) 16384 && leb (length from) 65536)
    then passed_if 32 (zero_or_one endpoint))
unfolding graph_write_tests
tests_are nodes endpoint from to via = go (room_sizes (room_of (graph_slices nodes endpoint from to via))) refl
  where
    ends : Verdict
    ends = passed_if 32 (zero_or_one endpoint)

    go : (v : Verdict) → room_sizes (room_of (graph_slices nodes endpoint from to via)) ≡ v
        → (v then passed_if 32 (leb (length nodes) 16384 && leb (length (edges_of from to via)) 65536) then ends)
        ≡ (v then passed_if 32 (leb (length nodes) 16384 && leb (length from) 65536) then ends)
    go Passed q =
        let p = room_passed (room_of (graph_slices nodes endpoint from to via)) q in
        rw (edge_count_lem nodes endpoint from to via p.1 p.2)
    go (Err r) q = refl

pub tests_fit : (nodes endpoint from to via : List ℕ)
    → (room_sizes (room_of (graph_slices nodes endpoint from to via))
    then passed_if 32 (leb (length nodes) 16384 && leb (length from) 65536)
    then passed_if 32 (zero_or_one endpoint))
    ≡ Passed → Fits nodes endpoint from to via
tests_fit nodes endpoint from to via q =
    let R = room_of (graph_slices nodes endpoint from to via) in
    let a = leb (length nodes) 16384 in
    let b = leb (length from) 65536 in
    let ends = passed_if 32 (zero_or_one endpoint) in
    let r = then_passed (room_sizes R) (passed_if 32 (a && b) then ends) q in
    let s = room_passed R r.0 in
    let t = holds (a && b) (unless_passed 32 (a && b) (then_passed (passed_if 32 (a && b)) ends r.1).0) in
    record {
      copies = leb→le (length nodes) 16384 (and_left a b t);
      endpoints = s.0;
      edges = leb→le (length from) 65536 (and_right a b t);
      ends = s.1;
      names = s.2;
    }

-- What the writer answers and leaves, where the graph is written.
pub write_done : (v : Verdict) (G : Graph) (room room' : List ℕ) (next : ℕ) → v ≡ Passed → length (packed_graph G) ≤ length room → Wrote room room' 0 next (graph_numbers G)
    → (Ok next ≡ writing v room (packed_graph G)) × (room' ≡ room_after_writing v room (packed_graph G))
write_done v G room room' next e h w =
    let l : 0 + length (packed_graph G) ≤ length room = omega arith in
    let i : room' ≡ sets room 0 (packed_graph G) = rw (packed_graph_lem G) w.is in
    let n : next ≡ 0 + length (packed_graph G) = rw (packed_graph_lem G) w.end in
    rw e (ap Ok n ∙ sym (answer_fits room 0 (packed_graph G) l), i ∙ sym (written_sets room 0 (packed_graph G) l))
