-- Where the look passes, the graph that the reader makes is the one that the fill puts into the room.
use Prim.Native.Nat.{ℕ, ◌+◌, ◌≤◌}
use native.Mathlib.Omega.{arith}
use mathlib.Core.Path.{◌≡◌, refl, sym, ◌∙◌, ap}
use mathlib.Core.List.{List, [], ◌∷◌, ◌++◌, map}
use Rattle.std.specs.Prelude.{Result, Ok, Err}
use Rattle.timing.specs.Answers.{Verdict, Passed, Counts}
use Rattle.timing.specs.declared.GraphCounts.{GraphCounts}
use lib.Dec.{leb}
use lib.ListN.{length, drop, length-map}
use lib.Seq.{sets, sets-eq}
use borrow.Author.Tests.{leb-true}
use Rattle.timing.specs.declared.Refusal.{Refusal}
use Rattle.timing.specs.Lists.{placed}
use Rattle.timing.specs.Graphs.{Graph}
use Rattle.timing.specs.GraphBytes.{CopyRow, copy_row, graph_from, read_graph}
use Rattle.timing.specs.Refusals.{unless, ◌then◌}
use Rattle.timing.specs.Parsing.{Parsed, found, stopped, onward, ◌>>=◌, ◌>>◌, return, tested, number, repeated, Row, row, ended}
use Rattle.timing.specs.Tests.{room_sizes}
use Rattle.timing.specs.Calls.{Outcome, made, refused, parsed, graph_answer, graph_read, GraphSlices, room_of, nodes_after, endpoints_after, starts_after, ends_after, names_after}
use Rattle.timing.proofs.Verdicts.{then_passed, unless_passed, room_passed}
use Rattle.timing.specs.Looks.{next_at, row_end, row_at}
use Rattle.graph_reader.specs.Reading.{copy_at, copy_end, copies_from, rows_from, rows_place}
use Rattle.graph_reader.proofs.Looking.{edge_of_row, edges_reader, repeated_length}
use Rattle.graph_reader.proofs.Filling.{things_length, copies_from_lem, rows_from_lem, number_here}

-- the counts in an answer, 0 in a refusal
abbrev copies_counted : Result GraphCounts Refusal → ℕ
copies_counted (Ok g) = g.copies
copies_counted (Err r) = 0

abbrev edges_counted : Result GraphCounts Refusal → ℕ
edges_counted (Ok g) = g.edges
edges_counted (Err r) = 0

room_test : (limit full n room : ℕ) → (unless 32 (leb n limit) then unless full (leb n room)) ≡ Passed → n ≤ room
room_test limit full n room e =
    leb-true n room (unless_passed full (leb n room) (then_passed (unless 32 (leb n limit)) (unless full (leb n room)) e).1)

-- the edges
pub record EdgesMade (s : List ℕ) (edges : ℕ) (copies : List CopyRow) (at c m : ℕ) (o : Outcome Graph) : Type 0 where
  pub is : o ≡ made (graph_from copies (rows_from s m (next_at s at)))
  pub count : length copies ≡ c
  pub few : m ≤ edges

edges_read : (s : List ℕ) (edges : ℕ) (copies : List CopyRow) (at c m : ℕ) → graph_answer (parsed (edges_reader s edges copies at)) ≡ Counts c m
    → EdgesMade s edges copies at c m (parsed (edges_reader s edges copies at))
edges_read s edges copies at c m e = one (number s at) refl e
  where
    four : (k b : ℕ) (rows : List Row) (a : ℕ) → number s at ≡ found k b → k ≤ edges → repeated k (row s) b ≡ found rows a → (p : Parsed (Unit {0}))
        → graph_answer (parsed (onward p (λ u. return (graph_from copies rows)))) ≡ Counts c m
        → EdgesMade s edges copies at c m (parsed (onward p (λ u. return (graph_from copies rows))))
    four k b rows a q h t (found u b') f =
        let l = repeated_length (row s) k b rows a t in
        let i : length (map (λ q. q.node) copies) ≡ c = ap copies_counted f in
        let j : length (map edge_of_row rows) ≡ m = ap edges_counted f in
        let d : k ≡ m = sym l ∙ sym (length-map rows edge_of_row) ∙ j in
        let r : rows ≡ rows_from s k b = (rows_from_lem s k b rows a t).0 in
        let n : b ≡ next_at s at = (number_here s at k b q).1 in
        record { is = rw (← d, ← n, ← r); count = sym (length-map copies (λ q. q.node)) ∙ i; few = omega arith }
    four k b rows a q h t (stopped r) f = cc

    three : (k b : ℕ) → number s at ≡ found k b → k ≤ edges → (p : Parsed (List Row)) → repeated k (row s) b ≡ p
        → graph_answer (parsed (onward p (λ rows. ended s >> return (graph_from copies rows)))) ≡ Counts c m
        → EdgesMade s edges copies at c m (parsed (onward p (λ rows. ended s >> return (graph_from copies rows))))
    three k b q h (found rows a) t f = four k b rows a q h t (ended s a) f
    three k b q h (stopped r) t f = cc

    two : (k b : ℕ) → number s at ≡ found k b → (v : Verdict) → (unless 32 (leb k 65536) then unless 34 (leb k edges)) ≡ v
        → graph_answer (parsed (onward (tested v b) (λ u. repeated k (row s) >>= (λ rows. ended s >> return (graph_from copies rows))))) ≡ Counts c m
        → EdgesMade s edges copies at c m (parsed (onward (tested v b) (λ u. repeated k (row s) >>= (λ rows. ended s >> return (graph_from copies rows)))))
    two k b q Passed t f = three k b q (room_test 65536 34 k edges t) (repeated k (row s) b) refl f
    two k b q (Err r) t f = cc

    one : (p : Parsed ℕ) → number s at ≡ p
        → graph_answer (parsed (onward p (λ k. tested (unless 32 (leb k 65536) then unless 34 (leb k edges)) >> (repeated k (row s) >>= (λ rows. ended s >> return (graph_from copies rows)))))) ≡ Counts c m
        → EdgesMade s edges copies at c m (parsed (onward p (λ k. tested (unless 32 (leb k 65536) then unless 34 (leb k edges)) >> (repeated k (row s) >>= (λ rows. ended s >> return (graph_from copies rows))))))
    one (found k b) q f = two k b q (unless 32 (leb k 65536) then unless 34 (leb k edges)) refl f
    one (stopped r) q f = cc

-- the graph that the fill puts into the room
abbrev pub filled_graph : List ℕ → ℕ → ℕ → Graph
filled_graph s c m = graph_from (copies_from s c (next_at s 0)) (rows_from s m (rows_place s c))

pub record GraphFound (s : List ℕ) (copies edges c m : ℕ) (o : Outcome Graph) : Type 0 where
  pub is : o ≡ made (filled_graph s c m)
  pub few : c ≤ copies
  pub few_edges : m ≤ edges

pub graph_read_lem : (s : List ℕ) (copies edges c m : ℕ) → graph_answer (parsed (read_graph s copies edges)) ≡ Counts c m → GraphFound s copies edges c m (parsed (read_graph s copies edges))
unfolding read_graph
graph_read_lem s copies edges c m e = one (number s 0) refl e
  where
    three : (k b : ℕ) → number s 0 ≡ found k b → k ≤ copies → (p : Parsed (List CopyRow)) → repeated k (copy_row s) b ≡ p
        → graph_answer (parsed (onward p (edges_reader s edges))) ≡ Counts c m → GraphFound s copies edges c m (parsed (onward p (edges_reader s edges)))
    three k b q h (found rows a) t f =
        let g = edges_read s edges rows a c m f in
        let l = repeated_length (copy_row s) k b rows a t in
        let d : k ≡ c = sym l ∙ g.count in
        let n : b ≡ next_at s 0 = (number_here s 0 k b q).1 in
        let r = copies_from_lem s k b rows a t in
        record { is = g.is ∙ rw (← d, ← n, ← r.0, ← r.1); few = omega arith; few_edges = g.few }
    three k b q h (stopped r) t f = cc

    two : (k b : ℕ) → number s 0 ≡ found k b → (v : Verdict) → (unless 32 (leb k 16384) then unless 33 (leb k copies)) ≡ v
        → graph_answer (parsed (onward (tested v b) (λ u. repeated k (copy_row s) >>= edges_reader s edges))) ≡ Counts c m
        → GraphFound s copies edges c m (parsed (onward (tested v b) (λ u. repeated k (copy_row s) >>= edges_reader s edges)))
    two k b q Passed t f = three k b q (room_test 16384 33 k copies t) (repeated k (copy_row s) b) refl f
    two k b q (Err r) t f = cc

    one : (p : Parsed ℕ) → number s 0 ≡ p
        → graph_answer (parsed (onward p (λ k. tested (unless 32 (leb k 16384) then unless 33 (leb k copies)) >> (repeated k (copy_row s) >>= edges_reader s edges)))) ≡ Counts c m
        → GraphFound s copies edges c m (parsed (onward p (λ k. tested (unless 32 (leb k 16384) then unless 33 (leb k copies)) >> (repeated k (copy_row s) >>= edges_reader s edges))))
    one (found k b) q f = two k b q (unless 32 (leb k 16384) then unless 33 (leb k copies)) refl f
    one (stopped r) q f = cc

-- What is put into a room from its front is placed there.
sets_placed : (vs l : List ℕ) → length vs ≤ length l → sets l 0 vs ≡ placed vs l
sets_placed vs l h =
    let d : 0 + length vs ≡ length vs = omega arith in
    sets-eq vs l 0 (omega arith) ∙ ap (λ (k : ℕ). vs ++ drop k l) d

map_map : {A B C : Type 0} (f : B → C) (g : A → B) (l : List A) → map f (map g l) ≡ map (λ x. f (g x)) l
map_map f g [] = refl
map_map {A} {B} {C} f g (x ∷ l) = ap (λ (k : List C). f (g x) ∷ k) (map_map f g l)

-- The answer, and the room afterwards.
abbrev pub Answers : Outcome Graph → Result GraphCounts Refusal → GraphSlices → GraphSlices → Type 0
Answers o g S S' =
    (g ≡ graph_answer o) × (S'.nodes ≡ nodes_after o S.nodes) × (S'.endpoints ≡ endpoints_after o S.endpoints)
    × (S'.starts ≡ starts_after o S.starts) × (S'.ends ≡ ends_after o S.ends) × (S'.names ≡ names_after o S.names)

pub answers_refused : (o : Outcome Graph) (r : Refusal) (S : GraphSlices) → o ≡ refused r → Answers o (Err r) S S
answers_refused o r S e = rw e (refl, refl, refl, refl, refl, refl)

-- a slice that was filled with one part of each of the things that were read
column : {A : Type 0} (things : List A) (part : A → ℕ) (m : ℕ) (out out' : List ℕ) → length things ≡ m → m ≤ length out
    → out' ≡ sets out 0 (map part things) → out' ≡ placed (map part things) out
column things part m out out' l h e = e ∙ sets_placed (map part things) out (omega (arith, length-map things part))

-- what the fill leaves in the room
abbrev pub Filled : List ℕ → ℕ → ℕ → GraphSlices → GraphSlices → Type 0
Filled s c m S S' =
    let copies = copies_from s c (next_at s 0) in
    let rows = rows_from s m (rows_place s c) in
    (S'.nodes ≡ sets S.nodes 0 (map (λ q. q.node) copies)) × (S'.endpoints ≡ sets S.endpoints 0 (map (λ q. q.endpoint) copies))
    × (S'.starts ≡ sets S.starts 0 (map (λ q. q.first) rows)) × (S'.ends ≡ sets S.ends 0 (map (λ q. q.second) rows))
    × (S'.names ≡ sets S.names 0 (map (λ q. q.third) rows))

-- the room is long enough for the fill
pub rooms_fit : (S : GraphSlices) (c m : ℕ) → room_sizes (room_of S) ≡ Passed → c ≤ length S.nodes → m ≤ length S.starts
    → (c ≤ length S.nodes) × (c ≤ length S.endpoints) × (m ≤ length S.starts) × (m ≤ length S.ends) × (m ≤ length S.names)
rooms_fit S c m z h k =
    let t = room_passed (room_of S) z in
    (h, omega arith, k, omega arith, omega arith)

pub answers_made : (s : List ℕ) (o : Outcome Graph) (c m : ℕ) (S S' : GraphSlices) → o ≡ made (filled_graph s c m)
    → room_sizes (room_of S) ≡ Passed → c ≤ length S.nodes → m ≤ length S.starts → Filled s c m S S' → Answers o (Counts c m) S S'
answers_made s o c m S S' e z h k f =
    let copies = copies_from s c (next_at s 0) in
    let rows = rows_from s m (rows_place s c) in
    let t = rooms_fit S c m z h k in
    let n = things_length (copy_at s) (copy_end s) c (next_at s 0) in
    let l = things_length (row_at s) (row_end s) m (rows_place s c) in
    rw e (
      rw (length-map copies (λ q. q.node), n, length-map rows edge_of_row, l),
      column copies (λ q. q.node) c S.nodes S'.nodes n t.0 f.0,
      column copies (λ q. q.endpoint) c S.endpoints S'.endpoints n t.1 f.1,
      rw (map_map (λ x. x.start) edge_of_row rows) (column rows (λ q. q.first) m S.starts S'.starts l t.2 f.2),
      rw (map_map (λ x. x.end) edge_of_row rows) (column rows (λ q. q.second) m S.ends S'.ends l t.3 f.3),
      rw (map_map (λ x. x.name) edge_of_row rows) (column rows (λ q. q.third) m S.names S'.names l t.4 f.4),
    )

-- a graph read into a room whose slices are as long as they should be, and into one where they are not
pub sizes_passed : (s : List ℕ) (S : GraphSlices) → room_sizes (room_of S) ≡ Passed → graph_read s (room_of S) ≡ parsed (read_graph s (length S.nodes) (length S.starts))
unfolding graph_read
sizes_passed s S e = rw e

pub sizes_refused : (s : List ℕ) (S : GraphSlices) (r : Refusal) → room_sizes (room_of S) ≡ Err r → graph_read s (room_of S) ≡ refused r
unfolding graph_read
sizes_refused s S r e = rw e

pub read_stopped : (p : Outcome Graph) (r : Refusal) → graph_answer p ≡ Err r → p ≡ refused r
read_stopped (made G) r e = cc
read_stopped (refused r') r e = cc
