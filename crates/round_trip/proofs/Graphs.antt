-- Reading what was written gives the same graph, and writing what was read gives the same bytes, over what `read_graph` and
-- `write_graph` answer and leave.
use Prim.Native.Nat.{ℕ, zero, suc, ◌≤◌, ◌<◌}
use native.Mathlib.Omega.{arith}
use mathlib.Core.Path.{◌≡◌, refl, sym, ◌∙◌, ap}
use mathlib.Core.Bool.{true}
use mathlib.Core.List.{List, [], ◌∷◌, ◌++◌, map, flat_map, append-nil}
use Rattle.std.specs.Prelude.{Ok, Err}
use Rattle.timing.specs.Answers.{Verdict, Passed}
use lib.Dec.{leb}
use lib.ListN.{length, take, drop, length-drop, length-map}
use borrow.Author.Tests.{le-leb, leb-true}
use Rattle.timing.specs.Lists.{all_of}
use Rattle.timing.specs.Graphs.{Edge, Graph, edges_of}
use Rattle.timing.specs.WellFormed.{zero_or_one}
use Rattle.timing.specs.GraphBytes.{copy_numbers, CopyRow, copy_row, graph_from, graph_numbers, packed_graph, read_graph}
use Rattle.timing.specs.Refusals.{unless, ◌then◌}
use Rattle.timing.specs.Parsing.{Parsed, found, stopped, ◌>>=◌, return, tested, number, repeated, Row, row, ended}
use Rattle.timing.specs.Tests.{graph_counts, endpoint_test, Room, room_sizes}
use Rattle.timing.specs.Calls.{GraphSlices, graph_slices, graph_of, graph_sizes, slices_of, made, parsed, guarded, writing, room_after_writing, graph_write_tests, graph_read}
use Rattle.timing.proofs.Verdicts.{then_passed, unless_passed, both_true}
use Rattle.theorems.proofs.Series.{graph_slices_lem, slices_sizes}
use Rattle.packed.proofs.Numbers.{Bytes}
use Rattle.packed_lists.specs.Writing.{bytes_of}
use Rattle.deck_reader.proofs.Reading.{Is, is_onward, TestIs, is_tested}
use Rattle.graph_reader.proofs.Looking.{edge_of_row}
use Rattle.graph_writer.specs.Writing.{Fits}
use Rattle.graph_writer.proofs.Writing.{tests_are, tests_fit}
use Rattle.round_trip.proofs.Numbers.{Small, small_append, There, number_there, Took, took_both, took_none, took_number, took_next, is_ended, whole, front_left, left_front}

abbrev row_numbers : List Edge → List ℕ
row_numbers es = flat_map (λ e. e.start ∷ e.end ∷ e.name ∷ []) es

packed_graph_lem : (G : Graph) → packed_graph G ≡ bytes_of (graph_numbers G)
unfolding packed_graph bytes_of
packed_graph_lem G = refl

-- 1. Reading what was written.
abbrev row_of : Edge → Row
row_of e = record { first = e.start; second = e.end; third = e.name }

rows_there : (s : List ℕ) (at : ℕ) (es : List Edge) (ys : List ℕ) → Small (row_numbers es) → drop at s ≡ bytes_of (row_numbers es ++ ys)
    → There s (repeated (length es) (row s)) at (map row_of es) ys
unfolding flat_map
rows_there s at [] ys h e = record { next = at; reads = refl; left = e }
rows_there s at (f ∷ es) ys h e =
    let t = number_there s at f.start (f.end ∷ f.name ∷ (row_numbers es ++ ys)) h.0 e in
    let u = number_there s t.next f.end (f.name ∷ (row_numbers es ++ ys)) h.1.0 t.left in
    let v = number_there s u.next f.name (row_numbers es ++ ys) h.1.1.0 u.left in
    let w = rows_there s v.next es ys h.1.1.1 v.left in
    record { next = w.next; reads = rw (t.reads, u.reads, v.reads, w.reads); left = w.left }

-- every endpoint number is 0 or 1
abbrev Ones : List ℕ → Type 0
Ones xs = zero_or_one xs ≡ true

abbrev copies_of : List ℕ → List ℕ → List CopyRow
copies_of [] ends = []
copies_of (v ∷ nodes) [] = []
copies_of (v ∷ nodes) (x ∷ ends) = record { node = v; endpoint = x } ∷ copies_of nodes ends

copy_there : (s : List ℕ) (at v x : ℕ) (ys : List ℕ) → leb x 1 ≡ true → v < 4294967296 → x < 4294967296 → drop at s ≡ bytes_of (v ∷ x ∷ ys)
    → There s (copy_row s) at (record { node = v; endpoint = x }) ys
copy_there s at v x ys o f g e =
    let t = number_there s at v (x ∷ ys) f e in
    let u = number_there s t.next x ys g t.left in
    record { next = u.next; reads = rw (t.reads, u.reads, o); left = u.left }

copies_there : (s : List ℕ) (at : ℕ) (nodes ends ys : List ℕ) → length ends ≡ length nodes → Ones ends → Small (copy_numbers nodes ends)
    → drop at s ≡ bytes_of (copy_numbers nodes ends ++ ys) → There s (repeated (length nodes) (copy_row s)) at (copies_of nodes ends) ys
copies_there s at [] ends ys f o h e = record { next = at; reads = refl; left = e }
copies_there s at (v ∷ nodes) [] ys f o h e = absurd (omega arith)
copies_there s at (v ∷ nodes) (x ∷ ends) ys f o h e =
    let p = both_true (leb x 1) (all_of (λ y. leb y 1) ends) o in
    let t = copy_there s at v x (copy_numbers nodes ends ++ ys) p.0 h.0 h.1.0 e in
    let u = copies_there s t.next nodes ends ys (omega arith) p.1 h.1.1 t.left in
    record { next = u.next; reads = rw (t.reads, u.reads); left = u.left }

same_copies : (nodes ends : List ℕ) → length ends ≡ length nodes
    → (map (λ r. r.node) (copies_of nodes ends) ≡ nodes) × (map (λ r. r.endpoint) (copies_of nodes ends) ≡ ends)
same_copies [] [] f = (refl, refl)
same_copies [] (x ∷ ends) f = absurd (omega arith)
same_copies (v ∷ nodes) [] f = absurd (omega arith)
same_copies (v ∷ nodes) (x ∷ ends) f = let p = same_copies nodes ends (omega arith) in (rw p.0, rw p.1)

same_edges : (es : List Edge) → map edge_of_row (map row_of es) ≡ es
same_edges [] = refl
same_edges (e ∷ es) = ap (λ (l : List Edge). e ∷ l) (same_edges es)

-- a packed graph, read into a room that is large enough, is the graph
graph_there : (G : Graph) (copies edges : ℕ) (s : List ℕ) → s ≡ bytes_of (graph_numbers G) → Small (graph_numbers G)
    → length G.endpoints ≡ length G.nodes → Ones G.endpoints
    → length G.nodes ≤ 16384 → length G.nodes ≤ copies → length G.edges ≤ 65536 → length G.edges ≤ edges → parsed (read_graph s copies edges) ≡ made G
unfolding read_graph graph_numbers bytes_of flat_map
graph_there G copies edges s e h f o h₁ h₂ h₃ h₄ =
    let n = length G.nodes in
    let m = length G.edges in
    let rows = row_numbers G.edges in
    let cs = copy_numbers G.nodes G.endpoints in
    let g = small_append cs (m ∷ rows) h.1 in
    let a = number_there s 0 n (cs ++ (m ∷ rows)) h.0 e in
    let b = copies_there s a.next G.nodes G.endpoints (m ∷ rows) f o g.0 a.left in
    let c = number_there s b.next m rows g.1.0 b.left in
    let r = rows_there s c.next G.edges [] g.1.1 (c.left ∙ ap bytes_of (sym (append-nil rows))) in
    let d : length s ≤ r.next = omega (arith, length-drop r.next s, ap length r.left) in
    let p = same_copies G.nodes G.endpoints f in
    rw (
      a.reads,
      le-leb n 16384 h₁,
      le-leb n copies h₂,
      b.reads,
      c.reads,
      le-leb m 65536 h₃,
      le-leb m edges h₄,
      r.reads,
      le-leb (length s) r.next d,
      p.0,
      p.1,
      same_edges G.edges,
    )

-- the numbers of a graph are those of its slices
small_ones : (xs : List ℕ) → Ones xs → Small xs
small_ones [] o = tt
small_ones (x ∷ xs) o =
    let p = both_true (leb x 1) (all_of (λ y. leb y 1) xs) o in
    (omega (arith, leb-true x 1 p.0), small_ones xs p.1)

small_copies : (nodes ends : List ℕ) → Small nodes → Small ends → Small (copy_numbers nodes ends)
small_copies [] ends f g = tt
small_copies (v ∷ nodes) [] f g = tt
small_copies (v ∷ nodes) (x ∷ ends) f g = (f.0, (g.0, small_copies nodes ends f.1 g.1))

small_rows : (a b c : List ℕ) → Small a → Small b → Small c → Small (row_numbers (edges_of a b c))
unfolding flat_map
small_rows [] b c f g h = tt
small_rows (x ∷ a) [] c f g h = tt
small_rows (x ∷ a) (y ∷ b) [] f g h = tt
small_rows (x ∷ a) (y ∷ b) (z ∷ c) f g h = (f.0, (g.0, (h.0, small_rows a b c f.1 g.1 h.1)))

small_both : (xs ys : List ℕ) → Small xs → Small ys → Small (xs ++ ys)
small_both [] ys f g = g
small_both (x ∷ xs) ys f g = (f.0, small_both xs ys f.1 g)

slices_same : (a b c : List ℕ) → length b ≡ length a → length c ≡ length a
    → (map (λ e. e.start) (edges_of a b c) ≡ a) × (map (λ e. e.end) (edges_of a b c) ≡ b) × (map (λ e. e.name) (edges_of a b c) ≡ c)
slices_same [] [] [] f g = (refl, refl, refl)
slices_same [] (y ∷ b) c f g = absurd (omega arith)
slices_same [] [] (z ∷ c) f g = absurd (omega arith)
slices_same (x ∷ a) [] c f g = absurd (omega arith)
slices_same (x ∷ a) (y ∷ b) [] f g = absurd (omega arith)
slices_same (x ∷ a) (y ∷ b) (z ∷ c) f g = let p = slices_same a b c (omega arith) (omega arith) in (rw p.0, rw p.1, rw p.2)

-- what the writer's tests say of a graph
fits : (S : GraphSlices) → graph_write_tests S ≡ Passed → Fits S.nodes S.endpoints S.starts S.ends S.names
fits S e =
    tests_fit S.nodes S.endpoints S.starts S.ends S.names
    (sym (tests_are S.nodes S.endpoints S.starts S.ends S.names) ∙ e)

ones : (S : GraphSlices) → graph_write_tests S ≡ Passed → Ones S.endpoints
unfolding graph_write_tests
ones S e =
    let counts = (then_passed (graph_sizes S) (graph_counts (graph_of S) then endpoint_test (graph_of S)) e).1 in
    unless_passed 32 (zero_or_one (graph_of S).endpoints) (then_passed (graph_counts (graph_of S)) (endpoint_test (graph_of S)) counts).1

-- Where `write_graph` answers a length, reading so many bytes of its room gives the same graph, whose slices are those that were
-- written: for numbers of 32 bits, and room for as many copies and edges.
pub read_written : (S : GraphSlices) (room : List ℕ) (n : ℕ) (R : Room) → Small S.nodes → Small S.starts → Small S.ends → Small S.names
    → room_sizes R ≡ Passed → length S.nodes ≤ R.nodes → length S.starts ≤ R.starts
    → writing (graph_write_tests S) room (packed_graph (graph_of S)) ≡ Ok n
    → (graph_read (take n (room_after_writing (graph_write_tests S) room (packed_graph (graph_of S)))) R ≡ made (graph_of S)) × (slices_of (graph_of S) ≡ S)
unfolding graph_read graph_numbers
read_written S room n R sn ss se sm z hn he w =
    let l = front_left (graph_write_tests S) room (packed_graph (graph_of S)) n w in
    let k = fits S l.0 in
    let o = ones S l.0 in
    let p = slices_same S.starts S.ends S.names k.ends k.names in
    let m : length (edges_of S.starts S.ends S.names) ≡ length S.starts = sym (length-map (edges_of S.starts S.ends S.names) (λ (e : Edge). e.start)) ∙ ap length p.0 in (
      rw (l.1, z)
          (graph_there (graph_of S) R.nodes R.starts (packed_graph (graph_of S)) (packed_graph_lem (graph_of S)) (
            omega (arith, k.copies),
            small_both (copy_numbers S.nodes S.endpoints) _ (small_copies S.nodes S.endpoints sn (small_ones S.endpoints o))
                (omega (arith, k.edges), small_rows S.starts S.ends S.names ss se sm),
          )
          k.endpoints o k.copies hn (omega (arith, k.edges)) (omega arith)),
      λ i. graph_slices S.nodes S.endpoints (p.0 i) (p.1 i) (p.2 i),
    )

-- 2. Writing what was read.
module _ (s : List ℕ) (bytes : Bytes s) where
  abbrev TookCopy : ℕ → CopyRow → ℕ → Type 0
  TookCopy at r next = Took s at (r.node ∷ r.endpoint ∷ []) next × (leb r.endpoint 1 ≡ true)

  took_copy : (at : ℕ) → Is (TookCopy at) (copy_row s at)
  took_copy at =
      took_next s bytes (TookCopy at) at at [] _ (took_none s at)
      (λ v p f. took_next s bytes (TookCopy at) at p (v ∷ []) _ f
      (λ x q g. is_onward (TestIs (unless 32 (leb x 1)) q) (TookCopy at) (tested (unless 32 (leb x 1)) q) _ (is_tested (unless 32 (leb x 1)) q)
      (λ u q' t. (rw t.1 g, unless_passed 32 (leb x 1) t.0))))

  abbrev nodes_of : List CopyRow → List ℕ
  nodes_of cs = map (λ r. r.node) cs

  abbrev endpoints_of : List CopyRow → List ℕ
  endpoints_of cs = map (λ r. r.endpoint) cs

  abbrev TookCopies : ℕ → ℕ → List CopyRow → ℕ → Type 0
  TookCopies k at cs next = Took s at (copy_numbers (nodes_of cs) (endpoints_of cs)) next × (length cs ≡ k) × Ones (endpoints_of cs)

  took_copies : (k at : ℕ) → Is (TookCopies k at) (repeated k (copy_row s) at)
  took_copies zero at = (took_none s at, refl, refl)
  took_copies (suc k) at =
      is_onward (TookCopy at) (TookCopies (suc k) at) (copy_row s at) (λ r. repeated k (copy_row s) >>= (λ cs. return (r ∷ cs))) (took_copy at)
      (λ r a f. is_onward (TookCopies k a) (TookCopies (suc k) at) (repeated k (copy_row s) a) (λ cs. return (r ∷ cs)) (took_copies k a)
      (λ cs b g. (
        took_both s at a b (r.node ∷ r.endpoint ∷ []) (copy_numbers (nodes_of cs) (endpoints_of cs)) f.0 g.0,
        ap suc g.1,
        rw f.1 g.2,
      )))

  abbrev TookRow : ℕ → Row → ℕ → Type 0
  TookRow at r next = Took s at (r.first ∷ r.second ∷ r.third ∷ []) next

  took_row : (at : ℕ) → Is (TookRow at) (row s at)
  took_row at =
      took_next s bytes (TookRow at) at at [] _ (took_none s at)
      (λ a p f. took_next s bytes (TookRow at) at p (a ∷ []) _ f
      (λ b q g. took_next s bytes (TookRow at) at q (a ∷ b ∷ []) _ g (λ c n h. h)))

  abbrev TookRows : ℕ → ℕ → List Row → ℕ → Type 0
  TookRows k at rs next = Took s at (row_numbers (map edge_of_row rs)) next × (length rs ≡ k)

  took_rows : (k at : ℕ) → Is (TookRows k at) (repeated k (row s) at)
  unfolding flat_map
  took_rows zero at = (took_none s at, refl)
  took_rows (suc k) at =
      is_onward (TookRow at) (TookRows (suc k) at) (row s at) (λ r. repeated k (row s) >>= (λ rs. return (r ∷ rs))) (took_row at)
      (λ r a f. is_onward (TookRows k a) (TookRows (suc k) at) (repeated k (row s) a) (λ rs. return (r ∷ rs)) (took_rows k a)
      (λ rs b g. (took_both s at a b (r.first ∷ r.second ∷ r.third ∷ []) (row_numbers (map edge_of_row rs)) f g.0, ap suc g.1)))

  -- a graph that was read takes just the bytes that it was read from, and is within the limits
  abbrev WasRead : Graph → Type 0
  WasRead G =
      (packed_graph G ≡ s) × (length G.nodes ≤ 16384) × (length G.edges ≤ 65536)
      × (length G.endpoints ≡ length G.nodes) × Ones G.endpoints

  limited : (limit full n room : ℕ) → (unless 32 (leb n limit) then unless full (leb n room)) ≡ Passed → n ≤ limit
  limited limit full n room e = leb-true n limit (unless_passed 32 (leb n limit) (then_passed (unless 32 (leb n limit)) _ e).0)

  took_parts : (n m copyRoom edgeRoom : ℕ) (copies : List CopyRow) (rows : List Row) (a b c d : ℕ) → Took s 0 (n ∷ []) a → (unless 32 (leb n 16384) then unless 33 (leb n copyRoom)) ≡ Passed
      → TookCopies n a copies b → Took s b (m ∷ []) c → (unless 32 (leb m 65536) then unless 34 (leb m edgeRoom)) ≡ Passed → TookRows m c rows d → length s ≤ d
      → WasRead (graph_from copies rows)
  unfolding graph_numbers
  took_parts n m copyRoom edgeRoom copies rows a b c d hn tn hs hm tm hr he =
      let G = graph_from copies rows in
      let cs = copy_numbers (nodes_of copies) (endpoints_of copies) in
      let i : length (nodes_of copies) ≡ n = length-map copies (λ (r : CopyRow). r.node) ∙ hs.1 in
      let j : length (endpoints_of copies) ≡ n = length-map copies (λ (r : CopyRow). r.endpoint) ∙ hs.1 in
      let k : length (map edge_of_row rows) ≡ m = length-map rows edge_of_row ∙ hr.1 in (
        packed_graph_lem G
            ∙ rw (i, k)
            (whole s bytes d ((n ∷ cs) ++ (m ∷ row_numbers (map edge_of_row rows)))
            (took_both s 0 b d (n ∷ cs) (m ∷ row_numbers (map edge_of_row rows)) (took_both s 0 a b (n ∷ []) cs hn hs.0)
            (took_both s b c d (m ∷ []) (row_numbers (map edge_of_row rows)) hm hr.0))
            he),
        omega (arith, limited 16384 33 n copyRoom tn, i),
        omega (arith, limited 65536 34 m edgeRoom tm, k),
        j ∙ sym i,
        hs.2,
      )

  took_graph : (copies edges : ℕ) → Is (λ G next. WasRead G) (read_graph s copies edges)
  unfolding read_graph
  took_graph copies edges =
      let Q : Graph → ℕ → Type 0 = λ G next. WasRead G in
      let test : ℕ → ℕ → ℕ → ℕ → Verdict = λ limit full n room. unless 32 (leb n limit) then unless full (leb n room) in
      is_onward (λ x next. Took s 0 (x ∷ []) next) Q (number s 0) _ (took_number s bytes 0)
      (λ n a hn. is_onward (TestIs (test 16384 33 n copies) a) Q (tested (test 16384 33 n copies) a) _ (is_tested (test 16384 33 n copies) a)
      (λ u a' ta. is_onward (TookCopies n a') Q (repeated n (copy_row s) a') _ (took_copies n a')
      (λ cs b hs. is_onward (λ x next. Took s b (x ∷ []) next) Q (number s b) _ (took_number s bytes b)
      (λ m c hm. is_onward (TestIs (test 65536 34 m edges) c) Q (tested (test 65536 34 m edges) c) _ (is_tested (test 65536 34 m edges) c)
      (λ u' c' tc. is_onward (TookRows m c') Q (repeated m (row s) c') _ (took_rows m c')
      (λ rows d hr. is_onward (λ v z. length s ≤ d) Q (ended s d) _ (is_ended s bytes d)
      (λ v z he. took_parts n m copies edges cs rows a' b c' d (rw ta.1 hn) ta.0 hs (rw tc.1 hm) tc.0 hr he)))))))

-- a graph that was read passes the writer's tests
tests_read : (G : Graph) → length G.nodes ≤ 16384 → length G.edges ≤ 65536 → length G.endpoints ≡ length G.nodes → Ones G.endpoints
    → graph_write_tests (slices_of G) ≡ Passed
unfolding graph_write_tests
tests_read G h k f o =
    rw (slices_sizes G f)
    (ap (λ (H : Graph). graph_counts H then endpoint_test H) (graph_slices_lem G) ∙ rw (le-leb (length G.nodes) 16384 h, le-leb (length G.edges) 65536 k, o))

-- Where `read_graph` makes a graph, `write_graph` of its slices, into a room that is long enough, answers the length of the bytes
-- that were read and leaves these bytes.
pub written_read : (s : List ℕ) (R : Room) (G : Graph) (room : List ℕ) → Bytes s → graph_read s R ≡ made G → length s ≤ length room
    → (writing (graph_write_tests (slices_of G)) room (packed_graph (graph_of (slices_of G))) ≡ Ok (length s))
    × (take (length s) (room_after_writing (graph_write_tests (slices_of G)) room (packed_graph (graph_of (slices_of G)))) ≡ s)
unfolding graph_read
written_read s R G room bytes e h =
    let w = by (room_sizes R) e in
    let b : packed_graph (graph_of (slices_of G)) ≡ s = ap packed_graph (graph_slices_lem G) ∙ w.0 in
    rw b (left_front (graph_write_tests (slices_of G)) room s (tests_read G w.1 w.2 w.3 w.4) h)
  where
    two : (p : Parsed Graph) → Is (λ G next. WasRead s bytes G) p → parsed p ≡ made G → WasRead s bytes G
    two (found x at) k q = let g : x ≡ G = cc in rw (← g) k
    two (stopped r) k q = absurd (let z : ◌≡◌ {A = ℕ} 0 1 = cc in omega arith)

    by : (v : Verdict) → guarded v (parsed (read_graph s R.nodes R.starts)) ≡ made G → WasRead s bytes G
    by Passed q = two (read_graph s R.nodes R.starts) (took_graph s bytes R.nodes R.starts) q
    by (Err r) q = absurd (let z : ◌≡◌ {A = ℕ} 0 1 = cc in omega arith)
