-- Reading what was written gives the same deck, and writing what was read gives the same bytes.
use Prim.Native.Nat.{ℕ, zero, suc, ◌+◌, ◌-◌, ◌≤◌}
use native.Mathlib.Omega.{arith}
use mathlib.Core.Path.{◌≡◌, refl, ◌∙◌, ap}
use mathlib.Core.List.{List, [], ◌∷◌, ◌++◌, map, flat_map, append_assoc}
use Rattle.std.specs.Prelude.{Err}
use Rattle.timing.specs.Answers.{Verdict, Passed}
use lib.Dec.{leb}
use lib.IntN.{ℤ}
use lib.ListN.{length, take, drop, length-drop, length-map, take-append-drop}
use lib.Seq.{take_at, drop_at, length-take-le}
use borrow.Author.Tests.{le-leb, eq-eqb}
use Rattle.timing.specs.Lists.{sum}
use Rattle.timing.specs.Graphs.{Design, design}
use Rattle.timing.specs.Marks.{PathList, path_list, cut}
use Rattle.timing.specs.Delays.{packed_delay, delay_of}
use Rattle.timing.specs.Refusals.{unless, ◌then◌}
use Rattle.timing.specs.Parsing.{Parsed, found, stopped, Reader, ◌>>=◌, ◌>>◌, return, tested, number, repeated, ended}
use Rattle.timing.specs.Decks.{Deck, Tables, EdgeRow, edge_row, design_of, edge_numbers, path_numbers, deck_numbers, packed_deck, paths, read_deck}
use Rattle.timing.specs.Tests.{edge_sizes, marked_count}
use Rattle.timing.specs.Calls.{made, parsed, guarded, deck_read}
use Rattle.packed.proofs.Numbers.{Bytes}
use Rattle.packed_delays.proofs.Delays.{delay_packed, packed_delay_lem}
use Rattle.packed_lists.specs.Writing.{bytes_of}
use Rattle.deck_writer.specs.Writing.{Fit}
use Rattle.deck_writer.proofs.Writing.{deck_parts, packed_deck_lem}
use Rattle.deck_reader.proofs.Reading.{Is, is_onward, TestIs, is_tested}
use Rattle.round_trip.proofs.Numbers.{Small, small_append, There, number_there, numbers_there, Took, took_both, took_none, took_number, TookNumbers, took_numbers, took_next, is_ended, whole}

-- 1. Reading what was written.
abbrev rows_of : List ℕ → List ℕ → List ℤ → List ℤ → List EdgeRow
rows_of [] t d l = []
rows_of (x ∷ s) [] d l = []
rows_of (x ∷ s) (y ∷ t) [] l = []
rows_of (x ∷ s) (y ∷ t) (z ∷ d) [] = []
rows_of (x ∷ s) (y ∷ t) (z ∷ d) (w ∷ l) = record { start = x; end = y; early = packed_delay z; late = packed_delay w } ∷ rows_of s t d l

rows_there : (s : List ℕ) (at : ℕ) (a b : List ℕ) (d l : List ℤ) (ys : List ℕ) → length b ≡ length a → length d ≡ length a → length l ≡ length a → Small (edge_numbers a b d l)
    → drop at s ≡ bytes_of (edge_numbers a b d l ++ ys) → There s (repeated (length a) (edge_row s)) at (rows_of a b d l) ys
rows_there s at [] b d l ys f g h i e = record { next = at; reads = refl; left = e }
rows_there s at (x ∷ a) [] d l ys f g h i e = absurd (omega arith)
rows_there s at (x ∷ a) (y ∷ b) [] l ys f g h i e = absurd (omega arith)
rows_there s at (x ∷ a) (y ∷ b) (z ∷ d) [] ys f g h i e = absurd (omega arith)
rows_there s at (x ∷ a) (y ∷ b) (z ∷ d) (w ∷ l) ys f g h i e =
    let rest = edge_numbers a b d l ++ ys in
    let p = number_there s at x (y ∷ packed_delay z ∷ packed_delay w ∷ rest) i.0 e in
    let q = number_there s p.next y (packed_delay z ∷ packed_delay w ∷ rest) i.1.0 p.left in
    let u = number_there s q.next (packed_delay z) (packed_delay w ∷ rest) i.1.1.0 q.left in
    let v = number_there s u.next (packed_delay w) rest i.1.1.1.0 u.left in
    let t = rows_there s v.next a b d l ys (omega arith) (omega arith) (omega arith) i.1.1.1.1 v.left in
    record { next = t.next; reads = rw (p.reads, q.reads, u.reads, v.reads, t.reads); left = t.left }

rows_design : (n : ℕ) (a b : List ℕ) (d l : List ℤ) (marked : List ℕ) → length b ≡ length a → length d ≡ length a → length l ≡ length a
    → design_of n (rows_of a b d l) marked ≡ design n a b d l marked
rows_design n [] [] [] [] marked f g h = refl
rows_design n [] (y ∷ b) d l marked f g h = absurd (omega arith)
rows_design n [] [] (z ∷ d) l marked f g h = absurd (omega arith)
rows_design n [] [] [] (w ∷ l) marked f g h = absurd (omega arith)
rows_design n (x ∷ a) [] d l marked f g h = absurd (omega arith)
rows_design n (x ∷ a) (y ∷ b) [] l marked f g h = absurd (omega arith)
rows_design n (x ∷ a) (y ∷ b) (z ∷ d) [] marked f g h = absurd (omega arith)
rows_design n (x ∷ a) (y ∷ b) (z ∷ d) (w ∷ l) marked f g h =
    let e = rows_design n a b d l marked (omega arith) (omega arith) (omega arith) in
    rw (delay_packed z, delay_packed w) (ap (λ (D : Design). design n (x ∷ D.starts) (y ∷ D.ends) (z ∷ D.early) (w ∷ D.late) marked) e)

paths_there : (s : List ℕ) (at table before : ℕ) (edges lengths ys : List ℕ) → sum lengths ≡ length edges → before + length edges ≤ 8192 → before + length edges ≤ table
    → Small (flat_map path_numbers (cut edges lengths)) → drop at s ≡ bytes_of (flat_map path_numbers (cut edges lengths) ++ ys)
    → There s (paths s table (length lengths) before) at (path_list edges lengths) ys
unfolding flat_map
paths_there s at table before [] [] ys a l m h e = record { next = at; reads = refl; left = e }
paths_there s at table before (x ∷ edges) [] ys a l m h e = absurd (omega arith)
paths_there s at table before edges (k ∷ lengths) ys a l m h e =
    let p = take k edges in
    let rest = flat_map path_numbers (cut (drop k edges) lengths) in
    let d : length p ≡ k = length-take-le k edges (omega arith) in
    let n : length (drop k edges) ≡ length edges - k = length-drop k edges in
    let g = small_append p rest h.1 in
    let t = number_there s at k ((p ++ rest) ++ ys) (rw d at h.0) (rw d at e) in
    let u = numbers_there s t.next p (rest ++ ys) g.0 (t.left ∙ ap bytes_of (append_assoc p rest ys)) in
    let v = paths_there s u.next table (before + k) (drop k edges) lengths ys (omega arith) (omega arith) (omega arith) g.1 u.left in
    let r : repeated k (number s) t.next ≡ found p u.next = rw d at u.reads in
    record {
      next = v.next;
      reads = rw (t.reads, le-leb (before + k) 8192 (omega arith), le-leb (before + k) table (omega arith), r, v.reads, take-append-drop k edges);
      left = v.left;
    }

-- the marked nodes, T and the end, behind the edges and the list
abbrev last_reader : List ℕ → Tables → ℕ → List EdgeRow → PathList → Reader Deck
last_reader s tables n rows list = do
  k ← number s
  tested (marked_count n k then unless 36 (leb k tables.marked))
  marked ← repeated k (number s)
  allowed ← number s
  ended s
  return (record { design = design_of n rows marked; list = list; allowed = allowed })

last_there : (s : List ℕ) (at : ℕ) (tables : Tables) (n : ℕ) (rows : List EdgeRow) (list : PathList) (marked : List ℕ) (allowed : ℕ)
    → length marked ≤ n → length marked ≤ tables.marked → Small (length marked ∷ (marked ++ (allowed ∷ [])))
    → drop at s ≡ bytes_of (length marked ∷ (marked ++ (allowed ∷ [])))
    → parsed (last_reader s tables n rows list at) ≡ made (record { design = design_of n rows marked; list = list; allowed = allowed })
unfolding bytes_of flat_map
last_there s at tables n rows list marked allowed f g h e =
    let k = small_append marked (allowed ∷ []) h.1 in
    let a = number_there s at (length marked) (marked ++ (allowed ∷ [])) h.0 e in
    let b = numbers_there s a.next marked (allowed ∷ []) k.0 a.left in
    let t = number_there s b.next allowed [] k.1.0 b.left in
    let d : length s ≤ t.next = omega (arith, length-drop t.next s, ap length t.left) in
    rw (a.reads, le-leb (length marked) n f, le-leb (length marked) tables.marked g, b.reads, t.reads, le-leb (length s) t.next d)

deck_there : (d : Deck) (tables : Tables) (s : List ℕ) → s ≡ bytes_of (deck_numbers d) → Fit d → Small (deck_numbers d)
    → length d.design.starts ≤ tables.edges → length d.list.lengths ≤ tables.paths → length d.list.edges ≤ tables.listed
    → length d.design.marked ≤ tables.marked → parsed (read_deck s tables) ≡ made d
unfolding read_deck bytes_of flat_map
deck_there d tables s e f h te tp tl tm =
    let D = d.design in
    let es = edge_numbers D.starts D.ends D.early D.late in
    let ps = flat_map path_numbers (cut d.list.edges d.list.lengths) in
    let last = length D.marked ∷ (D.marked ++ (d.allowed ∷ [])) in
    let q : deck_numbers d ≡ D.nodes ∷ length D.starts ∷ (es ++ (length d.list.lengths ∷ (ps ++ last))) =
    deck_parts d ∙ ap (λ (l : List ℕ). D.nodes ∷ length D.starts ∷ l) (append_assoc es (length d.list.lengths ∷ ps) last) in
    let g = rw q at h in
    let ge = small_append es (length d.list.lengths ∷ (ps ++ last)) g.1.1 in
    let gp = small_append ps last ge.1.1 in
    let a = number_there s 0 D.nodes (length D.starts ∷ (es ++ (length d.list.lengths ∷ (ps ++ last)))) g.0 (e ∙ ap bytes_of q) in
    let b = number_there s a.next (length D.starts) (es ++ (length d.list.lengths ∷ (ps ++ last))) g.1.0 a.left in
    let c = rows_there s b.next D.starts D.ends D.early D.late (length d.list.lengths ∷ (ps ++ last)) f.ends f.early f.late ge.0 b.left in
    let k = number_there s c.next (length d.list.lengths) (ps ++ last) ge.1.0 c.left in
    let l = paths_there s k.next tables.listed 0 d.list.edges d.list.lengths last f.adds (omega (arith, f.listed)) (omega arith) gp.0 k.left in
    rw (
      a.reads,
      le-leb D.nodes 4096 f.nodes,
      b.reads,
      le-leb (length D.starts) 16384 f.edges,
      le-leb (length D.starts) tables.edges te,
      c.reads,
      k.reads,
      le-leb (length d.list.lengths) 1024 f.paths,
      le-leb (length d.list.lengths) tables.paths tp,
      l.reads,
    )
    (last_there s l.next tables D.nodes (rows_of D.starts D.ends D.early D.late) d.list D.marked d.allowed f.marked tm gp.1 l.left
    ∙ ap (λ (E : Design). made (record { design = E; list = d.list; allowed = d.allowed }))
    (rows_design D.nodes D.starts D.ends D.early D.late D.marked f.ends f.early f.late))

-- Reading a deck's packed form gives the deck, for every deck whose counts are within the limits and the tables and whose
-- numbers fit 32 bits.
pub read_written : (d : Deck) (edges listed paths marked : ℕ) → Fit d → Small (deck_numbers d)
    → length d.design.starts ≤ edges → length d.list.edges ≤ listed → length d.list.lengths ≤ paths → length d.design.marked ≤ marked
    → deck_read (packed_deck d) edges edges edges edges listed paths marked ≡ made d
unfolding deck_read
read_written d edges listed paths marked f h te tl tp tm =
    rw (eq-eqb edges edges refl)
    (deck_there d (record { edges = edges; listed = listed; paths = paths; marked = marked }) (packed_deck d) (packed_deck_lem d) f h te tp tl tm)

-- 2. Writing what was read.
module _ (s : List ℕ) (bytes : Bytes s) where
  abbrev TookRow : ℕ → EdgeRow → ℕ → Type 0
  TookRow at r next = Took s at (r.start ∷ r.end ∷ r.early ∷ r.late ∷ []) next

  took_row : (at : ℕ) → Is (TookRow at) (edge_row s at)
  took_row at =
      took_next s bytes (TookRow at) at at [] _ (took_none s at)
      (λ a p f. took_next s bytes (TookRow at) at p (a ∷ []) _ f
      (λ b q g. took_next s bytes (TookRow at) at q (a ∷ b ∷ []) _ g
      (λ c n h. took_next s bytes (TookRow at) at n (a ∷ b ∷ c ∷ []) _ h (λ d o e. e))))

  abbrev row_numbers : List EdgeRow → List ℕ
  row_numbers rs = edge_numbers (map (λ r. r.start) rs) (map (λ r. r.end) rs) (map (λ r. delay_of r.early) rs) (map (λ r. delay_of r.late) rs)

  abbrev TookRows : ℕ → ℕ → List EdgeRow → ℕ → Type 0
  TookRows k at rs next = Took s at (row_numbers rs) next × (length rs ≡ k)

  took_rows : (k at : ℕ) → Is (TookRows k at) (repeated k (edge_row s) at)
  took_rows zero at = (took_none s at, refl)
  took_rows (suc k) at =
      is_onward (TookRow at) (TookRows (suc k) at) (edge_row s at) (λ r. repeated k (edge_row s) >>= (λ rs. return (r ∷ rs))) (took_row at)
      (λ r a f. is_onward (TookRows k a) (TookRows (suc k) at) (repeated k (edge_row s) a) (λ rs. return (r ∷ rs)) (took_rows k a)
      (λ rs b g. (rw (packed_delay_lem r.early, packed_delay_lem r.late) (took_both s at a b (r.start ∷ r.end ∷ r.early ∷ r.late ∷ []) (row_numbers rs) f g.0), ap suc g.1)))

  -- a path of n edges in front of the others
  path_numbers_lem : (n : ℕ) (p : List ℕ) (edges lengths : List ℕ) → length p ≡ n → flat_map path_numbers (cut (p ++ edges) (n ∷ lengths)) ≡ (n ∷ p) ++ flat_map path_numbers (cut edges lengths)
  unfolding flat_map
  path_numbers_lem n p edges lengths e = rw (take_at p edges n e, drop_at p edges n e, e)

  abbrev TookPaths : ℕ → ℕ → PathList → ℕ → Type 0
  TookPaths k at l next = Took s at (flat_map path_numbers (cut l.edges l.lengths)) next × (length l.lengths ≡ k)

  paths_none : (at : ℕ) → Took s at (flat_map path_numbers (cut [] [])) at
  unfolding flat_map
  paths_none at = took_none s at

  took_paths : (table k sum at : ℕ) → Is (TookPaths k at) (paths s table k sum at)
  took_paths table zero sum at = (paths_none at, refl)
  took_paths table (suc k) sum at =
      let test : ℕ → Verdict = λ n. unless 21 (leb (sum + n) 8192) then unless 36 (leb (sum + n) table) in
      is_onward (λ x next. Took s at (x ∷ []) next) (TookPaths (suc k) at) (number s at) _ (took_number s bytes at)
      (λ n a f. is_onward (TestIs (test n) a) (TookPaths (suc k) at) (tested (test n) a) _ (is_tested (test n) a)
      (λ u b t. is_onward (TookNumbers s bytes n b) (TookPaths (suc k) at) (repeated n (number s) b) _ (took_numbers s bytes n b)
      (λ p d g. is_onward (TookPaths k d) (TookPaths (suc k) at) (paths s table k (sum + n) d) _ (took_paths table k (sum + n) d)
      (λ l e h. (
        rw (path_numbers_lem n p l.edges l.lengths g.1)
            (took_both s at a e (n ∷ []) (p ++ flat_map path_numbers (cut l.edges l.lengths)) f
            (rw t.1 at (took_both s b d e p (flat_map path_numbers (cut l.edges l.lengths)) g.0 h.0))),
        ap suc h.1,
      )))))

  -- the parts of a deck, put together
  took_parts : (n m count k e : ℕ) (rows : List EdgeRow) (list : PathList) (marked : List ℕ) (a b c p t x y f : ℕ)
      → Took s 0 (n ∷ []) a → Took s a (m ∷ []) b → TookRows m b rows c → Took s c (count ∷ []) p
      → TookPaths count p list t → Took s t (k ∷ []) x → TookNumbers s bytes k x marked y → Took s y (e ∷ []) f → length s ≤ f
      → packed_deck (record { design = design_of n rows marked; list = list; allowed = e }) ≡ s
  took_parts n m count k e rows list marked a b c p t x y f hn hm hr hc hp hk hv ht he =
      let d : Deck = record { design = design_of n rows marked; list = list; allowed = e } in
      let same : length (map (λ (r : EdgeRow). r.start) rows) ≡ m = length-map rows (λ (r : EdgeRow). r.start) ∙ hr.1 in
      let ps = flat_map path_numbers (cut list.edges list.lengths) in
      let tail = (k ∷ marked) ++ (e ∷ []) in
      packed_deck_lem d ∙ ap bytes_of (deck_parts d)
      ∙ rw (same, hp.1, hv.1)
      (whole s bytes f ((n ∷ m ∷ row_numbers rows) ++ (count ∷ ps) ++ tail)
      (took_both s 0 t f ((n ∷ m ∷ row_numbers rows) ++ (count ∷ ps)) tail
      (took_both s 0 c t (n ∷ m ∷ row_numbers rows) (count ∷ ps) (took_both s 0 a c (n ∷ []) (m ∷ row_numbers rows) hn (took_both s a b c (m ∷ []) (row_numbers rows) hm hr.0))
      (took_both s c p t (count ∷ []) ps hc hp.0))
      (took_both s t y f (k ∷ marked) (e ∷ []) (took_both s t x y (k ∷ []) marked hk hv.0) ht))
      he)

  took_deck : (tables : Tables) → Is (λ d next. packed_deck d ≡ s) (read_deck s tables)
  unfolding read_deck
  took_deck tables =
      let Q : Deck → ℕ → Type 0 = λ d next. packed_deck d ≡ s in
      let marked_test : ℕ → ℕ → Verdict = λ n k. marked_count n k then unless 36 (leb k tables.marked) in
      is_onward (λ x next. Took s 0 (x ∷ []) next) Q (number s 0) _ (took_number s bytes 0)
      (λ n a hn. is_onward (TestIs (unless 10 (leb n 4096)) a) Q (tested (unless 10 (leb n 4096)) a) _ (is_tested (unless 10 (leb n 4096)) a)
      (λ u a' ta. is_onward (λ x next. Took s a' (x ∷ []) next) Q (number s a') _ (took_number s bytes a')
      (λ m b hm. is_onward (TestIs (unless 11 (leb m 16384) then unless 36 (leb m tables.edges)) b) Q (tested (unless 11 (leb m 16384) then unless 36 (leb m tables.edges)) b) _
      (is_tested (unless 11 (leb m 16384) then unless 36 (leb m tables.edges)) b)
      (λ u' b' tb. is_onward (TookRows m b') Q (repeated m (edge_row s) b') _ (took_rows m b')
      (λ rows c hr. is_onward (λ x next. Took s c (x ∷ []) next) Q (number s c) _ (took_number s bytes c)
      (λ count p hc. is_onward (TestIs (unless 20 (leb count 1024) then unless 36 (leb count tables.paths)) p) Q (tested (unless 20 (leb count 1024) then unless 36 (leb count tables.paths)) p) _
      (is_tested (unless 20 (leb count 1024) then unless 36 (leb count tables.paths)) p)
      (λ u'' p' tp. is_onward (TookPaths count p') Q (paths s tables.listed count 0 p') _ (took_paths tables.listed count 0 p')
      (λ list t hp. is_onward (λ x next. Took s t (x ∷ []) next) Q (number s t) _ (took_number s bytes t)
      (λ k x hk. is_onward (TestIs (marked_test n k) x) Q (tested (marked_test n k) x) _ (is_tested (marked_test n k) x)
      (λ u''' x' tx. is_onward (TookNumbers s bytes k x') Q (repeated k (number s) x') _ (took_numbers s bytes k x')
      (λ marked y hv. is_onward (λ x next. Took s y (x ∷ []) next) Q (number s y) _ (took_number s bytes y)
      (λ e f ht. is_onward (λ v z. length s ≤ f) Q (ended s f) _ (is_ended s bytes f)
      (λ v z he. took_parts n m count k e rows list marked a' b' c p' t x' y f (rw ta.1 hn) (rw tb.1 hm) hr (rw tp.1 hc) hp (rw tx.1 hk) hv ht he)))))))))))))

-- Packing a deck that was read gives the bytes that were read, all of them.
pub written_read : (s : List ℕ) (starts ends early late listed lengths marked : ℕ) (d : Deck) → Bytes s
    → deck_read s starts ends early late listed lengths marked ≡ made d → packed_deck d ≡ s
unfolding deck_read
written_read s starts ends early late listed lengths marked d bytes e = by (edge_sizes starts ends early late) e
  where
    tables : Tables
    tables = record { edges = starts; listed = listed; paths = lengths; marked = marked }

    two : (p : Parsed Deck) → Is (λ d next. packed_deck d ≡ s) p → parsed p ≡ made d → packed_deck d ≡ s
    two (found x at) h q = let g : x ≡ d = cc in rw (← g) h
    two (stopped r) h q = absurd (let z : ◌≡◌ {A = ℕ} 0 1 = cc in omega arith)

    by : (v : Verdict) → guarded v (parsed (read_deck s (record { edges = starts; listed = listed; paths = lengths; marked = marked }))) ≡ made d → packed_deck d ≡ s
    by Passed q = two (read_deck s tables) (took_deck s bytes tables) q
    by (Err r) q = absurd (let z : ◌≡◌ {A = ℕ} 0 1 = cc in omega arith)
