-- What a removal answers, from the counts of what was found: 31, 33 and 34 as `timing` states them, the room and the scratch.
use Prim.Native.Nat.{ℕ, ◌+◌, ◌≤◌, min, ◌<◌}
use native.Mathlib.Omega.{arith}
use mathlib.Core.Path.{◌≡◌, refl, sym, ap, ◌∙◌, subst}
use mathlib.Core.Bool.{Bool, true, false}
use mathlib.Core.List.{List, [], ◌∷◌, map, flat_map}
use Rattle.std.specs.Prelude.{Result, Err}
use Rattle.std.specs.Result.{is_err}
use Rattle.timing.specs.Answers.{Verdict, Passed, Counts}
use Rattle.timing.specs.declared.GraphCounts.{GraphCounts}
use lib.Dec.{leb, leb→le, le→leb}
use lib.ListN.{length, take, replicate}
use Rattle.timing.specs.declared.Refusal.{Refusal}
use Rattle.timing.specs.Lists.{one_if, keep, upto}
use Rattle.timing.specs.Graphs.{Design, Graph, graph, edges_in, node_of, starts_at, runs_from, complete_runs, names}
use Rattle.timing.specs.Marks.{PathList, paths_of, path_list, permitted}
use Rattle.timing.specs.Sorting.{sort}
use Rattle.timing.specs.TrueGraphs.{copy_before, edge_before, copies_on, joins_on, permitted_runs, copies, path_ends, joins, numbered, true_graph}
use Rattle.timing.specs.Refusals.{unless, ◌then◌}
use Rattle.timing.specs.Tests.{candidates, scratch_words, words_test, scratch_test, count_tests, Room, room_tests}
use Rattle.timing.specs.Calls.{Outcome, refused, outcome, graph_slices, room_of, largest_room, counts_answer, graph_answer, scratch_after}
use Rattle.theorems.proofs.Lists.{holds}
use Rattle.timing.proofs.Verdicts.{then_passed, unless_passed, unless_refused}
use Rattle.theorems.proofs.Tested.{ListFits, fit_passed}
use Rattle.removal.specs.declared.rows.Layout.{Layout}
use Rattle.removal.specs.Rows.{Tabled}
use Rattle.removal.specs.Edges.{EdgesInto}
use Rattle.removal.specs.Show.{AllShown}
use Rattle.removal.specs.Fill.{Fits, ResultFilled}
use Rattle.removal.specs.Counts.{of_starts, of_nodes}
use Rattle.removal.specs.Build.{table_words, work_words, Given}
use Rattle.removal.specs.Counts.{ListCountable, CopiesCountable}
use Rattle.removal.specs.Remove.{Worked, Workable, WorkableIn, AllReached, Found, words_for, Answered, room_outcome, RoomAnswered, removal_outcome, Removed, AllRemoved, Sized, AllSized}
use Rattle.removal.proofs.Showing.IntoLaws.{length_edges}
use Rattle.removal.proofs.Building.Candidates.{copies_candidates, candidates_slices}
use Rattle.removal.proofs.Building.CountLaws.{list_countable, copies_countable}
use Rattle.removal.proofs.Whole.RemoveLaws.{copies_are, edges_are, shown_within}

-- an answer tells whether 33 and 34 passed
pub answer_refused : (v : Verdict) (copies edges : ℕ) (r : Refusal) → counts_answer v copies edges ≡ Err r → v ≡ Err r
answer_refused Passed copies edges r e = absurd (let z : ◌≡◌ {A = ℕ} 0 1 = cc in omega arith)
answer_refused (Err x) copies edges r e = cc

pub answer_passed : (v : Verdict) (copies edges c e : ℕ) → counts_answer v copies edges ≡ Counts c e → v ≡ Passed
answer_passed Passed copies edges c e q = refl
answer_passed (Err x) copies edges c e q = absurd (let z : ◌≡◌ {A = ℕ} 0 1 = cc in omega arith)

pub answer_no_refusal : (v : Verdict) (copies edges : ℕ) → false ≡ is_err (counts_answer v copies edges) → v ≡ Passed
answer_no_refusal Passed copies edges e = refl
answer_no_refusal (Err x) copies edges e = absurd (let z : ◌≡◌ {A = ℕ} 0 1 = cc in omega arith)

answer_of : (v : Verdict) (H : Graph) → counts_answer v (length H.nodes) (length H.edges) ≡ graph_answer (outcome v H)
answer_of Passed H = refl
answer_of (Err r) H = refl

pub counts_fit : (copies edges nodes starts : ℕ) → count_tests copies edges nodes starts ≡ Passed → (copies ≤ nodes) × (edges ≤ starts)
counts_fit copies edges nodes starts e =
    let t = then_passed (unless 33 (leb copies (min nodes 16384))) (unless 34 (leb edges (min starts 65536))) e in
    let a = leb→le copies (min nodes 16384) (holds (leb copies (min nodes 16384)) (unless_passed 33 (leb copies (min nodes 16384)) t.0)) in
    let b = leb→le edges (min starts 65536) (holds (leb edges (min starts 65536)) (unless_passed 34 (leb edges (min starts 65536)) t.1)) in
    (omega (arith, a), omega (arith, b))

module _ (l : Layout) (nodes endpoint s t : List ℕ) (copies edges : ℕ) (x : AllReached l nodes endpoint s) (shown : AllShown l s t copies edges) where
  -- the counts that were found, tested and answered in a room, are those of the result
  tests_are : (R : Room) (D : Design) (L : PathList) (G : Graph) → Tabled D L G l (take l.slots s) → G.endpoints ≡ endpoint → EdgesInto G (edges_in G)
      → count_tests copies edges R.nodes R.starts ≡ room_tests R (true_graph G (paths_of L))
  unfolding room_tests
  tests_are R D L G y ends into = λ i. count_tests (copies_are l nodes endpoint s t copies edges x shown D L G y ends i) (edges_are l nodes endpoint s t copies edges x shown D L G y ends into i) R.nodes R.starts

  pub answer_is : (R : Room) (D : Design) (L : PathList) (G : Graph) → Tabled D L G l (take l.slots s) → G.endpoints ≡ endpoint → EdgesInto G (edges_in G)
      → counts_answer (count_tests copies edges R.nodes R.starts) copies edges ≡ graph_answer (room_outcome L G R)
  answer_is R D L G y ends into =
      (λ i. counts_answer (tests_are R D L G y ends into i) (copies_are l nodes endpoint s t copies edges x shown D L G y ends i) (edges_are l nodes endpoint s t copies edges x shown D L G y ends into i))
      ∙ answer_of (room_tests R (true_graph G (paths_of L))) (true_graph G (paths_of L))

  module _ (room-nodes room-endpoint room-from room-to room-via : List ℕ) where
    abbrev R : Room
    R = room_of (graph_slices room-nodes room-endpoint room-from room-to room-via)

    abbrev tests : Verdict
    tests = count_tests copies edges (length room-nodes) (length room-from)

    -- a refusal changes nothing
    pub room_refused : (r : Refusal) → counts_answer tests copies edges ≡ Err r
        → RoomAnswered l nodes endpoint s (Err r) room-nodes room-endpoint room-from room-to room-via room-nodes room-endpoint room-from room-to room-via
    unfolding RoomAnswered
    room_refused r e D L G y q ends into =
        subst (λ (v : Verdict). Answered (outcome v (true_graph G (paths_of L))) (Err r) room-nodes room-endpoint room-from room-to room-via room-nodes room-endpoint room-from room-to room-via)
        (sym (answer_refused tests copies edges r e) ∙ tests_are R D L G y ends into)
        (record { answer = refl; nodes = refl; endpoints = refl; starts = refl; ends = refl; names = refl })

    -- and else the result is in the room
    pub room_made : tests ≡ Passed → (r : Result GraphCounts Refusal) → r ≡ counts_answer tests copies edges → (room-nodes' room-endpoint' room-from' room-to' room-via' u : List ℕ) → take l.slots u ≡ take l.slots s
        → ResultFilled l nodes endpoint u room-nodes room-endpoint room-from room-to room-via room-nodes' room-endpoint' room-from' room-to' room-via'
        → RoomAnswered l nodes endpoint s r room-nodes room-endpoint room-from room-to room-via room-nodes' room-endpoint' room-from' room-to' room-via'
    unfolding RoomAnswered ResultFilled
    room_made e r is room-nodes' room-endpoint' room-from' room-to' room-via' u tables f D L G y q ends into =
        let z = f D L G (subst (λ (p : List ℕ). Tabled D L G l p) (sym tables) y) q ends into in
        subst (λ (v : Verdict). r ≡ graph_answer (outcome v (true_graph G (paths_of L))) → Answered (outcome v (true_graph G (paths_of L))) r room-nodes room-endpoint room-from room-to room-via room-nodes' room-endpoint' room-from' room-to' room-via')
        (sym e ∙ tests_are R D L G y ends into)
        (λ a. record { answer = a; nodes = z.nodes; endpoints = z.endpoints; starts = z.starts; ends = z.ends; names = z.names })
        (is ∙ answer_is R D L G y ends into)

-- fewer pass where more do
counts_less : (copies edges fewer less nodes starts : ℕ) → count_tests copies edges nodes starts ≡ Passed → fewer ≤ copies → less ≤ edges → count_tests fewer less nodes starts ≡ Passed
counts_less copies edges fewer less nodes starts e h k =
    let t = then_passed (unless 33 (leb copies (min nodes 16384))) (unless 34 (leb edges (min starts 65536))) e in
    let a = leb→le copies (min nodes 16384) (holds (leb copies (min nodes 16384)) (unless_passed 33 (leb copies (min nodes 16384)) t.0)) in
    let b = leb→le edges (min starts 65536) (holds (leb edges (min starts 65536)) (unless_passed 34 (leb edges (min starts 65536)) t.1)) in
    λ i. fit_passed 33 (leb fewer (min nodes 16384)) (le→leb fewer (min nodes 16384) (omega (arith, a))) i then fit_passed 34 (leb less (min starts 65536)) (le→leb less (min starts 65536) (omega (arith, b))) i

-- the result is in the room where a bound passed, with the counts that were found while it was written
pub room_direct : (l : Layout) (nodes endpoint s t : List ℕ) (copies edges most all : ℕ) → AllReached l nodes endpoint s → AllShown l s t copies edges → Fits l s most all
    → (room-nodes room-endpoint room-from room-to room-via room-nodes' room-endpoint' room-from' room-to' room-via' : List ℕ)
    → count_tests most all (length room-nodes) (length room-from) ≡ Passed
    → ResultFilled l nodes endpoint s room-nodes room-endpoint room-from room-to room-via room-nodes' room-endpoint' room-from' room-to' room-via'
    → RoomAnswered l nodes endpoint s (Counts copies edges) room-nodes room-endpoint room-from room-to room-via room-nodes' room-endpoint' room-from' room-to' room-via'
room_direct l nodes endpoint s t copies edges most all x shown f room-nodes room-endpoint room-from room-to room-via room-nodes' room-endpoint' room-from' room-to' room-via' e made =
    let w = shown_within l nodes endpoint s t copies edges most all x shown f in
    let p = counts_less most all copies edges (length room-nodes) (length room-from) e w.0 w.1 in
    room_made l nodes endpoint s t copies edges x shown room-nodes room-endpoint room-from room-to room-via p (Counts copies edges) (sym (ap (λ (v : Verdict). counts_answer v copies edges) p))
    room-nodes' room-endpoint' room-from' room-to' room-via' s refl made

-- the scratch is all zero after success, 33 and 34
zeros : (s : List ℕ) → replicate {A = ℕ} (length s) 0 ≡ map (λ (w : ℕ). 0) s
zeros [] = refl
zeros (w ∷ s) = ap (λ (t : List ℕ). 0 ∷ t) (zeros s)

room_scratch : (R : Room) (H : Graph) (s : List ℕ) → map (λ (w : ℕ). 0) s ≡ scratch_after (outcome (room_tests R H) H) s
unfolding room_tests
room_scratch R H s = go (leb (length H.nodes) (min R.nodes 16384)) (leb (length H.edges) (min R.starts 65536))
  where
    go : (a b : Bool) → map (λ (w : ℕ). 0) s ≡ scratch_after (outcome (unless 33 a then unless 34 b) H) s
    go true true = refl
    go true false = refl
    go false b = refl

-- What is made where the scratch is enough: by a removal, and by telling its size.
module _ (starts listed lengths nodes endpoint from to via s t t' : List ℕ) (l : Layout) (f : Found starts listed lengths nodes endpoint from to via s t l) (z : t' ≡ replicate (length t) 0)
    (D : Design) (L : PathList) (G : Graph) (w : Worked D L G starts listed lengths nodes endpoint from to via) where
  scratch_zero : (R : Room) → t' ≡ scratch_after (room_outcome L G R) s
  scratch_zero R = z ∙ ap (λ (n : ℕ). replicate n 0) f.size ∙ zeros s ∙ room_scratch R (true_graph G (paths_of L)) s

  pub search_removed : (room-nodes room-endpoint room-from room-to room-via room-nodes' room-endpoint' room-from' room-to' room-via' : List ℕ) (r : Result GraphCounts Refusal)
      → RoomAnswered l nodes endpoint t r room-nodes room-endpoint room-from room-to room-via room-nodes' room-endpoint' room-from' room-to' room-via'
      → Removed (room_outcome L G (room_of (graph_slices room-nodes room-endpoint room-from room-to room-via))) r room-nodes room-endpoint room-from room-to room-via s room-nodes' room-endpoint' room-from' room-to' room-via' t'
  unfolding RoomAnswered
  search_removed room-nodes room-endpoint room-from room-to room-via room-nodes' room-endpoint' room-from' room-to' room-via' r a =
      record {
        answered = a D L G (f.tabled D L G w.given) w.given.copies w.endpoints w.given.into;
        scratch = scratch_zero (room_of (graph_slices room-nodes room-endpoint room-from room-to room-via));
      }

  pub search_sized : (R : Room) (r : Result GraphCounts Refusal) (u : List ℕ) (copies edges : ℕ) → AllShown l t u copies edges → r ≡ counts_answer (count_tests copies edges R.nodes R.starts) copies edges → Sized (room_outcome L G R) r s t'
  search_sized R r u copies edges shown e =
      (e ∙ answer_is l nodes endpoint t u copies edges f.all shown R D L G (f.tabled D L G w.given) w.endpoints w.given.into, scratch_zero R)

-- What 31 asks is enough for the tables, where there is a copy: each is a candidate, so that with its slot it takes four words of its eight, and four more are
-- there for no copy.
tables_fit : (copies count listed edges : ℕ) → 0 < copies → copies ≤ count → table_words copies edges listed + count + work_words edges ≤ scratch_words count listed edges
tables_fit copies count listed edges some h = omega arith

none_fit : (nodes starts : ℕ) → count_tests 0 0 nodes starts ≡ Passed
none_fit nodes starts =
    λ i. fit_passed 33 (leb 0 (min nodes 16384)) (le→leb 0 (min nodes 16384) (omega arith)) i then fit_passed 34 (leb 0 (min starts 65536)) (le→leb 0 (min starts 65536) (omega arith)) i

-- without a copy there is no path, and nothing is left
pub true_none : (G : Graph) (L : List (List ℕ)) → length G.nodes ≡ 0 → true_graph G L ≡ graph [] [] []
unfolding true_graph copies joins permitted_runs complete_runs flat_map
true_none G L e =
    let runs : permitted_runs L G ≡ [] =
    ap (λ (n : ℕ). keep (λ r. permitted L (names r.edges)) (flat_map (λ c. map (λ r. record { first = c; edges = r }) (runs_from G (length G.nodes) c)) (keep (starts_at G) (upto n 0)))) e in
    λ i. graph (map (λ c. node_of G c.at) (sort copy_before (flat_map (λ r. copies_on L r.first r.edges) (runs i))))
    (map (λ c. one_if (path_ends L G c)) (sort copy_before (flat_map (λ r. copies_on L r.first r.edges) (runs i))))
    (sort edge_before (map (numbered (sort copy_before (flat_map (λ r. copies_on L r.first r.edges) (runs i)))) (flat_map (λ r. joins_on L r.first r.edges) (runs i))))

-- 31, from the count of candidates
module _ (starts listed lengths nodes endpoint from to via : List ℕ) where
  pub work_countable : Workable starts listed lengths nodes endpoint from to via → ListCountable starts listed lengths × CopiesCountable nodes
  work_countable x =
      let w = x.worked in (
        list_countable x.design starts listed lengths w.fits (subst (λ (K : PathList). ListFits x.design K) w.given.list w.given.fits) w.given.design,
        copies_countable x.design x.graph nodes w.fits w.given.legal w.given.copies w.given.few_copies,
      )

  abbrev count : ℕ
  count = candidates (of_starts starts) (of_nodes nodes) (path_list listed lengths)

  abbrev words : List ℕ → Verdict
  words s = words_for starts listed lengths nodes from s

  count_is : (D : Design) (L : PathList) (G : Graph) → Given D L G starts listed lengths nodes from to via → count ≡ candidates D G L
  count_is D L G g = sym (candidates_slices D L G starts listed lengths nodes g.design g.list g.copies)

  pub work_in : (s : List ℕ) → Workable starts listed lengths nodes endpoint from to via → words s ≡ Passed → 0 < length nodes → WorkableIn starts listed lengths nodes endpoint from to via count s
  work_in s x p some =
      let g = x.worked.given in
      let asked = scratch_words count (length listed) (length from) in
      let long = leb→le asked (length s) (holds (leb asked (length s)) (unless_passed 31 (leb asked (length s)) p)) in
      let is = count_is x.design x.list x.graph g in
      let copies : length nodes ≤ count = omega (arith, is, copies_candidates x.design x.graph x.list, ap length g.copies) in
      record { work = x; counted = is; room = omega (arith, long, tables_fit (length nodes) count (length listed) (length from) some copies) }

  scratch_is : (s : List ℕ) (D : Design) (L : PathList) (G : Graph) → Worked D L G starts listed lengths nodes endpoint from to via
      → words s ≡ scratch_test D G L (length s)
  unfolding scratch_test
  scratch_is s D L G w =
      let g = w.given in
      λ i. words_test (count_is D L G g i) (length (sym g.list i).edges) (sym (ap length g.edges ∙ length_edges from to via g.ends g.names) i) (length s)

  -- what is true of an outcome, from what 31 answers: of a removal in its room, and of its size in the largest
  module _ (P : Outcome Graph → Type 0) (R : Room) (s : List ℕ) (D : Design) (L : PathList) (G : Graph) (w : Worked D L G starts listed lengths nodes endpoint from to via) where
    words_are : (v : Verdict) → words s ≡ v → P (outcome (v then room_tests R (true_graph G (paths_of L))) (true_graph G (paths_of L))) → P (removal_outcome D L G R (length s))
    words_are v e p = subst (λ (x : Verdict). P (outcome (x then room_tests R (true_graph G (paths_of L))) (true_graph G (paths_of L)))) (sym e ∙ scratch_is s D L G w) p

  -- a refusal by 31 leaves the scratch
  kept : (s : List ℕ) (r : Refusal) → words s ≡ Err r → s ≡ scratch_after {A = Graph} (refused r) s
  kept s r f = ap (λ (x : Refusal). scratch_after {A = Graph} (refused x) s) (unless_refused 31 (leb (scratch_words count (length listed) (length from)) (length s)) r f)

  module _ (s : List ℕ) where
    pub removed_refused : (r : Refusal) (t : List ℕ) → words s ≡ Err r → t ≡ s → (room-nodes room-endpoint room-from room-to room-via : List ℕ)
        → AllRemoved starts listed lengths nodes endpoint from to via (Err r) room-nodes room-endpoint room-from room-to room-via s room-nodes room-endpoint room-from room-to room-via t
    unfolding AllRemoved
    removed_refused r t f q room-nodes room-endpoint room-from room-to room-via D L G w =
        words_are (λ o. Removed o (Err r) room-nodes room-endpoint room-from room-to room-via s room-nodes room-endpoint room-from room-to room-via t)
        (room_of (graph_slices room-nodes room-endpoint room-from room-to room-via)) s D L G w (Err r) f
        (record { answered = record { answer = refl; nodes = refl; endpoints = refl; starts = refl; ends = refl; names = refl }; scratch = q ∙ kept s r f })

    pub sized_refused : (r : Refusal) (t : List ℕ) → words s ≡ Err r → t ≡ s → AllSized starts listed lengths nodes endpoint from to via (Err r) s t
    unfolding AllSized
    sized_refused r t f q D L G w =
        words_are (λ o. Sized o (Err r) s t) largest_room s D L G w (Err r) f (refl, q ∙ kept s r f)

    -- without a copy nothing is found, and the result is empty
    module _ (t t' : List ℕ) (enough : words s ≡ Passed) (none : length nodes ≡ 0) (same : t ≡ s) (z : t' ≡ replicate (length t) 0) where
      cleared : t' ≡ map (λ (w : ℕ). 0) s
      cleared = z ∙ ap (λ (u : List ℕ). replicate (length u) 0) same ∙ zeros s

      empty : (D : Design) (L : PathList) (G : Graph) → Worked D L G starts listed lengths nodes endpoint from to via → true_graph G (paths_of L) ≡ graph [] [] []
      empty D L G w = true_none G (paths_of L) (ap length w.given.copies ∙ none)

      pub removed_none : (room-nodes room-endpoint room-from room-to room-via : List ℕ)
          → AllRemoved starts listed lengths nodes endpoint from to via (Counts 0 0) room-nodes room-endpoint room-from room-to room-via s room-nodes room-endpoint room-from room-to room-via t'
      unfolding AllRemoved room_tests
      removed_none room-nodes room-endpoint room-from room-to room-via D L G w =
          words_are (λ o. Removed o (Counts 0 0) room-nodes room-endpoint room-from room-to room-via s room-nodes room-endpoint room-from room-to room-via t')
          (room_of (graph_slices room-nodes room-endpoint room-from room-to room-via)) s D L G w Passed enough
          (subst (λ (H : Graph). Removed (outcome (count_tests (length H.nodes) (length H.edges) (length room-nodes) (length room-from)) H) (Counts 0 0) room-nodes room-endpoint room-from room-to room-via s room-nodes room-endpoint room-from room-to room-via t') (sym (empty D L G w))
          (subst (λ (v : Verdict). Removed (outcome v (graph [] [] [])) (Counts 0 0) room-nodes room-endpoint room-from room-to room-via s room-nodes room-endpoint room-from room-to room-via t') (sym (none_fit (length room-nodes) (length room-from)))
          (record { answered = record { answer = refl; nodes = refl; endpoints = refl; starts = refl; ends = refl; names = refl }; scratch = cleared })))

      pub sized_none : AllSized starts listed lengths nodes endpoint from to via (Counts 0 0) s t'
      unfolding AllSized room_tests
      sized_none D L G w =
          words_are (λ o. Sized o (Counts 0 0) s t') largest_room s D L G w Passed enough
          (subst (λ (H : Graph). Sized (outcome (count_tests (length H.nodes) (length H.edges) 16384 65536) H) (Counts 0 0) s t') (sym (empty D L G w))
          (subst (λ (v : Verdict). Sized (outcome v (graph [] [] [])) (Counts 0 0) s t') (sym (none_fit 16384 65536)) (refl, cleared)))

    module _ (t t' : List ℕ) (l : Layout) (enough : words s ≡ Passed) (f : Found starts listed lengths nodes endpoint from to via s t l) (z : t' ≡ replicate (length t) 0) (r : Result GraphCounts Refusal) where
      pub removed_made : (room-nodes room-endpoint room-from room-to room-via room-nodes' room-endpoint' room-from' room-to' room-via' : List ℕ)
          → RoomAnswered l nodes endpoint t r room-nodes room-endpoint room-from room-to room-via room-nodes' room-endpoint' room-from' room-to' room-via'
          → AllRemoved starts listed lengths nodes endpoint from to via r room-nodes room-endpoint room-from room-to room-via s room-nodes' room-endpoint' room-from' room-to' room-via' t'
      unfolding AllRemoved
      removed_made room-nodes room-endpoint room-from room-to room-via room-nodes' room-endpoint' room-from' room-to' room-via' a D L G w =
          words_are (λ o. Removed o r room-nodes room-endpoint room-from room-to room-via s room-nodes' room-endpoint' room-from' room-to' room-via' t')
          (room_of (graph_slices room-nodes room-endpoint room-from room-to room-via)) s D L G w Passed enough
          (search_removed starts listed lengths nodes endpoint from to via s t t' l f z D L G w room-nodes room-endpoint room-from room-to room-via room-nodes' room-endpoint' room-from' room-to' room-via' r a)

      pub sized_made : (u : List ℕ) (copies edges : ℕ) → AllShown l t u copies edges → r ≡ counts_answer (count_tests copies edges 16384 65536) copies edges → AllSized starts listed lengths nodes endpoint from to via r s t'
      unfolding AllSized
      sized_made u copies edges shown e D L G w =
          words_are (λ o. Sized o r s t') largest_room s D L G w Passed enough
          (search_sized starts listed lengths nodes endpoint from to via s t t' l f z D L G w largest_room r u copies edges shown e)
