-- What filling answers, from what was told of the same design, list and earlier graph: the tests of both are the same but for the room's
-- lengths, the words of scratch, and 33 and 34, and these two go by the same counts.
use Prim.Native.Nat.{ℕ, ◌≤◌, min}
use native.Mathlib.Omega.{arith}
use native.Mathlib.Decide.{dec_le}
use mathlib.Core.Path.{◌≡◌, refl, sym, ap, ◌∙◌, subst}
use mathlib.Core.Bool.{Bool, true, false, not, cond, ◌&&◌, ◌||◌}
use mathlib.Core.List.{List, map}
use mathlib.Core.Option.{Option, none, some}
use Rattle.std.specs.Prelude.{Result, Ok, Err}
use Rattle.timing.specs.Answers.{Verdict, Passed, Counts}
use Rattle.timing.specs.declared.GraphCounts.{GraphCounts}
use Rattle.timing.specs.declared.Refusal.{Refusal}
use lib.Dec.{eqb, ltb, leb}
use lib.ListN.{length, drop, length-map}
use lib.Seq.{drop-append_seam}
use borrow.Author.Tests.{le-leb, lt-leb, lt-ltb, le-ltb}
use Rattle.timing.specs.Lists.{placed}
use Rattle.timing.specs.Graphs.{Design, Edge, Graph, design_graph}
use Rattle.timing.specs.Marks.{PathList, path_list, paths_of}
use Rattle.timing.specs.TrueGraphs.{true_graph}
use Rattle.timing.specs.WellFormed.{well_formed}
use Rattle.timing.specs.Refusals.{refusal, unless, ◌then◌}
use Rattle.timing.specs.Tests.{design_sizes, list_sizes, design_tests, list_tests, graph_test, candidates, scratch_words, scratch_test, Room, room_sizes, room_tests}
use Rattle.timing.specs.Calls.{GraphSlices, graph_slices, graph_of, graph_sizes, room_of, Outcome, made, outcome, Removal, removal, removal_tests, remove_from_graph, largest_room, size_from_design, size_from_graph, graph_answer}
use Rattle.timing.specs.Called.{Called, removal_of, Meets, remove_on, graph_on, front}
use Rattle.timing.specs.Told.{Telling, Tells, size_on, foretold, behind, FillsJust, Foretells}
use Rattle.theorems.proofs.Lists.{neither_true}
use Rattle.theorems.proofs.Early.{keeps, Early, early_unless, design_sizes_early, room_sizes_early, list_sizes_early, design_early, list_early}
use Rattle.theorems.proofs.Stands.{true_sizes}
use Rattle.theorems.proofs.Series.{design_verdict, graph_verdict, from_design}
use Rattle.theorems.proofs.Records.{front_made}

-- what fits the smaller of two rooms fits the limit, and the room is not below it
fits_both : (c room limit : ℕ) → leb c (min room limit) ≡ (leb c (min limit limit) && not (ltb room c))
fits_both c room limit = go (dec_le c limit) (dec_le c room)
  where
    go : Dec (c ≤ limit) → Dec (c ≤ room) → leb c (min room limit) ≡ (leb c (min limit limit) && not (ltb room c))
    go (yes a) (yes b) = rw (le-leb c (min room limit) (omega arith), le-leb c (min limit limit) (omega arith), le-ltb room c b) refl
    go (yes a) (no b) = rw (lt-leb c (min room limit) (omega (arith, b)), le-leb c (min limit limit) (omega arith), lt-ltb room c (omega (arith, b))) refl
    go (no a) b = rw (lt-leb c (min room limit) (omega (arith, a)), lt-leb c (min limit limit) (omega (arith, a))) refl

not_34 : (k : ℕ) → keeps k → eqb k 34 ≡ false
not_34 k e = (neither_true (eqb k 33) (eqb k 34) (neither_true (eqb k 33 || eqb k 34) (eqb k 35) e).0).1

-- the result H, in a room
module _ (R : Room) (H : Graph) where
  abbrev answer : Verdict → Result GraphCounts Refusal
  answer v = graph_answer (outcome v H)

  abbrev told : Result GraphCounts Refusal → Result GraphCounts Refusal
  told a = foretold R (length H.nodes) a

  -- telling is v and filling w
  abbrev Fore : Verdict → Verdict → Type 0
  Fore v w = (v ≡ Err (refusal 31 0) → ⊥) → (w ≡ Err (refusal 30 0) → ⊥) → (w ≡ Err (refusal 31 0) → ⊥) → answer w ≡ told (answer v)

  -- a test that both make, and whose refusals are none for room
  fore_then : (u v w : Verdict) → Early u → Fore v w → Fore (u then v) (u then w)
  fore_then Passed v w a f = f
  fore_then (Err r) v w a f = λ p q s. ap (λ (b : Bool). cond (b && ltb R.nodes (length H.nodes)) (Err (refusal 33 0)) (Err r)) (sym (not_34 r.number a))

  -- 30 of the room, which telling does not test
  fore_room : (a b : Bool) (v w : Verdict) → Fore v w → Fore v ((unless 30 a then unless 30 b) then w)
  fore_room true true v w f = f
  fore_room true false v w f = λ p q s. absurd (q refl)
  fore_room false b v w f = λ p q s. absurd (q refl)

  -- 31, each by its own words
  fore_words : (a b : Bool) (v w : Verdict) → Fore v w → Fore (unless 31 a then v) (unless 31 b then w)
  fore_words true true v w f = f
  fore_words true false v w f = λ p q s. absurd (s refl)
  fore_words false b v w f = λ p q s. absurd (p refl)

  -- 33 and 34: x where the room of copies is too short, y where that of edges is
  abbrev short : Bool → Bool → Result GraphCounts Refusal → Result GraphCounts Refusal
  short x y (Ok g) = cond x (Err (refusal 33 0)) (cond y (Err (refusal 34 0)) (Ok g))
  short x y (Err r) = cond (eqb r.number 34 && x) (Err (refusal 33 0)) (Err r)

  told_short : (v : Verdict) → short (ltb R.nodes (length H.nodes)) (ltb R.starts (length H.edges)) (answer v) ≡ told (answer v)
  told_short Passed = refl
  told_short (Err r) = refl

  by_room : (a b x y : Bool) → answer (unless 33 (a && not x) then unless 34 (b && not y)) ≡ short x y (answer (unless 33 a then unless 34 b))
  by_room true true true y = refl
  by_room true true false true = refl
  by_room true true false false = refl
  by_room true false true y = refl
  by_room true false false y = refl
  by_room false b x y = refl

  fore_counts : Fore (room_tests largest_room H) (room_tests R H)
  unfolding room_tests
  fore_counts p q s =
      let c = length H.nodes in
      let e = length H.edges in
      (λ i. answer (unless 33 (fits_both c R.nodes 16384 i) then unless 34 (fits_both e R.starts 65536 i)))
      ∙ by_room (leb c (min 16384 16384)) (leb e (min 65536 65536)) (ltb R.nodes c) (ltb R.starts e)
      ∙ told_short (unless 33 (leb c (min 16384 16384)) then unless 34 (leb e (min 65536 65536)))

-- all tests of a removal
abbrev verdict_on : Design → Option GraphSlices → Removal → Verdict
verdict_on D none r = design_verdict D r
verdict_on D (some S) r = graph_verdict D S r

on_outcome : (D : Design) (held : Option GraphSlices) (r : Removal) → remove_on D held r ≡ outcome (verdict_on D held r) (true_graph (graph_on D held) (paths_of r.list))
unfolding remove_from_graph graph_verdict
on_outcome D none r = from_design D r
on_outcome D (some S) r = refl

-- telling is removal in the largest room
pub size_outcome : (D : Design) (held : Option GraphSlices) (L : PathList) (m : ℕ) → size_on D held L m ≡ remove_on D held (removal L largest_room m)
unfolding size_from_design size_from_graph
size_outcome D none L m = refl
size_outcome D (some S) L m = refl

module _ (D : Design) (L : PathList) (R : Room) (m n : ℕ) where
  fore_removal : (G : Graph) → Fore R (true_graph G (paths_of L)) (removal_tests D G (removal L largest_room m)) (removal_tests D G (removal L R n))
  unfolding scratch_test
  fore_removal G =
      let H = true_graph G (paths_of L) in
      let asked = scratch_words (candidates D G L) (length L.edges) (length G.edges) in
      fore_words R H (leb asked m) (leb asked n) (room_tests largest_room H) (room_tests R H) (fore_counts R H)

  fore_lengths : (H : Graph) (v w : Verdict) → Fore R H v w → Fore R H (room_sizes largest_room then v) (room_sizes R then w)
  fore_lengths H v w f =
      fore_room R H (eqb R.nodes R.nodes && eqb R.nodes R.endpoints) (eqb R.starts R.ends && eqb R.starts R.names) v w f

  fore_on : (held : Option GraphSlices) → Fore R (true_graph (graph_on D held) (paths_of L)) (verdict_on D held (removal L largest_room m)) (verdict_on D held (removal L R n))
  unfolding design_verdict graph_verdict
  fore_on none =
      let G = design_graph D in
      let H = true_graph G (paths_of L) in
      let v = removal_tests D G (removal L largest_room m) in
      let w = removal_tests D G (removal L R n) in
      let tests : Verdict → Verdict = λ u. design_tests D then (list_tests D L then u) in
      fore_then R H (design_sizes D) (list_sizes L then (room_sizes largest_room then tests v)) (list_sizes L then (room_sizes R then tests w)) (design_sizes_early D)
      (fore_then R H (list_sizes L) (room_sizes largest_room then tests v) (room_sizes R then tests w) (list_sizes_early L)
      (fore_lengths H (tests v) (tests w)
      (fore_then R H (design_tests D) (list_tests D L then v) (list_tests D L then w) (design_early D)
      (fore_then R H (list_tests D L) v w (list_early D L) (fore_removal G)))))
  fore_on (some S) =
      let G = graph_of S in
      let H = true_graph G (paths_of L) in
      let v = graph_test D G then removal_tests D G (removal L largest_room m) in
      let w = graph_test D G then removal_tests D G (removal L R n) in
      let tests : Verdict → Verdict = λ u. design_tests D then (list_tests D L then u) in
      let a = room_sizes largest_room then tests v in
      let b = room_sizes R then tests w in
      fore_then R H (design_sizes D) (list_sizes L then (graph_sizes S then a)) (list_sizes L then (graph_sizes S then b)) (design_sizes_early D)
      (fore_then R H (list_sizes L) (graph_sizes S then a) (graph_sizes S then b) (list_sizes_early L)
      (fore_then R H (graph_sizes S) a b (room_sizes_early (room_of S))
      (fore_lengths H (tests v) (tests w)
      (fore_then R H (design_tests D) (list_tests D L then v) (list_tests D L then w) (design_early D)
      (fore_then R H (list_tests D L) v w (list_early D L)
      (fore_then R H (graph_test D G) (removal_tests D G (removal L largest_room m)) (removal_tests D G (removal L R n)) (early_unless 32 refl (well_formed D G)) (fore_removal G)))))))

  -- over the definitions: what removal answers in a room with n words of scratch, from what was told with m
  pub foretold_on : (held : Option GraphSlices)
      → (graph_answer (size_on D held L m) ≡ Err (refusal 31 0) → ⊥)
      → (graph_answer (remove_on D held (removal L R n)) ≡ Err (refusal 30 0) → ⊥)
      → (graph_answer (remove_on D held (removal L R n)) ≡ Err (refusal 31 0) → ⊥)
      → graph_answer (remove_on D held (removal L R n)) ≡ foretold R (length (true_graph (graph_on D held) (paths_of L)).nodes) (graph_answer (size_on D held L m))
  foretold_on held p q s =
      let H = true_graph (graph_on D held) (paths_of L) in
      let filling = ap graph_answer (on_outcome D held (removal L R n)) in
      let telling = ap graph_answer (size_outcome D held L m ∙ on_outcome D held (removal L largest_room m)) in
      filling
      ∙ fore_on held (λ e. p (telling ∙ ap (λ (v : Verdict). graph_answer (outcome v H)) e)) (λ e. q (filling ∙ ap (λ (v : Verdict). graph_answer (outcome v H)) e)) (λ e. s (filling ∙ ap (λ (v : Verdict). graph_answer (outcome v H)) e))
      ∙ ap (foretold R (length H.nodes)) (sym telling)

-- What is counted is filled.
behind_placed : {A : Type 0} (n : ℕ) (xs room : List A) → length xs ≡ n → drop n (placed xs room) ≡ drop n room
behind_placed {A} n xs room e =
    subst (λ (k : ℕ). drop k (placed xs room) ≡ drop k room) e (drop-append_seam xs (drop (length xs) room))

-- the counts that an answer has, where it is no refusal
abbrev pub copies_in : Result GraphCounts Refusal → ℕ
copies_in (Ok g) = g.copies
copies_in (Err r) = 0

abbrev pub edges_in : Result GraphCounts Refusal → ℕ
edges_in (Ok g) = g.edges
edges_in (Err r) = 0

counted : (v : Verdict) (H : Graph) (k e : ℕ) → graph_answer (outcome v H) ≡ Counts k e → (outcome v H ≡ made H) × (length H.nodes ≡ k) × (length H.edges ≡ e)
counted Passed H k e q = (refl, ap copies_in q, ap edges_in q)
counted (Err r) H k e q = absurd (let z : ◌≡◌ {A = ℕ} 0 1 = cc in omega arith)

fills : (H : Graph) (c : Called) → length H.endpoints ≡ length H.nodes → Meets (made H) c → FillsJust H (length H.nodes) (length H.edges) c.room c.after
fills H c same m =
    let k = length H.nodes in
    let e = length H.edges in
    record {
      copies = refl;
      edges = refl;
      filled = (λ i. front k e (graph_slices (m.nodes i) (m.endpoints i) (m.starts i) (m.ends i) (m.names i))) ∙ front_made H c.room same;
      unchanged =
          (λ i. behind k e (graph_slices (m.nodes i) (m.endpoints i) (m.starts i) (m.ends i) (m.names i)))
          ∙ (λ i. graph_slices (behind_placed k H.nodes c.room.nodes refl i) (behind_placed k H.endpoints c.room.endpoints same i) (edges (λ x. x.start) c.room.starts i) (edges (λ x. x.end) c.room.ends i) (edges (λ x. x.name) c.room.names i));
    }
  where
    edges : (f : Edge → ℕ) (room : List ℕ) → drop (length H.edges) (placed (map f H.edges) room) ≡ drop (length H.edges) room
    edges f room = behind_placed (length H.edges) (map f H.edges) room (length-map H.edges f)

-- a call that answered counts filled its room with the true graph of what it worked on and its list
pub answered_fills : (D : Design) (held : Option GraphSlices) (c : Called) → Meets (remove_on D held (removal_of c)) c → (k e : ℕ) → c.answer ≡ Counts k e
    → FillsJust (true_graph (graph_on D held) (paths_of (removal_of c).list)) k e c.room c.after
answered_fills D held c m k e z =
    let H = true_graph (graph_on D held) (paths_of (removal_of c).list) in
    let o = on_outcome D held (removal_of c) in
    let r = counted (verdict_on D held (removal_of c)) H k e (sym (ap graph_answer o) ∙ sym m.answer ∙ z) in
    let f = fills H c (true_sizes (graph_on D held) (paths_of (removal_of c).list)) (subst (λ (x : Outcome Graph). Meets x c) (o ∙ r.0) m) in
    subst (λ (y : ℕ). FillsJust H k y c.room c.after) r.2 (subst (λ (x : ℕ). FillsJust H x (length H.edges) c.room c.after) r.1 f)

pub foretells : (D : Design) (held : Option GraphSlices) (t : Telling) (c : Called)
    → Tells (size_on D held (path_list t.listed t.lengths) (length t.scratch)) t → Meets (remove_on D held (removal_of c)) c → Foretells D held t c
foretells D held t c a b listed lengths p q s = (
  b.answer ∙ ap graph_answer same ∙ foretold_on D L (room_of c.room) m n held (λ e. p (a.answer ∙ e)) (λ e. q (answered ∙ e)) (λ e. s (answered ∙ e)) ∙ ap (foretold (room_of c.room) (length H.nodes)) (sym a.answer),
  λ k e z.
      subst (λ (x : PathList). FillsJust (true_graph (graph_on D held) (paths_of x)) k e c.room c.after) (λ i. path_list (listed i) (lengths i))
      (answered_fills D held c b k e z),
)
  where
    L : PathList
    L = path_list t.listed t.lengths

    m : ℕ
    m = length t.scratch

    n : ℕ
    n = length c.scratch

    H : Graph
    H = true_graph (graph_on D held) (paths_of L)

    same : remove_on D held (removal_of c) ≡ remove_on D held (removal L (room_of c.room) n)
    same = λ i. remove_on D held (removal (path_list (listed i) (lengths i)) (room_of c.room) n)

    answered : c.answer ≡ graph_answer (remove_on D held (removal L (room_of c.room) n))
    answered = b.answer ∙ ap graph_answer same
