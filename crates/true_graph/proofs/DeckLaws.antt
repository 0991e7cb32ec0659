-- The removal that a deck asks for, and its graph packed.
use Prim.Native.Nat.{ℕ, ◌≤◌}
use native.Mathlib.Omega.{arith}
use mathlib.Core.Path.{◌≡◌, refl, sym, ap, ◌∙◌, subst}
use mathlib.Core.Bool.{Bool, true, false, ◌&&◌}
use mathlib.Core.List.{List, map}
use Rattle.std.specs.Prelude.{Result, Err}
use Rattle.timing.specs.Answers.{Verdict, Passed}
use Rattle.timing.specs.declared.GraphCounts.{GraphCounts}
use lib.Dec.{T, leb, le→leb}
use lib.ListN.{length, take, drop, replicate, length-append, length-map, length-take, length-replicate}
use borrow.Author.Tests.{le-leb}
use Rattle.timing.specs.declared.Refusal.{Refusal}
use Rattle.timing.specs.Lists.{placed}
use Rattle.timing.specs.Graphs.{Design, Graph, Edge, design_graph}
use Rattle.timing.specs.Marks.{PathList, paths_of}
use Rattle.timing.specs.TrueGraphs.{true_graph}
use Rattle.timing.specs.Refusals.{unless, ◌then◌}
use Rattle.timing.specs.Tests.{design_sizes, list_sizes, design_tests, list_tests, allowed_test, graph_counts, endpoint_test, Room, room_sizes}
use Rattle.timing.specs.GraphBytes.{packed_graph}
use Rattle.timing.specs.Calls.{GraphSlices, graph_slices, graph_of, slices_of, room_of, graph_sizes, Outcome, made, refused, outcome, Removal, removal, removal_tests, remove_from_design, test_deck, graph_answer, nodes_after, endpoints_after, starts_after, ends_after, names_after, writing, room_after_writing, graph_write_tests, program_room, program_removal, c_written, room_after_c}
use Rattle.timing.specs.WellFormed.{zero_or_one}
use Rattle.timing.proofs.Verdicts.{then_passed}
use Rattle.theorems.proofs.Lists.{all_of_intro}
use Rattle.theorems.proofs.Stands.{true_sizes}
use Rattle.theorems.proofs.Kept.{flag_small}
use Rattle.theorems.proofs.Series.{graph_slices_lem, slices_sizes}
use Rattle.theorems.proofs.Records.{front_made}
use Rattle.removal.specs.Remove.{Answered}
use Rattle.true_graph.specs.Small.{SmallGraph}
use Rattle.true_graph.specs.Deck.{Tested, deck_of, MadeFits, made_written, made_room}

passed_on : (v w : Verdict) → v ≡ Passed → (v then w) ≡ w
passed_on v w e = ap (λ (y : Verdict). y then w) e

-- where the tests of a deck pass, removal from the design makes the same
module _ (D : Design) (L : PathList) (t : ℕ) where
  abbrev H : Graph
  H = true_graph (design_graph D) (paths_of L)

  abbrev r : Removal
  r = removal L program_room 16384

  pub deck_refused : (x : Refusal) → test_deck D L t ≡ Err x → program_removal (deck_of D L t) ≡ refused x
  unfolding program_removal
  deck_refused x e = ap (λ (v : Verdict). outcome (v then removal_tests D (design_graph D) r) H) e

  pub deck_tested : test_deck D L t ≡ Passed → Tested D L
  unfolding test_deck
  deck_tested e =
      let t₁ = then_passed (design_sizes D) (list_sizes L then (design_tests D then (list_tests D L then allowed_test t))) e in
      let t₂ = then_passed (list_sizes L) (design_tests D then (list_tests D L then allowed_test t)) t₁.1 in
      let t₃ = then_passed (design_tests D) (list_tests D L then allowed_test t) t₂.1 in
      let t₄ = then_passed (list_tests D L) (allowed_test t) t₃.1 in
      record { sizes = t₁.0; adds = t₂.0; design = t₃.0; list = t₄.0 }

  pub deck_passed : test_deck D L t ≡ Passed → remove_from_design D r ≡ program_removal (deck_of D L t)
  unfolding program_removal test_deck remove_from_design
  deck_passed e =
      let w : Verdict = removal_tests D (design_graph D) r in
      let d = deck_tested e in
      ap (λ (v : Verdict). outcome v H)
      (passed_on (design_sizes D) (list_sizes L then (room_sizes program_room then (design_tests D then (list_tests D L then w)))) d.sizes
      ∙ passed_on (list_sizes L) (room_sizes program_room then (design_tests D then (list_tests D L then w))) d.adds
      ∙ passed_on (design_tests D) (list_tests D L then w) d.design
      ∙ passed_on (list_tests D L) w d.list
      ∙ sym (passed_on (design_sizes D then (list_sizes L then (design_tests D then (list_tests D L then allowed_test t)))) w e))

-- the room of a removal, afterwards
abbrev pub rooms_after : Outcome Graph → GraphSlices → GraphSlices
rooms_after o S = graph_slices (nodes_after o S.nodes) (endpoints_after o S.endpoints) (starts_after o S.starts) (ends_after o S.ends) (names_after o S.names)

-- a front that is as long as was asked for
pub length_front : {A : Type 0} (k : ℕ) (xs : List A) → k ≤ length xs → k ≡ length (take k xs)
length_front k xs h = omega (arith, h, length-take k xs)

pub length_placed : {A : Type 0} (xs room : List A) (k : ℕ) → k ≡ length xs → k ≤ length (placed xs room)
length_placed xs room k e = omega (arith, e, length-append xs (drop (length xs) room))

edges_placed : (G : Graph) (f : Edge → ℕ) (room : List ℕ) → length G.edges ≤ length (placed (map f G.edges) room)
edges_placed G f room = length_placed (map f G.edges) room (length G.edges) (sym (length-map G.edges f))

-- a graph that is made has an endpoint number for each copy, and each is 0 or 1
abbrev pub Ended : Outcome Graph → Type 0
Ended (made G) = (length G.endpoints ≡ length G.nodes) × T (zero_or_one G.endpoints)
Ended (refused x) = Unit {0}

ended_outcome : (v : Verdict) (G : Graph) (L : List (List ℕ)) → Ended (outcome v (true_graph G L))
ended_outcome Passed G L =
    (true_sizes G L, all_of_intro (λ x. leb x 1) (true_graph G L).endpoints (λ x m. le→leb x 1 (flag_small G L x m)))
ended_outcome (Err x) G L = tt

pub ended_design : (D : Design) (r : Removal) → Ended (remove_from_design D r)
unfolding remove_from_design
ended_design D r =
    ended_outcome
    (design_sizes D then list_sizes r.list then room_sizes r.room then design_tests D then list_tests D r.list then removal_tests D (design_graph D) r)
    (design_graph D) (paths_of r.list)

after_fits : (o : Outcome Graph) → Ended o → (S : GraphSlices) → MadeFits (graph_answer o) (rooms_after o S)
after_fits (made G) e S =
    (length_placed G.nodes S.nodes (length G.nodes) refl, length_placed G.endpoints S.endpoints (length G.nodes) (sym e.0), edges_placed G (λ e. e.start) S.starts, edges_placed G (λ e. e.end) S.ends, edges_placed G (λ e. e.name) S.names)
after_fits (refused x) e S = tt

-- the writer passes, and writes the graph that was made
few_passed : (a b : ℕ) → a ≤ 16384 → b ≤ 65536 → unless 32 (leb a 16384 && leb b 65536) ≡ Passed
few_passed a b h k = rw (le-leb a 16384 h, le-leb b 65536 k)

ones_passed : (b : Bool) → T b → unless 32 b ≡ Passed
ones_passed true t = refl
ones_passed false t = absurd t

write_passed : (G : Graph) → Ended (made G) → SmallGraph (graph_answer (made G)) → graph_write_tests (slices_of G) ≡ Passed
unfolding graph_write_tests
write_passed G e s =
    passed_on (graph_sizes (slices_of G)) (graph_counts (graph_of (slices_of G)) then endpoint_test (graph_of (slices_of G))) (slices_sizes G e.0)
    ∙ ap (λ (H : Graph). graph_counts H then endpoint_test H) (graph_slices_lem G)
    ∙ passed_on (graph_counts G) (endpoint_test G) (few_passed (length G.nodes) (length G.edges) s.0 s.1)
    ∙ ones_passed (zero_or_one G.endpoints) e.1

after_written : (o : Outcome Graph) → Ended o → (S : GraphSlices) (room : List ℕ) → SmallGraph (graph_answer o) → made_written (graph_answer o) (rooms_after o S) room ≡ c_written o room
after_written (made G) e S room s =
    ap (λ (x : GraphSlices). writing (graph_write_tests x) room (packed_graph (graph_of x))) (front_made G S e.0)
    ∙ ap (λ (v : Verdict). writing v room (packed_graph (graph_of (slices_of G)))) (write_passed G e s)
    ∙ ap (λ (K : Graph). writing Passed room (packed_graph K)) (graph_slices_lem G)
after_written (refused x) e S room s = refl

after_room : (o : Outcome Graph) → Ended o → (S : GraphSlices) (room : List ℕ) → SmallGraph (graph_answer o) → made_room (graph_answer o) (rooms_after o S) room ≡ room_after_c o room
after_room (made G) e S room s =
    ap (λ (x : GraphSlices). room_after_writing (graph_write_tests x) room (packed_graph (graph_of x))) (front_made G S e.0)
    ∙ ap (λ (v : Verdict). room_after_writing v room (packed_graph (graph_of (slices_of G)))) (write_passed G e s)
    ∙ ap (λ (K : Graph). room_after_writing Passed room (packed_graph K)) (graph_slices_lem G)
after_room (refused x) e S room s = refl

-- the same of what a removal answers and leaves behind
module _ (o : Outcome Graph) (ended : Ended o) (r : Result GraphCounts Refusal) (S S' : GraphSlices)
    (a : Answered o r S.nodes S.endpoints S.starts S.ends S.names S'.nodes S'.endpoints S'.starts S'.ends S'.names) where
  after : S' ≡ rooms_after o S
  after = λ i. graph_slices (a.nodes i) (a.endpoints i) (a.starts i) (a.ends i) (a.names i)

  pub made_fits : MadeFits r S'
  made_fits = subst (λ (x : Result GraphCounts Refusal). MadeFits x S') (sym a.answer) (subst (MadeFits (graph_answer o)) (sym after) (after_fits o ended S))

  pub made_written_lem : (o' : Outcome Graph) → o ≡ o' → SmallGraph (graph_answer o) → (room : List ℕ) (w : Result ℕ Refusal) → w ≡ made_written r S' room → w ≡ c_written o' room
  made_written_lem o' p s room w e = e ∙ (λ i. made_written (a.answer i) (after i) room) ∙ after_written o ended S room s ∙ ap (λ (x : Outcome Graph). c_written x room) p

  pub made_room_lem : (o' : Outcome Graph) → o ≡ o' → SmallGraph (graph_answer o) → (room room' : List ℕ) → room' ≡ made_room r S' room → room' ≡ room_after_c o' room
  made_room_lem o' p s room room' e = e ∙ (λ i. made_room (a.answer i) (after i) room) ∙ after_room o ended S room s ∙ ap (λ (x : Outcome Graph). room_after_c x room) p

-- the program's room
abbrev pub zeros : ℕ → List ℕ
zeros n = replicate n 0

pub program_room_lem : room_of (graph_slices (zeros 512) (zeros 512) (zeros 2048) (zeros 2048) (zeros 2048)) ≡ program_room
program_room_lem = go (length (zeros 512)) (length (zeros 2048)) (length-replicate {A = ℕ} 512 0) (length-replicate {A = ℕ} 2048 0)
  where
    go : (copies edges : ℕ) → copies ≡ 512 → edges ≡ 2048 → ◌≡◌ {A = Room} (record { nodes = copies; endpoints = copies; starts = edges; ends = edges; names = edges }) program_room
    go copies edges a b = λ i. record { nodes = a i; endpoints = a i; starts = b i; ends = b i; names = b i }
