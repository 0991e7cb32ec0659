-- "Room known beforehand" (02, request 8): a call that tells a removal's size, and what filling then answers, from the same design, list and
-- earlier graph. `Tells` is what the contracts of `size_from_design` and `size_from_graph` say of one call; crate `called` shows it of both.
use Rattle.std.specs.Prelude.{ℕ, ◌≡◌, cond, ◌&&◌, List, eqb, ltb, length, drop, Result, Ok, Err}
use Rattle.std.proofs.Math.Option.{Option, none, some}
use Rattle.timing.specs.Answers.{Counts}
use Rattle.timing.specs.declared.GraphCounts.{GraphCounts}
use Rattle.timing.specs.declared.Refusal.{Refusal}
use Rattle.timing.specs.Graphs.{Design, Graph}
use Rattle.timing.specs.Marks.{PathList, path_list, paths_of}
use Rattle.timing.specs.TrueGraphs.{true_graph}
use Rattle.timing.specs.Refusals.{refusal}
use Rattle.timing.specs.Tests.{Room}
use Rattle.timing.specs.Calls.{GraphSlices, graph_slices, slices_of, room_of, Outcome, size_from_design, size_from_graph, graph_answer, scratch_after}
use Rattle.timing.specs.Called.{Called, graph_on, front}

-- one call that tells: the list and the scratch that it was lent, its answer, and the scratch afterwards
pub record Telling : Type 0 where
  pub listed : List ℕ
  pub lengths : List ℕ
  pub scratch : List ℕ
  pub answer : Result GraphCounts Refusal
  pub scratch_at : List ℕ

-- the call did what the outcome says
pub record Tells (o : Outcome Graph) (t : Telling) : Type 0 where
  pub answer : t.answer ≡ graph_answer o
  pub scratch : t.scratch_at ≡ scratch_after o t.scratch

-- from the design, or from an earlier graph as it is lent
abbrev pub size_on : Design → Option GraphSlices → PathList → ℕ → Outcome Graph
size_on D none L words = size_from_design D L words
size_on D (some S) L words = size_from_graph D S L words

-- What filling answers in room R, from what was told: it "is refused for room if and only if a room is below the told number", by 33 if that is the
-- room of copies, and else by 34. Where 34 was told, filling gives 33 if its room is below the result's copies. What else was told it gives too.
abbrev pub foretold : Room → ℕ → Result GraphCounts Refusal → Result GraphCounts Refusal
foretold R copies (Ok g) =
    cond (ltb R.nodes g.copies) (Err (refusal 33 0)) (cond (ltb R.starts g.edges) (Err (refusal 34 0)) (Counts g.copies g.edges))
foretold R copies (Err r) = cond (eqb r.number 34 && ltb R.nodes copies) (Err (refusal 33 0)) (Err r)

-- the places of a room behind c copies and e edges
abbrev pub behind : ℕ → ℕ → GraphSlices → GraphSlices
behind c e S = graph_slices (drop c S.nodes) (drop c S.endpoints) (drop e S.starts) (drop e S.ends) (drop e S.names)

-- G fills exactly c places for copies and e for edges of a room
pub record FillsJust (G : Graph) (c e : ℕ) (room after : GraphSlices) : Type 0 where
  pub copies : length G.nodes ≡ c
  pub edges : length G.edges ≡ e
  pub filled : front c e after ≡ slices_of G
  pub unchanged : behind c e after ≡ behind c e room

-- A call that tells and one that fills, on one design and one graph and lent the same list: if telling is not refused 31, which would tell nothing
-- of a longer scratch, and filling neither 30 nor 31, then filling answers what is foretold, and what it answers it fills.
abbrev pub Foretells : Design → Option GraphSlices → Telling → Called → Type 0
Foretells D held t c =
    let G = true_graph (graph_on D held) (paths_of (path_list t.listed t.lengths)) in
    c.listed ≡ t.listed
    → c.lengths ≡ t.lengths
    → (t.answer ≡ Err (refusal 31 0) → ⊥)
    → (c.answer ≡ Err (refusal 30 0) → ⊥)
    → (c.answer ≡ Err (refusal 31 0) → ⊥)
    → (c.answer ≡ foretold (room_of c.room) (length G.nodes) t.answer)
    × ((k e : ℕ) → c.answer ≡ Counts k e → FillsJust G k e c.room c.after)
