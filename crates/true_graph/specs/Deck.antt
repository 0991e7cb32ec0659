-- What is found in front of tables and room that were lent on: the deck that was read, and the graph that was made.
use Rattle.std.specs.Prelude.{ℕ, ◌≤◌, ◌≡◌, List, ℤ, length, take, Result, Ok, Err}
use Rattle.timing.specs.Answers.{Passed}
use Rattle.timing.specs.declared.DeckCounts.{DeckCounts}
use Rattle.timing.specs.declared.GraphCounts.{GraphCounts}
use Rattle.timing.specs.declared.Refusal.{Refusal}
use Rattle.timing.specs.Graphs.{Design, design, Graph}
use Rattle.timing.specs.Marks.{PathList, path_list}
use Rattle.timing.specs.Tests.{design_sizes, list_sizes, design_tests, list_tests}
use Rattle.timing.specs.Decks.{Deck}
use Rattle.timing.specs.GraphBytes.{packed_graph}
use Rattle.timing.specs.Calls.{GraphSlices, graph_slices, graph_of, Outcome, refused, writing, room_after_writing, graph_write_tests, program_removal}

abbrev pub deck_of : Design → PathList → ℕ → Deck
deck_of D L allowed = record { design = D; list = L; allowed = allowed }

-- what the tests of a design and a list say where they pass
pub record Tested (D : Design) (L : PathList) : Type 0 where
  pub sizes : design_sizes D ≡ Passed
  pub adds : list_sizes L ≡ Passed
  pub design : design_tests D ≡ Passed
  pub list : list_tests D L ≡ Passed

-- the graph in front of a room
abbrev pub front_slices : ℕ → ℕ → GraphSlices → GraphSlices
front_slices copies edges S = graph_slices (take copies S.nodes) (take copies S.endpoints) (take edges S.starts) (take edges S.ends) (take edges S.names)

abbrev pub MadeFits : Result GraphCounts Refusal → GraphSlices → Type 0
MadeFits (Ok g) S = (g.copies ≤ length S.nodes) × (g.copies ≤ length S.endpoints) × (g.edges ≤ length S.starts) × (g.edges ≤ length S.ends) × (g.edges ≤ length S.names)
MadeFits (Err r) S = Unit {0}

-- and packed
abbrev pub made_written : Result GraphCounts Refusal → GraphSlices → List ℕ → Result ℕ Refusal
made_written (Ok g) S room = writing (graph_write_tests (front_slices g.copies g.edges S)) room (packed_graph (graph_of (front_slices g.copies g.edges S)))
made_written (Err r) S room = Err r

abbrev pub made_room : Result GraphCounts Refusal → GraphSlices → List ℕ → List ℕ
made_room (Ok g) S room = room_after_writing (graph_write_tests (front_slices g.copies g.edges S)) room (packed_graph (graph_of (front_slices g.copies g.edges S)))
made_room (Err r) S room = room

-- the deck in front of tables
abbrev pub ReadFits : Result DeckCounts Refusal → List ℕ → List ℕ → List ℤ → List ℤ → List ℕ → List ℕ → List ℕ → Type 0
ReadFits (Ok d) starts ends early late marked listed lengths =
    (d.edges ≤ length starts) × (d.edges ≤ length ends) × (d.edges ≤ length early) × (d.edges ≤ length late) × (d.marked ≤ length marked)
    × (d.listed ≤ length listed) × (d.paths ≤ length lengths)
ReadFits (Err r) starts ends early late marked listed lengths = Unit {0}

-- and its true graph
abbrev pub read_removal : Result DeckCounts Refusal → List ℕ → List ℕ → List ℤ → List ℤ → List ℕ → List ℕ → List ℕ → Outcome Graph
read_removal (Ok d) starts ends early late marked listed lengths =
    program_removal
    (deck_of
    (design d.nodes (take d.edges starts) (take d.edges ends) (take d.edges early) (take d.edges late) (take d.marked marked))
    (path_list (take d.listed listed) (take d.paths lengths))
    d.allowed)
read_removal (Err r) starts ends early late marked listed lengths = refused r
