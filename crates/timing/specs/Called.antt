-- A series of removals as it is run: what each call was lent, what it answered and what it left. `Meets` is what the contracts of
-- `remove_from_design` and `remove_from_graph` say of one call; crate `called` shows it of both from these contracts.
use Rattle.std.specs.Prelude.{ℕ, ◌≤◌, ◌≡◌, List, [], ◌∷◌, map, length, take, Result, Ok, Err}
use Rattle.std.proofs.Math.Option.{Option, none, some}
use Rattle.timing.specs.Answers.{Verdict, Passed, Counts}
use Rattle.timing.specs.declared.GraphCounts.{GraphCounts}
use Rattle.timing.specs.declared.Refusal.{Refusal}
use Rattle.timing.specs.Graphs.{Design, Graph, design_graph}
use Rattle.timing.specs.Marks.{path_list}
use Rattle.timing.specs.Refusals.{refusal}
use Rattle.timing.specs.Tests.{candidates, scratch_words}
use Rattle.timing.specs.Calls.{GraphSlices, graph_slices, graph_of, slices_of, Outcome, Removal, lent_removal, remove_from_design, remove_from_graph, graph_answer, nodes_after, endpoints_after, starts_after, ends_after, names_after, scratch_after}
use Rattle.timing.specs.Series.{verdicts_alone, whole_after, HeldIs}

-- one call: the list, room and scratch that it was lent, its answer, and room and scratch afterwards
pub record Called : Type 0 where
  pub listed : List ℕ
  pub lengths : List ℕ
  pub room : GraphSlices
  pub scratch : List ℕ
  pub answer : Result GraphCounts Refusal
  pub after : GraphSlices
  pub scratch_at : List ℕ

abbrev pub removal_of : Called → Removal
removal_of c =
    lent_removal c.listed c.lengths c.room.nodes c.room.endpoints c.room.starts c.room.ends c.room.names c.scratch

-- the call did what the outcome says: its answer, and every slice that it was lent
pub record Meets (o : Outcome Graph) (c : Called) : Type 0 where
  pub answer : c.answer ≡ graph_answer o
  pub nodes : c.after.nodes ≡ nodes_after o c.room.nodes
  pub endpoints : c.after.endpoints ≡ endpoints_after o c.room.endpoints
  pub starts : c.after.starts ≡ starts_after o c.room.starts
  pub ends : c.after.ends ≡ ends_after o c.room.ends
  pub names : c.after.names ≡ names_after o c.room.names
  pub scratch : c.scratch_at ≡ scratch_after o c.scratch

-- "Each works on the design while none is held, and after that on the graph held", as it is lent
abbrev pub remove_on : Design → Option GraphSlices → Removal → Outcome Graph
remove_on D none r = remove_from_design D r
remove_on D (some S) r = remove_from_graph D S r

-- c copies and e edges at the front of a room
abbrev pub front : ℕ → ℕ → GraphSlices → GraphSlices
front c e S = graph_slices (take c S.nodes) (take c S.endpoints) (take e S.starts) (take e S.ends) (take e S.names)

-- the slices that the caller holds after a call, and lends on: the front of the room, as long as the call answered; a refused
-- call leaves them
abbrev pub held_slices : Result GraphCounts Refusal → GraphSlices → Option GraphSlices → Option GraphSlices
held_slices (Ok g) S held = some (front g.copies g.edges S)
held_slices (Err r) S held = held

abbrev pub last_held : Option GraphSlices → List Called → Option GraphSlices
last_held held [] = held
last_held held (c ∷ cs) = last_held (held_slices c.answer c.after held) cs

-- a series of calls, each on what is held then
abbrev pub Ran : Design → Option GraphSlices → List Called → Type 0
Ran D held [] = Unit {0}
Ran D held (c ∷ cs) = Meets (remove_on D held (removal_of c)) c × Ran D (held_slices c.answer c.after held) cs

abbrev pub verdict_in : Result GraphCounts Refusal → Verdict
verdict_in (Ok g) = Passed
verdict_in (Err r) = Err r

-- the last answer that is no refusal
abbrev pub counts_next : Option (Result GraphCounts Refusal) → Result GraphCounts Refusal → Option (Result GraphCounts Refusal)
counts_next counts (Ok g) = some (Counts g.copies g.edges)
counts_next counts (Err r) = counts

abbrev pub last_counts : Option (Result GraphCounts Refusal) → List Called → Option (Result GraphCounts Refusal)
last_counts counts [] = counts
last_counts counts (c ∷ cs) = last_counts (counts_next counts c.answer) cs

-- a graph held, as slices and as the counts that were returned for it
abbrev pub slices_held : Option Graph → Option GraphSlices
slices_held none = none
slices_held (some G) = some (slices_of G)

abbrev pub counts_held : Option Graph → Option (Result GraphCounts Refusal)
counts_held none = none
counts_held (some G) = some (Counts (length G.nodes) (length G.edges))

-- demand 3 of a series of calls: "the refusals are just these", and the slices that are held, with "its returned count of
-- copies, the node of each copy number and the count of edges", are those of the true graph of the design and the whole list, up
-- to renumbering within nodes that keeps the endpoint numbers, with at most n + edges - paths copies
pub record CalledDemand3 (D : Design) (cs : List Called) : Type 0 where
  pub refusals : map (λ c. verdict_in c.answer) cs ≡ verdicts_alone D none (map removal_of cs)
  pub held : Option Graph
  pub slices : last_held none cs ≡ slices_held held
  pub counts : last_counts none cs ≡ counts_held held
  pub graph : HeldIs D (whole_after D none (map removal_of cs)) held

-- the graph that a call works on
abbrev pub graph_on : Design → Option GraphSlices → Graph
graph_on D none = design_graph D
graph_on D (some S) = graph_of S

-- "The same answers must come from 8 words per candidate, listed edge and graph edge" (02, request 9). Two calls on one design and one graph,
-- lent the same but for the scratch: if b has at least these words, it answers what a does and leaves the same in its room, unless a is
-- refused 31.
abbrev pub SameAnswers : Design → Option GraphSlices → Called → Called → Type 0
SameAnswers D held a b =
    let G = graph_on D held in
    let L = path_list b.listed b.lengths in
    (a.answer ≡ Err (refusal 31 0) → ⊥)
    → b.listed ≡ a.listed
    → b.lengths ≡ a.lengths
    → b.room ≡ a.room
    → scratch_words (candidates D G L) (length L.edges) (length G.edges) ≤ length b.scratch
    → (b.answer ≡ a.answer) × (b.after ≡ a.after)
