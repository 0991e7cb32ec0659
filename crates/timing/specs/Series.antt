-- "A series is any number of removals, in order, over one design, refused ones included."
use Rattle.std.specs.Prelude.{ℕ, ◌+◌, ◌≤◌, ◌<◌, ◌≡◌, length, Err}
use mathlib.Core.List.{List, [], ◌∷◌, ◌++◌, map, Memᴰ}
use Rattle.std.proofs.Math.Option.{Option, none, some}
use Rattle.timing.specs.Answers.{Verdict, Passed}
use Rattle.timing.specs.Lists.{sum}
use Rattle.timing.specs.Graphs.{Design, Edge, edge, Graph, design_graph, node_of, endpoint_of}
use Rattle.timing.specs.Marks.{paths_of}
use Rattle.timing.specs.TrueGraphs.{true_graph}
use Rattle.timing.specs.Calls.{Removal, Outcome, made, refused, remove_from_design, remove_from_graph, slices_of}

-- "Each works on the design while none is held, and after that on the graph held."
abbrev pub remove_next : Design → Option Graph → Removal → Outcome Graph
remove_next D none r = remove_from_design D r
remove_next D (some G) r = remove_from_graph D (slices_of G) r

-- "One that is not refused puts its result in place of the graph held; a refused one leaves it."
abbrev pub held_next : Option Graph → Outcome Graph → Option Graph
held_next held (made G) = some G
held_next held (refused r) = held

abbrev pub verdict_of : Outcome Graph → Verdict
verdict_of (made G) = Passed
verdict_of (refused r) = Err r

-- what each removal of a series answers, and the graph held after all of them
abbrev pub verdicts : Design → Option Graph → List Removal → List Verdict
verdicts D held [] = []
verdicts D held (r ∷ rs) =
    verdict_of (remove_next D held r) ∷ verdicts D (held_next held (remove_next D held r)) rs

abbrev pub held_after : Design → Option Graph → List Removal → Option Graph
held_after D held [] = held
held_after D held (r ∷ rs) = held_after D (held_next held (remove_next D held r)) rs

-- "Which removals are refused, and how, follows from the calls alone": once a graph is held, "the graph worked on is there
-- the true graph of the design and the whole list so far"
abbrev pub held_for : Design → Option (List (List ℕ)) → Option Graph
held_for D none = none
held_for D (some L) = some (true_graph (design_graph D) L)

abbrev pub with_list : Option (List (List ℕ)) → List (List ℕ) → Option (List (List ℕ))
with_list none K = some K
with_list (some L) K = some (L ++ K)

-- "The whole list is the lists of the unrefused removals, in order, put end to end"
abbrev pub whole_next : Option (List (List ℕ)) → Removal → Verdict → Option (List (List ℕ))
whole_next whole r Passed = with_list whole (paths_of r.list)
whole_next whole r (Err x) = whole

abbrev pub verdict_alone : Design → Option (List (List ℕ)) → Removal → Verdict
verdict_alone D whole r = verdict_of (remove_next D (held_for D whole) r)

abbrev pub verdicts_alone : Design → Option (List (List ℕ)) → List Removal → List Verdict
verdicts_alone D whole [] = []
verdicts_alone D whole (r ∷ rs) =
    verdict_alone D whole r ∷ verdicts_alone D (whole_next whole r (verdict_alone D whole r)) rs

abbrev pub whole_after : Design → Option (List (List ℕ)) → List Removal → Option (List (List ℕ))
whole_after D whole [] = whole
whole_after D whole (r ∷ rs) = whole_after D (whole_next whole r (verdict_alone D whole r)) rs

-- an edge under other numbers of its copies
abbrev pub renumbered : (ℕ → ℕ) → Edge → Edge
renumbered f e = edge (f e.start) (f e.end) e.name

-- "its copies can be renumbered within each node so that the edges, as start copy, end copy and design edge, are the same
-- set", with "its returned count of copies, the node of each copy number and the count of edges"; "the cut list's renumbering keeps"
-- the endpoint numbers (02, request 6)
pub record Renumbered (G H : Graph) : Type 0 where
  pub nodes : G.nodes ≡ H.nodes
  pub sizes : length G.endpoints ≡ length H.endpoints
  pub edges : length G.edges ≡ length H.edges
  pub to : ℕ → ℕ
  pub back : ℕ → ℕ
  pub there : (c : ℕ) → c < length G.nodes → (to c < length G.nodes) × (back (to c) ≡ c) × (node_of H (to c) ≡ node_of G c)
  pub endpoints : (c : ℕ) → c < length G.nodes → endpoint_of H (to c) ≡ endpoint_of G c
  pub here : (c : ℕ) → c < length G.nodes → (back c < length G.nodes) × (to (back c) ≡ c)
  pub forth : (e : Edge) → Memᴰ e G.edges → Memᴰ (renumbered to e) H.edges
  pub return : (e : Edge) → Memᴰ e H.edges → Memᴰ (renumbered back e) G.edges

-- what demand 3 says of the graph held: none is held where no removal passed, and else it is the true graph of the design
-- and the whole list up to renumbering, "with at most n + edges - paths copies"
abbrev pub HeldIs : Design → Option (List (List ℕ)) → Option Graph → Type 0
HeldIs D none none = Unit {0}
HeldIs D none (some G) = ⊥
HeldIs D (some L) none = ⊥
HeldIs D (some L) (some G) =
    Renumbered G (true_graph (design_graph D) L) × (length G.nodes + length L ≤ D.nodes + sum (map length L))

-- demand 3, over a whole series that starts with no graph held
pub record Demand3 (D : Design) (rs : List Removal) : Type 0 where
  pub refusals : verdicts D none rs ≡ verdicts_alone D none rs
  pub graph : HeldIs D (whole_after D none rs) (held_after D none rs)
