-- Removal from a design that has passed its tests, and its size, as a graph whose copies and edges have their own numbers.
use Rattle.std.specs.Prelude.{ℕ, ◌≤◌, ◌≡◌, List, ℤ, length, take, Result}
use Rattle.timing.specs.declared.GraphCounts.{GraphCounts}
use Rattle.timing.specs.declared.Refusal.{Refusal}
use Rattle.timing.specs.Lists.{upto}
use Rattle.timing.specs.Graphs.{design, design_graph}
use Rattle.timing.specs.Marks.{path_list}
use Rattle.theorems.proofs.Tested.{DesignFits, ListFits}
use Rattle.timing.specs.Calls.{graph_slices, room_of, largest_room}
use Rattle.removal.specs.Remove.{Removed, removal_outcome, Sized}
use Rattle.removal.specs.Endpoints.{AllOnes, NodesBelow, EndpointsOf}

-- room for the numbers of n nodes, for their endpoint numbers, whose places hold 1 before, and for the numbers of the edges
pub record NumberRoom (n : ℕ) (starts marked numbers endpoint names : List ℕ) : Type 0 where
  pub nodes : n ≤ length numbers
  pub few_nodes : n ≤ 4096
  pub endpoints : n ≤ length endpoint
  pub ones : AllOnes n endpoint
  pub edges : length starts ≤ length names
  pub few_edges : length starts ≤ 16384
  pub starts_in : NodesBelow n starts
  pub marked_in : NodesBelow n marked

-- they stand there
pub record Numbered (n : ℕ) (starts marked numbers endpoint names : List ℕ) : Type 0 where
  pub nodes : take n numbers ≡ upto n 0
  pub endpoints : EndpointsOf n starts marked (take n endpoint)
  pub edges : take (length starts) names ≡ upto (length starts) 0

-- a design and a list that pass their tests
pub record Numberable (starts ends marked listed lengths : List ℕ) (n : ℕ) : Type 0 where
  pub early : List ℤ
  pub late : List ℤ
  pub design_fits : DesignFits (design n starts ends early late marked)
  pub list_fits : ListFits (design n starts ends early late marked) (path_list listed lengths)

-- the removal, whatever the delays are
unfoldable pub DesignRemoved : List ℕ → List ℕ → List ℕ → List ℕ → List ℕ → ℕ → Result GraphCounts Refusal → List ℕ → List ℕ → List ℕ → List ℕ → List ℕ → List ℕ → List ℕ → List ℕ → List ℕ → List ℕ → List ℕ → List ℕ → Type 0
DesignRemoved starts ends marked listed lengths n r room-nodes room-endpoint room-from room-to room-via s room-nodes' room-endpoint' room-from' room-to' room-via' s' =
    (early late : List ℤ) → DesignFits (design n starts ends early late marked) → ListFits (design n starts ends early late marked) (path_list listed lengths)
    → Removed (removal_outcome (design n starts ends early late marked) (path_list listed lengths) (design_graph (design n starts ends early late marked)) (room_of (graph_slices room-nodes room-endpoint room-from room-to room-via)) (length s)) r room-nodes room-endpoint room-from room-to room-via s room-nodes' room-endpoint' room-from' room-to' room-via' s'

-- and its size
unfoldable pub DesignSized : List ℕ → List ℕ → List ℕ → List ℕ → List ℕ → ℕ → Result GraphCounts Refusal → List ℕ → List ℕ → Type 0
DesignSized starts ends marked listed lengths n r s s' =
    (early late : List ℤ) → DesignFits (design n starts ends early late marked) → ListFits (design n starts ends early late marked) (path_list listed lengths)
    → Sized (removal_outcome (design n starts ends early late marked) (path_list listed lengths) (design_graph (design n starts ends early late marked)) largest_room (length s)) r s s'
