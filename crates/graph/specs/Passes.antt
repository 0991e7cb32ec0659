-- The test 32 as it is computed: one test for each edge, and one for each copy.
use Rattle.std.specs.Prelude.{ℕ, zero, suc, ◌+◌, ◌*◌, ◌≤◌, ◌<◌, min, ◌≡◌, Bool, true, false, not, cond, ◌&&◌, ◌||◌, List, [], T, eqb, ltb, leb, length, get_or}
use Rattle.timing.specs.Lists.{any_of, one_if, upto}
use Rattle.timing.specs.Graphs.{Edge, edge, design, graph}
use Rattle.timing.specs.WellFormed.{edge_fits, edge_rises, zero_or_one, well_formed}
use Rattle.timing.specs.Calls.{graph_slices, graph_of}

-- the answer, of a design and a graph as they are lent
abbrev pub formed : ℕ → List ℕ → List ℕ → List ℕ → List ℕ → List ℕ → List ℕ → List ℕ → List ℕ → Bool
formed n starts ends marked nodes endpoint from to via =
    well_formed (design n starts ends [] [] marked) (graph_of (graph_slices nodes endpoint from to via))

-- how many edges three lists give
abbrev pub edge_count : List ℕ → List ℕ → List ℕ → ℕ
edge_count from to via = min (length from) (min (length to) (length via))

-- the tests of a graph that look at no design: it has few enough copies and edges, and its endpoint numbers are 0 or 1
pub record Counted (nodes endpoint from to via : List ℕ) : Type 0 where
  pub copies : length nodes ≤ 16384
  pub edges : edge_count from to via ≤ 65536
  pub endpoints : zero_or_one endpoint ≡ true

-- v is among the first n numbers of a list
abbrev pub stands : List ℕ → ℕ → ℕ → Bool
stands l n v = any_of (λ k. eqb (get_or l k 0) v) (upto n 0)

-- a flag for each number
abbrev pub flag : List Bool → ℕ → Bool
flag flags v = get_or flags v false

-- flags for the first n numbers at least, none of which is set
pub record Clear (n : ℕ) (flags : List Bool) : Type 0 where
  pub room : n ≤ length flags
  pub none : (v : ℕ) → flag flags v ≡ false

-- the flags after those of the first n numbers of a list were set
pub record FlagsSet (before : List Bool) (l : List ℕ) (n : ℕ) (after : List Bool) : Type 0 where
  pub size : length after ≡ length before
  pub set : (v : ℕ) → flag after v ≡ (flag before v || (ltb v (length before) && stands l n v))

-- edge k of three lists
abbrev pub edge_at : List ℕ → List ℕ → List ℕ → ℕ → Edge
edge_at starts ends names k = edge (get_or starts k 0) (get_or ends k 0) (get_or names k 0)

-- One number for an end copy and a design edge: edges rise as it does, where the numbers of design edges are below 2^32.
abbrev pub key_of : ℕ → ℕ → ℕ
key_of t k = t * 4294967296 + k

-- edge k is above the one before it, if there is one
abbrev pub rises_at : List ℕ → List ℕ → List ℕ → ℕ → Bool
rises_at from to via zero = true
rises_at from to via (suc k) = edge_rises (edge_at from to via k) (edge_at from to via (suc k))

abbrev pub edge_passes : List ℕ → List ℕ → List ℕ → List ℕ → List ℕ → List ℕ → ℕ → Bool
edge_passes starts ends nodes from to via k =
    edge_fits (design 0 starts ends [] [] []) (graph nodes [] []) (edge_at from to via k) && rises_at from to via k

-- where one holds, the other does: a copy has an edge where its node has one
abbrev pub joined : Bool → Bool → Bool
joined node copy = not node || copy

-- What is asked of a copy by whether paths end at it: they end only where its node has no edge out or is marked; and where none end, its node
-- has an edge out, and so does the copy.
abbrev pub end_fits : Bool → Bool → Bool → Bool → Bool
end_fits end out marked left = cond end (joined out marked) (out && left)

-- A copy of node v where paths end: `lowest` is the lowest node that it may be of. As copies never fall in node number, paths end at no two
-- copies of one node if the nodes of the copies where they end rise strictly.
abbrev pub end_rises : Bool → ℕ → ℕ → Bool
end_rises end lowest v = cond end (leb lowest v) true

abbrev pub lowest_after : List ℕ → List ℕ → ℕ → ℕ → ℕ
lowest_after nodes endpoint lowest c = cond (eqb (get_or endpoint c 0) 1) (get_or nodes c 0 + 1) lowest

-- Copy c fits: its node exists and is not above the next copy's, and it has an edge in where its node has one; and the copy fits by its endpoint
-- number.
abbrev pub copy_passes : ℕ → List ℕ → List ℕ → (ℕ → Bool) → (ℕ → Bool) → (ℕ → Bool) → (ℕ → Bool) → (ℕ → Bool) → ℕ → ℕ → Bool
copy_passes n nodes endpoint node_in node_out marked copy_in copy_out lowest c =
    ltb (get_or nodes c 0) n
    && (leb (length nodes) (c + 1) || leb (get_or nodes c 0) (get_or nodes (c + 1) 0))
    && joined (node_in (get_or nodes c 0)) (copy_in c)
    && end_fits (eqb (get_or endpoint c 0) 1) (node_out (get_or nodes c 0)) (marked (get_or nodes c 0)) (copy_out c)
    && end_rises (eqb (get_or endpoint c 0) 1) lowest (get_or nodes c 0)

-- A pass over m places from c on, with a number that goes along: each place passes with the number as it is there.
abbrev pub walked : (ℕ → ℕ → Bool) → (ℕ → ℕ → ℕ) → ℕ → ℕ → ℕ → Bool
walked ok next zero c x = true
walked ok next (suc m) c x = ok x c && walked ok next m (suc c) (next x c)

-- the lists of a design and of a graph are of one length each, as 30 asks, and the graph has an edge
pub record Lent (starts ends nodes endpoint from to via : List ℕ) : Type 0 where
  pub counted : Counted nodes endpoint from to via
  pub design : length ends ≡ length starts
  pub few : length starts ≤ 16384
  pub some : 0 < length from
  pub ends_lent : length to ≡ length from
  pub names_lent : length via ≡ length from

-- What the quick pass over edges says of the first m of them: each joins copies, names a design edge, and is above the one before it.
pub record Ordered (copies known : ℕ) (from to via : List ℕ) (m : ℕ) : Type 0 where
  pub starts : (j : ℕ) → j < m → get_or from j 0 < copies
  pub ends : (j : ℕ) → j < m → get_or to j 0 < copies
  pub names : (j : ℕ) → j < m → get_or via j 0 < known
  pub rise : (j : ℕ) → j < m → T (rises_at from to via j)

-- how many of the first m numbers of a list are not the one before them: where they never fall, how many different ones there are
abbrev pub turns : List ℕ → ℕ → ℕ
turns l zero = zero
turns l (suc zero) = 1
turns l (suc (suc m)) = turns l (suc m) + one_if (not (eqb (get_or l m 0) (get_or l (suc m) 0)))

-- the copies that edge j joins are of the nodes that its design edge joins
abbrev pub Matches : List ℕ → List ℕ → List ℕ → List ℕ → List ℕ → List ℕ → ℕ → Type 0
Matches starts ends nodes from to via j =
    (get_or nodes (get_or from j 0) 0 ≡ get_or starts (get_or via j 0) 0) × (get_or nodes (get_or to j 0) 0 ≡ get_or ends (get_or via j 0) 0)

-- the tests of a copy but for its edges in
abbrev pub copy_ends : ℕ → List ℕ → List ℕ → (ℕ → Bool) → (ℕ → Bool) → (ℕ → Bool) → ℕ → ℕ → Bool
copy_ends n nodes endpoint node_out marked copy_out = copy_passes n nodes endpoint (λ v. false) node_out marked (λ c. false) copy_out

-- What is known of the edges, and of the flags of the copies that they leave, where `entered` copies are found to have an edge in.
pub record EdgesFound (starts ends nodes from to via : List ℕ) (cout : List Bool) (entered : ℕ) : Type 0 where
  pub ordered : Ordered (length nodes) (length starts) from to via (length from)
  pub matched : (j : ℕ) → j < length from → Matches starts ends nodes from to via j
  pub turned : entered ≡ turns to (length from)
  pub room : length nodes ≤ length cout
  pub left : (c : ℕ) → c < length nodes → flag cout c ≡ stands from (length from) c
