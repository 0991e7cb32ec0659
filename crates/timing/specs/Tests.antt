-- Who can cause a refusal: each test with its number, its exact condition and its place.
use Rattle.std.specs.Prelude.{ℕ, zero, suc, ◌+◌, ◌*◌, min, Bool, false, not, cond, ◌&&◌, ◌||◌, eqb, ltb, leb, nat_abs, length, get_or, drop, Option, Err, Some, None}
use mathlib.Core.List.{List, [], ◌∷◌, map, flat_map}
use Rattle.std.specs.Int.Signed.{lt_z}
use Rattle.timing.specs.Answers.{Verdict, Passed}
use Rattle.timing.specs.Lists.{count_of, upto, sum}
use Rattle.timing.specs.Graphs.{Design, edge_start, edge_end, edge_early, edge_late, Graph}
use Rattle.timing.specs.Marks.{PathList, paths_of}
use Rattle.timing.specs.WellFormed.{few_enough, zero_or_one, well_formed}
use Rattle.timing.specs.Refusals.{refusal, unless, first_bad, first_fault, ◌then◌}

-- 30: "lent slices that belong together differ in length"
abbrev pub same_sizes : ℕ → ℕ → ℕ → Verdict
same_sizes a b c = unless 30 (eqb a b && eqb a c)

-- "30 now covers four edge slices of a design" (02, request 1)
abbrev pub edge_sizes : ℕ → ℕ → ℕ → ℕ → Verdict
edge_sizes starts ends early late = same_sizes starts starts ends then same_sizes starts early late

abbrev pub design_sizes : Design → Verdict
design_sizes D = edge_sizes (length D.starts) (length D.ends) (length D.early) (length D.late)

-- and the slices of the four times, with "one place for each copy", or for each node, of n
abbrev pub time_sizes : ℕ → ℕ → ℕ → ℕ → ℕ → Verdict
time_sizes n arrivals requireds slacks earliests = same_sizes n arrivals requireds then same_sizes n slacks earliests

-- 30: "or the lengths of the paths do not add up to the flat list"
abbrev pub list_sizes : PathList → Verdict
list_sizes L = unless 30 (eqb (sum L.lengths) (length L.edges))

-- 10, 11: "more than 4,096 nodes; more than 16,384 edges"
abbrev pub node_count : ℕ → Verdict
node_count n = unless 10 (leb n 4096)

abbrev pub design_counts : Design → Verdict
design_counts D = node_count D.nodes then unless 11 (leb (length D.starts) 16384)

-- 12: "an edge names a node not below n"
abbrev pub strays : Design → ℕ → Bool
strays D k = not (ltb (edge_start D k) D.nodes && ltb (edge_end D k) D.nodes)

-- 13: "it does not rise"
abbrev pub falls : Design → ℕ → Bool
falls D k = not (ltb (edge_start D k) (edge_end D k))

-- 14: "delay out of range", -1,000,000 to 1,000,000; "both delays are held to 14's range"
abbrev pub out_of_range : Design → ℕ → Bool
out_of_range D k = not (leb (nat_abs (edge_early D k)) 1000000 && leb (nat_abs (edge_late D k)) 1000000)

-- 15: "early above late"
abbrev pub early_above_late : Design → ℕ → Bool
early_above_late D k = lt_z (edge_late D k) (edge_early D k)

-- 16: "a marked node not below n or not rising, place its index in the marks"
abbrev pub rises_not : List ℕ → ℕ → Bool
rises_not marked zero = false
rises_not marked (suc i) = leb (get_or marked (suc i) 0) (get_or marked i 0)

abbrev pub wrong_marked : Design → ℕ → Bool
wrong_marked D i = not (ltb (get_or D.marked i 0) D.nodes) || rises_not D.marked i

-- "the reader gives it at a count of marks above n, place n", and the deck's writer too: of more than n marked nodes one is wrong
abbrev pub marked_count : ℕ → ℕ → Verdict
marked_count n count = cond (leb count n) Passed (Err (refusal 16 n))

-- 10 to 16, "one number over everything before the next"
unfoldable pub design_tests : Design → Verdict
design_tests D =
    let edges = upto (length D.starts) 0 in
    design_counts D
    then first_bad 12 (strays D) 0 edges
    then first_bad 13 (falls D) 0 edges
    then first_bad 14 (out_of_range D) 0 edges
    then first_bad 15 (early_above_late D) 0 edges
    then first_bad 16 (wrong_marked D) 0 (upto (length D.marked) 0)

-- 20, 21: "more than 1,024 paths; more than 8,192 listed edges"
abbrev pub list_counts : PathList → Verdict
list_counts L = unless 20 (leb (length L.lengths) 1024) then unless 21 (leb (length L.edges) 8192)

-- "each edge starting where the one before ends"
abbrev pub meets : Design → ℕ → ℕ → Bool
meets D j k = eqb (edge_end D j) (edge_start D k)

-- 22 to 24, of one path: where its first fault is, by "the index, within the path" (02, request 4). In 23 and 24 i is the index of
-- the first edge that is looked at.
-- 22: "an empty path"; "22's index is 0"
abbrev pub empty_at : List ℕ → Option ℕ
empty_at [] = Some 0
empty_at (k ∷ path) = None

-- 23: the first "edge number not below m"
abbrev pub first_unknown : ℕ → ℕ → List ℕ → Option ℕ
first_unknown m i [] = None
first_unknown m i (k ∷ path) = cond (ltb k m) (first_unknown m (suc i) path) (Some i)

-- 24: "the first edge that does not start where the one before ends, or that all join"; `meet` is `meets` of the design
abbrev pub first_break : (ℕ → ℕ → Bool) → ℕ → List ℕ → Option ℕ
first_break meet i [] = None
first_break meet i (j ∷ []) = None
first_break meet i (j ∷ k ∷ path) = cond (meet j k) (first_break meet (suc i) (k ∷ path)) (Some (suc i))

-- 20 to 24
unfoldable pub list_tests : Design → PathList → Verdict
list_tests D L =
    list_counts L
    then first_fault 22 empty_at 0 (paths_of L)
    then first_fault 23 (first_unknown (length D.starts) 0) 0 (paths_of L)
    then first_fault 24 (first_break (meets D) 0) 0 (paths_of L)

-- 25: "T out of range"
abbrev pub allowed_test : ℕ → Verdict
allowed_test T = unless 25 (leb T 1000000000)

-- 32: "the earlier graph is not well formed"; writers look at its counts and then at its endpoint numbers alone
abbrev pub graph_test : Design → Graph → Verdict
graph_test D G = unless 32 (well_formed D G)

abbrev pub graph_counts : Graph → Verdict
graph_counts G = unless 32 (few_enough G)

abbrev pub endpoint_test : Graph → Verdict
endpoint_test G = unless 32 (zero_or_one G.endpoints)

-- "a candidate is one per copy (or node), and one more per listed edge, not first in its path, that starts at its node"
unfoldable pub candidates : Design → Graph → PathList → ℕ
candidates D G L =
    let inner = flat_map (λ p. drop 1 p) (paths_of L) in
    sum (map (λ v. 1 + count_of (λ k. eqb (edge_start D k) v) inner) G.nodes)

-- "words of 32 bits for each candidate, listed edge and edge of the graph worked on", from how many there are of each of these: 8 words, "where
-- it was 16" (02, request 9)
abbrev pub scratch_words : ℕ → ℕ → ℕ → ℕ
scratch_words count listed edges = 8 * (count + listed + edges)

-- 31: "scratch shorter than" that
abbrev pub words_test : ℕ → ℕ → ℕ → ℕ → Verdict
words_test count listed edges words = unless 31 (leb (scratch_words count listed edges) words)

unfoldable pub scratch_test : Design → Graph → PathList → ℕ → Verdict
scratch_test D G L words = words_test (candidates D G L) (length L.edges) (length G.edges) words

-- the lent lengths of a room: for the node and the endpoint number of each copy, and for the edges' start copies, end copies and design edges
pub record Room : Type 0 where
  pub nodes : ℕ
  pub endpoints : ℕ
  pub starts : ℕ
  pub ends : ℕ
  pub names : ℕ

-- 30 of a room, and of a graph as it is lent
abbrev pub room_sizes : Room → Verdict
room_sizes R = same_sizes R.nodes R.nodes R.endpoints then same_sizes R.starts R.ends R.names

-- 33: "result copies exceed the room"; 34: "they fit and the edges exceed theirs"; "room is the lent length, at most 16,384 and 65,536". From how
-- many copies and edges the result has, and the lent lengths for these
abbrev pub count_tests : ℕ → ℕ → ℕ → ℕ → Verdict
count_tests copies edges nodes starts = unless 33 (leb copies (min nodes 16384)) then unless 34 (leb edges (min starts 65536))

unfoldable pub room_tests : Room → Graph → Verdict
room_tests R G = count_tests (length G.nodes) (length G.edges) R.nodes R.starts
