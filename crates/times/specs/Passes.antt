-- What the passes ask, and the pass back over the edges. That over the copies is in `Fanins`.
use Rattle.std.specs.Prelude.{ℕ, ◌≤◌, ◌<◌, ◌≡◌, cond, T, eqb, leb, ℤ, pos, nat_abs, ◌-ℤ◌, length, get_or, set}
use mathlib.Core.List.{List, Memᴰ}
use Rattle.timing.specs.Lists.{each_next}
use Rattle.timing.specs.Graphs.{Edge, edge}
use Rattle.timing.specs.Times.{smaller}
use Rattle.timing.specs.Calls.{GraphSlices, graph_of}

-- no time yet: above every required time
abbrev pub no_required : ℤ
no_required = pos 9223372036854775807

-- the required time of a copy with endpoint number x before any edge is met: T where paths end
abbrev pub first_required : ℕ → ℤ → ℤ
first_required x t = cond (eqb x 1) t no_required

-- the required times after an edge
unfoldable pub lowered : List ℤ → ℕ → ℕ → ℤ → List ℤ
lowered times a b d = set times a (smaller (get_or times b (pos 0) -ℤ d) (get_or times a (pos 0)))

-- the delay of a design edge
abbrev pub delay_of : List ℤ → ℕ → ℤ
delay_of delays k = get_or delays k (pos 0)

-- Edge k leads from or to copy `side` k: the time at that copy and the edge's delay are there, and leave room for their sum and their difference.
pub record Over (delays : List ℤ) (side via : List ℕ) (times : List ℤ) (k : ℕ) : Type 0 where
  pub edge : k < length side
  pub name : k < length via
  pub copy_in : get_or side k 0 < length times
  pub name_in : get_or via k 0 < length delays
  pub time : nat_abs (get_or times (get_or side k 0) (pos 0)) ≤ 20000000000
  pub delay : nat_abs (delay_of delays (get_or via k 0)) ≤ 1000000

-- edge k, as it is lent
abbrev pub edge_at : GraphSlices → ℕ → Edge
edge_at S k = edge (get_or S.starts k 0) (get_or S.ends k 0) (get_or S.names k 0)

-- What the passes ask of one of the delays of a design and of a graph; every well-formed graph of a design that passes its tests has it.
pub record Fit (delays : List ℤ) (S : GraphSlices) : Type 0 where
  pub ends : length S.ends ≡ length S.starts
  pub names : length S.names ≡ length S.starts
  pub copies : length S.nodes ≤ 16384
  pub up : (e : Edge) → Memᴰ e (graph_of S).edges → e.start < e.end
  pub inside : (e : Edge) → Memᴰ e (graph_of S).edges → e.end < length S.nodes
  pub named : (e : Edge) → Memᴰ e (graph_of S).edges → e.name < length delays
  pub range : (e : Edge) → Memᴰ e (graph_of S).edges → nat_abs (delay_of delays e.name) ≤ 1000000
  pub order : T (each_next (λ (e f : Edge). leb e.end f.end) (graph_of S).edges)

-- times that leave room for a sum
pub record Small (times : List ℤ) : Type 0 where
  pub bound : (c : ℕ) → nat_abs (get_or times c (pos 0)) ≤ 20000000000
