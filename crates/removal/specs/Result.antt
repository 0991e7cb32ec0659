-- The shown slots in order, their numbers, and the edges into them that come from shown slots.
use Rattle.std.specs.Prelude.{ℕ, ◌+◌, ◌<◌, ◌≡◌, Bool, true, cond, eqb, length, get_or}
use mathlib.Core.List.{List, map, flat_map, Memᴰ}
use Rattle.timing.specs.Lists.{keep, count_of, upto}
use Rattle.timing.specs.Graphs.{Edge, edge, Graph}
use Rattle.timing.specs.Marks.{PathList}
use Rattle.removal.specs.Slots.{slots}
use Rattle.removal.specs.Flags.{StepOn}

-- a slot of a copy
pub record Slot : Type 0 where
  pub copy : ℕ
  pub slot : ℕ

abbrev pub slot_at : ℕ → ℕ → Slot
slot_at c j = record { copy = c; slot = j }

-- the endpoint number of a slot: that of its copy where the slot is that of the empty mark, and else 0
abbrev pub slot_endpoint : List ℕ → Slot → ℕ
slot_endpoint endpoint s = cond (eqb s.slot 0) (get_or endpoint s.copy 0) 0

-- the shown slots of a copy that are below slot n, and those of the copies below n, in order
abbrev pub shown_in : (ℕ → ℕ → Bool) → ℕ → ℕ → List Slot
shown_in shown c n = map (slot_at c) (keep (shown c) (upto n 0))

abbrev pub shown_below : (ℕ → ℕ) → (ℕ → ℕ → Bool) → ℕ → List Slot
shown_below B shown n = flat_map (λ c. shown_in shown c (slots B c)) (upto n 0)

-- the number of a slot: how many shown slots stand before it
abbrev pub number_of : (ℕ → ℕ) → (ℕ → ℕ → Bool) → ℕ → ℕ → ℕ
number_of B shown c j = length (shown_below B shown c) + count_of (shown c) (upto j 0)

-- the shown slots of a graph
abbrev pub shown_slots : Graph → (ℕ → ℕ) → (ℕ → ℕ → Bool) → List Slot
shown_slots G B shown = shown_below B shown (length G.nodes)

-- The edges of the result. `ins` has the edges into each copy, `test` says of an edge into a slot whether it comes from a
-- shown slot, and `from` which slot that is.
abbrev pub numbered_edge : (ℕ → ℕ) → (ℕ → ℕ → Bool) → (ℕ → ℕ → Edge → ℕ) → Slot → Edge → Edge
numbered_edge B shown from s e = edge (number_of B shown e.start (from s.copy s.slot e)) (number_of B shown s.copy s.slot) e.name

abbrev pub slot_edges : (ℕ → ℕ) → (ℕ → ℕ → Bool) → (ℕ → List Edge) → (ℕ → ℕ → Edge → Bool) → (ℕ → ℕ → Edge → ℕ) → Slot → List Edge
slot_edges B shown ins test from s = map (numbered_edge B shown from s) (keep (test s.copy s.slot) (ins s.copy))

abbrev pub shown_edges : Graph → (ℕ → ℕ) → (ℕ → ℕ → Bool) → (ℕ → List Edge) → (ℕ → ℕ → Edge → Bool) → (ℕ → ℕ → Edge → ℕ) → List Edge
shown_edges G B shown ins test from = flat_map (slot_edges B shown ins test from) (shown_slots G B shown)

-- edges that are given as three lists, by their numbers
abbrev pub edge_at : List ℕ → List ℕ → List ℕ → ℕ → Edge
edge_at starts ends names k = edge (get_or starts k 0) (get_or ends k 0) (get_or names k 0)

-- `test` and `from` say of an edge into a slot whether it comes from a shown slot, and from which
pub record Linking (G : Graph) (L : PathList) (marks : ℕ → ℕ → List ℕ) (B : ℕ → ℕ) (shown : ℕ → ℕ → Bool) (test : ℕ → ℕ → Edge → Bool) (from : ℕ → ℕ → Edge → ℕ) : Type 0 where
  pub sound : (c j : ℕ) → c < length G.nodes → j < slots B c → shown c j ≡ true → (e : Edge) → Memᴰ e G.edges → e.end ≡ c
      → test c j e ≡ true → StepOn G L marks B shown c j e (from c j e)
  pub complete : (c j : ℕ) → c < length G.nodes → j < slots B c → shown c j ≡ true → (e : Edge) (k : ℕ) → StepOn G L marks B shown c j e k
      → test c j e ≡ true
