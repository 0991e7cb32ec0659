-- The numbers of a deck: what is left to be written, how many bytes they take, and what the writer answers.
use Prim.Native.Nat.{ℕ, suc, ◌+◌, ◌-◌, ◌≤◌, ◌<◌}
use native.Mathlib.Omega.{arith}
use native.Mathlib.Numerals.{add-one}
use mathlib.Core.Path.{◌≡◌, refl, sym, ◌∙◌, ap}
use mathlib.Core.List.{List, [], ◌∷◌, ◌++◌, flat_map, map, append_assoc}
use Rattle.std.specs.Prelude.{Ok}
use Rattle.timing.specs.Answers.{Verdict, Passed}
use lib.IntN.{ℤ, pos}
use lib.ListN.{length, get_or, take, drop, drop_of_length-le, length-drop, take-append-drop}
use lib.Seq.{sets, drop-cons, drop-drop, length-take-le}
use Rattle.timing.specs.Numbers.{packed}
use Rattle.timing.specs.Delays.{packed_delay}
use Rattle.timing.specs.Lists.{sum}
use Rattle.timing.specs.Marks.{cut}
use Rattle.timing.specs.Decks.{Deck, edge_numbers, path_numbers, deck_numbers, packed_deck}
use Rattle.timing.specs.Calls.{writing, room_after_writing}
use Rattle.packed_lists.proofs.Writing.{size_append, size_cons, size_none}
use Rattle.packed.proofs.Numbers.{packed_size}
use Rattle.packed.proofs.Rooms.{written_sets, answer_fits}
use Rattle.packed_lists.specs.Writing.{bytes_of, size, Wrote}
use Rattle.deck_writer.specs.Writing.{Fit, tail_numbers}

-- The size of numbers, one by one.
pub number_most : (x : ℕ) → length (packed x) ≤ 5
number_most x = (packed_size 4 x).1

pub sizes_drop : (s : List ℤ) (k : ℕ) → k < length s → size (map packed_delay (drop k s)) ≡ length (packed (packed_delay (get_or s k (pos 0)))) + size (map packed_delay (drop (k + 1) s))
sizes_drop s k h = rw (drop-cons s k (pos 0) h, add-one k) (size_cons (packed_delay (get_or s k (pos 0))) (map packed_delay (drop (suc k) s)))

pub sizes_done : (s : List ℤ) (k : ℕ) → length s ≤ k → size (map packed_delay (drop k s)) ≡ 0
sizes_done s k h = rw (drop_of_length-le s h) size_none

-- The numbers of the edges, of a part of a list and of the paths, from an index on.
pub edges_turn : (s t : List ℕ) (d l : List ℤ) (k : ℕ) → k < length s → k < length t → k < length d → k < length l
    → edge_numbers (drop k s) (drop k t) (drop k d) (drop k l)
    ≡ (get_or s k 0 ∷ get_or t k 0 ∷ packed_delay (get_or d k (pos 0)) ∷ packed_delay (get_or l k (pos 0)) ∷ []) ++ edge_numbers (drop (k + 1) s) (drop (k + 1) t) (drop (k + 1) d) (drop (k + 1) l)
edges_turn s t d l k e f g h = rw (drop-cons s k 0 e, drop-cons t k 0 f, drop-cons d k (pos 0) g, drop-cons l k (pos 0) h, add-one k)

pub edges_done : (s t : List ℕ) (d l : List ℤ) (k : ℕ) → length s ≤ k → edge_numbers (drop k s) (drop k t) (drop k d) (drop k l) ≡ []
edges_done s t d l k h = rw (drop_of_length-le s h)

pub numbers_turn : (s : List ℕ) (k : ℕ) → k < length s → drop k s ≡ (get_or s k 0 ∷ []) ++ drop (k + 1) s
numbers_turn s k h = rw (drop-cons s k 0 h, add-one k)

pub numbers_done : (s : List ℕ) (k : ℕ) → length s ≤ k → drop k s ≡ []
numbers_done s k h = drop_of_length-le s h

pub paths_turn : (edges lengths : List ℕ) (from k : ℕ) → k < length lengths
    → flat_map path_numbers (cut (drop from edges) (drop k lengths))
    ≡ path_numbers (take (from + get_or lengths k 0 - from) (drop from edges)) ++ flat_map path_numbers (cut (drop (from + get_or lengths k 0) edges) (drop (k + 1) lengths))
unfolding flat_map
paths_turn edges lengths from k h =
    let d : from + get_or lengths k 0 - from ≡ get_or lengths k 0 = omega arith in
    rw (drop-cons lengths k 0 h, d, drop-drop (get_or lengths k 0) from edges, add-one k)

pub paths_done : (edges lengths : List ℕ) (from k : ℕ) → length lengths ≤ k → flat_map path_numbers (cut (drop from edges) (drop k lengths)) ≡ []
unfolding flat_map
paths_done edges lengths from k h = rw (drop_of_length-le lengths h)

-- The size of a deck: each number counted once.
pub size_edges : (s t : List ℕ) (d l : List ℤ) → length t ≡ length s → length d ≡ length s → length l ≡ length s
    → size (edge_numbers s t d l) ≡ size s + size t + size (map packed_delay d) + size (map packed_delay l)
size_edges [] [] [] [] e f g = omega (arith, size_none)
size_edges [] (y ∷ t) d l e f g = absurd (omega arith)
size_edges [] [] (z ∷ d) l e f g = absurd (omega arith)
size_edges [] [] [] (w ∷ l) e f g = absurd (omega arith)
size_edges (x ∷ s) [] d l e f g = absurd (omega arith)
size_edges (x ∷ s) (y ∷ t) [] l e f g = absurd (omega arith)
size_edges (x ∷ s) (y ∷ t) (z ∷ d) [] e f g = absurd (omega arith)
size_edges (x ∷ s) (y ∷ t) (z ∷ d) (w ∷ l) e f g =
    omega (
      arith,
      size_cons x (y ∷ packed_delay z ∷ packed_delay w ∷ edge_numbers s t d l),
      size_cons y (packed_delay z ∷ packed_delay w ∷ edge_numbers s t d l),
      size_cons (packed_delay z) (packed_delay w ∷ edge_numbers s t d l),
      size_cons (packed_delay w) (edge_numbers s t d l),
      size_cons x s,
      size_cons y t,
      size_cons (packed_delay z) (map packed_delay d),
      size_cons (packed_delay w) (map packed_delay l),
      size_edges s t d l (omega arith) (omega arith) (omega arith),
    )

pub size_paths : (edges lengths : List ℕ) → sum lengths ≡ length edges → size (flat_map path_numbers (cut edges lengths)) ≡ size lengths + size edges
unfolding flat_map
size_paths [] [] e = omega (arith, size_none)
size_paths (x ∷ edges) [] e = absurd (omega arith)
size_paths edges (k ∷ lengths) e =
    let d : length (take k edges) ≡ k = length-take-le k edges (omega arith) in
    let rest = flat_map path_numbers (cut (drop k edges) lengths) in
    let f : size edges ≡ size (take k edges ++ drop k edges) = ap size (sym (take-append-drop k edges)) in
    rw d
    (omega (
      arith,
      size_cons k (take k edges ++ rest),
      size_append (take k edges) rest,
      size_paths (drop k edges) lengths (rw (length-drop k edges) (omega arith)),
      size_cons k lengths,
      size_append (take k edges) (drop k edges),
    ))

length_cut : (edges lengths : List ℕ) → length (cut edges lengths) ≡ length lengths
length_cut edges [] = refl
length_cut edges (k ∷ lengths) = ap suc (length_cut (drop k edges) lengths)

abbrev pub design_numbers : Deck → List ℕ
design_numbers d = d.design.nodes ∷ length d.design.starts ∷ edge_numbers d.design.starts d.design.ends d.design.early d.design.late

abbrev pub list_numbers : Deck → List ℕ
list_numbers d = length d.list.lengths ∷ flat_map path_numbers (cut d.list.edges d.list.lengths)

abbrev pub last_numbers : Deck → List ℕ
last_numbers d = tail_numbers d.design.marked d.allowed

pub deck_parts : (d : Deck) → deck_numbers d ≡ design_numbers d ++ list_numbers d ++ last_numbers d
unfolding deck_numbers
deck_parts d =
    rw (length_cut d.list.edges d.list.lengths)
    (append_assoc (design_numbers d ++ list_numbers d) (length d.design.marked ∷ d.design.marked) (d.allowed ∷ []))

pub packed_deck_lem : (d : Deck) → packed_deck d ≡ bytes_of (deck_numbers d)
unfolding packed_deck bytes_of
packed_deck_lem d = refl

pub size_deck : (d : Deck) → Fit d → length (packed_deck d)
    ≡ length (packed d.design.nodes) + length (packed (length d.design.starts)) + length (packed (length d.list.lengths)) + length (packed d.allowed)
    + size (edge_numbers d.design.starts d.design.ends d.design.early d.design.late) + (size d.list.lengths + size d.list.edges)
    + (length (packed (length d.design.marked)) + size d.design.marked)
size_deck d f =
    let D = d.design in
    let es = edge_numbers D.starts D.ends D.early D.late in
    let ps = flat_map path_numbers (cut d.list.edges d.list.lengths) in
    rw (packed_deck_lem d, deck_parts d)
    (omega (
      arith,
      size_append (design_numbers d ++ list_numbers d) (last_numbers d),
      size_append (design_numbers d) (list_numbers d),
      size_cons D.nodes (length D.starts ∷ es),
      size_cons (length D.starts) es,
      size_cons (length d.list.lengths) ps,
      size_paths d.list.edges d.list.lengths f.adds,
      size_append (length D.marked ∷ D.marked) (d.allowed ∷ []),
      size_cons (length D.marked) D.marked,
      size_cons d.allowed [],
      size_none,
    ))

pub deck_fits : (d : Deck) (room : List ℕ) → length (packed_deck d) ≤ length room → 0 + size (design_numbers d ++ list_numbers d ++ last_numbers d) ≤ length room
deck_fits d room h = rw (← deck_parts d) (omega (arith, ap length (packed_deck_lem d)))

-- What the writer answers and leaves, where the deck is written.
pub write_done : (v : Verdict) (d : Deck) (room room' : List ℕ) (next : ℕ) → v ≡ Passed → length (packed_deck d) ≤ length room → Wrote room room' 0 next (deck_numbers d)
    → (Ok next ≡ writing v room (packed_deck d)) × (room' ≡ room_after_writing v room (packed_deck d))
write_done v d room room' next e h w =
    let l : 0 + length (packed_deck d) ≤ length room = omega arith in
    let i : room' ≡ sets room 0 (packed_deck d) = rw (packed_deck_lem d) w.is in
    let n : next ≡ 0 + length (packed_deck d) = rw (packed_deck_lem d) w.end in
    rw e (ap Ok n ∙ sym (answer_fits room 0 (packed_deck d) l), i ∙ sym (written_sets room 0 (packed_deck d) l))
