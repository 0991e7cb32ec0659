-- From the deck that was read to `program` of `timing`.
use Prim.Native.Nat.{ℕ, ◌≤◌, ◌<◌}
use mathlib.Core.Path.{◌≡◌, refl, sym, ap, ◌∙◌, subst}
use mathlib.Core.List.{List}
use Rattle.std.specs.Prelude.{Result}
use Rattle.timing.specs.declared.DeckCounts.{DeckCounts}
use Rattle.timing.specs.declared.Refusal.{Refusal}
use lib.IntN.{ℤ, pos}
use lib.ListN.{length, take, drop, replicate, length-replicate}
use lib.Seq.{take-append_seam}
use borrow.Author.Tests.{le-leb, lt-leb}
use Rattle.timing.specs.Lists.{placed}
use Rattle.timing.specs.Graphs.{design, Graph}
use Rattle.timing.specs.Marks.{path_list}
use Rattle.timing.specs.Refusals.{refusal}
use Rattle.timing.specs.Decks.{Deck, read_deck}
use Rattle.timing.specs.Calls.{Outcome, made, refused, filled, parsed, deck_read, deck_answer, program_tables, program_removal, program_from, program}
use Rattle.true_graph.specs.Deck.{deck_of, ReadFits, read_removal}
use Rattle.true_graph.proofs.DeckLaws.{length_placed, zeros}
use Rattle.true_graph.proofs.ReadLaws.{EvenRead, even_read}

pub program_long : (s : List ℕ) → 65536 < length s → program s ≡ refused (refusal 4 65536)
unfolding program
program_long s h = rw (lt-leb (length s) 65536 h)

pub program_short : (s : List ℕ) → length s ≤ 65536 → program s ≡ program_from (parsed (read_deck s program_tables))
unfolding program
program_short s h = rw (le-leb (length s) 65536 h)

-- the seven tables
pub record Lent : Type 0 where
  pub starts : List ℕ
  pub ends : List ℕ
  pub early : List ℤ
  pub late : List ℤ
  pub marked : List ℕ
  pub listed : List ℕ
  pub lengths : List ℕ

abbrev pub lent : List ℕ → List ℕ → List ℤ → List ℤ → List ℕ → List ℕ → List ℕ → Lent
lent starts ends early late marked listed lengths =
    record { starts = starts; ends = ends; early = early; late = late; marked = marked; listed = listed; lengths = lengths }

abbrev pub lent_after : Outcome Deck → Lent → Lent
lent_after o K =
    lent (filled (λ d. d.design.starts) o K.starts) (filled (λ d. d.design.ends) o K.ends) (filled (λ d. d.design.early) o K.early) (filled (λ d. d.design.late) o K.late) (filled (λ d. d.design.marked) o K.marked) (filled (λ d. d.list.edges) o K.listed) (filled (λ d. d.list.lengths) o K.lengths)

-- the program's, and what the reader makes of them
abbrev pub tables : Lent
tables = lent (zeros 1024) (zeros 1024) (replicate 1024 (pos 0)) (replicate 1024 (pos 0)) (zeros 1024) (zeros 1024) (zeros 256)

abbrev pub tables_read : List ℕ → Outcome Deck
tables_read s = deck_read s (length tables.starts) (length tables.ends) (length tables.early) (length tables.late) (length tables.listed) (length tables.lengths) (length tables.marked)

program_tables_lem : (s : List ℕ) → tables_read s ≡ parsed (read_deck s program_tables)
unfolding deck_read
program_tables_lem s = rw (length-replicate {A = ℕ} 1024 0, length-replicate 1024 (pos 0), length-replicate {A = ℕ} 256 0)

abbrev LentFits : Result DeckCounts Refusal → Lent → Type 0
LentFits r K = ReadFits r K.starts K.ends K.early K.late K.marked K.listed K.lengths

abbrev lent_removal : Result DeckCounts Refusal → Lent → Outcome Graph
lent_removal r K = read_removal r K.starts K.ends K.early K.late K.marked K.listed K.lengths

after_fits : (o : Outcome Deck) → EvenRead o → (K : Lent) → LentFits (deck_answer o) (lent_after o K)
after_fits (made d) e K =
    let m = length d.design.starts in
    (length_placed d.design.starts K.starts m refl, length_placed d.design.ends K.ends m (sym e.ends), length_placed d.design.early K.early m (sym e.early), length_placed d.design.late K.late m (sym e.late), length_placed d.design.marked K.marked (length d.design.marked) refl, length_placed d.list.edges K.listed (length d.list.edges) refl, length_placed d.list.lengths K.lengths (length d.list.lengths) refl)
after_fits (refused x) e K = tt

front : {A : Type 0} (xs room : List A) (k : ℕ) → k ≡ length xs → take k (placed xs room) ≡ xs
front xs room k e = ap (λ (j : ℕ). take j (placed xs room)) e ∙ take-append_seam xs (drop (length xs) room)

after_removal : (o : Outcome Deck) → EvenRead o → (K : Lent) → lent_removal (deck_answer o) (lent_after o K) ≡ program_from o
after_removal (made d) e K =
    let m = length d.design.starts in
    λ i.
    program_removal
    (deck_of
    (design d.design.nodes (front d.design.starts K.starts m refl i) (front d.design.ends K.ends m (sym e.ends) i) (front d.design.early K.early m (sym e.early) i) (front d.design.late K.late m (sym e.late) i) (front d.design.marked K.marked (length d.design.marked) refl i))
    (path_list (front d.list.edges K.listed (length d.list.edges) refl i) (front d.list.lengths K.lengths (length d.list.lengths) refl i))
    d.allowed)
after_removal (refused x) e K = refl

-- the same of what the reader answers and leaves behind
module _ (s : List ℕ) (r : Result DeckCounts Refusal) (K : Lent) (e : r ≡ deck_answer (tables_read s)) (q : K ≡ lent_after (tables_read s) tables) where
  abbrev o : Outcome Deck
  o = parsed (read_deck s program_tables)

  answer : r ≡ deck_answer o
  answer = e ∙ ap deck_answer (program_tables_lem s)

  after : K ≡ lent_after o tables
  after = q ∙ ap (λ (x : Outcome Deck). lent_after x tables) (program_tables_lem s)

  pub read_fits : LentFits r K
  read_fits = subst (λ (x : Result DeckCounts Refusal). LentFits x K) (sym answer) (subst (LentFits (deck_answer o)) (sym after) (after_fits o (even_read s program_tables) tables))

  pub read_program : length s ≤ 65536 → lent_removal r K ≡ program s
  read_program h = (λ i. lent_removal (answer i) (after i)) ∙ after_removal o (even_read s program_tables) tables ∙ sym (program_short s h)
