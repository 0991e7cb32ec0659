-- What it says that the writer's tests passed, and how lengths add up.
use Prim.Native.Nat.{ℕ, ◌+◌, ◌<◌}
use native.Mathlib.Numerals.{add-one}
use mathlib.Core.Path.{◌≡◌, refl}
use mathlib.Core.List.{List}
use Rattle.timing.specs.Answers.{Verdict, Passed}
use lib.ListN.{length, get_or, drop}
use lib.Seq.{drop-cons}
use borrow.Author.Tests.{eqb-true, leb-true}
use Rattle.timing.specs.Lists.{sum}
use Rattle.timing.specs.Refusals.{◌then◌}
use Rattle.timing.specs.Tests.{design_sizes, list_sizes, design_counts, list_counts, marked_count}
use Rattle.timing.specs.Calls.{deck_write_tests}
use Rattle.timing.specs.Decks.{Deck}
use Rattle.timing.proofs.Verdicts.{then_passed, unless_passed, then_assoc, edges_passed, marked_passed}
use Rattle.deck_writer.specs.Writing.{Fit}

pub fit_of : (d : Deck) → deck_write_tests d ≡ Passed → Fit d
unfolding deck_write_tests
fit_of d e =
    let a = then_passed _ _ e in
    let b = then_passed _ _ a.1 in
    let f = then_passed _ _ b.1 in
    let g = then_passed _ _ f.0 in
    let k = then_passed _ _ f.1 in
    let h = then_passed _ _ k.0 in
    let s = edges_passed _ _ _ _ a.0 in
    record {
      ends = s.0;
      early = s.1;
      late = s.2;
      adds = eqb-true _ _ (unless_passed _ _ b.0);
      nodes = leb-true _ _ (unless_passed _ _ g.0);
      edges = leb-true _ _ (unless_passed _ _ g.1);
      paths = leb-true _ _ (unless_passed _ _ h.0);
      listed = leb-true _ _ (unless_passed _ _ h.1);
      marked = marked_passed _ _ k.1;
    }

pub sum_drop : (l : List ℕ) (k : ℕ) → k < length l → sum (drop k l) ≡ get_or l k 0 + sum (drop (k + 1) l)
sum_drop l k h = rw (drop-cons l k 0 h, add-one k)

-- the tests of the sizes, and then those of the counts
pub then_sizes : (d : Deck) (s u : Verdict) → s ≡ design_sizes d.design → u ≡ (s then list_sizes d.list)
    → (u then design_counts d.design then list_counts d.list then marked_count d.design.nodes (length d.design.marked)) ≡ deck_write_tests d
unfolding deck_write_tests
then_sizes d s u e f = rw (f, e) (then_assoc (design_sizes d.design) (list_sizes d.list) (design_counts d.design then list_counts d.list then marked_count d.design.nodes (length d.design.marked)))

-- none of the tests looks at T
pub tests_untimed : (d : Deck) → deck_write_tests (record { design = d.design; list = d.list; allowed = 0 }) ≡ deck_write_tests d
unfolding deck_write_tests
tests_untimed d = refl
