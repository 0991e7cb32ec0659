-- Where a call answers a refusal by 22 to 24, its places are the first path with the fault, and the first edge there: of a removal, of one that
-- tells its size, of `test_list` and of `test_deck`.
use mathlib.Core.Path.{◌≡◌, sym, ◌∙◌}
use Rattle.std.specs.Prelude.{Err}
use Prim.Native.Nat.{ℕ}
use native.Mathlib.Omega.{arith}
use lib.ListN.{length}
use Rattle.timing.specs.declared.Refusal.{Refusal}
use Rattle.timing.specs.Graphs.{Graph}
use Rattle.timing.specs.Marks.{path_list, paths_of}
use Rattle.timing.specs.Calls.{Outcome, made, refused, removal, largest_room, graph_answer}
use Rattle.timing.specs.Called.{removal_of, remove_on}
use Rattle.timing.specs.Told.{size_on}
use Rattle.timing.specs.Faults.{Placed}
use Rattle.theorems.proofs.Placed.{removal_placed, deck_placed, list_placed}
use Rattle.theorems.proofs.Told.{size_outcome}
use Rattle.called.specs.Removals.{Call, design_of, earlier_of, called_of, paths_in}
use Rattle.called.specs.Sizes.{SizeCall, sized_design, sized_earlier, telling_of}
use Rattle.called.specs.Tests.{ListTest, list_design, list_tested, DeckTest, deck_design, deck_tested}
use Rattle.called.proofs.Series.{meets}
use Rattle.called.proofs.Told.{tells}

answer_refused : (o : Outcome Graph) (x : Refusal) → graph_answer o ≡ Err x → o ≡ refused x
answer_refused (made G) x e = absurd (let z : ◌≡◌ {A = ℕ} 0 1 = cc in omega arith)
answer_refused (refused r) x e = cc

pub call_placed : (c : Call) (x : Refusal) → (called_of c).answer ≡ Err x → Placed (design_of c) (paths_in c) x
call_placed c x e =
    let o = remove_on (design_of c) (earlier_of c) (removal_of (called_of c)) in
    removal_placed (design_of c) (earlier_of c) (removal_of (called_of c)) x (answer_refused o x (sym (meets c).answer ∙ e))

pub size_placed : (t : SizeCall) (x : Refusal) → (telling_of t).answer ≡ Err x
    → Placed (sized_design t) (paths_of (path_list (telling_of t).listed (telling_of t).lengths)) x
size_placed t x e =
    let L = path_list (telling_of t).listed (telling_of t).lengths in
    let words = length (telling_of t).scratch in
    let o = size_on (sized_design t) (sized_earlier t) L words in
    removal_placed (sized_design t) (sized_earlier t) (removal L largest_room words) x
    (sym (size_outcome (sized_design t) (sized_earlier t) L words) ∙ answer_refused o x (sym (tells t).answer ∙ e))

pub list_test_placed : (c : ListTest) (x : Refusal) → c.answer ≡ Err x → Placed (list_design c) (paths_of (list_tested c)) x
list_test_placed c x e = list_placed (list_design c) (list_tested c) x (sym c.learnt ∙ e)

pub deck_test_placed : (c : DeckTest) (x : Refusal) → c.answer ≡ Err x → Placed (deck_design c) (paths_of (deck_tested c)) x
deck_test_placed c x e = deck_placed (deck_design c) (deck_tested c) c.passed.1.1.1.1.1.1.1.1.0 x (sym c.learnt ∙ e)
