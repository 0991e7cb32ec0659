-- The tests before 33: their refusals leave the scratch as it is, and none of them is one for room.
use Prim.Native.Nat.{ℕ, ◌≤◌}
use native.Mathlib.Omega.{arith}
use mathlib.Core.Path.{◌≡◌, refl, subst}
use mathlib.Core.Bool.{Bool, false, ◌&&◌, ◌||◌}
use Rattle.std.specs.Prelude.{Err}
use Rattle.timing.specs.Answers.{Verdict}
use lib.Dec.{eqb}
use borrow.Author.Tests.{ne_eqb}
use lib.ListN.{length}
use Rattle.timing.specs.declared.Refusal.{Refusal}
use Rattle.timing.specs.Lists.{sum}
use Rattle.timing.specs.Graphs.{Design}
use Rattle.timing.specs.Marks.{PathList}
use Rattle.timing.specs.Refusals.{unless, ◌then◌}
use Rattle.timing.specs.Tests.{same_sizes, design_sizes, list_sizes, design_tests, list_tests, Room, room_sizes}
use Rattle.timing.proofs.Verdicts.{Every, every_then, every_unless}
use Rattle.theorems.proofs.Tests.{every_design, every_list}

abbrev pub keeps : ℕ → Type 0
keeps k = (eqb k 33 || eqb k 34 || eqb k 35) ≡ false

keeps_below : (k : ℕ) → k ≤ 32 → keeps k
keeps_below k h = rw (ne_eqb k 33 (λ e. omega arith), ne_eqb k 34 (λ e. omega arith), ne_eqb k 35 (λ e. omega arith))

abbrev pub Early : Verdict → Type 0
Early v = Every (λ x. keeps x.number) v

pub early_refused : (v : Verdict) (x : Refusal) → Early v → v ≡ Err x → keeps x.number
early_refused v x a e = subst Early e a

pub early_then : (v w : Verdict) → Early v → Early w → Early (v then w)
early_then v w a b = every_then (λ x. keeps x.number) v w a (λ e. b)

pub early_unless : (k : ℕ) → keeps k → (fit : Bool) → Early (unless k fit)
early_unless k e fit = every_unless (λ x. keeps x.number) k e fit

sizes_early : (a b c : ℕ) → Early (same_sizes a b c)
sizes_early a b c = early_unless 30 refl (eqb a b && eqb a c)

pub design_sizes_early : (D : Design) → Early (design_sizes D)
design_sizes_early D =
    let m = length D.starts in
    early_then (same_sizes m m (length D.ends)) (same_sizes m (length D.early) (length D.late))
    (sizes_early m m (length D.ends)) (sizes_early m (length D.early) (length D.late))

pub room_sizes_early : (R : Room) → Early (room_sizes R)
room_sizes_early R =
    early_then (same_sizes R.nodes R.nodes R.endpoints) (same_sizes R.starts R.ends R.names)
    (sizes_early R.nodes R.nodes R.endpoints) (sizes_early R.starts R.ends R.names)

pub list_sizes_early : (L : PathList) → Early (list_sizes L)
list_sizes_early L = early_unless 30 refl (eqb (sum L.lengths) (length L.edges))

pub design_early : (D : Design) → Early (design_tests D)
design_early D = every_design (λ x. keeps x.number) D (λ k j a b l. keeps_below k (omega arith)) (λ j a b. keeps_below 16 (omega arith))

pub list_early : (D : Design) (L : PathList) → Early (list_tests D L)
list_early D L = every_list (λ x. keeps x.number) D L (λ k a b. keeps_below k (omega arith)) (λ k j d a b few l. keeps_below k (omega arith))

pub chain_early : (D : Design) (L : PathList) (o : Verdict) → Early o → Early (design_sizes D then (list_sizes L then (o then (design_tests D then list_tests D L))))
chain_early D L o e =
    early_then (design_sizes D) (list_sizes L then (o then (design_tests D then list_tests D L))) (design_sizes_early D)
    (early_then (list_sizes L) (o then (design_tests D then list_tests D L)) (list_sizes_early L)
    (early_then o (design_tests D then list_tests D L) e (early_then (design_tests D) (list_tests D L) (design_early D) (list_early D L))))
