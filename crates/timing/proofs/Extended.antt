-- What the statements of 02, request 12, take and what they do not, on small cases: each of these shuts out a definition that is too weak or turned round.
use Prim.Native.Nat.{ℕ}
use mathlib.Core.Path.{◌≡◌, refl}
use mathlib.Core.Logic.{⊎_elim}
use mathlib.Core.List.Memᴰ
use mathlib.Core.List.{List, [], ◌∷◌}
use Rattle.std.specs.Prelude.{Option, None}
use Rattle.timing.specs.Answers.{SomeTimes}
use Rattle.timing.specs.declared.Times.{Times}
use lib.IntN.{ℤ, pos, negsuc}
use lib.Signed.{le_z_yes}
use Rattle.timing.specs.Extended.{ExtendedTo, SamePaths, NoWorse, times_in}

-- a list with one path more, in front; and not with one less
pub longer : (p q : List ℕ) → ExtendedTo (q ∷ []) (p ∷ q ∷ [])
longer p q r m = Memᴰ.tail m

pub not_shorter : (p : List ℕ) → ExtendedTo (p ∷ []) [] → ⊥
not_shorter p f = Memᴰ.not-nil (f p (Memᴰ.head refl))

-- the same paths in another order, with one of them twice; and not more paths
pub shuffled : (p q : List ℕ) → SamePaths (p ∷ q ∷ []) (q ∷ p ∷ q ∷ [])
shuffled p q = (λ r m. Memᴰ.tail m, λ r m. ⊎_elim (λ e. Memᴰ.tail (Memᴰ.head e)) (λ h. h) (Memᴰ.cases_cons m))

pub not_same : (p : List ℕ) → SamePaths [] (p ∷ []) → ⊥
not_same p f = not_shorter p f.1

-- arrival, required time, slack, earliest arrival: before, and as good or better after
abbrev before : Option Times
before = SomeTimes (pos 9) (pos 7) (negsuc 1) (pos 4)

pub unchanged : NoWorse before before
unchanged = record { arrival = le_z_yes tt; required = le_z_yes tt; slack = le_z_yes tt; earliest = le_z_yes tt }

pub better : NoWorse before (SomeTimes (pos 8) (pos 8) (negsuc 0) (pos 5))
better = record { arrival = le_z_yes tt; required = le_z_yes tt; slack = le_z_yes tt; earliest = le_z_yes tt }

-- each of the four by one to the worse
pub arrival_rises : NoWorse before (SomeTimes (pos 10) (pos 7) (negsuc 1) (pos 4)) → ⊥
arrival_rises w = w.arrival.le

pub required_falls : NoWorse before (SomeTimes (pos 9) (pos 6) (negsuc 1) (pos 4)) → ⊥
required_falls w = w.required.le

pub slack_falls : NoWorse before (SomeTimes (pos 9) (pos 7) (negsuc 2) (pos 4)) → ⊥
slack_falls w = w.slack.le

pub earliest_falls : NoWorse before (SomeTimes (pos 9) (pos 7) (negsuc 1) (pos 3)) → ⊥
earliest_falls w = w.earliest.le

-- none is better than any number
pub none_after : NoWorse before None
none_after = tt

pub none_kept : NoWorse None None
none_kept = tt

pub none_lost : NoWorse None before → ⊥
none_lost w = w

-- the slices of two nodes, of which the first has no times: its 0 are none
abbrev zero_and : ℤ → List ℤ
zero_and z = pos 0 ∷ z ∷ []

pub told_none : times_in (0 ∷ 1 ∷ []) (zero_and (pos 9)) (zero_and (pos 7)) (zero_and (negsuc 1)) (zero_and (pos 4)) 0 ≡ None
told_none = refl

pub told_times : times_in (0 ∷ 1 ∷ []) (zero_and (pos 9)) (zero_and (pos 7)) (zero_and (negsuc 1)) (zero_and (pos 4)) 1 ≡ before
told_times = refl
