-- A turn puts one group. What is still to be put, from the next place on, is the packed form of what is left of x, and it
-- always comes to the room that the whole packed form comes to.
-- one more group, one power of 128 less
use Prim.Native.Nat.{ℕ, ◌+◌, ◌-◌, ◌≤◌, ◌<◌}
use mathlib.Core.Path.{◌≡◌}
use mathlib.Core.List.{List}
use lib.ListN.{length}
use lib.Seq.{sets}
use Rattle.timing.specs.Numbers.{packed, packed_in}
use Rattle.packed.proofs.Numbers.{cap}
use Rattle.packed.proofs.put_groups.Given as goal

-- of the packed form of x, put from `at` on, what is still to be put from `next` on
pub record Left (room₀ : List ℕ) (at x : ℕ) (room : List ℕ) (next v : ℕ) : Type 0 where
  pub from : at ≤ next
  pub to : next ≤ at + 4
  pub small : v < cap 15 (at + 4 - next)
  pub long : length room ≡ length room₀
  pub end : next + length (packed_in (at + 4 - next) v) ≡ at + length (packed x)
  pub whole : sets room next (packed_in (at + 4 - next) v) ≡ sets room₀ at (packed x)

abbrev pub invariant-loop-v : goal.invariant-loop-v
invariant-loop-v l = Left l.initial.room l.at l.x l.room l.next l.v

abbrev pub decreases-loop-v : goal.decreases-loop-v
decreases-loop-v l = l.v
