-- How many of the first n slots of a copy are reached.
use Rattle.std.specs.Prelude.{ℕ, List, ltb}
use Rattle.timing.specs.Lists.{count_of, upto}
use Rattle.removal.specs.declared.rows.Layout.{Layout}
use Rattle.removal.specs.Rows.{flag_in}

abbrev pub reached_to : Layout → List ℕ → ℕ → ℕ → ℕ
reached_to l s c n = count_of (λ j. ltb 0 (flag_in l s c j)) (upto n 0)
