-- Packed form, the delays: "a delay d is packed as 2d, or -2d - 1 when negative".
use Rattle.std.specs.Prelude.{ℕ, ◌+◌, ◌*◌, ◌/◌, ◌%◌, cond, eqb, ℤ, pos, negsuc}

-- `negsuc n` is -(n + 1), for which -2d - 1 is 2n + 1
abbrev pub packed_delay : ℤ → ℕ
packed_delay (pos n) = 2 * n
packed_delay (negsuc n) = 2 * n + 1

-- the delay of a packed number
abbrev pub delay_of : ℕ → ℤ
delay_of x = cond (eqb (x % 2) 0) (pos (x / 2)) (negsuc (x / 2))
