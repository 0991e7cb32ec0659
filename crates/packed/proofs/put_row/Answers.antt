-- One number, and the next behind it.
-- after the first number, and after the second
use Prim.Native.Nat.{◌+◌}
use native.Mathlib.Omega.{arith}
use mathlib.Core.Path.{◌≡◌, ◌∙◌}
use mathlib.Core.List.{◌++◌}
use lib.ListN.{length, length-append}
use Rattle.timing.specs.Numbers.{packed, written_room}
use Rattle.packed.proofs.Rooms.{written_length, written_append, row_bytes, row_size}
use Rattle.packed.proofs.put_row.Goals as goal

pub put_number-next-requires : goal.put_number-next-requires
put_number-next-requires c =
    let a = c.args in
    omega (arith, c.requires, row_size a.a a.b a.c)

pub put_number-next-requires-2 : goal.put_number-next-requires-2
put_number-next-requires-2 c =
    let a = c.args in
    omega (arith, c.requires, row_size a.a a.b a.c, c.put_number-next.ensures.0, (let by : length c.put_number-next.new.room ≡ length c.args.room.now = let a = c.args in rw c.put_number-next.ensures.1 (written_length a.room.now a.at (packed a.a)) in by))

pub put_number-requires : goal.put_number-requires
put_number-requires c =
    let a = c.args in
    rw ((let by : let a = c.args in (c.put_number-next-2.result ≡ a.at + length (packed a.a ++ packed a.b)) × (c.put_number-next-2.new.room ≡ written_room a.room.now a.at (packed a.a ++ packed a.b)) = let a = c.args in let n = length-append (packed a.a) (packed a.b) in let e = c.put_number-next-2.ensures in let m = c.put_number-next.ensures.0 in (omega (arith, e.0), e.1 ∙ rw (c.put_number-next.ensures.1, m) (written_append a.room.now a.at (packed a.a) (packed a.b) (omega (arith, c.requires, row_size a.a a.b a.c)))) in by)).1 (omega (
      arith,
      c.requires,
      row_size a.a a.b a.c,
      ((let by : let a = c.args in (c.put_number-next-2.result ≡ a.at + length (packed a.a ++ packed a.b)) × (c.put_number-next-2.new.room ≡ written_room a.room.now a.at (packed a.a ++ packed a.b)) = let a = c.args in let n = length-append (packed a.a) (packed a.b) in let e = c.put_number-next-2.ensures in let m = c.put_number-next.ensures.0 in (omega (arith, e.0), e.1 ∙ rw (c.put_number-next.ensures.1, m) (written_append a.room.now a.at (packed a.a) (packed a.b) (omega (arith, c.requires, row_size a.a a.b a.c)))) in by)).0,
      length-append (packed a.a) (packed a.b),
      written_length a.room.now a.at (packed a.a ++ packed a.b),
    ))

pub returns : goal.returns
returns c =
    let a = c.args in
    let e = c.put_number.ensures in
    let n = length-append (packed a.a ++ packed a.b) (packed a.c) in
    let h = c.requires in
    rw (row_bytes a.a a.b a.c) (
      omega (arith, e.0, ((let by : let a = c.args in (c.put_number-next-2.result ≡ a.at + length (packed a.a ++ packed a.b)) × (c.put_number-next-2.new.room ≡ written_room a.room.now a.at (packed a.a ++ packed a.b)) = let a = c.args in let n = length-append (packed a.a) (packed a.b) in let e = c.put_number-next-2.ensures in let m = c.put_number-next.ensures.0 in (omega (arith, e.0), e.1 ∙ rw (c.put_number-next.ensures.1, m) (written_append a.room.now a.at (packed a.a) (packed a.b) (omega (arith, c.requires, row_size a.a a.b a.c)))) in by)).0),
      e.1 ∙ rw (((let by : let a = c.args in (c.put_number-next-2.result ≡ a.at + length (packed a.a ++ packed a.b)) × (c.put_number-next-2.new.room ≡ written_room a.room.now a.at (packed a.a ++ packed a.b)) = let a = c.args in let n = length-append (packed a.a) (packed a.b) in let e = c.put_number-next-2.ensures in let m = c.put_number-next.ensures.0 in (omega (arith, e.0), e.1 ∙ rw (c.put_number-next.ensures.1, m) (written_append a.room.now a.at (packed a.a) (packed a.b) (omega (arith, c.requires, row_size a.a a.b a.c)))) in by)).1, ((let by : let a = c.args in (c.put_number-next-2.result ≡ a.at + length (packed a.a ++ packed a.b)) × (c.put_number-next-2.new.room ≡ written_room a.room.now a.at (packed a.a ++ packed a.b)) = let a = c.args in let n = length-append (packed a.a) (packed a.b) in let e = c.put_number-next-2.ensures in let m = c.put_number-next.ensures.0 in (omega (arith, e.0), e.1 ∙ rw (c.put_number-next.ensures.1, m) (written_append a.room.now a.at (packed a.a) (packed a.b) (omega (arith, c.requires, row_size a.a a.b a.c)))) in by)).0) (written_append a.room.now a.at (packed a.a ++ packed a.b) (packed a.c) (rw (row_bytes a.a a.b a.c) at h)),
    )
