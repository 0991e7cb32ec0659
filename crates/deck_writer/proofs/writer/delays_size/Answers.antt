use Prim.Native.Nat.{ℕ}
use native.Mathlib.Omega.{arith}
use mathlib.Core.Path.{◌≡◌, ◌∙◌, ap}
use lib.IntN.{pos}
use lib.ListN.{length, get_or}
use Rattle.timing.specs.Numbers.{packed}
use Rattle.timing.specs.Delays.{packed_delay}
use Rattle.deck_writer.proofs.Writing.{sizes_drop, sizes_done}
use Rattle.deck_writer.proofs.writer.delays_size.Goals as goal

pub loop-k-preserved : goal.loop-k-preserved
loop-k-preserved c =
    let s = c.args.s.now in
    let e : c.number_size-total.result ≡ length (packed (packed_delay (get_or s c.loop-k.k (pos 0)))) =
    c.number_size-total.ensures.0 ∙ ap (λ (x : ℕ). length (packed x)) c.delay_number.ensures in
    let d = sizes_drop s c.loop-k.k (omega arith) in
    (omega (arith, c.number_size-total.ensures.1), omega arith)

pub returns : goal.returns
returns c =
    let d = sizes_done c.args.s.now c.loop-k.k (omega arith) in
    (omega arith, omega arith)
