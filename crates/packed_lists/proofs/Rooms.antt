-- What a writer that is refused answers and leaves.
use Prim.Native.Nat.{ℕ, ◌<◌}
use native.Mathlib.Omega.{arith}
use mathlib.Core.Path.{◌≡◌, refl, sym}
use mathlib.Core.List.{List}
use Rattle.std.specs.Prelude.{Err}
use Rattle.timing.specs.Answers.{Verdict, Passed}
use lib.ListN.{length}
use Rattle.timing.specs.declared.Refusal.{Refusal}
use Rattle.timing.specs.Refusals.{refusal}
use Rattle.timing.specs.Calls.{writing, room_after_writing}
use Rattle.packed.proofs.Rooms.{too_long}

-- where the tests of a deck or a graph refuse, and where its bytes are too long
pub write_refused : (v : Verdict) (r : Refusal) (room bs : List ℕ) → v ≡ Err r → (Err r ≡ writing v room bs) × (room ≡ room_after_writing v room bs)
write_refused v r room bs e = rw e (refl, refl)

pub write_long : (v : Verdict) (q : Refusal) (room bs : List ℕ) → v ≡ Passed → q ≡ refusal 35 0 → length room < length bs → (Err q ≡ writing v room bs) × (room ≡ room_after_writing v room bs)
write_long v q room bs e f h =
    let t = too_long room bs 0 (omega arith) in
    rw (e, f) (sym t.0, sym t.1)
