-- Where numbers that are written one after the other all fit, the chain is one write.
use Prim.Native.Nat.{ℕ, ◌+◌, ◌≤◌}
use native.Mathlib.Omega.{arith}
use mathlib.Core.Path.{◌≡◌, refl, sym, ◌∙◌, ap}
use mathlib.Core.List.{List, [], ◌∷◌, flat_map}
use Rattle.std.specs.Prelude.{Ok}
use lib.ListN.{length}
use lib.Seq.{sets, length-sets}
use Rattle.timing.specs.Numbers.{packed, write_answer, written_room}
use Rattle.packed_lists.proofs.Sizes.{size_cons}
use Rattle.packed.proofs.Rooms.{sets_append, written_sets, answer_fits}
use Rattle.graph_writer.specs.Chain.{wrote_all, room_all}

-- from a place on: where they all fit, the answer and the room are those of one write
all_sets : (room : List ℕ) (at : ℕ) (xs : List ℕ) → at + length (flat_map packed xs) ≤ length room
    → (wrote_all (Ok at) room xs ≡ Ok (at + length (flat_map packed xs))) × (room_all (Ok at) room xs ≡ sets room at (flat_map packed xs))
unfolding flat_map
all_sets room at [] h = (ap Ok (omega arith), refl)
all_sets room at (x ∷ xs) h =
    let s = size_cons x xs in
    let f : at + length (packed x) ≤ length room = omega arith in
    let r = all_sets (sets room at (packed x)) (at + length (packed x)) xs (omega (arith, length-sets room at (packed x))) in
    rw (answer_fits room at (packed x) f, written_sets room at (packed x) f)
    (r.0 ∙ ap Ok (omega arith), r.1 ∙ sym (sets_append room at (packed x) (flat_map packed xs)))

pub all_fit : (room xs : List ℕ) → length (flat_map packed xs) ≤ length room
    → (wrote_all (Ok 0) room xs ≡ write_answer room 0 (flat_map packed xs)) × (room_all (Ok 0) room xs ≡ written_room room 0 (flat_map packed xs))
all_fit room xs h =
    let f : 0 + length (flat_map packed xs) ≤ length room = omega arith in
    let r = all_sets room 0 xs f in
    (r.0 ∙ sym (answer_fits room 0 (flat_map packed xs) f), r.1 ∙ sym (written_sets room 0 (flat_map packed xs) f))
