-- Numbers written one after the other: `sets` puts bytes from a place on, and is the room that is specified where they fit.
use Prim.Native.Nat.{ℕ, ◌+◌, ◌≤◌}
use native.Mathlib.Omega.{arith}
use mathlib.Core.Path.{◌≡◌, refl, ◌∙◌, ap}
use mathlib.Core.List.{List, [], ◌∷◌, ◌++◌, flat_map, append-nil}
use Rattle.std.specs.Prelude.{Ok, Err}
use lib.ListN.{length}
use lib.Seq.{length-sets}
use Rattle.timing.specs.declared.Refusal.{Refusal}
use Rattle.timing.specs.Numbers.{packed, write_answer, written_room}
use Rattle.packed.proofs.Rooms.{sets_append, written_sets, answer_fits}
use Rattle.packed_lists.specs.Writing.{bytes_of, size, Wrote, Left}
use Rattle.packed_lists.proofs.Sizes.{bytes_append as packed-append, size_append as packed-size-append, size_cons as packed-size-cons}

-- the packed form of what follows stands behind what is before
pub bytes_append : (xs ys : List ℕ) → bytes_of (xs ++ ys) ≡ bytes_of xs ++ bytes_of ys
unfolding bytes_of
bytes_append xs ys = packed-append xs ys

pub size_append : (xs ys : List ℕ) → size (xs ++ ys) ≡ size xs + size ys
unfolding bytes_of
size_append xs ys = packed-size-append xs ys

pub bytes_are : (xs : List ℕ) → bytes_of xs ≡ flat_map packed xs
unfolding bytes_of
bytes_are xs = refl

pub bytes_one : (x : ℕ) → bytes_of (x ∷ []) ≡ packed x
unfolding bytes_of flat_map
bytes_one x = append-nil (packed x)

pub size_cons : (x : ℕ) (xs : List ℕ) → size (x ∷ xs) ≡ length (packed x) + size xs
unfolding bytes_of
size_cons x xs = packed-size-cons x xs

-- numbers whose packed forms, bs, are known to fit are written, and are not refused
module _ (room : List ℕ) (at : ℕ) (xs bs : List ℕ) (b : bytes_of xs ≡ bs) (h : at + size xs ≤ length room) where
  fits_bytes : at + length bs ≤ length room
  fits_bytes = rw b at h

  pub put_fits : (room' : List ℕ) (next : ℕ) → Ok next ≡ write_answer room at bs → room' ≡ written_room room at bs → Wrote room room' at next xs
  put_fits room' next e w =
      let q : Ok next ≡ Ok (at + length bs) = e ∙ answer_fits room at bs fits_bytes in
      record { end = rw b (cc); is = rw b (w ∙ written_sets room at bs fits_bytes) }

  pub put_never : (r : Refusal) → Err r ≡ write_answer room at bs → ⊥
  put_never r e =
      let q : Err r ≡ Ok (at + length bs) = e ∙ answer_fits room at bs fits_bytes in
      let z : ◌≡◌ {A = ℕ} 0 1 = cc in
      omega arith

-- What was written, and what is left.
pub wrote_length : {r r' : List ℕ} {at next : ℕ} {xs : List ℕ} → Wrote r r' at next xs → length r' ≡ length r
wrote_length {r} {r'} {at} {next} {xs} w = ap length w.is ∙ length-sets r at (bytes_of xs)

-- two runs of numbers, one after the other
pub fits_first : (room : List ℕ) (at : ℕ) (xs ys : List ℕ) → at + size (xs ++ ys) ≤ length room → at + size xs ≤ length room
fits_first room at xs ys h = omega (arith, size_append xs ys)

pub fits_second : {r r' : List ℕ} {at next : ℕ} (xs ys : List ℕ) → at + size (xs ++ ys) ≤ length r → Wrote r r' at next xs → next + size ys ≤ length r'
fits_second xs ys h w = omega (arith, size_append xs ys, w.end, wrote_length w)

pub wrote_both : {r r' r'' : List ℕ} {at mid next : ℕ} (xs ys : List ℕ) → Wrote r r' at mid xs → Wrote r' r'' mid next ys → Wrote r r'' at next (xs ++ ys)
wrote_both {r} {r'} {r''} {at} {mid} {next} xs ys v w =
    record {
      end = omega (arith, size_append xs ys, v.end, w.end);
      is = w.is ∙ rw (v.is, v.end, ← sets_append r at (bytes_of xs) (bytes_of ys), ← bytes_append xs ys);
    }

module _ (room₀ : List ℕ) (at₀ : ℕ) (all : List ℕ) where
  pub left_all : at₀ + size all ≤ length room₀ → Left room₀ at₀ all room₀ at₀ all
  left_all h = record { long = refl; fits = h; end = refl; is = refl }

  pub left_fits : {room : List ℕ} {at : ℕ} (xs rest : List ℕ) → Left room₀ at₀ all room at (xs ++ rest) → at + size xs ≤ length room
  left_fits xs rest l = omega (arith, l.long, l.fits, l.end, size_append xs rest)

  pub left_turn : {room room' : List ℕ} {at next : ℕ} (xs rest : List ℕ) → Left room₀ at₀ all room at (xs ++ rest) → Wrote room room' at next xs → Left room₀ at₀ all room' next rest
  left_turn {room} {room'} {at} {next} xs rest l w =
      record {
        long = wrote_length w ∙ l.long;
        fits = l.fits;
        end = omega (arith, w.end, l.end, size_append xs rest);
        is = rw (w.is, w.end, ← sets_append room at (bytes_of xs) (bytes_of rest), ← bytes_append xs rest) l.is;
      }

  pub left_none : {room : List ℕ} {at : ℕ} → Left room₀ at₀ all room at [] → Wrote room₀ room at₀ at all
  unfolding bytes_of flat_map
  left_none l = record { end = omega (arith, l.end); is = l.is }

-- no numbers
pub size_none : size [] ≡ 0
unfolding bytes_of flat_map
size_none = refl
