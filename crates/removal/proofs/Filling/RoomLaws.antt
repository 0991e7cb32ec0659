-- Writing a list into a room front to back.
use Prim.Native.Nat.{ℕ, suc, ◌+◌, ◌≤◌}
use native.Mathlib.Omega.{arith}
use mathlib.Core.Path.{◌≡◌, refl, sym, ap, ◌∙◌}
use mathlib.Core.List.{List, [], ◌∷◌, ◌++◌, map, map-append}
use lib.ListN.{length, set, length-set, length-append, length-map}
use Rattle.timing.specs.Lists.{placed}
use Rattle.timing.specs.Graphs.{Edge}
use Rattle.removal.specs.Fill.{put, Edged}

pub put_append : (k : ℕ) (xs ys room : List ℕ) → put k (xs ++ ys) room ≡ put (k + length xs) ys (put k xs room)
put_append k [] ys room = let z : k ≡ k + 0 = omega arith in ap (λ (i : ℕ). put i ys room) z
put_append k (x ∷ xs) ys room =
    let z : suc k + length xs ≡ k + suc (length xs) = omega arith in
    put_append (suc k) xs ys (set room k x) ∙ ap (λ (i : ℕ). put i ys (put (suc k) xs (set room k x))) z

pub put_length : (k : ℕ) (xs room : List ℕ) → length (put k xs room) ≡ length room
put_length k [] room = refl
put_length k (x ∷ xs) room = put_length (suc k) xs (set room k x) ∙ length-set room k x

put_past : (k : ℕ) (xs : List ℕ) (r : ℕ) (room : List ℕ) → put (suc k) xs (r ∷ room) ≡ r ∷ put k xs room
put_past k [] r room = refl
put_past k (x ∷ xs) r room = put_past (suc k) xs r (set room k x)

-- what is written from the front on is placed there
pub put_placed : (xs room : List ℕ) → length xs ≤ length room → put 0 xs room ≡ placed xs room
put_placed [] room h = refl
put_placed (x ∷ xs) [] h = absurd (omega arith)
put_placed (x ∷ xs) (r ∷ room) h = put_past 0 xs x room ∙ ap (λ (l : List ℕ). x ∷ l) (put_placed xs room (omega arith))

-- one list after the other, whatever is read off its elements
put_two : {A : Type 0} (f : A → ℕ) (k r : ℕ) (xs ys : List A) (room now after : List ℕ) → r ≡ k + length xs → now ≡ put k (map f xs) room → after ≡ put r (map f ys) now
    → after ≡ put k (map f (xs ++ ys)) room
put_two f k r xs ys room now after q a b =
    let z : r ≡ k + length (map f xs) = omega (arith, length-map xs f) in
    b ∙ ap (put r (map f ys)) a ∙ ap (λ (i : ℕ). put i (map f ys) (put k (map f xs) room)) z
    ∙ sym (put_append k (map f xs) (map f ys) room) ∙ ap (λ (l : List ℕ). put k l room) (sym (map-append f xs ys))

pub nodes_two : {A : Type 0} (f : A → ℕ) (k : ℕ) (xs ys : List A) (room now after : List ℕ) → now ≡ put k (map f xs) room → after ≡ put (k + length xs) (map f ys) now
    → after ≡ put k (map f (xs ++ ys)) room
nodes_two f k xs ys room now after a b = put_two f k (k + length xs) xs ys room now after refl a b

pub edged_none : (k : ℕ) (room-from room-to room-via : List ℕ) → Edged [] k room-from room-to room-via room-from room-to room-via k
edged_none k room-from room-to room-via = record { starts = refl; ends = refl; names = refl; next = omega arith }

pub edged_more : (es fs : List Edge) (k r n : ℕ) (room-from room-to room-via room-from' room-to' room-via' room-from'' room-to'' room-via'' : List ℕ) → Edged es k room-from room-to room-via room-from' room-to' room-via' r
    → Edged fs r room-from' room-to' room-via' room-from'' room-to'' room-via'' n → Edged (es ++ fs) k room-from room-to room-via room-from'' room-to'' room-via'' n
edged_more es fs k r n room-from room-to room-via room-from' room-to' room-via' room-from'' room-to'' room-via'' a b =
    record {
      starts = put_two (λ (e : Edge). e.start) k r es fs room-from room-from' room-from'' a.next a.starts b.starts;
      ends = put_two (λ (e : Edge). e.end) k r es fs room-to room-to' room-to'' a.next a.ends b.ends;
      names = put_two (λ (e : Edge). e.name) k r es fs room-via room-via' room-via'' a.next a.names b.names;
      next = omega (arith, a.next, b.next, length-append es fs);
    }

-- the rooms keep their lengths
pub record Sizes (room-from room-to room-via room-from' room-to' room-via' : List ℕ) : Type 0 where
  pub starts : length room-from' ≡ length room-from
  pub ends : length room-to' ≡ length room-to
  pub names : length room-via' ≡ length room-via

pub edged_sizes : (es : List Edge) (k r : ℕ) (room-from room-to room-via room-from' room-to' room-via' : List ℕ) → Edged es k room-from room-to room-via room-from' room-to' room-via' r → Sizes room-from room-to room-via room-from' room-to' room-via'
edged_sizes es k r room-from room-to room-via room-from' room-to' room-via' a =
    record {
      starts = ap length a.starts ∙ put_length k (map (λ (e : Edge). e.start) es) room-from;
      ends = ap length a.ends ∙ put_length k (map (λ (e : Edge). e.end) es) room-to;
      names = ap length a.names ∙ put_length k (map (λ (e : Edge). e.name) es) room-via;
    }
