-- What the fill puts into the room.
use Prim.Native.Nat.{ℕ, zero, suc, ◌+◌, ◌-◌, ◌<◌}
use native.Mathlib.Omega.{arith}
use native.Mathlib.Numerals.{add-one}
use mathlib.Core.Path.{◌≡◌, refl, sym, ◌∙◌, ap}
use mathlib.Core.List.{List, ◌∷◌, map}
use Rattle.std.specs.Prelude.{Result, Ok, Err}
use Rattle.timing.specs.Answers.{Verdict, Passed}
use Rattle.timing.specs.declared.Taken.{Taken}
use lib.Dec.{leb}
use lib.ListN.{length, set, length-set}
use lib.Seq.{sets}
use Rattle.timing.specs.declared.Refusal.{Refusal}
use Rattle.timing.specs.Numbers.{read_number}
use Rattle.timing.specs.GraphBytes.{CopyRow, copy_row}
use Rattle.timing.specs.Refusals.{unless}
use Rattle.timing.specs.Parsing.{Parsed, found, stopped, Reader, onward, ◌>>=◌, ◌>>◌, return, tested, parsed_number, number, repeated, Row, row}
use Rattle.timing.specs.Looks.{value_of, next_of, value_at, next_at, row_at, row_end}
use Rattle.graph_reader.specs.Reading.{things_from, place_after, copy_at, copy_end, copies_from, copies_end, rows_from}

-- A loop over m things, copies or rows: the place behind them, from a thing on.
pub place_turn : (next : ℕ → ℕ) (m i at : ℕ) → i < m → place_after next (m - (i + 1)) (next at) ≡ place_after next (m - i) at
place_turn next m i at h =
    let d : m - i ≡ suc (m - (i + 1)) = omega arith in
    rw d

-- and a slice, into which one part of each goes
module _ {A : Type 0} (thing : ℕ → A) (next : ℕ → ℕ) where
  -- as the loop has it: filled below i, and the rest to come from here on
  pub record Column (part : A → ℕ) (m at : ℕ) (out : List ℕ) (here i : ℕ) (out' : List ℕ) : Type 0 where
    pub size : length out' ≡ length out
    pub left : sets out' i (map part (things_from thing next (m - i) here)) ≡ sets out 0 (map part (things_from thing next m at))

  module _ (part : A → ℕ) (m at : ℕ) (out : List ℕ) where
    pub column_turn : (here i : ℕ) (out' : List ℕ) (here'' : ℕ) (out'' : List ℕ) → i < m → here'' ≡ next here → out'' ≡ set out' i (part (thing here))
        → Column part m at out here i out' → Column part m at out here'' (i + 1) out''
    column_turn here i out' here'' out'' h e f c =
        record {
          size = ap length f ∙ length-set out' i (part (thing here)) ∙ c.size;
          left = rw (e, f) (one ∙ c.left);
        }
      where
        one : sets (set out' i (part (thing here))) (i + 1) (map part (things_from thing next (m - (i + 1)) (next here))) ≡ sets out' i (map part (things_from thing next (m - i) here))
        one =
            let d : m - i ≡ suc (m - (i + 1)) = omega arith in
            rw (d, add-one i)

-- What a reader found is what stands there.
module _ {A : Type 0} (p : Reader A) (thing : ℕ → A) (next : ℕ → ℕ) (here : (at : ℕ) (x : A) (b : ℕ) → p at ≡ found x b → (x ≡ thing at) × (b ≡ next at)) where
  things_from_lem : (k at : ℕ) (xs : List A) (a : ℕ) → repeated k p at ≡ found xs a → (xs ≡ things_from thing next k at) × (a ≡ place_after next k at)
  things_from_lem zero at xs a e = (cc, cc)
  things_from_lem (suc k) at xs a e = one (p at) refl e (λ b. things_from_lem k b)
    where
      two : (x : A) (b : ℕ) (q : Parsed (List A)) → onward q (λ ys c. found (x ∷ ys) c) ≡ found xs a
          → ((ys : List A) (c : ℕ) → q ≡ found ys c → (ys ≡ things_from thing next k b) × (c ≡ place_after next k b))
          → (xs ≡ x ∷ things_from thing next k b) × (a ≡ place_after next k b)
      two x b (found ys c) f below =
          let r = below ys c refl in
          let d : xs ≡ x ∷ ys = cc in
          let g : a ≡ c = cc in
          (d ∙ ap (λ (l : List A). x ∷ l) r.0, g ∙ r.1)
      two x b (stopped q) f below = cc

      one : (q : Parsed A) → p at ≡ q → onward q (λ x. repeated k p >>= (λ ys. return (x ∷ ys))) ≡ found xs a
          → ((b : ℕ) (ys : List A) (c : ℕ) → repeated k p b ≡ found ys c → (ys ≡ things_from thing next k b) × (c ≡ place_after next k b))
          → (xs ≡ thing at ∷ things_from thing next k (next at)) × (a ≡ place_after next k (next at))
      one (found x b) q f below =
          let h = here at x b q in
          rw (sym h.0, sym h.1) (two x b (repeated k p b) f (below b))
      one (stopped r) q f below = cc

pub number_here : (s : List ℕ) (at x b : ℕ) → number s at ≡ found x b → (x ≡ value_at s at) × (b ≡ next_at s at)
unfolding value_at next_at
number_here s at x b e = one (read_number s at) e
  where
    one : (r : Result Taken Refusal) → parsed_number r ≡ found x b → (x ≡ value_of r) × (b ≡ next_of at r)
    one (Ok t) f = (cc, cc)
    one (Err r) f = cc

row_here : (s : List ℕ) (at : ℕ) (x : Row) (b : ℕ) → row s at ≡ found x b → (x ≡ row_at s at) × (b ≡ row_end s at)
row_here s at x b e = one (number s at) refl e
  where
    three : (v w : ℕ) (at₂ : ℕ) (p : Parsed ℕ) → number s at₂ ≡ p → onward p (λ u. return {A = Row} (record { first = v; second = w; third = u })) ≡ found x b
        → (x ≡ record { first = v; second = w; third = value_at s at₂ }) × (b ≡ next_at s at₂)
    three v w at₂ (found u c) q f =
        let h = number_here s at₂ u c q in
        let d : x ≡ record { first = v; second = w; third = u } = cc in
        let g : b ≡ c = cc in
        (d ∙ ap (λ (y : ℕ). record { first = v; second = w; third = y }) h.0, g ∙ h.1)
    three v w at₂ (stopped r) q f = cc

    two : (v : ℕ) (at₁ : ℕ) (p : Parsed ℕ) → number s at₁ ≡ p → onward p (λ w. number s >>= (λ u. return {A = Row} (record { first = v; second = w; third = u }))) ≡ found x b
        → (x ≡ record { first = v; second = value_at s at₁; third = value_at s (next_at s at₁) }) × (b ≡ next_at s (next_at s at₁))
    two v at₁ (found w c) q f =
        let h = number_here s at₁ w c q in
        rw (sym h.0, sym h.1) (three v w c (number s c) refl f)
    two v at₁ (stopped r) q f = cc

    one : (p : Parsed ℕ) → number s at ≡ p → onward p (λ v. number s >>= (λ w. number s >>= (λ u. return {A = Row} (record { first = v; second = w; third = u })))) ≡ found x b
        → (x ≡ row_at s at) × (b ≡ row_end s at)
    one (found v c) q f =
        let h = number_here s at v c q in
        rw (sym h.0, sym h.1) (two v c (number s c) refl f)
    one (stopped r) q f = cc

copy_here : (s : List ℕ) (at : ℕ) (x : CopyRow) (b : ℕ) → copy_row s at ≡ found x b → (x ≡ copy_at s at) × (b ≡ copy_end s at)
copy_here s at x b e = one (number s at) refl e
  where
    three : (v w c : ℕ) (t : Verdict) → onward (tested t c) (λ u. return {A = CopyRow} (record { node = v; endpoint = w })) ≡ found x b
        → (x ≡ record { node = v; endpoint = w }) × (b ≡ c)
    three v w c Passed f = (cc, cc)
    three v w c (Err r) f = cc

    two : (v : ℕ) (at₁ : ℕ) (p : Parsed ℕ) → number s at₁ ≡ p
        → onward p (λ w. tested (unless 32 (leb w 1)) >> return {A = CopyRow} (record { node = v; endpoint = w })) ≡ found x b
        → (x ≡ record { node = v; endpoint = value_at s at₁ }) × (b ≡ next_at s at₁)
    two v at₁ (found w c) q f =
        let h = number_here s at₁ w c q in
        rw (sym h.0, sym h.1) (three v w c (unless 32 (leb w 1)) f)
    two v at₁ (stopped r) q f = cc

    one : (p : Parsed ℕ) → number s at ≡ p
        → onward p (λ v. number s >>= (λ w. tested (unless 32 (leb w 1)) >> return {A = CopyRow} (record { node = v; endpoint = w }))) ≡ found x b
        → (x ≡ copy_at s at) × (b ≡ copy_end s at)
    one (found v c) q f =
        let h = number_here s at v c q in
        rw (sym h.0, sym h.1) (two v c (number s c) refl f)
    one (stopped r) q f = cc

pub copies_from_lem : (s : List ℕ) (k at : ℕ) (xs : List CopyRow) (a : ℕ) → repeated k (copy_row s) at ≡ found xs a → (xs ≡ copies_from s k at) × (a ≡ copies_end s k at)
copies_from_lem s = things_from_lem (copy_row s) (copy_at s) (copy_end s) (copy_here s)

pub rows_from_lem : (s : List ℕ) (k at : ℕ) (xs : List Row) (a : ℕ) → repeated k (row s) at ≡ found xs a → (xs ≡ rows_from s k at) × (a ≡ place_after (row_end s) k at)
rows_from_lem s = things_from_lem (row s) (row_at s) (row_end s) (row_here s)

pub things_length : {A : Type 0} (thing : ℕ → A) (next : ℕ → ℕ) (k at : ℕ) → length (things_from thing next k at) ≡ k
things_length thing next zero at = refl
things_length thing next (suc k) at = ap suc (things_length thing next k (next at))
