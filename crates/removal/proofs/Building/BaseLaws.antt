-- Filling in the bases: where the slots of each copy start, and how many marks there are at the nodes below its own.
use Prim.Native.Nat.{ℕ, zero, suc, ◌+◌, ◌-◌, ◌*◌, ◌≤◌, ◌<◌}
use native.Mathlib.Omega.{arith}
use native.Mathlib.Decide.{ℕ_discrete}
use mathlib.Core.Path.{◌≡◌, ◌∙◌}
use mathlib.Core.List.{List}
use lib.ListN.{length, get_or, set}
use lib.Seq.{get_or-set_same, get_or-set_other}
use Rattle.removal.specs.Table.{Frame}
use Rattle.removal.proofs.Listing.Region.{frame_refl, frame_set}
use Rattle.removal.specs.declared.rows.Layout.{Layout}
use Rattle.removal.specs.Slots.{slot_base}
use Rattle.removal.specs.Build.{slots_from, Baseable, Based}
use Rattle.removal.proofs.Reaching.RowLaws.{base_next}

-- the copies below c are done, and the slots so far are counted
pub record Basing (l : Layout) (nodes firsts s t : List ℕ) (total c : ℕ) : Type 0 where
  pub inside : c ≤ l.copies
  pub frame : Frame s t l.first (l.copies + suc l.copies)
  pub firsts_are : (d : ℕ) → d < c → get_or t (l.first + d) 0 ≡ get_or firsts (get_or nodes d 0) 0
  pub bases : (d : ℕ) → d < c → get_or t (l.base + d) 0 ≡ l.slots + slot_base (slots_from firsts nodes) d
  pub total_is : total ≡ l.slots + slot_base (slots_from firsts nodes) c

module _ (l : Layout) (nodes firsts s : List ℕ) (w : Baseable l nodes firsts s) where
  -- the marks at a node
  marks_few : (c : ℕ) → c < l.copies → (get_or firsts (get_or nodes c 0) 0 ≤ get_or firsts (suc (get_or nodes c 0)) 0) × (get_or firsts (suc (get_or nodes c 0)) 0 ≤ 16384)
  marks_few c h =
      let b = w.nodes_below c (omega (arith, w.copies)) in
      (w.rises (get_or nodes c 0) b, w.few (suc (get_or nodes c 0)) (omega arith))

  -- the slots of all copies have numbers of 32 bits
  base_few : (c : ℕ) → c ≤ l.copies → slot_base (slots_from firsts nodes) c ≤ 16385 * c
  base_few zero h = omega arith
  base_few (suc c) h = omega (arith, base_next (slots_from firsts nodes) c, base_few c (omega arith), (marks_few c (omega arith)).1)

  module _ (t : List ℕ) (total c : ℕ) (x : Basing l nodes firsts s t total c) where
    pub basing_room : c < l.copies → (l.first + c < length t) × (l.base + c < length t)
    basing_room h = (omega (arith, w.base, w.room, x.frame.size), omega (arith, w.room, x.frame.size))

    pub basing_few : total ≤ 1000000 + 16385 * 16384
    basing_few = omega (arith, w.few_words, x.total_is, base_few c x.inside, x.inside, w.copies, w.few_copies)

    pub basing_turn : (first marks : ℕ) → c < l.copies → first ≡ get_or firsts (get_or nodes c 0) 0 → marks ≡ get_or firsts (suc (get_or nodes c 0)) 0 - first
        → Basing l nodes firsts s (set (set t (l.first + c) first) (l.base + c) total) (total + (marks + 1)) (suc c)
    basing_turn first marks h qf qm =
        record {
          inside = omega arith;
          frame = frame_set s u l.first n (l.base + c) total (omega (arith, w.base)) (omega (arith, w.base))
              (frame_set s t l.first n (l.first + c) first (omega arith) (omega arith) x.frame);
          firsts_are = λ d k. get_or-set_other u (l.base + c) (l.first + d) total 0 (λ q. omega (arith, q, w.base)) ∙ firsts_go d k (ℕ_discrete d c);
          bases = λ d k. bases_go d k (ℕ_discrete d c);
          total_is = omega (arith, base_next (slots_from firsts nodes) c, x.total_is, qf, qm);
        }
      where
        n : ℕ
        n = l.copies + suc l.copies

        u : List ℕ
        u = set t (l.first + c) first

        firsts_go : (d : ℕ) → d < suc c → Dec (d ≡ c) → get_or u (l.first + d) 0 ≡ get_or firsts (get_or nodes d 0) 0
        firsts_go d k (yes q) = rw q (get_or-set_same t (l.first + c) first 0 (basing_room h).0 ∙ qf)
        firsts_go d k (no f) = get_or-set_other t (l.first + c) (l.first + d) first 0 (λ q. f (omega arith)) ∙ x.firsts_are d (omega arith)

        bases_go : (d : ℕ) → d < suc c → Dec (d ≡ c) → get_or (set u (l.base + c) total) (l.base + d) 0 ≡ l.slots + slot_base (slots_from firsts nodes) d
        bases_go d k (yes q) = rw q (get_or-set_same u (l.base + c) total 0 (omega (arith, (basing_room h).1, size)) ∙ x.total_is)
          where
            size : length u ≡ length t
            size = (frame_set t t l.first n (l.first + c) first (omega arith) (omega arith) (frame_refl t l.first n)).size
        bases_go d k (no f) =
            get_or-set_other u (l.base + c) (l.base + d) total 0 (λ q. f (omega arith))
            ∙ get_or-set_other t (l.first + c) (l.base + d) first 0 (λ q. omega (arith, q, w.base))
            ∙ x.bases d (omega arith)

    pub basing_done : l.copies ≤ c → Based l nodes firsts s (set t (l.base + c) total)
    basing_done h =
        record {
          frame = frame_set s t l.first (l.copies + suc l.copies) (l.base + c) total (omega (arith, w.base)) (omega (arith, w.base, x.inside)) x.frame;
          firsts_are = λ d k. get_or-set_other t (l.base + c) (l.first + d) total 0 (λ q. omega (arith, q, w.base)) ∙ x.firsts_are d (omega arith);
          bases = λ d k. go d k (ℕ_discrete d c);
        }
      where
        go : (d : ℕ) → d ≤ l.copies → Dec (d ≡ c) → get_or (set t (l.base + c) total) (l.base + d) 0 ≡ l.slots + slot_base (slots_from firsts nodes) d
        go d k (yes q) = rw q (get_or-set_same t (l.base + c) total 0 (omega (arith, w.room, x.frame.size, x.inside)) ∙ x.total_is)
        go d k (no f) = get_or-set_other t (l.base + c) (l.base + d) total 0 (λ q. f (omega arith)) ∙ x.bases d (omega arith)
