-- The laws of numbering a level: how the number of classes rises along the items, and what a turn does to the tables.
use Prim.Native.Nat.{ℕ, zero, suc, ◌+◌, ◌*◌, ◌≤◌, ◌<◌}
use native.Mathlib.Omega.{arith}
use native.Mathlib.Decide.{dec_lt, ℕ_discrete}
use mathlib.Core.Path.{◌≡◌, refl, sym, ◌∙◌, ap, subst}
use mathlib.Core.Logic.{◌⊎◌, inl, inr, ⊎_elim}
use mathlib.Core.List.{List}
use lib.ListN.{length, get_or, set}
use lib.Seq.{get_or-set_same, get_or-set_other}
use borrow.Author.Tests.{eq-eqb, ne_eqb}
use Rattle.removal.specs.declared.classes.Lists.{Lists}
use Rattle.removal.specs.Table.{Frame}
use Rattle.removal.specs.Tables.{dead_word}
use Rattle.removal.specs.Levels.{path_of, key_of, Keyed, key_before, id_after, Numberable, KeysTold, EndsDead, word_of, OthersWait, Passed}
use Rattle.removal.proofs.Listing.Region.{frame_refl, frame_set}

-- an index below the next one is below this one, or is it
pub less_or_same : (j n : ℕ) → j < suc n → (j < n) ⊎ (j ≡ n)
less_or_same j n h =
    elim (dec_lt j n) [
      | yes l ↦ inl l
      | no f ↦ inr (omega arith)
    ]

-- how the number of classes rises
module _ (start : ℕ) (items : List ℕ) where
  pub key_next : (i : ℕ) → key_before items (suc i) ≡ key_of (get_or items i 0)
  unfolding key_before
  key_next i = refl

  pub key_first : key_before items 0 ≡ 18446744073709551615
  unfolding key_before
  key_first = refl

  -- one more where the key is new
  pub id_new : (i : ℕ) → (key_of (get_or items i 0) ≡ key_before items i → ⊥) → id_after start items (suc i) ≡ id_after start items i + 1
  unfolding id_after
  id_new i f = rw (ne_eqb (key_of (get_or items i 0)) (key_before items i) f)

  pub id_old : (i : ℕ) → key_of (get_or items i 0) ≡ key_before items i → id_after start items (suc i) ≡ id_after start items i
  unfolding id_after
  id_old i e = rw (eq-eqb (key_of (get_or items i 0)) (key_before items i) e) (omega arith)

  id_zero : id_after start items 0 ≡ start
  unfolding id_after
  id_zero = refl

  id_step : (i : ℕ) → (id_after start items (suc i) ≡ id_after start items i) ⊎ (id_after start items (suc i) ≡ id_after start items i + 1)
  id_step i =
      elim (ℕ_discrete (key_of (get_or items i 0)) (key_before items i)) [
        | yes e ↦ inl (id_old i e)
        | no f ↦ inr (id_new i f)
      ]

  pub id_up : (i j : ℕ) → i ≤ j → id_after start items i ≤ id_after start items j
  id_up i zero h = let e : i ≡ 0 = omega arith in rw e (omega arith)
  id_up i (suc j) h =
      ⊎_elim
      (λ (b : i < suc j). ⊎_elim (λ e. omega (arith, e, id_up i j (omega arith))) (λ e. omega (arith, e, id_up i j (omega arith))) (id_step j))
      (λ (e : i ≡ suc j). rw e (omega arith))
      (less_or_same i (suc j) (omega arith))

  pub id_most : (i : ℕ) → id_after start items i ≤ start + i
  id_most zero = omega (arith, id_zero)
  id_most (suc i) = ⊎_elim (λ e. omega (arith, e, id_most i)) (λ e. omega (arith, e, id_most i)) (id_step i)

  pub id_least : (i : ℕ) → start ≤ id_after start items i
  id_least i = omega (arith, id_zero, id_up 0 i (omega arith))

  -- each number that was given is that of an item
  pub id_onto : (n t : ℕ) → start < t → t ≤ id_after start items n → (i : ℕ) × (i < n) × (id_after start items (suc i) ≡ t)
  id_onto zero t p h = absurd (omega (arith, id_zero))
  id_onto (suc n) t p h =
      elim (dec_lt (id_after start items n) t) [
        | yes b ↦ (n, omega arith, ⊎_elim (λ e. omega (arith, e)) (λ e. omega (arith, e)) (id_step n))
        | no f ↦ (let r = id_onto n t p (omega arith) in (r.0, omega (arith, r.1), r.2))
      ]

  module _ (lengths : List ℕ) (K : Keyed lengths items) where
    key_up : (i j : ℕ) → i ≤ j → j < length items → key_of (get_or items i 0) ≤ key_of (get_or items j 0)
    key_up i j h m =
        ⊎_elim
        (λ b. omega (arith, K.rises i j b m))
        (λ (e : i ≡ j). rw e (omega arith))
        (less_or_same i j (omega arith))

    -- the first key is new
    first_new : (i : ℕ) → i < length items → key_of (get_or items i 0) ≡ key_before items 0 → ⊥
    first_new i h e = omega (arith, e, key_first, K.small i h)

    pub id_past : (i : ℕ) → i < length items → start < id_after start items (suc i)
    id_past i h = omega (arith, id_zero, id_new 0 (first_new 0 (omega arith)), id_up 1 (suc i) (omega arith))

    -- items have the same number where they have the same key
    pub same_id : (i j : ℕ) → i ≤ j → j < length items → key_of (get_or items i 0) ≡ key_of (get_or items j 0) → id_after start items (suc i) ≡ id_after start items (suc j)
    same_id i zero h m e = let q : i ≡ 0 = omega arith in ap (λ (n : ℕ). id_after start items (suc n)) q
    same_id i (suc j) h m e =
        ⊎_elim
        (λ (b : i < suc j).
        let k : key_of (get_or items (suc j) 0) ≡ key_of (get_or items j 0) =
        omega (arith, e, key_up i j (omega arith) (omega arith), key_up j (suc j) (omega arith) m) in
        same_id i j (omega arith) (omega arith) (e ∙ k) ∙ sym (id_old (suc j) (k ∙ sym (key_next j))))
        (λ (q : i ≡ suc j). ap (λ (n : ℕ). id_after start items (suc n)) q)
        (less_or_same i (suc j) (omega arith))

    -- so that a lower number has a lower key
    pub id_key : (i j : ℕ) → i < length items → j < length items → id_after start items (suc i) < id_after start items (suc j) → key_of (get_or items i 0) < key_of (get_or items j 0)
    id_key i j h m b =
        elim (dec_lt i j) [
          | yes c ↦ (let u = key_up i j (omega arith) m in
              elim (ℕ_discrete (key_of (get_or items i 0)) (key_of (get_or items j 0))) [
                | yes e ↦ absurd (omega (arith, same_id i j (omega arith) m e))
                | no f ↦ omega (arith, u, f)
              ])
          | no f ↦ absurd (omega (arith, id_up (suc j) (suc i) (omega arith)))
        ]

-- what a turn does
module _ (lengths items who s : List ℕ) (l : Lists) (d start : ℕ) (N : Numberable lengths items who s l start) where
  told_start : KeysTold items s s l start 0
  told_start = record { keys = λ i h. absurd (omega arith); kept = λ u p h. refl }

  dead_start : EndsDead lengths items s s l d start 0
  dead_start = record { dead = λ i h e. absurd (omega arith); other = λ u h f. refl }

  wait_start : (v : List ℕ) → OthersWait lengths items v d start 0 0
  wait_start v = record { each = λ j h. absurd (omega arith); every = λ i h f. absurd (omega arith); apart = λ a b h m e. omega arith }

  module _ (t : List ℕ) (i : ℕ) (more : i < length items) (size : length t ≡ length s) where
    -- an old key is told
    told_old : key_of (get_or items i 0) ≡ key_before items i → KeysTold items s t l start i → KeysTold items s t l start (suc i)
    told_old e k = record {
      keys = λ j h.
          ⊎_elim
          (k.keys j)
          (λ (q : j ≡ i). rw q (here i more e k.keys))
          (less_or_same j i h);
      kept = k.kept;
    }
      where
        here : (n : ℕ) → n < length items → key_of (get_or items n 0) ≡ key_before items n
            → ((j : ℕ) → j < n → get_or t (l.one + id_after start items (suc j)) 0 ≡ key_of (get_or items j 0))
            → get_or t (l.one + id_after start items (suc n)) 0 ≡ key_of (get_or items n 0)
        here zero m e f = absurd (first_new start items lengths N.keyed 0 m e)
        here (suc n) m e f = rw (id_old start items (suc n) e) (f n (omega arith) ∙ sym (key_next start items n) ∙ sym e)

    -- a new one is written
    told_new : (key_of (get_or items i 0) ≡ key_before items i → ⊥) → KeysTold items s t l start i
        → KeysTold items s (set t (l.one + id_after start items (suc i)) (key_of (get_or items i 0))) l start (suc i)
    told_new f k = record {
      keys = λ j h.
          ⊎_elim
          (λ (b : j < i).
          get_or-set_other t (l.one + id_after start items (suc i)) (l.one + id_after start items (suc j)) (key_of (get_or items i 0)) 0
          (λ q. omega (arith, q, id_new start items i f, id_up start items (suc j) i b)) ∙ k.keys j b)
          (λ (q : j ≡ i). rw q (get_or-set_same t (l.one + id_after start items (suc i)) (key_of (get_or items i 0)) 0 inside))
          (less_or_same j i h);
      kept = λ u p h.
          get_or-set_other t (l.one + id_after start items (suc i)) (l.one + u) (key_of (get_or items i 0)) 0
          (λ q. omega (arith, q, id_past start items lengths N.keyed i more)) ∙ k.kept u p h;
    }
      where
        inside : l.one + id_after start items (suc i) < length t
        inside = omega (arith, size, N.laid.one, N.room, N.few, id_most start items (suc i))

    -- what is told is not what is marked dead: `one` stands past `loc`
    told_loc : (u a : ℕ) → u ≤ l.edges → (n : ℕ) → n ≤ length items → KeysTold items s t l start n → KeysTold items s (set t (l.loc + u) a) l start n
    told_loc u a b n m k = record {
      keys = λ j h.
          get_or-set_other t (l.loc + u) (l.one + id_after start items (suc j)) a 0
          (λ q. omega (arith, q, N.laid.one, N.laid.loc, id_past start items lengths N.keyed j (omega arith))) ∙ k.keys j h;
      kept = λ v p h. get_or-set_other t (l.loc + u) (l.one + v) a 0 (λ q. omega (arith, q, N.laid.one, N.laid.loc)) ∙ k.kept v p h;
    }

    dead_one : (v a n : ℕ) → 0 < v → n ≤ length items → EndsDead lengths items s t l d start n → EndsDead lengths items s (set t (l.one + v) a) l d start n
    dead_one v a n p m k = record {
      dead = λ j h e. away (id_after start items (suc j)) (omega (arith, id_most start items (suc j), N.few)) ∙ k.dead j h e;
      other = λ u h f. away u h ∙ k.other u h f;
    }
      where
        away : (u : ℕ) → u ≤ l.edges → get_or (set t (l.one + v) a) (l.loc + u) 0 ≡ get_or t (l.loc + u) 0
        away u h = get_or-set_other t (l.one + v) (l.loc + u) a 0 (λ q. omega (arith, q, N.laid.one, N.laid.loc))

    -- a path that ends
    dead_end : get_or lengths (path_of (get_or items i 0)) 0 ≡ d → EndsDead lengths items s t l d start i
        → EndsDead lengths items s (set t (l.loc + id_after start items (suc i)) dead_word) l d start (suc i)
    dead_end e k = record {
      dead = λ j h q.
          ⊎_elim
          (λ b. ends (id_after start items (suc j)) (k.dead j b q))
          (λ (z : j ≡ i). rw z (get_or-set_same t (l.loc + id_after start items (suc i)) dead_word 0 inside))
          (less_or_same j i h);
      other = λ u h f.
          get_or-set_other t (l.loc + id_after start items (suc i)) (l.loc + u) dead_word 0
          (λ q. f i (omega arith) e (omega (arith, q))) ∙ k.other u h (λ j b. f j (omega arith));
    }
      where
        inside : l.loc + id_after start items (suc i) < length t
        inside = omega (arith, size, N.laid.loc, N.room, N.few, id_most start items (suc i))

        ends : (u : ℕ) → get_or t (l.loc + u) 0 ≡ dead_word → get_or (set t (l.loc + id_after start items (suc i)) dead_word) (l.loc + u) 0 ≡ dead_word
        ends u q =
            elim (ℕ_discrete (l.loc + u) (l.loc + id_after start items (suc i))) [
              | yes z ↦ rw z (get_or-set_same t (l.loc + id_after start items (suc i)) dead_word 0 inside)
              | no f ↦ get_or-set_other t (l.loc + id_after start items (suc i)) (l.loc + u) dead_word 0 f ∙ q
            ]

    -- and one that goes on
    dead_on : (get_or lengths (path_of (get_or items i 0)) 0 ≡ d → ⊥) → EndsDead lengths items s t l d start i → EndsDead lengths items s t l d start (suc i)
    dead_on f k = record {
      dead = λ j h q.
          ⊎_elim
          (λ b. k.dead j b q)
          (λ (z : j ≡ i). absurd (f (ap (λ (n : ℕ). get_or lengths (path_of (get_or items n 0)) 0) (sym z) ∙ q)))
          (less_or_same j i h);
      other = λ u h g. k.other u h (λ j b. g j (omega arith));
    }

  module _ (v : List ℕ) (i left : ℕ) (more : i < length items) where
    wait_end : get_or lengths (path_of (get_or items i 0)) 0 ≡ d → OthersWait lengths items v d start i left → OthersWait lengths items v d start (suc i) left
    wait_end e w = record {
      each = λ j h. let r = w.each j h in (r.0, omega (arith, r.1), r.2, r.3);
      every = λ j h f.
          ⊎_elim
          (λ b. w.every j b f)
          (λ (z : j ≡ i). absurd (f (ap (λ (n : ℕ). get_or lengths (path_of (get_or items n 0)) 0) z ∙ e)))
          (less_or_same j i h);
      apart = w.apart;
    }

    word_path : (j : ℕ) → path_of (word_of start items j) ≡ path_of (get_or items j 0)
    word_path j = omega arith

    wait_on : (get_or lengths (path_of (get_or items i 0)) 0 ≡ d → ⊥) → left < length v → OthersWait lengths items v d start i left
        → OthersWait lengths items (set v left (word_of start items i)) d start (suc i) (left + 1)
    wait_on f room w = record {
      each = λ j h.
          ⊎_elim
          (λ (b : j < left). let r = w.each j b in (r.0, omega (arith, r.1), r.2, before j b ∙ r.3))
          (λ (z : j ≡ left). (i, omega arith, f, rw z here))
          (less_or_same j left (omega arith));
      every = λ j h g.
          ⊎_elim
          (λ b. let r = w.every j b g in (r.0, omega (arith, r.1), before r.0 r.1 ∙ r.2))
          (λ (z : j ≡ i). (left, omega arith, rw z here))
          (less_or_same j i h);
      apart = λ a b h m e.
          ⊎_elim
          (λ (n : b < left). w.apart a b h n (ap path_of (sym (before a (omega arith))) ∙ e ∙ ap path_of (before b n)))
          (λ (z : b ≡ left).
          let o : a < left = omega arith in
          let r = w.each a o in
          N.keyed.apart r.0 i r.1 more
          (sym (word_path r.0) ∙ ap path_of (sym (before a o ∙ r.3)) ∙ e ∙ ap (λ (n : ℕ). path_of (get_or (set v left (word_of start items i)) n 0)) z ∙ ap path_of here ∙ word_path i))
          (less_or_same b left (omega arith));
    }
      where
        before : (j : ℕ) → j < left → get_or (set v left (word_of start items i)) j 0 ≡ get_or v j 0
        before j b = get_or-set_other v left j (word_of start items i) 0 (λ q. omega arith)

        here : get_or (set v left (word_of start items i)) left 0 ≡ word_of start items i
        here = get_or-set_same v left (word_of start items i) 0 room

  -- the invariant of the turns, and of the middle of one, where the key of the item is told
  pub record Opened (t v : List ℕ) (i left id : ℕ) : Type 0 where
    pub count : id ≡ id_after start items (suc i)
    pub fewer : left ≤ i
    pub told : KeysTold items s t l start (suc i)
    pub ended : EndsDead lengths items s t l d start i
    pub waiting : OthersWait lengths items v d start i left
    pub frame : Frame s t l.loc (2 * l.edges + 1)

  pub pass_start : Passed lengths items s s who l d start 0 0 start
  pass_start = record {
    count = sym (id_zero start items);
    fewer = omega arith;
    told = told_start;
    ended = dead_start;
    waiting = wait_start who;
    frame = frame_refl s l.loc (2 * l.edges + 1);
  }

  module _ (t v : List ℕ) (i left id : ℕ) (more : i < length items) where
    pub open_old : key_of (get_or items i 0) ≡ key_before items i → Passed lengths items s t v l d start i left id → Opened t v i left id
    open_old e p = record {
      count = p.count ∙ sym (id_old start items i e);
      fewer = p.fewer;
      told = told_old t i more p.frame.size e p.told;
      ended = p.ended;
      waiting = p.waiting;
      frame = p.frame;
    }

    pub open_new : (key_of (get_or items i 0) ≡ key_before items i → ⊥) → Passed lengths items s t v l d start i left id
        → Opened (set t (l.one + (id + 1)) (key_of (get_or items i 0))) v i left (id + 1)
    open_new f p =
        let e : id_after start items (suc i) ≡ id + 1 = omega (arith, id_new start items i f, p.count) in
        record {
          count = sym e;
          fewer = p.fewer;
          told = subst (λ (n : ℕ). KeysTold items s (set t (l.one + n) (key_of (get_or items i 0))) l start (suc i)) e (told_new t i more p.frame.size f p.told);
          ended = dead_one t i more p.frame.size (id + 1) (key_of (get_or items i 0)) i (omega arith) (omega arith) p.ended;
          waiting = p.waiting;
          frame = frame_set s t l.loc (2 * l.edges + 1) (l.one + (id + 1)) (key_of (get_or items i 0)) (omega (arith, N.laid.loc, N.laid.one))
              (omega (arith, N.laid.loc, N.laid.one, N.few, id_most start items (suc i))) p.frame;
        }

    pub close_end : get_or lengths (path_of (get_or items i 0)) 0 ≡ d → Opened t v i left id
        → Passed lengths items s (set t (l.loc + id) dead_word) v l d start (suc i) left id
    close_end e p =
        let b : id ≤ l.edges = omega (arith, p.count, N.few, id_most start items (suc i)) in
        record {
          count = p.count;
          fewer = omega (arith, p.fewer);
          told = told_loc t i more p.frame.size id dead_word b (suc i) more p.told;
          ended = subst (λ (n : ℕ). EndsDead lengths items s (set t (l.loc + n) dead_word) l d start (suc i)) (sym p.count) (dead_end t i more p.frame.size e p.ended);
          waiting = wait_end v i left more e p.waiting;
          frame = frame_set s t l.loc (2 * l.edges + 1) (l.loc + id) dead_word (omega arith) (omega arith) p.frame;
        }

    pub close_on : (get_or lengths (path_of (get_or items i 0)) 0 ≡ d → ⊥) → length v ≡ length who → Opened t v i left id
        → Passed lengths items s t (set v left (id * 2048 + path_of (get_or items i 0))) l d start (suc i) (left + 1) id
    close_on f z p = record {
      count = p.count;
      fewer = omega (arith, p.fewer);
      told = p.told;
      ended = dead_on t i more p.frame.size f p.ended;
      waiting = subst (λ (n : ℕ). OthersWait lengths items (set v left (n * 2048 + path_of (get_or items i 0))) d start (suc i) (left + 1)) (sym p.count)
          (wait_on v i left more f (omega (arith, z, N.fits, p.fewer)) p.waiting);
      frame = p.frame;
    }
