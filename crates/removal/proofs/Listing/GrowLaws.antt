-- One level: the new classes come after the others, and rise with their keys.
use Prim.Native.Nat.{ℕ, suc, ◌+◌, ◌-◌, ◌/◌, ◌%◌, ◌≤◌, ◌<◌}
use native.Mathlib.Omega.{arith}
use native.Mathlib.Decide.{dec_le}
use mathlib.Core.Path.{◌≡◌, sym, ◌∙◌, ap, ap₂}
use mathlib.Core.List.{List, [], ◌∷◌, ◌++◌, map}
use lib.Dec.{T}
use lib.ListN.{length, get_or, length-append, length-map}
use Rattle.timing.specs.Lists.{sum, upto}
use Rattle.theorems.proofs.Lists.{get_d_map, get_d_upto, length_upto}
use Rattle.removal.specs.declared.classes.Lists.{Lists}
use Rattle.removal.specs.Classes.{class_before}
use Rattle.removal.specs.Tables.{dead_word}
use Rattle.removal.specs.Levels.{path_of, key_of, id_after, word_of, Passed}
use Rattle.removal.proofs.Listing.ClassLaws.{shorter_before}
use Rattle.removal.proofs.Listing.PathLaws.{last_of, last_length}
use Rattle.removal.proofs.Listing.NumberLaws.{id_up, id_least, id_past, id_onto, id_key}
use Rattle.removal.proofs.Listing.LevelLaws.{nth, nth_left, nth_right, key_word, Classed, Waiting, Tells, WholePath, Tabled, Level, class_same, class_short, item_long, key_before}

-- one level: the new classes are the words that the keys in `one` tell
module _ (es lengths : List ℕ) (total : sum lengths ≡ length es) (l : Lists) (m : ℕ) (cs : List (List ℕ)) (C : Classed es lengths m cs)
    (us : List ℕ) (v : Level es lengths m cs us) (s t who : List ℕ) (left id : ℕ) (P : Passed lengths us s t who l (suc m) (length cs) (length us) left id) where
  abbrev number : ℕ → ℕ
  number i = id_after (length cs) us (suc i)

  fresh : List (List ℕ)
  fresh = map (λ (u : ℕ). key_word cs (get_or t (l.one + u) 0)) (upto (id - length cs) (suc (length cs)))

  pub grown : List (List ℕ)
  unfolding fresh
  grown = cs ++ fresh

  pub grown_size : length grown ≡ id
  unfolding fresh grown
  grown_size =
      length-append cs fresh
      ∙ ap (λ (n : ℕ). length cs + n) (length-map (upto (id - length cs) (suc (length cs))) (λ (u : ℕ). key_word cs (get_or t (l.one + u) 0)) ∙ length_upto (id - length cs) (suc (length cs)))
      ∙ back
    where
      back : length cs + (id - length cs) ≡ id
      back = omega (arith, P.count, id_least (length cs) us (length us))

  grown_old : (u : ℕ) → u ≤ length cs → nth grown u ≡ nth cs u
  unfolding grown
  grown_old u h = nth_left cs fresh u h

  grown_told : (u : ℕ) → length cs < u → u ≤ id → nth grown u ≡ key_word cs (get_or t (l.one + u) 0)
  unfolding fresh grown
  grown_told u h b =
      let j : ℕ = u - suc (length cs) in
      let e : u ≡ suc (length cs + j) = omega arith in
      let f : suc (length cs) + j ≡ u = omega arith in
      ap (nth grown) e ∙ nth_right cs fresh j
      ∙ get_d_map (λ (u : ℕ). key_word cs (get_or t (l.one + u) 0)) (upto (id - length cs) (suc (length cs))) 0 [] j (rw (length_upto (id - length cs) (suc (length cs))) (omega arith))
      ∙ ap (λ (u : ℕ). key_word cs (get_or t (l.one + u) 0)) (get_d_upto (id - length cs) (suc (length cs)) j 0 (omega arith) ∙ f)

  -- each new class has an item, and each item a new class
  number_past : (i : ℕ) → i < length us → length cs < number i
  number_past i h = id_past (length cs) us lengths v.keyed i h

  number_inside : (i : ℕ) → i < length us → number i ≤ id
  number_inside i h = omega (arith, P.count, id_up (length cs) us (suc i) (length us) h)

  number_of : (u : ℕ) → length cs < u → u ≤ id → (i : ℕ) × (i < length us) × (number i ≡ u)
  number_of u h b = id_onto (length cs) us (length us) u h (omega (arith, P.count))

  number_word : (i : ℕ) → i < length us → nth grown (number i) ≡ key_word cs (key_of (get_or us i 0))
  number_word i h = grown_told (number i) (number_past i h) (number_inside i h) ∙ ap (key_word cs) (P.told.keys i h)

  number_last : (i : ℕ) → i < length us → nth grown (number i) ≡ last_of es lengths (path_of (get_or us i 0)) (suc m)
  number_last i h = number_word i h ∙ (v.each i h).word

  grown_long : (u : ℕ) → length cs < u → u ≤ id → length (nth grown u) ≡ suc m
  grown_long u h b =
      let r = number_of u h b in
      ap (λ (n : ℕ). length (nth grown n)) (sym r.2) ∙ ap length (number_word r.0 r.1) ∙ item_long es lengths m cs total C (get_or us r.0 0) (v.each r.0 r.1)

  -- the classes of one edge more come after the others, and rise with their keys
  grown_rises : (a b : ℕ) → a < b → b ≤ id → T (class_before (nth grown a) (nth grown b))
  grown_rises a b h k = go (dec_le b (length cs)) (dec_le a (length cs))
    where
      go : Dec (b ≤ length cs) → Dec (a ≤ length cs) → T (class_before (nth grown a) (nth grown b))
      go (yes p) d = rw (grown_old a (omega arith), grown_old b p) (C.rises a b h p)
      go (no p) (yes q) =
          shorter_before (nth grown a) (nth grown b)
          (omega (arith, ap length (grown_old a q), class_short es lengths m cs total C a q, grown_long b (omega arith) k))
      go (no p) (no q) =
          let i = number_of a (omega arith) (omega arith) in
          let j = number_of b (omega arith) k in
          let up : key_of (get_or us i.0 0) < key_of (get_or us j.0 0) = less i.0 j.0 i.1 j.1 (omega (arith, i.2, j.2)) in
          let r = key_before es lengths m cs total C (get_or us i.0 0) (get_or us j.0 0) (v.each i.0 i.1) (v.each j.0 j.1) up in
          let x : nth grown a ≡ key_word cs (key_of (get_or us i.0 0)) = ap (nth grown) (sym i.2) ∙ number_word i.0 i.1 in
          let y : nth grown b ≡ key_word cs (key_of (get_or us j.0 0)) = ap (nth grown) (sym j.2) ∙ number_word j.0 j.1 in
          rw (x, y) r
        where
          less : (i j : ℕ) → i < length us → j < length us → number i < number j → key_of (get_or us i 0) < key_of (get_or us j 0)
          less i j = id_key (length cs) us lengths v.keyed i j

  pub grown_classed : Classed es lengths (suc m) grown
  grown_classed = record {
    rises = λ a b h k. grown_rises a b h (omega (arith, grown_size));
    each = λ u p h. each u p (omega (arith, grown_size)) (dec_le u (length cs));
    every = λ k j h p b c. every k j h p b c (dec_le j m);
  }
    where
      each : (u : ℕ) → 0 < u → u ≤ id → Dec (u ≤ length cs)
          → (k : ℕ) × (j : ℕ) × (k < length lengths) × (0 < j) × (j ≤ suc m) × (j ≤ get_or lengths k 0) × (nth grown u ≡ last_of es lengths k j)
      each u p h (yes d) =
          let r = C.each u p d in
          (r.0, r.1, r.2, r.3, omega (arith, r.4), r.5, grown_old u d ∙ r.6)
      each u p h (no d) =
          let r = number_of u (omega arith) h in
          let x = v.each r.0 r.1 in
          (path_of (get_or us r.0 0), suc m, x.path, omega arith, omega arith, x.long, ap (nth grown) (sym r.2) ∙ number_last r.0 r.1)

      every : (k j : ℕ) → k < length lengths → 0 < j → j ≤ suc m → j ≤ get_or lengths k 0 → Dec (j ≤ m)
          → (u : ℕ) × (0 < u) × (u ≤ length grown) × (nth grown u ≡ last_of es lengths k j)
      every k j h p b c (yes d) =
          let r = C.every k j h p d c in
          (r.0, r.1, omega (arith, r.2, grown_size, id_least (length cs) us (length us), P.count), grown_old r.0 r.2 ∙ r.3)
      every k j h p b c (no d) =
          let z : j ≡ suc m = omega arith in
          let r = v.every k h (omega arith) in
          (number r.0, omega (arith, number_past r.0 r.1), omega (arith, number_inside r.0 r.1, grown_size), number_last r.0 r.1 ∙ ap₂ (last_of es lengths) r.2 (sym z))

  -- the paths that do not end wait
  pub grown_waiting : Waiting es lengths who left (suc m) grown
  grown_waiting = record {
    each = λ j h.
        let r = P.waiting.each j h in
        let x = v.each r.0 r.1 in
        let p : path_of (get_or who j 0) ≡ path_of (get_or us r.0 0) = ap path_of r.3 ∙ word_path r.0 in
        let q : key_of (get_or who j 0) ≡ number r.0 = ap key_of r.3 ∙ word_key r.0 in
        record {
          path = rw p x.path;
          long = rw p (omega (arith, x.long, r.2));
          inside = rw q (omega (arith, number_inside r.0 r.1, grown_size));
          class = rw (q, p) (number_last r.0 r.1);
        };
    every = λ k h b.
        let r = v.every k h (omega arith) in
        let w = P.waiting.every r.0 r.1 (λ e. omega (arith, e, ap (λ (n : ℕ). get_or lengths n 0) r.2)) in
        (w.0, w.1, ap path_of w.2 ∙ word_path r.0 ∙ r.2);
    apart = P.waiting.apart;
  }
    where
      word_path : (i : ℕ) → path_of (word_of (length cs) us i) ≡ path_of (get_or us i 0)
      word_path i = omega arith

      word_key : (i : ℕ) → key_of (word_of (length cs) us i) ≡ number i
      word_key i = omega arith

  -- the tables
  pub grown_tabled : id ≤ l.edges → Tabled es lengths s l m cs → Tabled es lengths t l (suc m) grown
  grown_tabled room A = record {
    tells = λ u p h. tells u p (omega (arith, grown_size)) (dec_le u (length cs));
    dead = λ u k h w. dead u k (omega (arith, grown_size)) w (dec_le (get_or lengths k 0) m) (dec_le u (length cs));
    other = λ u h f.
        P.ended.other u h (λ i b e q. f (path_of (get_or us i 0)) (omega (arith, number_inside i b, q, grown_size)) (ended i b e u q))
        ∙ A.other u h (λ k b w. f k (omega (arith, grown_size, id_least (length cs) us (length us), P.count)) (w.0, omega (arith, w.1), grown_old u b ∙ w.2));
  }
    where
      -- a path that ends at this level is a whole class
      ended : (i : ℕ) → i < length us → get_or lengths (path_of (get_or us i 0)) 0 ≡ suc m → (u : ℕ) → id_after (length cs) us (suc i) ≡ u → WholePath es lengths (suc m) (nth grown u) (path_of (get_or us i 0))
      ended i b e u q = ((v.each i b).path, omega (arith, e), ap (nth grown) (sym q) ∙ number_last i b ∙ ap (last_of es lengths (path_of (get_or us i 0))) (sym e))

      tells : (u : ℕ) → 0 < u → u ≤ id → Dec (u ≤ length cs) → Tells grown (get_or t (l.one + u) 0) u
      tells u p h (yes d) =
          let e = P.told.kept u p d in
          let a = A.tells u p d in
          rw e record {
            small = a.small;
            earlier = a.earlier;
            class = grown_old u d ∙ a.class ∙ ap (λ (w : List ℕ). (get_or s (l.one + u) 0 / 32768) ∷ w) (sym (grown_old (get_or s (l.one + u) 0 % 32768) (omega (arith, a.earlier))));
          }
      tells u p h (no d) =
          let r = number_of u (omega arith) h in
          let x = v.each r.0 r.1 in
          let e = told r.0 r.1 u r.2 in
          rw e record {
            small = omega (arith, x.small);
            earlier = omega (arith, x.inside);
            class = ap (nth grown) (sym r.2) ∙ number_word r.0 r.1 ∙ ap (λ (w : List ℕ). (key_of (get_or us r.0 0) / 32768) ∷ w) (sym (grown_old (key_of (get_or us r.0 0) % 32768) x.inside));
          }
        where
          told : (i : ℕ) → i < length us → (u : ℕ) → number i ≡ u → get_or t (l.one + u) 0 ≡ key_of (get_or us i 0)
          told i b u q = ap (λ (n : ℕ). get_or t (l.one + n) 0) (sym q) ∙ P.told.keys i b

      dead : (u k : ℕ) → u ≤ id → WholePath es lengths (suc m) (nth grown u) k → Dec (get_or lengths k 0 ≤ m) → Dec (u ≤ length cs) → get_or t (l.loc + u) 0 ≡ dead_word
      dead u k h w (yes d) (yes e) =
          P.ended.other u (omega arith) (λ i b z q. omega (arith, number_past i b)) ∙ A.dead u k e (w.0, d, sym (grown_old u e) ∙ w.2)
      dead u k h w (yes d) (no e) = absurd (omega (arith, grown_long u (omega arith) h, ap length w.2, last_length es lengths k w.0 total (get_or lengths k 0) (omega arith)))
      dead u k h w (no d) (yes e) =
          absurd (omega (arith, class_short es lengths m cs total C u e, ap length (sym (grown_old u e) ∙ w.2), last_length es lengths k w.0 total (get_or lengths k 0) (omega arith)))
      dead u k h w (no d) (no e) =
          let z : get_or lengths k 0 ≡ suc m = omega (arith, w.1) in
          let r = v.every k w.0 (omega arith) in
          let same : nth grown (number r.0) ≡ nth grown u = number_last r.0 r.1 ∙ ap₂ (last_of es lengths) r.2 (sym z) ∙ sym w.2 in
          let q : number r.0 ≡ u =
          class_same es lengths (suc m) grown total grown_classed (number r.0) u (omega (arith, grown_size, number_inside r.0 r.1)) (omega (arith, grown_size)) same in
          ap (λ (n : ℕ). get_or t (l.loc + n) 0) (sym q) ∙ P.ended.dead r.0 r.1 (ap (λ (n : ℕ). get_or lengths n 0) r.2 ∙ z)
