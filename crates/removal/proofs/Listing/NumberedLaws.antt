-- All levels: what holds at first, from one level to the next, and at the end.
use Prim.Native.Nat.{ℕ, zero, suc, ◌+◌, ◌-◌, ◌*◌, ◌/◌, ◌%◌, ◌≤◌, ◌<◌}
use native.Mathlib.Omega.{arith}
use native.Mathlib.Decide.{dec_le}
use mathlib.Core.Path.{◌≡◌, refl, sym, ◌∙◌, ap, subst}
use mathlib.Core.Bool.{Bool}
use mathlib.Core.List.{List, [], ◌∷◌, Memᴰ}
use lib.Dec.{T}
use lib.ListN.{length, get_or, take}
use lib.Seq.{get_or-take, length-take-le}
use Rattle.timing.specs.Lists.{sum}
use Rattle.timing.specs.Marks.{path_list, paths_of}
use Rattle.theorems.proofs.Lists.{get_d_mem}
use Rattle.theorems.proofs.Sorting.{Sorted}
use Rattle.removal.specs.declared.classes.Lists.{Lists}
use Rattle.removal.specs.Table.{Frame}
use Rattle.removal.specs.Classes.{class_before, classes_of, class_count, class_at, all_suffixes}
use Rattle.removal.specs.Tables.{Startable, packed, one_in, loc_in, Ones, Whole}
use Rattle.removal.specs.Items.{InOrder}
use Rattle.removal.specs.Levels.{end_of, path_of, key_of, Begun, Edged, item_of, Numberable, Passed}
use Rattle.removal.proofs.Listing.Region.{frame_refl, frame_trans, table_at}
use Rattle.removal.proofs.Listing.ClassLaws.{classes_unique}
use Rattle.removal.proofs.Listing.PathLaws.{last_none, end_least, end_most, mem_path, of_path, mem_last, of_last, path_some}
use Rattle.removal.proofs.Listing.NumberLaws.{id_most}
use Rattle.removal.proofs.Listing.FewLaws.{rest_of, mem_at, rest_none}
use Rattle.removal.proofs.Listing.LevelLaws.{nth, nth_zero, Leveled, Level, ItemsMade, edged, items_made, level_few}
use Rattle.removal.proofs.Listing.GrowLaws.{grown, grown_size, grown_classed, grown_waiting, grown_tabled}

module _ (es lengths : List ℕ) (l : Lists) (s : List ℕ) (G : Startable l es lengths s) where
  total : sum lengths ≡ length es
  total = G.list.total

  pub level_start : (ends who : List ℕ) → Begun lengths ends who → ((t : ℕ) → t ≤ l.edges → get_or (loc_in l s) t 0 ≡ 0) → Leveled es lengths who s s l (length lengths) 0 0
  level_start ends who B z = record {
    classes = [];
    count = refl;
    classed = record {
      rises = λ t u h b. absurd (omega arith);
      each = λ t p h. absurd (omega arith);
      every = λ k j h p b c. absurd (omega arith);
    };
    waiting = record {
      each = λ i h.
          let e = B.path i h in
          let p : path_of i ≡ i = omega (arith, G.list.few_paths) in
          let q : key_of i ≡ 0 = omega (arith, G.list.few_paths) in
          rw e record {
            path = rw p h;
            long = rw p (path_some es lengths total G.list.filled i h);
            inside = omega arith;
            class = ap (nth []) q ∙ nth_zero [] ∙ sym (last_none es lengths (path_of i));
          };
      every = λ k h b. (k, h, ap path_of (B.path k h) ∙ small k h);
      apart = λ i j b h e.
          omega (arith, sym (ap path_of (B.path i (omega arith)) ∙ small i (omega arith)) ∙ e ∙ ap path_of (B.path j h) ∙ small j h);
    };
    tabled = record {
      tells = λ t p h. absurd (omega arith);
      dead = λ t k h w. absurd (omega (arith, w.1, path_some es lengths total G.list.filled k w.0));
      other = λ t h f. sym (table_at s l.loc (l.edges + 1) t (omega arith)) ∙ z t h;
    };
    few = omega (arith, rest_none lengths, total);
    frame = frame_refl s l.loc (2 * l.edges + 1);
  }
    where
      small : (k : ℕ) → k < length lengths → path_of k ≡ k
      small k h = omega (arith, G.list.few_paths)

  module _ (who t : List ℕ) (n m id : ℕ) (A : Leveled es lengths who s t l n m id) where
    -- while a path waits the level is not past the edges
    pub level_bound : 0 < n → m < length es
    level_bound p =
        let w = A.waiting.each 0 p in
        omega (arith, w.long, end_least es lengths (path_of (get_or who 0 0)) w.path, end_most es lengths (path_of (get_or who 0 0)) w.path total)

    -- a level can be numbered
    pub level_ready : (us : List ℕ) → length us ≡ n → Level es lengths m A.classes us → n ≤ length who → Numberable lengths us who t l id
    level_ready us e v fit = record {
      keyed = v.keyed;
      laid = G.laid;
      room = rw A.frame.size G.room;
      few_edges = omega (arith, G.size, G.list.few_edges);
      few = omega (arith, A.few, G.size, level_few es lengths m A.classes us v);
      fits = omega arith;
    }

    pub level_step : (us : List ℕ) → Level es lengths m A.classes us → (u next : List ℕ) (left id' : ℕ)
        → Passed lengths us t u next l (suc m) id (length us) left id' → Leveled es lengths next s u l left (suc m) id'
    level_step us v u next left id' P₀ =
        let cs : List (List ℕ) = A.classes in
        let P : Passed lengths us t u next l (suc m) (length cs) (length us) left id' = rw A.count P₀ in
        let C = A.classed in
        let few : id' + rest_of lengths (suc m) ≤ length es =
        omega (arith, A.few, level_few es lengths m cs us v, P₀.count, id_most id us (length us)) in
        record {
          classes = grown es lengths total l m cs C us v t u next left id' P;
          count = grown_size es lengths total l m cs C us v t u next left id' P;
          classed = grown_classed es lengths total l m cs C us v t u next left id' P;
          waiting = grown_waiting es lengths total l m cs C us v t u next left id' P;
          tabled = grown_tabled es lengths total l m cs C us v t u next left id' P (omega (arith, few, G.size)) A.tabled;
          few = few;
          frame = frame_trans s t u l.loc (2 * l.edges + 1) A.frame P₀.frame;
        }

-- one level of suffixes of d edges
module _ (es lengths : List ℕ) (l : Lists) (s : List ℕ) (G : Startable l es lengths s) (ends who t : List ℕ) (n d id : ℕ)
    (E : (k : ℕ) → k < length lengths → get_or ends k 0 ≡ end_of lengths k) (some : 1 ≤ d) (fit : n ≤ length who) (A : Leveled es lengths who s t l n (d - 1) id) where
  this : d ≡ suc (d - 1)
  this = omega arith

  few : length A.classes ≤ length es
  few = omega (arith, A.count, A.few)

  pub level_edged : length lengths ≤ length ends → Edged es ends (take n who) d
  level_edged room = edged es lengths ends who G.list n (d - 1) A.classes few E A.waiting d this room fit

  module _ (ts : List ℕ) (size : length ts ≡ n) (made : (i : ℕ) → i < length (take n who) → get_or ts i 0 ≡ item_of es ends d (get_or (take n who) i 0)) where
    pub level_made : ItemsMade es lengths (d - 1) A.classes ts
    level_made =
        items_made es lengths ends who G.list n (d - 1) A.classes few E A.waiting ts size
        (λ i h. rw (← this, ← get_or-take n who i 0 h) (made i (rw (length-take-le n who fit) h)))

    module _ (us : List ℕ) (o : InOrder ts us) where
      sorted : Level es lengths (d - 1) A.classes us
      sorted = level_made.level us o

      pub level_numberable : Numberable lengths us who t l id
      level_numberable = level_ready es lengths l s G who t n (d - 1) id A us (o.size ∙ size) sorted fit

      pub level_next : (u next : List ℕ) (left id' : ℕ) → Passed lengths us t u next l d id (length us) left id'
          → (left ≤ n) × Leveled es lengths next s u l left (d + 1 - 1) id'
      level_next u next left id' p =
          let e : d + 1 - 1 ≡ suc (d - 1) = omega arith in (
            omega (arith, p.fewer, o.size, size),
            rw e (level_step es lengths l s G who t n (d - 1) id A us sorted u next left id' (subst (λ (m : ℕ). Passed lengths us t u next l m id (length us) left id') this p)),
          )

-- a list whose places rise is in order
sorted_at : {A : Type 0} (lt : A → A → Bool) (l : List A) (d : A) → ((i j : ℕ) → i < j → j < length l → T (lt (get_or l i d) (get_or l j d))) → Sorted lt l
sorted_at lt [] d f = tt
sorted_at {A} lt (x ∷ l) d f = (
  λ y m. let r = mem_at l d m in subst (λ (z : A). T (lt x z)) r.2 (f 0 (suc r.0) (omega arith) (omega (arith, r.1))),
  sorted_at lt l d (λ i j h b. f (suc i) (suc j) (omega arith) (omega arith)),
)

nth_suc : (cs : List (List ℕ)) (i : ℕ) → nth cs (suc i) ≡ get_or cs i []
unfolding nth
nth_suc cs i = refl

nth_mem : (cs : List (List ℕ)) (t : ℕ) → 0 < t → t ≤ length cs → Memᴰ (nth cs t) cs
nth_mem cs zero p h = absurd (omega arith)
nth_mem cs (suc i) p h = rw (nth_suc cs i) (get_d_mem cs i [] (omega arith))

-- no path waits: these are all classes
module _ (es lengths : List ℕ) (l : Lists) (s : List ℕ) (G : Startable l es lengths s) (who t : List ℕ) (m id : ℕ) (A : Leveled es lengths who s t l 0 m id) where
  abbrev L : List (List ℕ)
  L = paths_of (path_list es lengths)

  short : (k : ℕ) → k < length lengths → get_or lengths k 0 ≤ m
  short k h =
      elim (dec_le (get_or lengths k 0) m) [
        | yes b ↦ b
        | no f ↦ (let r = A.waiting.every k h (omega arith) in absurd (omega (arith, r.1)))
      ]

  all : A.classes ≡ classes_of L
  all =
      classes_unique L A.classes
      (sorted_at class_before A.classes [] (λ i j h b. rw (← nth_suc A.classes i, ← nth_suc A.classes j) (A.classed.rises (suc i) (suc j) (omega arith) b)))
      (λ w. (from w, into w))
    where
      from : (w : List ℕ) → Memᴰ w A.classes → Memᴰ w (all_suffixes L)
      from w h =
          let r = mem_at A.classes [] h in
          let e = A.classed.each (suc r.0) (omega arith) r.1 in
          subst (λ (x : List ℕ). Memᴰ x (all_suffixes L)) (sym e.6 ∙ nth_suc A.classes r.0 ∙ r.2)
          (mem_last es lengths G.list.total e.0 e.1 e.2 e.3 e.5)

      into : (w : List ℕ) → Memᴰ w (all_suffixes L) → Memᴰ w A.classes
      into w h =
          let r = of_last es lengths G.list.total w h in
          let e = A.classed.every r.0 r.1 r.2 r.3 (omega (arith, short r.0 r.2, r.4)) r.4 in
          subst (λ (x : List ℕ). Memᴰ x A.classes) (e.3 ∙ sym r.5) (nth_mem A.classes e.0 e.1 e.2)

  class_nth : (u : ℕ) → class_at L u ≡ nth A.classes u
  unfolding nth class_at
  class_nth u = ap (λ (x : List (List ℕ)). get_or ([] ∷ x) u []) (sym all)

  done_count : id ≡ class_count L
  done_count = sym A.count ∙ ap length all

  room : class_count L ≤ l.edges
  room = omega (arith, done_count, A.few, G.size)

  done_ones : Ones L (one_in l t)
  done_ones u h =
      let e : l.one + 1 + u ≡ l.one + suc u = omega arith in
      let q : get_or (one_in l t) u 0 ≡ get_or t (l.one + suc u) 0 = table_at t (l.one + 1) l.edges u (omega (arith, room)) ∙ ap (λ (i : ℕ). get_or t i 0) e in
      let a = A.tabled.tells (suc u) (omega arith) (omega (arith, A.count, done_count)) in
      let w : ℕ = get_or t (l.one + suc u) 0 in
      record {
        edge = w / 32768;
        after = w % 32768;
        word = q ∙ split w;
        small = a.small;
        earlier = a.earlier;
        class = class_nth (suc u) ∙ a.class ∙ ap (λ (x : List ℕ). (w / 32768) ∷ x) (sym (class_nth (w % 32768)));
      }
    where
      split : (w : ℕ) → w ≡ packed (w / 32768) (w % 32768)
      split w = omega arith

  done_whole : Whole L (loc_in l t)
  done_whole = record {
    dead = λ u h p.
        let r = of_path es lengths G.list.total (class_at L u) p in
        at u h ∙ A.tabled.dead u r.0 (omega (arith, A.count, done_count)) (r.1, short r.0 r.1, sym (class_nth u) ∙ r.2);
    other = λ u h f.
        at u h
        ∙ A.tabled.other u (omega (arith, room))
        (λ k b w. f (subst (λ (x : List ℕ). Memᴰ x L) (sym (class_nth u ∙ w.2)) (mem_path es lengths G.list.total k w.0)));
  }
    where
      at : (u : ℕ) → u ≤ class_count L → get_or (loc_in l t) u 0 ≡ get_or t (l.loc + u) 0
      at u h = table_at t l.loc (l.edges + 1) u (omega (arith, room))

  pub all_numbered : (id ≡ class_count L) × Ones L (one_in l t) × Whole L (loc_in l t) × Frame s t l.loc (2 * l.edges + 1)
  all_numbered = (done_count, done_ones, done_whole, A.frame)
