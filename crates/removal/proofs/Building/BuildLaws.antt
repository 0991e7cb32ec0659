-- Laws of the layout and of filling the tables, one after the other: each later one leaves the earlier ones.
use Prim.Native.Nat.{ℕ, zero, suc, ◌+◌, ◌*◌, ◌≤◌, ◌<◌}
use native.Mathlib.Omega.{arith}
use mathlib.Core.Path.{◌≡◌, refl, sym, ◌∙◌, ap, subst}
use mathlib.Core.Bool.{Bool, true, false, cond}
use mathlib.Core.List.Memᴰ
use mathlib.Core.List.{List, [], ◌∷◌, map, flat_map, Memᴰ}
use lib.ListN.{length, get_or, take, drop, replicate, get_or-replicate, length-append, length-drop, take-append-drop}
use lib.Seq.{take-take, length-take-le}
use lib.Dec.{eqb}
use Rattle.timing.specs.Lists.{sum, count_of, one_if}
use Rattle.timing.specs.Graphs.{Design, Graph, Edge, edge_start, node_of}
use Rattle.timing.specs.Marks.{PathList, path_list, paths_of, cut}
use Rattle.timing.specs.Tests.{candidates}
use Rattle.theorems.proofs.Lists.{mem_upto}
use Rattle.theorems.proofs.Counting.{count_cons}
use Rattle.theorems.proofs.Marks.{begins}
use Rattle.theorems.proofs.Tested.{ListFits}
use Rattle.removal.specs.Table.{table, Frame}
use Rattle.removal.specs.Classes.{class_count, marks_at}
use Rattle.removal.specs.Tables.{dead_word, loc_in, marks_for, marks_below, Stepped, Automaton, Makeable, Made}
use Rattle.removal.proofs.Listing.Region.{table_at}
use Rattle.removal.proofs.Listing.MarkLaws.{live_all}
use Rattle.removal.proofs.Listing.WordLaws.{fit_stepped, root_fit}
use Rattle.removal.proofs.Listing.KeptLaws.{automaton_same}
use Rattle.removal.proofs.Listing.PlaceLaws.{marks_total}
use Rattle.removal.proofs.Listing.FlatLaws.{edge_path}
use Rattle.removal.specs.declared.rows.Layout.{Layout}
use Rattle.removal.specs.Slots.{slots, slot_base, slots_of}
use Rattle.removal.specs.Counts.{of_starts, of_nodes}
use Rattle.removal.specs.Rows.{Laid, Tabled, Ready, Idle, slots_in, InRun, start_in, name_in, default_in, target}
use Rattle.removal.specs.Patches.{NamesIn}
use Rattle.removal.specs.Reach.{AllZero, Uncovered}
use Rattle.removal.specs.Edges.{EdgesSortable, EdgesSorted}
use Rattle.removal.specs.Build.{table_words, work_words, LaidOut, slots_from, Baseable, Based, Given, Buildable, Built}
use Rattle.removal.proofs.Showing.IntoLaws.{edge_at, edges_map}
use Rattle.removal.proofs.Reaching.RowLaws.{base_next, slot_inside}
use Rattle.removal.proofs.Building.Candidates.{candidates_slices, slots_candidates}
use Rattle.removal.proofs.Building.EdgeLaws.{word_kept}
use Rattle.removal.proofs.Building.RunLaws.{run_up, run_within, start_at, name_at, default_at, stands, edges_run, run_rises, edge_same, default_target, place_edge}

module _ (copies edges positions k : ℕ) (l : Layout) (w : LaidOut copies edges positions k l) where
  pub laid : (p : List ℕ) → length p ≡ l.slots → Laid l p
  laid p e = record {
    list = omega (arith, w.first, w.list_edges);
    first = omega (arith, w.first, w.base, w.copies);
    base = omega (arith, w.base, w.into, w.copies);
    into = omega (arith, w.into, w.start, w.copies);
    start = omega (arith, w.start, w.name, w.edges);
    name = omega (arith, w.name, w.default, w.edges);
    default = omega (arith, w.default, w.slots, w.edges);
    size = e;
  }

-- a table among the first n words
take_part : (n b m : ℕ) (s : List ℕ) → b + m ≤ n → take m (drop b (take n s)) ≡ take m (drop b s)
take_part n zero m s h = take-take m n s (omega arith)
take_part zero (suc b) m s h = absurd (omega arith)
take_part (suc n) (suc b) m [] h = refl
take_part (suc n) (suc b) m (x ∷ s) h = take_part n b m s (omega arith)

table_take : (n b m : ℕ) (s : List ℕ) → b + m ≤ n → table (take n s) b m ≡ table s b m
unfolding table
table_take n b m s h = take_part n b m s h

base_agree : (B C : ℕ → ℕ) (n : ℕ) → ((c : ℕ) → c < n → slots C c ≡ slots B c) → slot_base C n ≡ slot_base B n
base_agree B C zero f = refl
base_agree B C (suc n) f = omega (arith, base_next B n, base_next C n, f n (omega arith), base_agree B C n (λ c h. f c (omega arith)))

-- no more are counted than there are; so for each copy there are not more candidates than one and the listed edges
count_most : (f : ℕ → Bool) (xs : List ℕ) → count_of f xs ≤ length xs
count_most f [] = omega arith
count_most f (x ∷ xs) = omega (arith, count_cons f x xs, count_most f xs, small (f x))
  where
    small : (b : Bool) → one_if b ≤ 1
    small true = omega arith
    small false = omega arith

sum_most : (f : ℕ → ℕ) (n : ℕ) → ((v : ℕ) → f v ≤ n) → (nodes : List ℕ) → sum (map (λ v. 1 + f v) nodes) ≤ length nodes * (1 + n)
sum_most f n h [] = omega arith
sum_most f n h (v ∷ nodes) = omega (arith, sum_most f n h nodes, h v)

inner_most : (es ls : List ℕ) → length (flat_map (λ p. drop 1 p) (cut es ls)) ≤ length es
unfolding flat_map
inner_most es [] = omega arith
inner_most es (k ∷ ls) =
    omega (
      arith,
      length-append (drop 1 (take k es)) (flat_map (λ p. drop 1 p) (cut (drop k es) ls)),
      length-drop 1 (take k es),
      inner_most (drop k es) ls,
      ap length (take-append-drop k es),
      length-append (take k es) (drop k es),
    )

pub candidates_few : (D : Design) (G : Graph) (L : PathList) → length L.edges ≤ 8192 → length G.nodes ≤ 16384 → candidates D G L ≤ 134234112
unfolding candidates
candidates_few D G L h k =
    let es = flat_map (λ p. drop 1 p) (paths_of L) in
    omega (
      arith,
      sum_most (λ v. count_of (λ e. eqb (edge_start D e) v) es) 8192 (λ v. omega (arith, count_most (λ e. eqb (edge_start D e) v) es, inner_most L.edges L.lengths)) G.nodes,
    )

pub listed_few : (D : Design) (L : PathList) (G : Graph) (starts listed lengths nodes from to via : List ℕ) → Given D L G starts listed lengths nodes from to via → length listed ≤ 8192
listed_few D L G starts listed lengths nodes from to via g = omega (arith, g.fits.few_edges, ap (λ (K : PathList). length K.edges) g.list)

pub given_few : (D : Design) (L : PathList) (G : Graph) (starts listed lengths nodes from to via : List ℕ) → Given D L G starts listed lengths nodes from to via → candidates D G L ≤ 134234112
given_few D L G starts listed lengths nodes from to via g = candidates_few D G L g.fits.few_edges (omega (arith, g.few_copies, ap length g.copies))

-- how many marks there are at the nodes below one and the next
marks_next : (starts : List ℕ) (L : List (List ℕ)) (v : ℕ) → marks_below starts L (suc v) ≡ marks_below starts L v + marks_for starts L v
marks_next starts L v = base_next (marks_for starts L) v

marks_some : (starts : List ℕ) (L : List (List ℕ)) (v : ℕ) → suc (marks_for starts L v) ≡ length (marks_at starts L v)
marks_some starts L v = omega (arith, live_all starts L v)

-- a word of a class is small
word_few : (starts : List ℕ) (L : List (List ℕ)) (e : ℕ) (m : List ℕ) (w : ℕ) → Stepped starts L e m w → w ≤ dead_word
word_few starts L e m w x = go (begins L (e ∷ m)) refl
  where
    go : (b : Bool) → begins L (e ∷ m) ≡ b → w ≤ dead_word
    go true q = omega (arith, x.dead q)
    go false q = omega (arith, x.alive q)

cond_small : (b : Bool) (x y : ℕ) → x < 4294967296 → y < 4294967296 → cond b x y < 4294967296
cond_small true x y h k = h
cond_small false x y h k = k

-- What is asked of the scratch before each table, and what all of them are at the end. s₁ to s₄ are the scratch after the tables of the list, the bases, the
-- sorted edges, and the cleared slots.
module _ (D : Design) (L : PathList) (G : Graph) (starts listed lengths nodes from to via : List ℕ) (k : ℕ)
    (g : Given D L G starts listed lengths nodes from to via) (l : Layout) (w : LaidOut (length nodes) (length from) (length listed) k l) (counted : k ≡ candidates D G L)
    (few-starts : length starts ≤ 16384) (starts_below : (k : ℕ) → get_or starts k 0 < 4096) (nodes_below : (c : ℕ) → c < length nodes → get_or nodes c 0 < 4096)
    (s₀ roots₀ firsts₀ : List ℕ) (room : table_words (length nodes) (length from) (length listed) + k + work_words (length from) ≤ length s₀) where
  list_fits : ListFits D (path_list listed lengths)
  list_fits = subst (λ (K : PathList). ListFits D K) g.list g.fits

  edge_in_lem : (e : ℕ) → e < length from → Memᴰ (edge_at from to via e) G.edges
  edge_in_lem e h =
      subst (λ (es : List Edge). Memᴰ (edge_at from to via e) es) (sym (g.edges ∙ edges_map from to via g.ends g.names))
      (Memᴰ.map (edge_at from to via) (mem_upto (length from) 0 e (omega arith) (omega arith)))

  end_inside : (e : ℕ) → e < length from → get_or to e 0 < length nodes
  end_inside e h = omega (arith, g.legal.rising.inside (edge_at from to via e) (edge_in_lem e h), ap length g.copies)

  start_inside : (e : ℕ) → e < length from → get_or from e 0 < length nodes
  start_inside e h = omega (arith, end_inside e h, g.legal.rising.up (edge_at from to via e) (edge_in_lem e h))

  name_inside : (e : ℕ) → e < length from → get_or via e 0 < length starts
  name_inside e h = omega (arith, g.legal.named (edge_at from to via e) (edge_in_lem e h), ap length g.design)

  enough : l.slots + k + 5 * l.edges ≤ length s₀
  enough = omega (arith, room, w.slots, w.edges)

  known : (i : ℕ) → i < length listed → get_or listed i 0 < length starts
  known =
      edge_path (λ (k : ℕ). k < length starts) lengths listed list_fits.total
      (λ p m k h. omega (arith, list_fits.named p m k h, ap length g.design))

  pub makeable : length starts ≤ length roots₀ → ((e : ℕ) → get_or roots₀ e 0 ≡ 0) → length firsts₀ ≡ 4097 → ((v : ℕ) → get_or firsts₀ v 0 ≡ 0)
      → Makeable l.lists starts listed lengths s₀ roots₀ firsts₀
  makeable a b c d =
      record {
        list = record {
          total = list_fits.total;
          filled = list_fits.filled;
          few_paths = omega (arith, list_fits.few_paths);
          few_edges = omega (arith, list_fits.few_edges);
          edges_below = λ i h. omega (arith, known i h);
        };
        laid = w.lists;
        size = w.list_edges;
        room = omega (arith, enough, w.slots, w.list_edges);
        known = known;
        nodes = starts_below;
        roots_room = a;
        roots_none = b;
        first_room = c;
        first_none = d;
      }

  module _ (size-roots : length starts ≤ length roots₀) (size-firsts : length firsts₀ ≡ 4097) (s₁ roots firsts : List ℕ) (r₁ : Made l.lists starts listed lengths s₀ roots₀ firsts₀ s₁ roots firsts) where
    abbrev K : List (List ℕ)
    K = paths_of (path_list listed lengths)

    first_is : (v : ℕ) → v ≤ 4096 → get_or firsts v 0 ≡ marks_below starts K v
    first_is = r₁.firsts

    classes_few : class_count K ≤ 16384
    classes_few = omega (arith, r₁.automaton.search.held.few, r₁.automaton.search.held.few_edges)

    words_few : l.slots ≤ 1000000
    words_few = omega (arith, w.slots, g.few_copies, g.few_edges, listed_few D L G starts listed lengths nodes from to via g)

    pub baseable : Baseable l nodes firsts s₁
    baseable =
        record {
          copies = w.copies;
          base = omega (arith, w.base, w.first, w.copies);
          room = omega (arith, enough, w.base, w.slots, w.copies, r₁.frame.size);
          few_copies = g.few_copies;
          few_words = words_few;
          size = r₁.first_size ∙ size-firsts;
          nodes_below = nodes_below;
          rises = λ v h. omega (arith, first_is v (omega arith), first_is (suc v) (omega arith), marks_next starts K v);
          few = λ v h. omega (arith, first_is v h, marks_total starts K v, classes_few);
        }

    slots_few : (n : ℕ) → n ≤ length nodes → slot_base (slots_from firsts nodes) n ≤ 16385 * n
    slots_few zero h = omega arith
    slots_few (suc n) h =
        omega (
          arith,
          base_next (slots_from firsts nodes) n,
          slots_few n (omega arith),
          first_is (suc (get_or nodes n 0)) (omega (arith, nodes_below n (omega arith))),
          marks_total starts K (suc (get_or nodes n 0)),
          classes_few,
        )

    -- the class of an edge alone, and its place
    root_inside : (e : ℕ) → e < length roots → get_or roots e 0 < l.lists.edges + 1
    root_inside e h = omega (arith, (r₁.singles e h).inside, r₁.automaton.search.held.few)

    root_word : (e : ℕ) → e < length roots → Stepped starts K e [] (get_or s₁ (l.lists.loc + get_or roots e 0) 0)
    root_word e h =
        subst (λ (x : ℕ). Stepped starts K e [] x) (table_at s₁ l.lists.loc (l.lists.edges + 1) (get_or roots e 0) (root_inside e h))
        (fit_stepped starts K r₁.automaton.search.filled e [] (get_or roots e 0) (get_or (loc_in l.lists s₁) (get_or roots e 0) 0)
        (root_fit K e (get_or roots e 0) (r₁.singles e h)) (r₁.automaton.locs (get_or roots e 0) (r₁.singles e h).inside))

    module _ (s₂ : List ℕ) (r₂ : Based l nodes firsts s₁ s₂) where
      size₂ : length s₂ ≡ length s₀
      size₂ = r₂.frame.size ∙ r₁.frame.size

      loc_low : (e : ℕ) → e < length roots → l.lists.loc + get_or roots e 0 + 1 ≤ l.first
      loc_low e h = omega (arith, root_inside e h, w.lists.loc, w.first, w.list_edges)

      loc_word : (e : ℕ) → e < length roots → get_or s₂ (l.lists.loc + get_or roots e 0) 0 ≡ get_or s₁ (l.lists.loc + get_or roots e 0) 0
      loc_word e h = word_kept s₁ s₂ (l.lists.loc + get_or roots e 0) (r₂.frame.below (l.lists.loc + get_or roots e 0) 1 (loc_low e h))

      root_step : (e : ℕ) → e < length roots → Stepped starts K e [] (get_or s₂ (l.lists.loc + get_or roots e 0) 0)
      root_step e h = subst (λ (x : ℕ). Stepped starts K e [] x) (sym (loc_word e h)) (root_word e h)

      pub sortable : EdgesSortable l from to via roots s₂
      sortable = record {
        starts = sym w.edges;
        ends = g.ends ∙ sym w.edges;
        names = g.names ∙ sym w.edges;
        few_copies = omega (arith, w.copies, g.few_copies);
        few_edges = omega (arith, w.edges, g.few_edges);
        list = omega (arith, w.base, w.list_edges);
        base = omega (arith, w.base, w.into, w.copies);
        into = omega (arith, w.into, w.start, w.copies);
        start = omega (arith, w.start, w.name, w.edges);
        name = omega (arith, w.name, w.default, w.edges);
        default = omega (arith, w.default, w.slots, w.edges, enough, size₂);
        few_words = omega (arith, w.default, w.slots, w.edges, words_few);
        dead_inside = omega (arith, w.lists.loc);
        starts_inside = λ e h. omega (arith, start_inside e (omega (arith, w.edges)), w.copies);
        ends_inside = λ e h. omega (arith, end_inside e (omega (arith, w.edges)), w.copies);
        names_inside = λ e h. omega (arith, name_inside e (omega (arith, w.edges)), r₁.roots_size);
        roots_inside = λ e h. omega (arith, root_inside e h);
        small = λ a e h m.
            let x = get_or s₂ (l.lists.loc + get_or roots e 0) 0 in
            let low : x ≤ dead_word = word_few starts K e [] x (root_step e m) in
            let high : l.lists.loc < 4294967296 = omega (arith, w.lists.loc, w.list_edges, listed_few D L G starts listed lengths nodes from to via g) in
            cond_small (eqb x dead_word) l.lists.loc (get_or s₂ (l.base + a) 0 + x) high
            (omega (arith, low, r₂.bases a (omega arith), words_few, slots_few a (omega (arith, w.copies)), w.copies, g.few_copies));
      }

      module _ (s₃ : List ℕ) (r₃ : EdgesSorted l from to via roots s₂ s₃) where
        module _ (s₄ : List ℕ) (z : table s₄ l.slots (k + l.edges + l.edges) ≡ replicate (k + l.edges + l.edges) 0) (r₄ : Frame s₃ s₄ l.slots (k + l.edges + l.edges)) where
          pub size₄ : length s₄ ≡ length s₀
          size₄ = r₄.size ∙ r₃.frame.size ∙ size₂

          abbrev p : List ℕ
          p = take l.slots s₄

          size_p : length p ≡ l.slots
          size_p = length-take-le l.slots s₄ (omega (arith, enough, size₄))

          laid_p : Laid l p
          laid_p = laid (length nodes) (length from) (length listed) k l w p size_p

          kept₃ : (b m : ℕ) → b + m ≤ l.slots → table p b m ≡ table s₃ b m
          kept₃ b m h = table_take l.slots b m s₄ h ∙ r₄.below b m h

          kept₂ : (b m : ℕ) → b + m ≤ l.into → table p b m ≡ table s₂ b m
          kept₂ b m h = kept₃ b m (omega (arith, w.into, w.slots)) ∙ r₃.frame.below b m h

          kept₁ : (b m : ℕ) → b + m ≤ l.first → table p b m ≡ table s₁ b m
          kept₁ b m h = kept₂ b m (omega (arith, w.first, w.into)) ∙ r₂.frame.below b m h

          word₃ : (i : ℕ) → i < l.slots → get_or p i 0 ≡ get_or s₃ i 0
          word₃ i h = word_kept s₃ p i (kept₃ i 1 (omega arith))

          slots_node : (c : ℕ) → c < length nodes → slots_from firsts nodes c ≡ length (marks_at starts K (get_or nodes c 0))
          slots_node c h =
              omega (
                arith,
                first_is (get_or nodes c 0) (omega (arith, nodes_below c h)),
                first_is (suc (get_or nodes c 0)) (omega (arith, nodes_below c h)),
                marks_next starts K (get_or nodes c 0),
                marks_some starts K (get_or nodes c 0),
              )

          slots_is : (c : ℕ) → c < length nodes → slots_from firsts nodes c ≡ slots_of D L G c
          unfolding slots_of
          slots_is c h =
              slots_node c h
              ∙ ap (λ (x : List ℕ). length (marks_at starts K (get_or x c 0))) (sym g.copies)
              ∙ ap (λ (x : List ℕ). length (marks_at x K (node_of G c))) (sym g.design)
              ∙ ap (λ (x : PathList). length (marks_at D.starts (paths_of x) (node_of G c))) (sym g.list)

          automaton : Automaton D.starts (paths_of L) l.lists p
          automaton =
              subst (λ (x : List ℕ). Automaton x (paths_of L) l.lists p) (sym g.design)
              (subst (λ (x : PathList). Automaton starts (paths_of x) l.lists p) (sym g.list)
              (automaton_same starts K l.lists s₁ p
              (λ b m h. kept₁ b m (omega (arith, w.first, w.list_edges)))
              (omega (arith, size_p, w.slots, w.list_edges)) r₁.automaton))

          base_word : (c : ℕ) → c ≤ length nodes → get_or p (l.base + c) 0 ≡ l.slots + slot_base (slots_from firsts nodes) c
          base_word c h =
              word_kept s₂ p (l.base + c) (kept₂ (l.base + c) 1 (omega (arith, w.base, w.into))) ∙ r₂.bases c (omega (arith, w.copies))

          slots_in_lem : (c : ℕ) → c < length nodes → slots_in l p c ≡ slots_from firsts nodes c
          slots_in_lem c h =
              omega (arith, base_word c (omega arith), base_word (suc c) (omega arith), base_next (slots_from firsts nodes) c)

          bases_are : (c : ℕ) → c ≤ length nodes → slot_base (slots_in l p) c ≡ slot_base (slots_from firsts nodes) c
          bases_are c h = base_agree (slots_from firsts nodes) (slots_in l p) c (λ i k. slots_in_lem i (omega arith))

          -- there are not more slots than candidates
          total_few : slot_base (slots_in l p) l.copies ≤ k
          total_few =
              omega (
                arith,
                counted,
                ap (slot_base (slots_in l p)) w.copies,
                bases_are (length nodes) (omega arith),
                ap (slot_base (slots_from firsts nodes)) (ap length g.copies),
                slots_candidates D L G (slots_from firsts nodes) g.fits.filled (λ c h. slots_is c (omega (arith, ap length g.copies))),
              )

          -- the cleared words
          zero_word : (i : ℕ) → i < k + l.edges + l.edges → get_or s₄ (l.slots + i) 0 ≡ 0
          zero_word i h =
              sym (table_at s₄ l.slots (k + l.edges + l.edges) i h)
              ∙ ap (λ (t : List ℕ). get_or t i 0) z
              ∙ get_or-replicate (k + l.edges + l.edges) i 0 0 h

          pub all_clear : AllZero l (take l.slots s₄) s₄
          all_clear c j h m =
              let B = slots_in l (take l.slots s₄) in
              let i = slot_base B c + j in
              let e : l.slots + slot_base B c + j ≡ l.slots + i = omega arith in
              ap (λ (n : ℕ). get_or s₄ n 0) e
              ∙ zero_word i (omega (arith, slot_inside B c j l.copies h m, total_few))

          pub all_idle : Idle l s₄
          all_idle q h =
              let e : l.seen + q ≡ l.slots + (k + q) = omega (arith, w.seen, w.slots) in
              ap (λ (n : ℕ). get_or s₄ n 0) e ∙ zero_word (k + q) (omega arith)

          pub all_uncovered : Uncovered l s₄ l.edges
          all_uncovered q h =
              let e : l.cover + q ≡ l.slots + (k + l.edges + q) = omega (arith, w.cover, w.slots, w.edges) in
              ap (λ (n : ℕ). get_or s₄ n 0) e ∙ zero_word (k + l.edges + q) (omega arith)

          -- each number is the place of an edge
          pub all_names : NamesIn l s₄ (length starts)
          all_names q h =
              let y = place_edge l from to via roots s₂ s₃ p laid_p word₃ r₃ (λ i m. omega (arith, end_inside i (omega (arith, w.edges)), w.copies)) q h in
              omega (
                arith,
                ap (λ (n : ℕ). name_in l p n) (sym y.2),
                name_at l from to via roots s₂ s₃ p laid_p word₃ r₃ y.0 y.1,
                name_inside y.0 (omega (arith, y.1, w.edges)),
              )

          first_word : (c : ℕ) → c < length nodes → get_or p (l.first + c) 0 ≡ marks_below D.starts (paths_of L) (node_of G c)
          first_word c h =
              word_kept s₂ p (l.first + c) (kept₂ (l.first + c) 1 (omega (arith, w.first, w.into)))
              ∙ r₂.firsts_are c (omega (arith, w.copies))
              ∙ first_is (get_or nodes c 0) (omega (arith, nodes_below c h))
              ∙ ap (λ (x : List ℕ). marks_below starts K (get_or x c 0)) (sym g.copies)
              ∙ ap (λ (x : List ℕ). marks_below x K (node_of G c)) (sym g.design)
              ∙ ap (λ (x : PathList). marks_below D.starts (paths_of x) (node_of G c)) (sym g.list)

          slots_are : (c : ℕ) → c < l.copies → slots_in l p c ≡ slots_of D L G c
          slots_are c h = slots_in_lem c (omega (arith, w.copies)) ∙ slots_is c (omega (arith, w.copies))

          -- the default of an edge is the place of the class of its name alone
          root_of : (e : ℕ) → e < length roots → Stepped D.starts (paths_of L) e [] (get_or s₂ (l.lists.loc + get_or roots e 0) 0)
          root_of e h =
              subst (λ (x : List ℕ). Stepped x (paths_of L) e [] (get_or s₂ (l.lists.loc + get_or roots e 0) 0)) (sym g.design)
              (subst (λ (x : PathList). Stepped starts (paths_of x) e [] (get_or s₂ (l.lists.loc + get_or roots e 0) 0)) (sym g.list) (root_step e h))

          default_is : (c q : ℕ) → c < l.copies → InRun l p c q → default_in l p q ≡ target D L G l p c 0 q
          default_is c q h m =
              let y = stands l from to via roots s₂ s₃ p laid_p word₃ r₃ c q h m in
              let i = y.0 in
              let few : i < length from = omega (arith, y.1, w.edges) in
              let start : start_in l p q ≡ get_or from i 0 = ap (start_in l p) (sym y.3) ∙ start_at l from to via roots s₂ s₃ p laid_p word₃ r₃ i y.1 in
              let name : name_in l p q ≡ get_or via i 0 = ap (name_in l p) (sym y.3) ∙ name_at l from to via roots s₂ s₃ p laid_p word₃ r₃ i y.1 in
              let x = get_or s₂ (l.lists.loc + get_or roots (get_or via i 0) 0) 0 in
              let known : get_or via i 0 < length roots = omega (arith, name_inside i few, r₁.roots_size) in
              let low : start_in l p q < l.copies = omega (arith, start, start_inside i few, w.copies) in
              ap (default_in l p) (sym y.3)
              ∙ default_at l from to via roots s₂ s₃ p laid_p word₃ r₃ i y.1
              ∙ default_target D L G l p g.legal slots_are c q
              (subst (λ (e : Edge). Memᴰ e G.edges) (sym (edge_same (start_in l p q) c (name_in l p q) (get_or from i 0) (get_or to i 0) (get_or via i 0) start (sym y.2) name)) (edge_in_lem i few))
              low x (get_or s₂ (l.base + get_or from i 0) 0)
              (subst (λ (e : ℕ). Stepped D.starts (paths_of L) e [] x) (sym name) (root_of (get_or via i 0) known))
              (omega (
                arith,
                r₂.bases (get_or from i 0) (omega (arith, start_inside i few, w.copies)),
                bases_are (start_in l p q) (omega (arith, low, w.copies)),
                ap (slot_base (slots_from firsts nodes)) start,
              ))

          pub all_tabled : Tabled D L G l (take l.slots s₄)
          all_tabled = record {
            legal = g.legal;
            fits = g.fits;
            copies = ap length g.copies ∙ sym w.copies;
            few_copies = omega (arith, w.copies, g.few_copies);
            few_edges = omega (arith, w.edges, g.few_edges);
            few_nodes = λ c h. omega (arith, nodes_below c (omega (arith, w.copies)), ap (λ (x : List ℕ). get_or x c 0) g.copies);
            laid = laid_p;
            automaton = automaton;
            firsts = λ c h. first_word c (omega (arith, w.copies));
            slots_are = slots_are;
            bases = λ c h. base_word c (omega (arith, w.copies)) ∙ ap (λ (n : ℕ). l.slots + n) (sym (bases_are c (omega (arith, w.copies))));
            up = run_up l from to via roots s₂ s₃ p laid_p word₃ r₃;
            within = run_within l from to via roots s₂ s₃ p laid_p word₃ r₃;
            into = edges_run l from to via roots s₂ s₃ p laid_p word₃ r₃ G g.edges (sym w.edges) g.ends g.names;
            rises = run_rises l from to via roots s₂ s₃ p laid_p word₃ r₃ G g.edges (sym w.edges) g.ends g.names g.into;
            defaults = λ c h q m. default_is c q h m;
          }

          pub all_ready : Ready l s₄
          all_ready = record {
            design = D;
            list = L;
            graph = G;
            tabled = all_tabled;
            work = record {
              slots = omega (arith, total_few, w.slots, w.seen);
              seen = omega (arith, w.seen, w.cover, w.edges);
              cover = omega (arith, w.cover, w.patch, w.edges);
              patch = omega (arith, w.patch, w.lead, w.edges);
              lead = omega (arith, w.lead, w.comes, w.edges);
              comes = omega (arith, w.comes, w.edges, w.slots, enough, size₄);
            };
            few = omega (arith, total_few, counted, given_few D L G starts listed lengths nodes from to via g, words_few);
          }

module _ (starts listed lengths nodes from to via : List ℕ) where
  candidates_given : (D : Design) (L : PathList) (G : Graph) → Given D L G starts listed lengths nodes from to via
      → candidates D G L ≡ candidates (of_starts starts) (of_nodes nodes) (path_list listed lengths)
  candidates_given D L G g = candidates_slices D L G starts listed lengths nodes g.design g.list g.copies

  pub given_counted : (k : ℕ) (s : List ℕ) → Buildable starts listed lengths nodes from to via k s → (D : Design) (L : PathList) (G : Graph)
      → Given D L G starts listed lengths nodes from to via → k ≡ candidates D G L
  given_counted k s b D L G g = omega (arith, candidates_given D L G g, candidates_given b.design b.list b.graph b.given, b.counted)

  pub built : (k : ℕ) (s₀ roots₀ firsts₀ s₁ roots firsts s₂ s₃ s₄ : List ℕ) (l : Layout) → Buildable starts listed lengths nodes from to via k s₀
      → LaidOut (length nodes) (length from) (length listed) k l
      → length starts ≤ length roots₀
      → length firsts₀ ≡ 4097
      → Made l.lists starts listed lengths s₀ roots₀ firsts₀ s₁ roots firsts
      → Based l nodes firsts s₁ s₂
      → EdgesSorted l from to via roots s₂ s₃
      → (table s₄ l.slots (k + l.edges + l.edges) ≡ replicate (k + l.edges + l.edges) 0) × Frame s₃ s₄ l.slots (k + l.edges + l.edges)
      → Built starts listed lengths nodes from to via k s₀ s₄ l
  built k s₀ roots₀ firsts₀ s₁ roots firsts s₂ s₃ s₄ l b w a c r₁ r₂ r₃ r₄ = record {
    size = size₄ b.design b.list b.graph starts listed lengths nodes from to via k b.given l w b.counted b.edges_below b.starts_below b.nodes_below s₀ roots₀ firsts₀ b.room a c s₁ roots firsts r₁ s₂ r₂ s₃ r₃ s₄ r₄.0 r₄.1;
    laid = w;
    clear = all_clear b.design b.list b.graph starts listed lengths nodes from to via k b.given l w b.counted b.edges_below b.starts_below b.nodes_below s₀ roots₀ firsts₀ b.room a c s₁ roots firsts r₁ s₂ r₂ s₃ r₃ s₄ r₄.0 r₄.1;
    idle = all_idle b.design b.list b.graph starts listed lengths nodes from to via k b.given l w b.counted b.edges_below b.starts_below b.nodes_below s₀ roots₀ firsts₀ b.room a c s₁ roots firsts r₁ s₂ r₂ s₃ r₃ s₄ r₄.0 r₄.1;
    uncovered = all_uncovered b.design b.list b.graph starts listed lengths nodes from to via k b.given l w b.counted b.edges_below b.starts_below b.nodes_below s₀ roots₀ firsts₀ b.room a c s₁ roots firsts r₁ s₂ r₂ s₃ r₃ s₄ r₄.0 r₄.1;
    names = all_names b.design b.list b.graph starts listed lengths nodes from to via k b.given l w b.counted b.edges_below b.starts_below b.nodes_below s₀ roots₀ firsts₀ b.room a c s₁ roots firsts r₁ s₂ r₂ s₃ r₃ s₄ r₄.0 r₄.1;
    tabled = λ D L G g. all_tabled D L G starts listed lengths nodes from to via k g l w (given_counted k s₀ b D L G g) b.edges_below b.starts_below b.nodes_below s₀ roots₀ firsts₀ b.room a c s₁ roots firsts r₁ s₂ r₂ s₃ r₃ s₄ r₄.0 r₄.1;
    ready = λ D L G g. all_ready D L G starts listed lengths nodes from to via k g l w (given_counted k s₀ b D L G g) b.edges_below b.starts_below b.nodes_below s₀ roots₀ firsts₀ b.room a c s₁ roots firsts r₁ s₂ r₂ s₃ r₃ s₄ r₄.0 r₄.1;
  }
