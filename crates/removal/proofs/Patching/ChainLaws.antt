-- Where the edges lead that the classes on a chain of failure links tell. Of each edge that is not seen no longer class than the one that the search has
-- come to has a child: so a child over it is what the edge and the mark begin with, and where there is none at last, the edge leads where it leads alone.
use Prim.Native.Nat.{ℕ, suc, ◌+◌, ◌-◌, ◌*◌, ◌/◌, ◌%◌, ◌≤◌, ◌<◌}
use native.Mathlib.Omega.{arith}
use native.Mathlib.Decide.{ℕ_discrete}
use mathlib.Core.Path.{◌≡◌, refl, sym, ◌∙◌, ap, subst}
use mathlib.Core.Logic.{⊎_elim}
use mathlib.Core.Bool.{Bool, cond}
use mathlib.Core.List.{List, [], ◌∷◌}
use lib.ListN.{length, get_or}
use borrow.Author.Tests.{eq-eqb, ne_eqb}
use Rattle.timing.specs.Graphs.{Design, Graph, node_of}
use Rattle.timing.specs.Marks.{PathList, paths_of}
use Rattle.removal.specs.Classes.{class_count, marks_at, Child}
use Rattle.removal.specs.Tables.{packed, kid_from, kid_to, kid_in, kids_in, loc_in, list_words, dead_word, Kid, Followable, Stepped}
use Rattle.removal.specs.Step.{Marked}
use Rattle.removal.specs.declared.rows.Layout.{Layout}
use Rattle.removal.specs.Slots.{slots, slot_base, slot_marks, slots_of}
use Rattle.removal.specs.Rows.{slots_in, slot_place, dead_place, InRun, start_in, name_in, default_in, target, Tabled}
use Rattle.removal.specs.Reach.{LiveIs}
use Rattle.removal.specs.Patches.{child_place, Unseen, KidsTell, NoKid, MarkClass, kids_from, kids_to, kid_word}
use Rattle.removal.proofs.Listing.FitLaws.{Along, along_start, fails_lower}
use Rattle.removal.proofs.Listing.AlongLaws.{link_at, link_next, link_found, link_none}
use Rattle.removal.proofs.Listing.SearchLaws.{packed_high, from_is, to_is, word_is, kid_at, small, kid_place, kids_within, child_found}
use Rattle.removal.proofs.Listing.StepLaws.{some_root, mark_room, mark_follows, step_found, step_none}
use Rattle.removal.proofs.Listing.WordLaws.{fit_stepped, root_fit}
use Rattle.removal.proofs.Reaching.SlotLaws.{setting_of}
use Rattle.removal.proofs.Reaching.RowLaws.{slot_inside}
use Rattle.removal.proofs.Reaching.TargetLaws.{dead_low, start_inside, target_cases, stepped_dead, stepped_live}

-- the search along the chain of class f has come to class u
pub record Chain (l : Layout) (p t : List ℕ) (c f u : ℕ) : Type 0 where
  pub low : u ≤ f
  pub along : (D : Design) (L : PathList) (G : Graph) → Tabled D L G l p → (q : ℕ) → InRun l p c q → Unseen l t q → Along (paths_of L) f (name_in l p q) u

-- places are numbers of 32 bits
pub target_small : (D : Design) (L : PathList) (G : Graph) (l : Layout) (p : List ℕ) (t : Tabled D L G l p) (c q j : ℕ) → c < l.copies → InRun l p c q
    → target D L G l p c j q < l.slots + slot_base (slots_in l p) l.copies + 1
target_small D L G l p t c q j copy edge =
    ⊎_elim
    (λ x. omega (arith, x.1, dead_low D L G l p t))
    (λ (x : (i : ℕ) × LiveIs L (slot_marks D L G) (slots_in l p) (start_in l p q) (name_in l p q ∷ slot_marks D L G c j) i × (target D L G l p c j q ≡ slot_place l p (start_in l p q) i)).
    omega (arith, x.2, slot_inside (slots_in l p) (start_in l p q) x.0 l.copies (start_inside D L G l p t c q copy edge) x.1.inside))
    (target_cases D L G l p t c q copy edge j)

module _ (D : Design) (L : PathList) (G : Graph) (l : Layout) (p : List ℕ) (t : Tabled D L G l p) (c j : ℕ) (copy : c < l.copies) (some : 0 < j)
    (slot : j < slots (slots_in l p) c) where
  abbrev K : List (List ℕ)
  K = paths_of L

  abbrev number : ℕ
  number = get_or p (l.first + c) 0 + j

  -- the tables of the list are below the others
  pub list_low : (list_words l.lists.edges ≤ l.first) × (l.first + l.copies ≤ l.slots) × (length p ≡ l.slots)
  list_low =
      (t.laid.list, omega (arith, t.laid.first, t.laid.base, t.laid.into, t.laid.start, t.laid.name, t.laid.default), t.laid.size)

  -- slot j has a mark with this number
  mark_number : Marked D.starts (paths_of L) l.lists p (node_of G c) (j - 1) (get_or p (l.first + c) 0 + j)
  unfolding slots_of
  mark_number =
      record {
        tables = t.automaton;
        node = t.few_nodes c copy;
        there = omega (arith, t.slots_are c copy);
        number = omega (arith, t.firsts c copy);
      }

  pub number_room : l.lists.marks + (get_or p (l.first + c) 0 + j) < l.slots
  number_room = omega (arith, mark_room D.starts (paths_of L) l.lists p (node_of G c) (j - 1) number mark_number, t.laid.size)

  abbrev f : ℕ
  f = get_or p (l.lists.marks + (get_or p (l.first + c) 0 + j)) 0

  pub follows : Followable (paths_of L) l.lists p (get_or p (l.lists.marks + (get_or p (l.first + c) 0 + j)) 0)
  follows = mark_follows D.starts (paths_of L) l.lists p (node_of G c) (j - 1) number mark_number

  -- the word of an edge and the mark tells the place
  module _ (q : ℕ) (edge : InRun l p c q) where
    abbrev e : ℕ
    e = name_in l p q

    marks_are : get_or (marks_at D.starts (paths_of L) (node_of G c)) (suc (j - 1)) [] ≡ slot_marks D L G c j
    unfolding slot_marks
    marks_are = let s : suc (j - 1) ≡ j = omega arith in ap (λ (i : ℕ). get_or (marks_at D.starts (paths_of L) (node_of G c)) i []) s

    pub place_stepped : (r : ℕ) → Stepped D.starts (paths_of L) (name_in l p q) (slot_marks D L G c j) (get_or p (l.lists.loc + r) 0)
        → child_place l p r q ≡ target D L G l p c j q
    place_stepped r x = go (ℕ_discrete (get_or p (l.lists.loc + r) 0) dead_word)
      where
        go : Dec (get_or p (l.lists.loc + r) 0 ≡ dead_word) → child_place l p r q ≡ target D L G l p c j q
        go (yes d) =
            ap (λ (b : Bool). cond b (dead_place l) (get_or p (l.base + start_in l p q) 0 + get_or p (l.lists.loc + r) 0)) (eq-eqb (get_or p (l.lists.loc + r) 0) dead_word d)
            ∙ sym (stepped_dead D L G l p t c q copy edge j (get_or p (l.lists.loc + r) 0) x d)
        go (no n) =
            let b = t.bases (start_in l p q) (omega (arith, start_inside D L G l p t c q copy edge)) in
            ap (λ (b : Bool). cond b (dead_place l) (get_or p (l.base + start_in l p q) 0 + get_or p (l.lists.loc + r) 0)) (ne_eqb (get_or p (l.lists.loc + r) 0) dead_word n)
            ∙ ap (λ (y : ℕ). y + get_or p (l.lists.loc + r) 0) b
            ∙ sym (stepped_live D L G l p t c q copy edge j (get_or p (l.lists.loc + r) 0) x n)

    module _ (u : ℕ) (a : Along (paths_of L) (get_or p (l.lists.marks + (get_or p (l.first + c) 0 + j)) 0) (name_in l p q) u) where
      -- a child that is found
      pub child_leads : (r : ℕ) → (r ≡ 0 → ⊥) → Child (paths_of L) u (name_in l p q) r → child_place l p r q ≡ target D L G l p c j q
      child_leads r n x =
          place_stepped r
          (subst (λ (m : List ℕ). Stepped D.starts (paths_of L) e m (get_or p (l.lists.loc + r) 0)) marks_are
          (step_found D.starts K l.lists p (node_of G c) (j - 1) number mark_number e r (λ root y. link_found K l.lists p f follows e u a r root n x) n))

      -- none is found
      abbrev root : ℕ
      root = (some_root (paths_of L) (name_in l p q)).0

      abbrev word : ℕ
      word = get_or (loc_in l.lists p) root 0

      alone : Stepped D.starts (paths_of L) (name_in l p q) [] word
      alone =
          let x = (some_root (paths_of L) (name_in l p q)).1 in
          fit_stepped D.starts K t.automaton.search.filled e [] root word (root_fit K e root x) (t.automaton.locs root x.inside)

      pub none_leads : u ≡ 0 → default_in l p q ≡ target D L G l p c j q
      none_leads z = t.defaults c copy q edge ∙ go (ℕ_discrete word dead_word)
        where
          here : Stepped D.starts (paths_of L) (name_in l p q) (slot_marks D L G c j) word
          here =
              subst (λ (m : List ℕ). Stepped D.starts (paths_of L) e m word) marks_are
              (step_none D.starts K l.lists p (node_of G c) (j - 1) number mark_number e 0 (λ r y. link_none K l.lists p f follows e u a r z y) refl word alone)

          first : Stepped D.starts (paths_of L) (name_in l p q) (slot_marks D L G c 0) word
          first = subst (λ (m : List ℕ). Stepped D.starts (paths_of L) e m word) (sym ((setting_of D L G l p t).empty c)) alone

          go : Dec (word ≡ dead_word) → target D L G l p c 0 q ≡ target D L G l p c j q
          go (yes d) = stepped_dead D L G l p t c q copy edge 0 word first d ∙ sym (stepped_dead D L G l p t c q copy edge j word here d)
          go (no n) = stepped_live D L G l p t c q copy edge 0 word first n ∙ sym (stepped_live D L G l p t c q copy edge j word here n)

  -- the children of a class on the chain
  module _ (u : ℕ) (more : 0 < u) (low : u ≤ get_or p (l.lists.marks + (get_or p (l.first + c) 0 + j)) 0) where
    inside : u ≤ class_count (paths_of L)
    inside = omega (arith, low, follows.inside)

    pub kids_room : (l.lists.kid + u < l.slots) × (l.lists.kids + kids_to l p u ≤ l.slots)
    kids_room =
        let h = kid_place K l.lists p u more inside t.automaton.search in
        (omega (arith, h.0, t.laid.size), omega (arith, h.1, kids_within K l.lists p u more inside t.automaton.search, t.laid.size))

    abbrev w : ℕ → ℕ
    w h = kid_word l p h

    module _ (h : ℕ) (from : kids_from l p u ≤ h) (to : h < kids_to l p u) where
      kid : Kid (paths_of L) u (kid_word l p h)
      kid = kid_at K l.lists p u more inside t.automaton.search h from to

      child_is : kid.child ≡ kid_word l p h % 32768
      child_is =
          let s = small K l.lists p u more inside t.automaton.search kid.child kid.inside in
          let x : kid_word l p h ≡ kid.edge * 32768 + kid.child = kid.word in
          omega arith

      pub kid_place_room : l.lists.loc + kid_word l p h % 32768 < l.slots
      kid_place_room =
          let d = t.automaton.search.held in
          omega (arith, child_is, kid.inside, d.few, d.laid.loc, t.laid.list, list_low.1)

      pub kid_leads : (q : ℕ) → InRun l p c q → name_in l p q ≡ kid_word l p h / 32768
          → Along (paths_of L) (get_or p (l.lists.marks + (get_or p (l.first + c) 0 + j)) 0) (name_in l p q) u
          → child_place l p (kid_word l p h % 32768) q ≡ target D L G l p c j q
      kid_leads q edge name a =
          child_leads q edge u a (kid_word l p h % 32768) (λ z. omega (arith, kid.some, child_is))
          (child_found K l.lists p u more inside t.automaton.search (name_in l p q) h from to (sym name))

    -- where no child is over the edge, the chain goes on
    pub no_child : (e : ℕ) → ((h : ℕ) → kids_from l p u ≤ h → h < kids_to l p u → e ≡ kid_word l p h / 32768 → ⊥) → Child (paths_of L) u e 0
    no_child e none =
        record {
          inside = omega arith;
          is = λ z. absurd (omega arith);
          none = λ z v k y. go v k (t.automaton.search.kids.every u v e inside k y);
        }
      where
        go : (v : ℕ) → v ≤ class_count (paths_of L) → (i : ℕ) × (kid_from (kid_in l.lists p) u ≤ i) × (i < kid_to (kid_in l.lists p) u) × (get_or (kids_in l.lists p) i 0 ≡ packed e v) → ⊥
        go v k x =
            let g = t.automaton.search in
            let m : x.0 < kids_to l p u = omega (arith, x.2, to_is K l.lists p u more inside g) in
            none x.0 (omega (arith, x.1, from_is K l.lists p u more inside g)) m
            (sym (ap (λ (y : ℕ). y / 32768) (sym (word_is K l.lists p u more inside g x.0 m) ∙ x.3) ∙ packed_high e v (small K l.lists p u more inside g v k)))

    pub link_room : l.lists.fail + u < l.slots
    link_room = let d = t.automaton.search.held in omega (arith, inside, d.few, d.laid.fail, t.laid.list, list_low.1)

    pub link_lower : get_or p (l.lists.fail + u) 0 < u
    link_lower = fails_lower K u (get_or p (l.lists.fail + u) 0) inside (link_at K l.lists p f follows u more low)

    pub link_along : (e : ℕ) → Along (paths_of L) (get_or p (l.lists.marks + (get_or p (l.first + c) 0 + j)) 0) e u
        → ((h : ℕ) → kids_from l p u ≤ h → h < kids_to l p u → e ≡ kid_word l p h / 32768 → ⊥)
        → Along (paths_of L) (get_or p (l.lists.marks + (get_or p (l.first + c) 0 + j)) 0) e (get_or p (l.lists.fail + u) 0)
    link_along e a none = (link_next K l.lists p f follows e u a 0 (λ z. omega arith) refl (no_child e none)).1

-- The same of whatever design and list the tables are of, where one such pair is in hand.
module _ (D : Design) (L : PathList) (G : Graph) (l : Layout) (p : List ℕ) (t : Tabled D L G l p) (c j f : ℕ) (copy : c < l.copies) (m : MarkClass l p c j f) where
  abbrev top : ℕ
  top = get_or p (l.lists.marks + (get_or p (l.first + c) 0 + j)) 0

  pub chain_start : (s : List ℕ) → Chain l p s c f f
  chain_start s =
      record {
        low = omega arith;
        along = λ D L G x q r n.
            subst (λ (v : ℕ). Along (paths_of L) v (name_in l p q) v) (sym m.is)
            (along_start (paths_of L) top (name_in l p q) (follows D L G l p x c j copy m.some m.slot).inside);
      }

  module _ (s : List ℕ) (u : ℕ) (a : Chain l p s c f u) where
    low_top : u ≤ top
    low_top = omega (arith, a.low, m.is)

    along_top : (D : Design) (L : PathList) (G : Graph) → Tabled D L G l p → (q : ℕ) → InRun l p c q → Unseen l s q → Along (paths_of L) top (name_in l p q) u
    along_top D L G x q r n = subst (λ (v : ℕ). Along (paths_of L) v (name_in l p q) u) m.is (a.along D L G x q r n)

    pub chain_kids : (u ≡ 0 → ⊥) → KidsTell l p s c j u (kids_from l p u)
    chain_kids n =
        let more : 0 < u = omega arith in
        let room = kids_room D L G l p t c j copy m.some m.slot u more low_top in
        record {
          some = more;
          place = room.0;
          within = room.1;
          each = λ h from to.
              record {
                place = kid_place_room D L G l p t c j copy m.some m.slot u more low_top h from to;
                leads = λ q r n e D L G x. kid_leads D L G l p x c j copy m.some m.slot u more low_top h from to q r e (along_top D L G x q r n);
              };
        }

    pub chain_link : (u ≡ 0 → ⊥) → (l.lists.fail + u < l.slots) × (get_or p (l.lists.fail + u) 0 < u)
    chain_link n =
        let more : 0 < u = omega arith in
        (link_room D L G l p t c j copy m.some m.slot u more low_top, link_lower D L G l p t c j copy m.some m.slot u more low_top)

    pub chain_next : (s' : List ℕ) → (u ≡ 0 → ⊥) → ((q : ℕ) → InRun l p c q → Unseen l s' q → Unseen l s q) → NoKid l p s' c u (kids_to l p u)
        → Chain l p s' c f (get_or p (l.lists.fail + u) 0)
    chain_next s' n less none =
        let more : 0 < u = omega arith in
        record {
          low = omega (arith, a.low, (chain_link n).1);
          along = λ D L G x q r k.
              subst (λ (v : ℕ). Along (paths_of L) v (name_in l p q) (get_or p (l.lists.fail + u) 0)) (sym m.is)
              (link_along D L G l p x c j copy m.some m.slot u more low_top (name_in l p q) (along_top D L G x q r (less q r k)) (none q r k));
        }

    pub chain_end : u ≡ 0 → (D : Design) (L : PathList) (G : Graph) → Tabled D L G l p → (q : ℕ) → InRun l p c q → Unseen l s q
        → default_in l p q ≡ target D L G l p c j q
    chain_end z D L G x q r n = none_leads D L G l p x c j copy m.some m.slot q r u (along_top D L G x q r n) z
