-- Where an edge leads from a slot at its end: to a slot of a lower copy, or nowhere. What the word of a step says is the place.
use Prim.Native.Nat.{ℕ, ◌+◌, ◌-◌, ◌≤◌, ◌<◌}
use native.Mathlib.Omega.{arith}
use native.Mathlib.Decide.{ℕ_discrete}
use mathlib.Core.Path.{◌≡◌, refl, sym, ◌∙◌, ap, subst}
use mathlib.Core.Logic.{◌⊎◌, inl, inr, ⊎_elim}
use mathlib.Core.Bool.{Bool, true, false, cond}
use mathlib.Core.List.Memᴰ
use mathlib.Core.List.{List, [], ◌∷◌, Memᴰ}
use lib.Dec.{ltb}
use lib.ListN.{length, get_or, take}
use lib.Seq.{get_or-take}
use borrow.Author.Tests.{ltb-true, lt-ltb}
use Rattle.timing.specs.Graphs.{Design, Edge, Graph, edges_in, node_of}
use Rattle.timing.specs.Marks.{PathList, paths_of, mark}
use Rattle.theorems.proofs.Lists.{mem_upto}
use Rattle.theorems.proofs.Marks.{begins}
use Rattle.theorems.proofs.Runs.{mem_in}
use Rattle.removal.specs.Classes.{class_at, marks_at, At}
use Rattle.removal.specs.Tables.{list_words, dead_word, loc_in, Stepped, Located}
use Rattle.removal.specs.declared.rows.Layout.{Layout}
use Rattle.removal.specs.Slots.{slots, slot_marks, slots_of, start_slot}
use Rattle.removal.specs.Rows.{slots_in, slot_place, flag_in, dead_place, InRun, run_from, run_to, start_in, name_in, edge_in, target, Tabled, Ready}
use Rattle.removal.specs.Reach.{LiveIs}
use Rattle.removal.specs.Show.{from_shown, start_flag, shown_by}
use Rattle.removal.proofs.Listing.Region.{table_at}
use Rattle.removal.proofs.Listing.ClassLaws.{class_zero}
use Rattle.removal.proofs.Listing.MarkLaws.{marks_first, marks_rise}
use Rattle.removal.proofs.Listing.ClassLaws.{class_order}
use Rattle.removal.proofs.Listing.LinkingLaws.{nil_none}
use Rattle.removal.proofs.Reaching.SlotLaws.{setting_of, used_all, edge_slot}
use Rattle.removal.proofs.Reaching.RowLaws.{place_inside}
use Rattle.removal.proofs.Showing.ShowLaws.{slot_of_lem, start_dead, start_live, start_shown}

module _ (D : Design) (L : PathList) (G : Graph) (l : Layout) (p : List ℕ) (t : Tabled D L G l p) where
  -- the tables of the list come first
  list_low : list_words l.lists.edges ≤ l.slots
  list_low = omega (arith, t.laid.list, t.laid.first, t.laid.base, t.laid.into, t.laid.start, t.laid.name, t.laid.default)

  pub dead_low : dead_place l < l.slots
  dead_low = omega (arith, list_low, t.automaton.search.held.laid.loc)

  module _ (c q : ℕ) (copy : c < l.copies) (edge : InRun l p c q) where
    -- edge q is one of the graph's, into copy c
    mem_into : Memᴰ (edge_in l p c q) (edges_in G c)
    mem_into =
        subst (λ (es : List Edge). Memᴰ (edge_in l p c q) es) (sym (t.into c copy))
        (Memᴰ.map (edge_in l p c) (mem_upto (run_to l p c - run_from l p c) (run_from l p c) q edge.from (omega (arith, edge.from, edge.to))))

    pub edge_mem : Memᴰ (edge_in l p c q) G.edges
    edge_mem = ((mem_in G c (edge_in l p c q)).0 mem_into).0

    pub edge_inside : q < l.edges
    edge_inside = omega (arith, edge.to, t.within c copy)

    pub start_low : start_in l p q < c
    start_low = t.legal.rising.up (edge_in l p c q) edge_mem

    pub start_inside : start_in l p q < l.copies
    start_inside = omega (arith, start_low)

    pub name_below : name_in l p q < length D.starts
    name_below = t.legal.named (edge_in l p c q) edge_mem

    module _ (j : ℕ) where
      abbrev word : List ℕ
      word = name_in l p q ∷ slot_marks D L G c j

      abbrev at : ℕ
      at = start_in l p q

      -- it leads nowhere, or to the slot of a mark
      pub target_dead : begins (paths_of L) word ≡ true → target D L G l p c j q ≡ dead_place l
      unfolding target
      target_dead b = ap (λ (x : Bool). cond x (dead_place l) (slot_place l p at (start_slot L (slot_marks D L G) (slots_in l p) c j (edge_in l p c q)))) b

      pub target_live : (i : ℕ) → LiveIs L (slot_marks D L G) (slots_in l p) at word i → target D L G l p c j q ≡ slot_place l p at i
      unfolding target
      target_live i x =
          ap (λ (b : Bool). cond b (dead_place l) (slot_place l p at (start_slot L (slot_marks D L G) (slots_in l p) c j (edge_in l p c q)))) x.alive
          ∙ ap (λ (k : ℕ). slot_place l p at k) (slot_of_lem (slot_marks D L G) (slots_in l p) at i (mark (paths_of L) word) x.inside x.is x.used)

      pub target_cases : ((begins (paths_of L) word ≡ true) × (target D L G l p c j q ≡ dead_place l))
          ⊎ ((i : ℕ) × LiveIs L (slot_marks D L G) (slots_in l p) at word i × (target D L G l p c j q ≡ slot_place l p at i))
      target_cases = go (begins (paths_of L) word) refl
        where
          go : (b : Bool) → begins (paths_of L) word ≡ b → ((begins (paths_of L) word ≡ true) × (target D L G l p c j q ≡ dead_place l))
              ⊎ ((i : ℕ) × LiveIs L (slot_marks D L G) (slots_in l p) at word i × (target D L G l p c j q ≡ slot_place l p at i))
          go true e = inl (e, target_dead e)
          go false e =
              let r = edge_slot D G L (slot_marks D L G) (slots_in l p) (setting_of D L G l p t) at (omega (arith, start_inside, t.copies)) (edge_in l p c q) edge_mem refl (slot_marks D L G c j) e in
              let x : LiveIs L (slot_marks D L G) (slots_in l p) at word r.0 = record { alive = e; inside = r.1; is = r.2; used = r.3 } in
              inr (r.0, x, target_live r.0 x)

      -- what the word of a step says
      module _ (w : ℕ) (x : Stepped D.starts (paths_of L) (name_in l p q) (slot_marks D L G c j) w) where
        pub stepped_dead : w ≡ dead_word → target D L G l p c j q ≡ dead_place l
        stepped_dead e = go (begins (paths_of L) word) refl
          where
            go : (b : Bool) → begins (paths_of L) word ≡ b → target D L G l p c j q ≡ dead_place l
            go true q = target_dead q
            go false q = absurd (omega (arith, x.alive q, e))

        live_word : begins (paths_of L) word ≡ false → LiveIs L (slot_marks D L G) (slots_in l p) at word w
        unfolding slot_marks slots_of
        live_word b =
            let here : get_or D.starts (name_in l p q) 0 ≡ node_of G at = sym (t.legal.starts (edge_in l p c q) edge_mem) in
            let y = subst (λ (v : ℕ). (w < length (marks_at D.starts (paths_of L) v)) × (get_or (marks_at D.starts (paths_of L) v) w [] ≡ mark (paths_of L) word)) here (x.stands b) in
            let inside : w < slots (slots_in l p) at = omega (arith, y.0, t.slots_are at start_inside) in
            record {
              alive = b;
              inside = inside;
              is = y.1;
              used = used_all D G L (slot_marks D L G) (slots_in l p) (setting_of D L G l p t) at (omega (arith, start_inside, t.copies)) w inside;
            }

        pub stepped_live : (w ≡ dead_word → ⊥) → target D L G l p c j q ≡ slot_place l p at w
        stepped_live f = go (begins (paths_of L) word) refl
          where
            go : (b : Bool) → begins (paths_of L) word ≡ b → target D L G l p c j q ≡ slot_place l p at w
            go true q = absurd (f (x.dead q))
            go false q = target_live w (live_word q)

  -- class 0 stands first among the marks: so 0 stands at the dead place
  pub dead_zero : get_or p (dead_place l) 0 ≡ 0
  dead_zero =
      let e : get_or (loc_in l.lists p) 0 0 ≡ get_or p (l.lists.loc + 0) 0 = table_at p l.lists.loc (l.lists.edges + 1) 0 (omega arith) in
      let z : l.lists.loc + 0 ≡ l.lists.loc = omega arith in
      sym (e ∙ ap (λ (i : ℕ). get_or p i 0) z) ∙ go (get_or (loc_in l.lists p) 0 0) (t.automaton.locs 0 (omega arith))
    where
      empty : begins (paths_of L) (class_at (paths_of L) 0) ≡ false
      empty = ap (begins (paths_of L)) (class_zero (paths_of L)) ∙ nil_none (paths_of L) t.automaton.search.filled

      first : (w : ℕ) → w < length (marks_at D.starts (paths_of L) 0) → get_or (marks_at D.starts (paths_of L) 0) w [] ≡ [] → Dec (w ≡ 0) → w ≡ 0
      first w h e (yes z) = z
      first w h e (no f) =
          let r = marks_rise D.starts (paths_of L) 0 0 w (omega arith) h in
          absurd (class_order.irrefl [] (rw (marks_first D.starts (paths_of L) 0, e) at r))

      go : (w : ℕ) → Located D.starts (paths_of L) 0 w → w ≡ 0
      go w x =
          let y = x.stands empty 0 (subst (λ (k : List ℕ). At D.starts 0 k) (sym (class_zero (paths_of L))) tt) in
          first w y.0 (y.1 ∙ class_zero (paths_of L)) (ℕ_discrete w 0)

-- in a scratch, with the flags that it has
module _ (D : Design) (L : PathList) (G : Graph) (l : Layout) (s : List ℕ) (t : Tabled D L G l (take l.slots s)) (c q j : ℕ) (copy : c < l.copies) (edge : InRun l (take l.slots s) c q) where
  abbrev to : ℕ
  to = target D L G l (take l.slots s) c j q

  pub target_below : Ready l s → target D L G l (take l.slots s) c j q < l.seen
  target_below r =
      ⊎_elim
      (λ x. omega (arith, x.1, dead_low D L G l (take l.slots s) t, r.work.slots))
      (λ (x : (i : ℕ) × LiveIs L (slot_marks D L G) (slots_in l (take l.slots s)) (start_in l (take l.slots s) q) (name_in l (take l.slots s) q ∷ slot_marks D L G c j) i × (to ≡ slot_place l (take l.slots s) (start_in l (take l.slots s) q) i)).
      omega (arith, x.2, place_inside l s r (start_in l (take l.slots s) q) x.0 (start_inside D L G l (take l.slots s) t c q copy edge) x.1.inside))
      (target_cases D L G l (take l.slots s) t c q copy edge j)

  pub comes_flag : cond (ltb 1 (get_or s (target D L G l (take l.slots s) c j q) 0)) (get_or s (target D L G l (take l.slots s) c j q) 0) 0
      ≡ start_flag L (slot_marks D L G) (slots_in l (take l.slots s)) (flag_in l s) c j (edge_in l (take l.slots s) c q)
  comes_flag =
      ⊎_elim
      (λ x.
      let z : get_or s to 0 ≡ 0 = ap (λ (i : ℕ). get_or s i 0) x.1 ∙ sym (get_or-take l.slots s (dead_place l) 0 (dead_low D L G l (take l.slots s) t)) ∙ dead_zero D L G l (take l.slots s) t in
      ap (λ (v : ℕ). cond (ltb 1 v) v 0) z ∙ sym (start_dead L (slot_marks D L G) (slots_in l (take l.slots s)) (flag_in l s) c j (edge_in l (take l.slots s) c q) x.0))
      (λ (x : (i : ℕ) × LiveIs L (slot_marks D L G) (slots_in l (take l.slots s)) (start_in l (take l.slots s) q) (name_in l (take l.slots s) q ∷ slot_marks D L G c j) i × (to ≡ slot_place l (take l.slots s) (start_in l (take l.slots s) q) i)).
      ap (λ (i : ℕ). cond (ltb 1 (get_or s i 0)) (get_or s i 0) 0) x.2
      ∙ sym (start_live L (slot_marks D L G) (slots_in l (take l.slots s)) (flag_in l s) c j (edge_in l (take l.slots s) c q) x.0 x.1.alive
      (slot_of_lem (slot_marks D L G) (slots_in l (take l.slots s)) (start_in l (take l.slots s) q) x.0 _ x.1.inside x.1.is x.1.used)))
      (target_cases D L G l (take l.slots s) t c q copy edge j)

  pub comes_shown : ltb 1 (get_or s (target D L G l (take l.slots s) c j q) 0)
      ≡ from_shown L (slot_marks D L G) (slots_in l (take l.slots s)) (shown_by (flag_in l s)) c j (edge_in l (take l.slots s) c q)
  comes_shown =
      sym (some (get_or s to 0) (ltb 1 (get_or s to 0)) refl) ∙ ap (ltb 0) comes_flag
      ∙ start_shown L (slot_marks D L G) (slots_in l (take l.slots s)) (flag_in l s) c j (edge_in l (take l.slots s) c q)
    where
      some : (v : ℕ) (b : Bool) → ltb 1 v ≡ b → ltb 0 (cond b v 0) ≡ b
      some v true e = lt-ltb 0 v (omega (arith, ltb-true 1 v e))
      some v false e = refl
