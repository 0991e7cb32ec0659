-- The laws of slots: every mark that a path shows at a copy has a slot there, and slots are in the order of their marks.
use Prim.Native.Nat.{ℕ, ◌<◌}
use native.Mathlib.Omega.{arith}
use native.Mathlib.Decide.{dec_lt}
use mathlib.Core.Path.{◌≡◌, refl, sym, ap, ◌∙◌, subst}
use mathlib.Core.Bool.{Bool, true, false, ◌&&◌, ◌||◌}
use mathlib.Core.List.{List, [], ◌∷◌, Memᴰ}
use lib.Dec.{T, eqb, ltb}
use lib.ListN.{length}
use borrow.Author.Tests.{le-ltb, eq-eqb}
use Rattle.timing.specs.Graphs.{Design, edge_start, Edge, Graph, node_of, names}
use Rattle.timing.specs.Marks.{PathList, paths_of, permitted, mark}
use Rattle.timing.specs.Sorting.{before}
use Rattle.timing.specs.TrueGraphs.{Copy, copy_before}
use Rattle.theorems.proofs.Lists.{holds, fails}
use Rattle.theorems.proofs.Marks.{Prefix, Tail, begins, begins_same, front_permitted, mark_tail, mark_prefix}
use Rattle.theorems.proofs.Back.{mark_empty}
use Rattle.theorems.proofs.Runs.{Way}
use Rattle.theorems.proofs.Tested.{ListFits}
use Rattle.theorems.proofs.Legal.{Legal}
use Rattle.removal.specs.Classes.{class_before, marks_at, At}
use Rattle.removal.proofs.Listing.ClassLaws.{class_order}
use Rattle.removal.proofs.Listing.FitLaws.{dead_longer}
use Rattle.removal.proofs.Listing.MarkLaws.{marks_first, marks_rise, marks_all}
use Rattle.removal.specs.declared.rows.Layout.{Layout}
use Rattle.removal.specs.Slots.{slots, slot_marks, slots_of, Used}
use Rattle.removal.specs.Rows.{slots_in, Tabled}

-- the order after two first numbers that are one
pub before_skip : (a b : ℕ) (xs ys : List ℕ) → a ≡ b → before (a ∷ xs) (b ∷ ys) ≡ before xs ys
before_skip a b xs ys e =
    let l : ltb a b ≡ false = le-ltb a b (omega arith) in
    let q : eqb a b ≡ true = eq-eqb a b e in
    go (ltb a b) (eqb a b) l q
  where
    go : (u v : Bool) → u ≡ false → v ≡ true → (u || (v && before xs ys)) ≡ before xs ys
    go u v p q = rw (p, q)

module _ (marks : ℕ → ℕ → List ℕ) (c : ℕ) where
  -- the slot of the empty mark is used
  pub used_empty : Used marks c 0
  used_empty i h e = omega arith

  -- two used slots with one mark are one
  pub used_one : (i j : ℕ) → Used marks c i → Used marks c j → marks c i ≡ marks c j → i ≡ j
  used_one i j u v e =
      elim (dec_lt i j) [
        | yes h ↦ absurd (v i h e)
        | no h ↦
            elim (dec_lt j i) [
              | yes k ↦ absurd (u j k (sym e))
              | no k ↦ omega arith
            ]
      ]

-- what a removal has found out before it looks at slots
pub record Setting (D : Design) (G : Graph) (L : PathList) (marks : ℕ → ℕ → List ℕ) (B : ℕ → ℕ) : Type 0 where
  pub legal : Legal D G
  pub fits : ListFits D L
  pub empty : (c : ℕ) → marks c 0 ≡ []
  pub some : (c : ℕ) → c < length G.nodes → 0 < slots B c
  pub rises : (c : ℕ) → c < length G.nodes → (i j : ℕ) → i < j → j < slots B c → T (class_before (marks c i) (marks c j))
  pub every : (c : ℕ) → c < length G.nodes → (m : List ℕ) → Tail (paths_of L) m → At D.starts (node_of G c) m → begins (paths_of L) m ≡ false
      → (j : ℕ) × (j < slots B c) × (marks c j ≡ m)

-- what a list begins with, a longer one begins with
alive_prefix : (L : List (List ℕ)) (v w : List ℕ) → Prefix v w → begins L w ≡ false → begins L v ≡ false
alive_prefix L v w p e = go (begins L v) refl
  where
    go : (b : Bool) → begins L v ≡ b → begins L v ≡ false
    go true q = absurd (fails (begins L w) e (dead_longer L v w p (holds (begins L v) q)))
    go false q = q

module _ (D : Design) (G : Graph) (L : PathList) (marks : ℕ → ℕ → List ℕ) (B : ℕ → ℕ) (S : Setting D G L marks B) (c : ℕ) (inside : c < length G.nodes) where
  -- no two slots have one mark
  pub used_all : (j : ℕ) → j < slots B c → Used marks c j
  used_all j h i l e = class_order.irrefl (marks c j) (subst (λ (m : List ℕ). T (class_before m (marks c j))) e (S.rises c inside i j l h))

  -- the slot of the empty mark is the first one
  pub used_nil : (j : ℕ) → Used marks c j → marks c j ≡ [] → j ≡ 0
  used_nil j u e = used_one marks c j 0 u (used_empty marks c) (e ∙ sym (S.empty c))

  -- what an edge out of the copy reads off a list has a slot, where no listed path begins there
  pub edge_slot : (e : Edge) → Memᴰ e G.edges → e.start ≡ c → (w : List ℕ) → begins (paths_of L) (e.name ∷ w) ≡ false
      → (j : ℕ) × (j < slots B c) × (marks c j ≡ mark (paths_of L) (e.name ∷ w)) × Used marks c j
  edge_slot e i q w b =
      let m = mark (paths_of L) (e.name ∷ w) in
      let p = mark_prefix (paths_of L) (e.name ∷ w) in
      let r = S.every c inside m (mark_tail (paths_of L) (e.name ∷ w)) (at m p) (alive_prefix (paths_of L) m (e.name ∷ w) p b) in
      (r.0, r.1, r.2, used_all r.0 r.1)
    where
      at : (m : List ℕ) → Prefix m (e.name ∷ w) → At D.starts (node_of G c) m
      at [] p = tt
      at (a ∷ m) p = ap (edge_start D) p.0 ∙ sym (S.legal.starts e i) ∙ ap (node_of G) q

  -- so has every mark that a path can show at the copy
  pub mark_slot : (m : List ℕ) (q : List Edge) → Way G c q → T (permitted (paths_of L) (names q)) → m ≡ mark (paths_of L) (names q)
      → (j : ℕ) × (j < slots B c) × (marks c j ≡ m) × Used marks c j
  mark_slot m [] w t x = (0, S.some c inside, S.empty c ∙ sym (x ∙ mark_empty (paths_of L)), used_empty marks c)
  mark_slot m (e ∷ q) w t x =
      let b : begins (paths_of L) (e.name ∷ names q) ≡ false = begins_same (paths_of L) e.name (names q) ∙ (front_permitted (paths_of L) e.name (names q) t).0 in
      let r = edge_slot e w.0 w.1 (names q) b in
      (r.0, r.1, r.2 ∙ sym x, r.3)

  -- the copy with the mark of a slot
  abbrev pub slot_copy : ℕ → Copy
  slot_copy j = record { at = c; mark = marks c j }

  -- slots are in the order of their marks
  pub slots_rise : (i j : ℕ) → i < j → j < slots B c → T (copy_before (slot_copy i) (slot_copy j))
  slots_rise i j h k =
      subst T (sym (before_skip c c (length (marks c i) ∷ marks c i) (length (marks c j) ∷ marks c j) refl)) (S.rises c inside i j h k)

-- the tables say all that
pub setting_of : (D : Design) (L : PathList) (G : Graph) (l : Layout) (p : List ℕ) → Tabled D L G l p
    → Setting D G L (slot_marks D L G) (slots_in l p)
unfolding slot_marks slots_of
setting_of D L G l p t =
    record {
      legal = t.legal;
      fits = t.fits;
      empty = λ c. marks_first D.starts (paths_of L) (node_of G c);
      some = λ c h. omega arith;
      rises = λ c h i j k m. marks_rise D.starts (paths_of L) (node_of G c) i j k (omega (arith, count c h));
      every = λ c h m x a b.
          let r = marks_all D.starts (paths_of L) t.fits.filled (node_of G c) m x a b in
          (r.0, omega (arith, r.1, count c h), r.2);
    }
  where
    count : (c : ℕ) → c < length G.nodes → slots_in l p c ≡ length (marks_at D.starts (paths_of L) (node_of G c))
    count c h = t.slots_are c (omega (arith, t.copies))
