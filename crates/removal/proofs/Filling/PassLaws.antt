-- The pass from slot to slot over flags: the edges into a shown slot by the flags of lower copies are those of the result, and there is room for them.
use Prim.Native.Nat.{ℕ, zero, suc, ◌+◌, ◌-◌, ◌≤◌, ◌<◌}
use native.Mathlib.Omega.{arith}
use native.Mathlib.Decide.{ℕ_discrete}
use mathlib.Core.Path.{◌≡◌, refl, sym, ap, ap₂, ◌∙◌, subst}
use mathlib.Core.Bool.{Bool, true, false, cond}
use mathlib.Core.List.{List, [], ◌∷◌, map, Memᴰ}
use lib.Dec.{T}
use lib.ListN.{length}
use Rattle.timing.specs.Lists.{keep}
use Rattle.timing.specs.Graphs.{Design, Edge, edge, Graph, edges_in}
use Rattle.timing.specs.Marks.{PathList}
use Rattle.theorems.proofs.Lists.{of_keep}
use Rattle.theorems.proofs.Runs.{mem_in}
use Rattle.removal.specs.Slots.{slots, start_slot}
use Rattle.removal.specs.Result.{slot_at, number_of, shown_slots, numbered_edge, slot_edges}
use Rattle.removal.specs.Show.{from_shown, start_flag, reached_by, shown_by, edges_to, finally, edges_before, Passed}
use Rattle.removal.specs.Fill.{flag_edges}
use Rattle.removal.proofs.Reaching.SlotLaws.{Setting}
use Rattle.removal.proofs.Showing.Ascending.{stand_get_d}
use Rattle.removal.proofs.Showing.ResultLaws.{shown_stands}
use Rattle.removal.proofs.Showing.GrowLaws.{keep_same}
use Rattle.removal.proofs.Showing.ShowLaws.{start_live, from_same, from_step, edges_same, before_next, before_next_copy, lower_shown}

is_true : (b : Bool) → T b → b ≡ true
is_true true t = refl
is_true false t = absurd t

map_alike : {A B : Type 0} (f g : A → B) (l : List A) → ((x : A) → Memᴰ x l → f x ≡ g x) → map f l ≡ map g l
map_alike f g [] h = refl
map_alike {A} {B} f g (x ∷ l) h = ap₂ (λ (y : B) (k : List B). y ∷ k) (h x (Memᴰ.head refl)) (map_alike f g l (λ y m. h y (Memᴰ.tail m)))

-- flags that are the same have come as far
pub passed_same : (G : Graph) (L : PathList) (marks : ℕ → ℕ → List ℕ) (B : ℕ → ℕ) (first flags after : ℕ → ℕ → ℕ) (c j k e : ℕ) → c < length G.nodes
    → ((d i : ℕ) → d < length G.nodes → i < slots B d → after d i ≡ flags d i) → Passed G L marks B first flags c j k e → Passed G L marks B first after c j k e
passed_same G L marks B first flags after c j k e inside same p =
    record {
      low = p.low;
      lower = λ d i h m. same d i (omega arith) m ∙ p.lower d i h m;
      here = λ i h m. same c i inside m ∙ p.here i h m;
      rest = λ i h n m. same c i n m ∙ p.rest i h n m;
      higher = λ d i h n m. same d i n m ∙ p.higher d i h n m;
      numbered = p.numbered;
      counted = p.counted;
    }

-- later there are no fewer edges
module _ (G : Graph) (L : PathList) (marks : ℕ → ℕ → List ℕ) (B : ℕ → ℕ) (shown : ℕ → ℕ → Bool) where
  edges_in_lem : (c j n : ℕ) → j ≤ n → edges_before G L marks B shown c j ≤ edges_before G L marks B shown c n
  edges_in_lem c j zero h = let e : j ≡ 0 = omega arith in subst (λ (i : ℕ). edges_before G L marks B shown c i ≤ edges_before G L marks B shown c 0) (sym e) (omega arith)
  edges_in_lem c j (suc n) h =
      elim (ℕ_discrete j (suc n)) [
        | yes e ↦ subst (λ (i : ℕ). edges_before G L marks B shown c i ≤ edges_before G L marks B shown c (suc n)) (sym e) (omega arith)
        | no f ↦ omega (arith, edges_in_lem c j n (omega arith), before_next G L marks B shown c n)
      ]

  edges_up : (c n : ℕ) → c ≤ n → edges_before G L marks B shown c 0 ≤ edges_before G L marks B shown n 0
  edges_up c zero h = let e : c ≡ 0 = omega arith in subst (λ (i : ℕ). edges_before G L marks B shown i 0 ≤ edges_before G L marks B shown 0 0) (sym e) (omega arith)
  edges_up c (suc n) h =
      elim (ℕ_discrete c (suc n)) [
        | yes e ↦ subst (λ (i : ℕ). edges_before G L marks B shown i 0 ≤ edges_before G L marks B shown (suc n) 0) (sym e) (omega arith)
        | no f ↦ omega (arith, edges_up c n (omega arith), before_next_copy G L marks B shown n, edges_in_lem n 0 (slots B n) (omega arith))
      ]

  -- so there is room for a slot that is shown, and for the edges into it
  pub slot_room : (c j n : ℕ) → c < n → j < slots B c → shown c j ≡ true → edges_before G L marks B shown c j + edges_to G L marks B shown c j ≤ edges_before G L marks B shown n 0
  slot_room c j n h k f =
      omega (
        arith,
        before_next G L marks B shown c j,
        ap (λ (b : Bool). cond b (edges_to G L marks B shown c j) 0) f,
        edges_in_lem c (suc j) (slots B c) (omega arith),
        before_next_copy G L marks B shown c,
        edges_up (suc c) n (omega arith),
      )

  pub slot_number : (c j : ℕ) → c < length G.nodes → j < slots B c → shown c j ≡ true → number_of B shown c j < length (shown_slots G B shown)
  slot_number c j h k f =
      (stand_get_d (slot_at c j) (slot_at 0 0) (number_of B shown c j) (shown_slots G B shown) (shown_stands B shown (length G.nodes) c j h k f)).0

module _ (D : Design) (G : Graph) (L : PathList) (marks : ℕ → ℕ → List ℕ) (B : ℕ → ℕ) (S : Setting D G L marks B) (first flags : ℕ → ℕ → ℕ)
    (c i copies edges : ℕ) (inside : c < length G.nodes) (p : Passed G L marks B first flags c i copies edges) (j : ℕ) where
  abbrev shown : ℕ → ℕ → Bool
  shown = finally G L marks B (reached_by first)

  pub edges_final : edges_to G L marks B (shown_by flags) c j ≡ edges_to G L marks B (finally G L marks B (reached_by first)) c j
  edges_final = edges_same D G L marks B S shown (shown_by flags) c (lower_shown D G L marks B S first flags c i copies edges (omega arith) p) j

  -- the edges by flags have the numbers of the result
  pub flags_edges : (number : ℕ) → number ≡ number_of B (finally G L marks B (reached_by first)) c j
      → flag_edges G L marks B flags c j number
      ≡ slot_edges B (finally G L marks B (reached_by first)) (edges_in G) (from_shown L marks B (finally G L marks B (reached_by first))) (start_slot L marks B) (slot_at c j)
  flags_edges number e =
      ap (map (λ (x : Edge). edge (start_flag L marks B flags c j x - 2) number x.name))
      (keep_same (from_shown L marks B (shown_by flags) c j) (from_shown L marks B shown c j) (edges_in G c)
      (from_same D G L marks B S shown (shown_by flags) c (lower_shown D G L marks B S first flags c i copies edges (omega arith) p) j))
      ∙ map_alike (λ (x : Edge). edge (start_flag L marks B flags c j x - 2) number x.name) (numbered_edge B shown (start_slot L marks B) (slot_at c j)) (keep (from_shown L marks B shown c j) (edges_in G c))
      (λ x m.
      let k = of_keep (from_shown L marks B shown c j) (edges_in G c) m in
      let o = (mem_in G c x).0 k.0 in
      let st = from_step D G L marks B S shown c j x o.0 o.1 (is_true (from_shown L marks B shown c j x) k.1) in
      let a : ℕ = x.start in
      let b : ℕ = start_slot L marks B c j x in
      let low : a < c = omega (arith, S.legal.rising.up x o.0, o.1) in
      let v : ℕ = flags a b in
      let f : v ≡ 2 + number_of B shown a b = p.lower a b low st.3 ∙ ap (λ (w : Bool). cond w (2 + number_of B shown a b) (first a b)) st.5 in
      let g : start_flag L marks B flags c j x ≡ v =
      start_live L marks B flags c j x b st.2 refl
      ∙ ap (λ (w : Bool). cond w v 0) (lower_shown D G L marks B S first flags c i copies edges (omega arith) p a b low st.3 ∙ st.5) in
      let h : start_flag L marks B flags c j x - 2 ≡ number_of B shown a b = omega (arith, f, g) in
      ap₂ (λ (y z : ℕ). edge y z x.name) h e)
