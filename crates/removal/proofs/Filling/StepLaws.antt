-- The pass from slot to slot, with what it writes: what it has written, one part after the other, and what each part asks.
use Prim.Native.Nat.{ℕ, suc, ◌+◌, ◌≤◌, ◌<◌}
use native.Mathlib.Omega.{arith}
use mathlib.Core.Path.{◌≡◌, refl, sym, ap, ◌∙◌, subst}
use mathlib.Core.Bool.{Bool, true, false, cond}
use mathlib.Core.List.{List, [], ◌∷◌, ◌++◌, map, flat_map, append-nil}
use lib.ListN.{length, get_or, take, set, length-append}
use Rattle.timing.specs.Lists.{one_if}
use Rattle.timing.specs.Graphs.{Design, Edge, Graph, edges_in}
use Rattle.timing.specs.Marks.{PathList}
use Rattle.removal.specs.declared.rows.Layout.{Layout}
use Rattle.removal.specs.Slots.{slots, slot_base, slot_marks, start_slot}
use Rattle.removal.specs.Rows.{slots_in, Tabled, Idle, slot_place, flag_in}
use Rattle.removal.specs.Result.{Slot, slot_at, slot_endpoint, slot_edges, shown_slots}
use Rattle.removal.specs.Show.{from_shown, reached_by, shown_by, shows, edges_to, finally, edges_before, Passed, SlotShown}
use Rattle.removal.specs.Fill.{put, Edged, flag_edges, EdgesFilled, SlotsWritten, Filled, one_slot, Filling}
use Rattle.removal.proofs.Reaching.SlotLaws.{setting_of}
use Rattle.removal.proofs.Reaching.RowLaws.{ready_same, names_same}
use Rattle.removal.proofs.Showing.GrowLaws.{flat_map_append}
use Rattle.removal.proofs.Showing.ShowLaws.{pass_slot, rule_is}
use Rattle.removal.proofs.Showing.ShowSteps.{flags_alike, flags_other}
use Rattle.removal.proofs.Filling.RoomLaws.{put_length, nodes_two, edged_none, edged_more, Sizes, edged_sizes}
use Rattle.removal.proofs.Filling.EdgeLaws.{row_laid}
use Rattle.removal.proofs.Filling.PassLaws.{passed_same, slot_room, slot_number, edges_final, flags_edges}

-- the slots and the shown ones, by the tables p
module _ (D : Design) (L : PathList) (G : Graph) (l : Layout) (first : ℕ → ℕ → ℕ) where
  abbrev shown_of : List ℕ → ℕ → ℕ → Bool
  shown_of p = finally G L (slot_marks D L G) (slots_in l p) (reached_by first)

  abbrev PassedAt : List ℕ → List ℕ → ℕ → ℕ → ℕ → ℕ → Type 0
  PassedAt p s c j copies edges = Passed G L (slot_marks D L G) (slots_in l p) first (flag_in l s) c j copies edges

-- nothing is written
none_written : (G : Graph) (L : PathList) (marks : ℕ → ℕ → List ℕ) (B : ℕ → ℕ) (shown : ℕ → ℕ → Bool) (nodes endpoint : List ℕ) (copies edges : ℕ) (room-nodes room-endpoint room-from room-to room-via : List ℕ)
    → SlotsWritten G L marks B shown nodes endpoint [] copies edges copies edges room-nodes room-endpoint room-from room-to room-via room-nodes room-endpoint room-from room-to room-via
unfolding flat_map
none_written G L marks B shown nodes endpoint copies edges room-nodes room-endpoint room-from room-to room-via =
    record { nodes_put = refl; endpoints_put = refl; edges_put = edged_none edges room-from room-to room-via; next = omega arith }

-- one slot is written
one_written : (G : Graph) (L : PathList) (marks : ℕ → ℕ → List ℕ) (B : ℕ → ℕ) (shown : ℕ → ℕ → Bool) (nodes endpoint : List ℕ) (c j copies edges more links : ℕ)
    (room-nodes room-endpoint room-from room-to room-via room-nodes' room-endpoint' room-from' room-to' room-via' : List ℕ)
    → more ≡ copies + 1 → room-nodes' ≡ set room-nodes copies (get_or nodes c 0) → room-endpoint' ≡ set room-endpoint copies (slot_endpoint endpoint (slot_at c j))
    → Edged (slot_edges B shown (edges_in G) (from_shown L marks B shown) (start_slot L marks B) (slot_at c j)) edges room-from room-to room-via room-from' room-to' room-via' links
    → SlotsWritten G L marks B shown nodes endpoint (slot_at c j ∷ []) copies edges more links room-nodes room-endpoint room-from room-to room-via room-nodes' room-endpoint' room-from' room-to' room-via'
unfolding flat_map
one_written G L marks B shown nodes endpoint c j copies edges more links room-nodes room-endpoint room-from room-to room-via room-nodes' room-endpoint' room-from' room-to' room-via' n a b e =
    record {
      nodes_put = a;
      endpoints_put = b;
      edges_put = subst (λ (es : List Edge). Edged es edges room-from room-to room-via room-from' room-to' room-via' links)
          (sym (append-nil (slot_edges B shown (edges_in G) (from_shown L marks B shown) (start_slot L marks B) (slot_at c j)))) e;
      next = omega arith;
    }

-- one part after the other
two_written : (G : Graph) (L : PathList) (marks : ℕ → ℕ → List ℕ) (B : ℕ → ℕ) (shown : ℕ → ℕ → Bool) (nodes endpoint : List ℕ) (xs ys : List Slot) (copies edges more links most all : ℕ)
    (room-nodes room-endpoint room-from room-to room-via room-nodes' room-endpoint' room-from' room-to' room-via' room-nodes'' room-endpoint'' room-from'' room-to'' room-via'' : List ℕ)
    → SlotsWritten G L marks B shown nodes endpoint xs copies edges more links room-nodes room-endpoint room-from room-to room-via room-nodes' room-endpoint' room-from' room-to' room-via'
    → SlotsWritten G L marks B shown nodes endpoint ys more links most all room-nodes' room-endpoint' room-from' room-to' room-via' room-nodes'' room-endpoint'' room-from'' room-to'' room-via''
    → SlotsWritten G L marks B shown nodes endpoint (xs ++ ys) copies edges most all room-nodes room-endpoint room-from room-to room-via room-nodes'' room-endpoint'' room-from'' room-to'' room-via''
two_written G L marks B shown nodes endpoint xs ys copies edges more links most all room-nodes room-endpoint room-from room-to room-via room-nodes' room-endpoint' room-from' room-to' room-via' room-nodes'' room-endpoint'' room-from'' room-to'' room-via'' x y =
    let f = slot_edges B shown (edges_in G) (from_shown L marks B shown) (start_slot L marks B) in
    record {
      nodes_put = nodes_two (λ (s : Slot). get_or nodes s.copy 0) copies xs ys room-nodes room-nodes' room-nodes'' x.nodes_put
          (subst (λ (k : ℕ). room-nodes'' ≡ put k (map (λ (s : Slot). get_or nodes s.copy 0) ys) room-nodes') x.next y.nodes_put);
      endpoints_put = nodes_two (slot_endpoint endpoint) copies xs ys room-endpoint room-endpoint' room-endpoint'' x.endpoints_put
          (subst (λ (k : ℕ). room-endpoint'' ≡ put k (map (slot_endpoint endpoint) ys) room-endpoint') x.next y.endpoints_put);
      edges_put = subst (λ (es : List Edge). Edged es edges room-from room-to room-via room-from'' room-to'' room-via'' all) (sym (flat_map_append f xs ys))
          (edged_more (flat_map f xs) (flat_map f ys) edges links all room-from room-to room-via room-from' room-to' room-via' room-from'' room-to'' room-via'' x.edges_put y.edges_put);
      next = omega (arith, x.next, y.next, length-append xs ys);
    }

module _ (l : Layout) (nodes endpoint s t : List ℕ) (c j copies edges d i more links : ℕ) (which : (ℕ → ℕ → Bool) → List Slot)
    (room-nodes room-endpoint room-from room-to room-via room-nodes' room-endpoint' room-from' room-to' room-via' : List ℕ)
    (x : Filled l nodes endpoint s t c j copies edges d i more links which room-nodes room-endpoint room-from room-to room-via room-nodes' room-endpoint' room-from' room-to' room-via') where
  pub filled_as : (that : (ℕ → ℕ → Bool) → List Slot) → ((shown : ℕ → ℕ → Bool) → which shown ≡ that shown)
      → Filled l nodes endpoint s t c j copies edges d i more links that room-nodes room-endpoint room-from room-to room-via room-nodes' room-endpoint' room-from' room-to' room-via'
  filled_as that e =
      record {
        size = x.size;
        tables = x.tables;
        idle = x.idle;
        few_copies = x.few_copies;
        few_edges = x.few_edges;
        written = λ D L G g first p.
            let w = x.written D L G g first p in (
              w.0,
              subst (λ (sl : List Slot). SlotsWritten G L (slot_marks D L G) (slots_in l (take l.slots s)) (shown_of D L G l first (take l.slots s)) nodes endpoint sl copies edges more links room-nodes room-endpoint room-from room-to room-via room-nodes' room-endpoint' room-from' room-to' room-via') (e (shown_of D L G l first (take l.slots s))) w.1,
            );
      }

  module _ (u : List ℕ) (b a most all : ℕ) (then : (ℕ → ℕ → Bool) → List Slot) (room-nodes'' room-endpoint'' room-from'' room-to'' room-via'' : List ℕ)
      (y : Filled l nodes endpoint t u d i more links b a most all then room-nodes' room-endpoint' room-from' room-to' room-via' room-nodes'' room-endpoint'' room-from'' room-to'' room-via'') where
    pub filled_then : Filled l nodes endpoint s u c j copies edges b a most all (λ shown. which shown ++ then shown) room-nodes room-endpoint room-from room-to room-via room-nodes'' room-endpoint'' room-from'' room-to'' room-via''
    filled_then =
        record {
          size = y.size ∙ x.size;
          tables = y.tables ∙ x.tables;
          idle = y.idle;
          few_copies = subst (λ (p : List ℕ). most ≤ slot_base (slots_in l p) b + a) x.tables y.few_copies;
          few_edges = y.few_edges;
          written = λ D L G g first p.
              let w = x.written D L G g first p in
              let later = subst (λ (q : List ℕ). Tabled D L G l q → PassedAt D L G l first q t d i more links
              → PassedAt D L G l first q u b a most all
              × SlotsWritten G L (slot_marks D L G) (slots_in l q) (shown_of D L G l first q) nodes endpoint (then (shown_of D L G l first q)) more links most all room-nodes' room-endpoint' room-from' room-to' room-via' room-nodes'' room-endpoint'' room-from'' room-to'' room-via'')
              x.tables (λ g p. y.written D L G g first p) g w.0 in (
                later.0,
                two_written G L (slot_marks D L G) (slots_in l (take l.slots s)) (shown_of D L G l first (take l.slots s)) nodes endpoint (which (shown_of D L G l first (take l.slots s))) (then (shown_of D L G l first (take l.slots s)))
                    copies edges more links most all room-nodes room-endpoint room-from room-to room-via room-nodes' room-endpoint' room-from' room-to' room-via' room-nodes'' room-endpoint'' room-from'' room-to'' room-via'' w.1 later.1,
              );
        }

  -- what the next part asks
  module _ (names-below : ℕ) (z : Filling l nodes endpoint s names-below room-nodes room-endpoint room-from room-to room-via c j copies edges) where
    written_here : SlotsWritten z.ready.graph z.ready.list (slot_marks z.ready.design z.ready.list z.ready.graph) (slots_in l (take l.slots s))
        (shown_of z.ready.design z.ready.list z.ready.graph l z.first (take l.slots s)) nodes endpoint (which (shown_of z.ready.design z.ready.list z.ready.graph l z.first (take l.slots s)))
        copies edges more links room-nodes room-endpoint room-from room-to room-via room-nodes' room-endpoint' room-from' room-to' room-via'
    written_here =
        let r = z.ready in
        (x.written r.design r.list r.graph r.tabled z.first (z.passed r.design r.list r.graph r.tabled)).1

    pub filled_sizes : (length room-nodes' ≡ length room-nodes) × (length room-endpoint' ≡ length room-endpoint) × Sizes room-from room-to room-via room-from' room-to' room-via'
    filled_sizes =
        let r = z.ready in
        let w = written_here in
        let sh = shown_of r.design r.list r.graph l z.first (take l.slots s) in (
          ap length w.nodes_put ∙ put_length copies (map (λ (q : Slot). get_or nodes q.copy 0) (which sh)) room-nodes,
          ap length w.endpoints_put ∙ put_length copies (map (slot_endpoint endpoint) (which sh)) room-endpoint,
          edged_sizes (flat_map (slot_edges (slots_in l (take l.slots s)) sh (edges_in r.graph) (from_shown r.list (slot_marks r.design r.list r.graph) (slots_in l (take l.slots s)) sh) (start_slot r.list (slot_marks r.design r.list r.graph) (slots_in l (take l.slots s)))) (which sh))
              edges links room-from room-to room-via room-from' room-to' room-via' w.edges_put,
        )

    pub filling_next : Filling l nodes endpoint t names-below room-nodes' room-endpoint' room-from' room-to' room-via' d i more links
    filling_next =
        let n = filled_sizes in
        record {
          ready = ready_same l s t x.size x.tables z.ready;
          idle = x.idle;
          names = names_same l s t names-below x.tables z.names;
          nodes_size = z.nodes_size;
          endpoint_size = z.endpoint_size;
          same = (n.1 ∙ z.same.0 ∙ sym n.0, (n.2.ends ∙ z.same.1.0 ∙ sym n.2.starts, n.2.names ∙ z.same.1.1 ∙ sym n.2.starts));
          few_copies = subst (λ (p : List ℕ). more ≤ slot_base (slots_in l p) d + i) (sym x.tables) x.few_copies;
          few_edges = x.few_edges;
          first = z.first;
          passed = λ D L G. subst (λ (q : List ℕ). Tabled D L G l q → PassedAt D L G l z.first q t d i more links) (sym x.tables) (λ g. (x.written D L G g z.first (z.passed D L G g)).0);
          fits = λ D L G.
              subst (λ (q : List ℕ). Tabled D L G l q
              → (length (shown_slots G (slots_in l q) (shown_of D L G l z.first q)) ≤ length room-nodes')
              × (edges_before G L (slot_marks D L G) (slots_in l q) (shown_of D L G l z.first q) (length G.nodes) 0 ≤ length room-from')) (sym x.tables)
              (λ g. let f = z.fits D L G g in (omega (arith, f.0, n.0), omega (arith, f.1, n.2.starts)));
        }

-- nothing is written while the flags stay
module _ (l : Layout) (nodes endpoint s : List ℕ) (names-below : ℕ) (room-nodes room-endpoint room-from room-to room-via : List ℕ) (c j copies edges : ℕ)
    (z : Filling l nodes endpoint s names-below room-nodes room-endpoint room-from room-to room-via c j copies edges) where
  pub filled_start : Filled l nodes endpoint s s c j copies edges c j copies edges (λ shown. []) room-nodes room-endpoint room-from room-to room-via room-nodes room-endpoint room-from room-to room-via
  filled_start =
      record {
        size = refl;
        tables = refl;
        idle = z.idle;
        few_copies = z.few_copies;
        few_edges = z.few_edges;
        written = λ D L G g first p. (p, none_written G L (slot_marks D L G) (slots_in l (take l.slots s)) (shown_of D L G l first (take l.slots s)) nodes endpoint copies edges room-nodes room-endpoint room-from room-to room-via);
      }

  pub filled_alike : (t : List ℕ) → c < l.copies → length t ≡ length s → take l.slots t ≡ take l.slots s → ((i : ℕ) → i < l.seen → get_or t i 0 ≡ get_or s i 0) → Idle l t
      → Filled l nodes endpoint s t c j copies edges c j copies edges (λ shown. []) room-nodes room-endpoint room-from room-to room-via room-nodes room-endpoint room-from room-to room-via
  filled_alike t copy size tables alike idle =
      record {
        size = size;
        tables = tables;
        idle = idle;
        few_copies = z.few_copies;
        few_edges = z.few_edges;
        written = λ D L G g first p. (
          passed_same G L (slot_marks D L G) (slots_in l (take l.slots s)) first (flag_in l s) (flag_in l t) c j copies edges (omega (arith, g.copies))
              (λ d i h k. flags_alike l s t z.ready tables alike d i (omega (arith, g.copies)) k) p,
          none_written G L (slot_marks D L G) (slots_in l (take l.slots s)) (shown_of D L G l first (take l.slots s)) nodes endpoint copies edges room-nodes room-endpoint room-from room-to room-via,
        );
      }

  -- a slot, shown or not
  module _ (copy : c < l.copies) (slot : j < slots (slots_in l (take l.slots s)) c) where
    module _ (t : List ℕ) (more links : ℕ) (y : SlotShown l s t c j copies edges more links) where
      pub slot_passed : (D : Design) (L : PathList) (G : Graph) → Tabled D L G l (take l.slots s) → (first : ℕ → ℕ → ℕ)
          → Passed G L (slot_marks D L G) (slots_in l (take l.slots s)) first (flag_in l s) c j copies edges
          → Passed G L (slot_marks D L G) (slots_in l (take l.slots s)) first (flag_in l t) c (suc j) more links
      slot_passed D L G g first p =
          let rule = y.meets D L G g in
          pass_slot D G L (slot_marks D L G) (slots_in l (take l.slots s)) (setting_of D L G l (take l.slots s) g) first (flag_in l s) (flag_in l t) c j copies edges
          (omega (arith, g.copies)) slot p more links
          (λ d i a b f. flags_other l s t c j copies edges more links z.ready copy slot y d i (omega (arith, a, g.copies)) b f)
          (ap (λ (w : List ℕ). get_or t (slot_place l w c j) 0) y.tables ∙ rule.flag_is)
          rule.more_is rule.links_is

      pub slot_rule : (D : Design) (L : PathList) (G : Graph) → Tabled D L G l (take l.slots s) → (first : ℕ → ℕ → ℕ)
          → Passed G L (slot_marks D L G) (slots_in l (take l.slots s)) first (flag_in l s) c j copies edges
          → shows G L (slot_marks D L G) (slots_in l (take l.slots s)) (reached_by (flag_in l s)) (shown_by (flag_in l s)) c j
          ≡ finally G L (slot_marks D L G) (slots_in l (take l.slots s)) (reached_by first) c j
      slot_rule D L G g first p =
          rule_is D G L (slot_marks D L G) (slots_in l (take l.slots s)) (setting_of D L G l (take l.slots s) g) first (flag_in l s) (flag_in l s) c j copies edges
          (omega (arith, g.copies)) slot p

      -- where no number is given, the slot is not shown; else it is
      one_if_lem : (b : Bool) → (one_if b ≡ 0 → b ≡ false) × ((one_if b ≡ 0 → ⊥) → b ≡ true)
      one_if_lem true = (λ e. absurd (omega arith), λ f. refl)
      one_if_lem false = (λ e. refl, λ f. absurd (f refl))

      rule_off : more ≡ copies → (D : Design) (L : PathList) (G : Graph) → Tabled D L G l (take l.slots s)
          → shows G L (slot_marks D L G) (slots_in l (take l.slots s)) (reached_by (flag_in l s)) (shown_by (flag_in l s)) c j ≡ false
      rule_off e D L G g =
          (one_if_lem (shows G L (slot_marks D L G) (slots_in l (take l.slots s)) (reached_by (flag_in l s)) (shown_by (flag_in l s)) c j)).0 (omega (arith, (y.meets D L G g).more_is))

      rule_on : (more ≡ copies → ⊥) → (D : Design) (L : PathList) (G : Graph) → Tabled D L G l (take l.slots s)
          → shows G L (slot_marks D L G) (slots_in l (take l.slots s)) (reached_by (flag_in l s)) (shown_by (flag_in l s)) c j ≡ true
      rule_on e D L G g =
          (one_if_lem (shows G L (slot_marks D L G) (slots_in l (take l.slots s)) (reached_by (flag_in l s)) (shown_by (flag_in l s)) c j)).1 (λ q. e (omega (arith, (y.meets D L G g).more_is)))

      pub slot_off : more ≡ copies → Idle l t
          → Filled l nodes endpoint s t c j copies edges c (j + 1) copies edges (one_slot c j) room-nodes room-endpoint room-from room-to room-via room-nodes room-endpoint room-from room-to room-via
      slot_off e idle =
          record {
            size = y.size;
            tables = y.tables;
            idle = idle;
            few_copies = omega (arith, z.few_copies);
            few_edges = z.few_edges;
            written = λ D L G g first p.
                let off = rule_off e D L G g in
                let same : links ≡ edges =
                omega (arith, (y.meets D L G g).links_is, ap (λ (b : Bool). cond b (edges_to G L (slot_marks D L G) (slots_in l (take l.slots s)) (shown_by (flag_in l s)) c j) 0) off) in
                let n : suc j ≡ j + 1 = omega arith in
                let sh = shown_of D L G l first (take l.slots s) in (
                  subst (λ (i : ℕ). PassedAt D L G l first (take l.slots s) t c i copies edges) n
                      (subst (λ (i : ℕ). PassedAt D L G l first (take l.slots s) t c (suc j) i edges) e
                      (subst (λ (i : ℕ). PassedAt D L G l first (take l.slots s) t c (suc j) more i) same (slot_passed D L G g first p))),
                  subst (λ (b : Bool). SlotsWritten G L (slot_marks D L G) (slots_in l (take l.slots s)) sh nodes endpoint (cond b (slot_at c j ∷ []) []) copies edges copies edges room-nodes room-endpoint room-from room-to room-via room-nodes room-endpoint room-from room-to room-via)
                      (sym off ∙ slot_rule D L G g first p) (none_written G L (slot_marks D L G) (slots_in l (take l.slots s)) sh nodes endpoint copies edges room-nodes room-endpoint room-from room-to room-via),
                );
          }

      -- there is room for a slot that is shown, and for the edges into it
      module _ (e : more ≡ copies → ⊥) where
        pub slot_fits : (copies < length room-nodes) × (edges + edges_to z.ready.graph z.ready.list (slot_marks z.ready.design z.ready.list z.ready.graph) (slots_in l (take l.slots s)) (shown_by (flag_in l t)) c j ≤ length room-from)
        slot_fits =
            let D = z.ready.design in
            let L = z.ready.list in
            let G = z.ready.graph in
            let g = z.ready.tabled in
            let marks = slot_marks D L G in
            let B = slots_in l (take l.slots s) in
            let sh = shown_of D L G l z.first (take l.slots s) in
            let p = z.passed D L G g in
            let on : sh c j ≡ true = sym (slot_rule D L G g z.first p) ∙ rule_on e D L G g in
            let inside : c < length G.nodes = omega (arith, g.copies) in
            let f = z.fits D L G g in
            let S = setting_of D L G l (take l.slots s) g in
            let n = edges_final D G L marks B S z.first (flag_in l t) c (suc j) more links inside (slot_passed D L G g z.first p) j in (
              omega (arith, slot_number G L marks B sh c j inside slot on, f.0, p.numbered),
              omega (arith, slot_room G L marks B sh c j (length G.nodes) inside slot on, f.1, p.counted, n),
            )

        module _ (u room-nodes' room-endpoint' room-from' room-to' room-via' : List ℕ) (number : ℕ) (w : EdgesFilled l t u c j number room-from room-to room-via room-from' room-to' room-via' edges) where
          pub slot_on : number ≡ copies → Idle l u → room-nodes' ≡ set room-nodes copies (get_or nodes c 0) → room-endpoint' ≡ set room-endpoint copies (slot_endpoint endpoint (slot_at c j))
              → Filled l nodes endpoint s u c j copies edges c (j + 1) more links (one_slot c j) room-nodes room-endpoint room-from room-to room-via room-nodes' room-endpoint' room-from' room-to' room-via'
          slot_on k idle a b =
              record {
                size = w.size ∙ y.size;
                tables = w.tables ∙ y.tables;
                idle = idle;
                few_copies = omega (arith, z.few_copies, y.few_copies);
                few_edges = y.few_edges;
                written = λ D L G g first p.
                    let marks = slot_marks D L G in
                    let q = take l.slots s in
                    let B = slots_in l q in
                    let sh = shown_of D L G l first q in
                    let S = setting_of D L G l q g in
                    let on = rule_on e D L G g in
                    let inside : c < length G.nodes = omega (arith, g.copies) in
                    let after = slot_passed D L G g first p in
                    let m : suc j ≡ j + 1 = omega arith in
                    let rule = y.meets D L G g in
                    let one : more ≡ copies + 1 = omega (arith, rule.more_is, ap one_if on) in
                    let there : links ≡ edges + edges_to G L marks B (shown_by (flag_in l t)) c j =
                    omega (
                      arith,
                      rule.links_is,
                      ap (λ (b : Bool). cond b (edges_to G L marks B (shown_by (flag_in l s)) c j) 0) on,
                      edges_final D G L marks B S first (flag_in l t) c (suc j) more links inside after j,
                      edges_final D G L marks B S first (flag_in l s) c j copies edges inside p j,
                    ) in
                    let made = subst (λ (v : List ℕ). Tabled D L G l v → Edged (flag_edges G L marks (slots_in l v) (flag_in l t) c j number) edges room-from room-to room-via room-from' room-to' room-via'
                    (edges + edges_to G L marks (slots_in l v) (shown_by (flag_in l t)) c j)) y.tables (w.written D L G) g in
                    let edged = subst (λ (i : ℕ). Edged (slot_edges B sh (edges_in G) (from_shown L marks B sh) (start_slot L marks B) (slot_at c j)) edges room-from room-to room-via room-from' room-to' room-via' i) (sym there)
                    (subst (λ (es : List Edge). Edged es edges room-from room-to room-via room-from' room-to' room-via' (edges + edges_to G L marks B (shown_by (flag_in l t)) c j))
                    (flags_edges D G L marks B S first (flag_in l t) c (suc j) more links inside after j number (k ∙ p.numbered)) made) in (
                      subst (λ (i : ℕ). PassedAt D L G l first q u c i more links) m
                          (passed_same G L marks B first (flag_in l t) (flag_in l u) c (suc j) more links inside
                          (λ d i h r. flags_alike l t u (ready_same l s t y.size y.tables z.ready) w.tables (λ o v. w.below o (omega (arith, (row_laid l s z.ready).1))) d i (omega (arith, g.copies))
                          (subst (λ (v : List ℕ). i < slots (slots_in l v) d) (sym y.tables) r)) after),
                      subst (λ (b : Bool). SlotsWritten G L marks B sh nodes endpoint (cond b (slot_at c j ∷ []) []) copies edges more links room-nodes room-endpoint room-from room-to room-via room-nodes' room-endpoint' room-from' room-to' room-via')
                          (sym on ∙ slot_rule D L G g first p)
                          (one_written G L marks B sh nodes endpoint c j copies edges more links room-nodes room-endpoint room-from room-to room-via room-nodes' room-endpoint' room-from' room-to' room-via' one a b edged),
                    );
              }
