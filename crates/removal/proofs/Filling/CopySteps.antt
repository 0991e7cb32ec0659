-- The pass over a copy, slot by slot, and over all copies; what it has written at the end is the result.
use Prim.Native.Nat.{ℕ, suc, ◌+◌, ◌-◌, ◌≤◌, ◌<◌}
use native.Mathlib.Omega.{arith}
use mathlib.Core.Path.{◌≡◌, refl, sym, ap, ◌∙◌, subst}
use mathlib.Core.Bool.{Bool}
use mathlib.Core.List.{List, [], ◌++◌, map, flat_map}
use lib.ListN.{length, get_or, take, length-map}
use Rattle.timing.specs.Lists.{placed}
use Rattle.timing.specs.Graphs.{Design, Edge, Graph, edges_in, node_of}
use Rattle.timing.specs.Marks.{PathList, paths_of}
use Rattle.timing.specs.TrueGraphs.{true_graph}
use Rattle.removal.specs.declared.rows.Layout.{Layout}
use Rattle.removal.specs.Slots.{slots, slot_base, slot_marks, start_slot}
use Rattle.removal.specs.Flags.{ShownRow}
use Rattle.removal.specs.Rows.{slots_in, Tabled, Ready, InRun, run_from, run_to, name_in, default_in, flag_in}
use Rattle.removal.specs.Patches.{Noted}
use Rattle.removal.specs.Result.{Slot, slot_endpoint, slot_edges, shown_in, shown_below, shown_slots}
use Rattle.removal.specs.Show.{from_shown, reached_by, finally, edges_before, Passed, EdgesMeet, AllShown}
use Rattle.removal.specs.Fill.{put, shown_flag, comes_at, RowRoom, RowWritten, default_from, Filled, slots_to, slots_below, one_slot, Filling, RowHeld, RowsFlagged, Fits, Fillable, ResultFilled}
use Rattle.removal.proofs.Reaching.SlotLaws.{setting_of}
use Rattle.removal.proofs.Reaching.RowLaws.{base_next, read, count_read}
use Rattle.removal.proofs.Reaching.TargetLaws.{edge_inside, target_below}
use Rattle.removal.proofs.Showing.ResultLaws.{shown_nodes, shown_endpoints, shown_edges_lem}
use Rattle.removal.proofs.Showing.GrowLaws.{shown_next, shown_next_copy}
use Rattle.removal.proofs.Showing.ShowLaws.{links, final_rows, pass_start, pass_copy}
use Rattle.removal.proofs.Showing.ShowSteps.{meets_alike, to_all}
use Rattle.removal.proofs.Filling.RoomLaws.{put_placed}
use Rattle.removal.proofs.Filling.EdgeLaws.{row_laid}
use Rattle.removal.proofs.Filling.StepLaws.{filled_as, filled_then, filled_start, filled_alike, filling_next}

-- the number of names does not tell one list of places from another
filling_names : (l : Layout) (nodes endpoint s : List ℕ) (n m : ℕ) (room-nodes room-endpoint room-from room-to room-via : List ℕ) (c j copies edges : ℕ) → m ≡ n
    → Filling l nodes endpoint s n room-nodes room-endpoint room-from room-to room-via c j copies edges → Filling l nodes endpoint s m room-nodes room-endpoint room-from room-to room-via c j copies edges
filling_names l nodes endpoint s n m room-nodes room-endpoint room-from room-to room-via c j copies edges e z =
    subst (λ (k : ℕ). Filling l nodes endpoint s k room-nodes room-endpoint room-from room-to room-via c j copies edges) (sym e) z

-- what is read of a copy
module _ {l : Layout} {s : List ℕ} (r : Ready l s) {c : ℕ} (copy : c < l.copies) where
  abbrev p : List ℕ
  p = take l.slots s

  pub into_read : get_or s (l.into + c) 0 ≡ run_to l (take l.slots s) c
  into_read =
      let d = r.tabled.laid in
      read l s r (l.into + c) (omega (arith, d.into, d.start, d.name, d.default))

  next_read : get_or s (l.base + c + 1) 0 ≡ get_or s (l.base + c) 0 + slots (slots_in l (take l.slots s)) c
  next_read =
      let e : l.base + c + 1 ≡ l.base + suc c = omega arith in
      ap (λ (i : ℕ). get_or s i 0) e ∙ count_read l s r c copy

  pub count_up : get_or s (l.base + c) 0 ≤ get_or s (l.base + c + 1) 0
  count_up = omega (arith, next_read)

  pub count_is : get_or s (l.base + c + 1) 0 - get_or s (l.base + c) 0 ≡ slots (slots_in l (take l.slots s)) c
  count_is = omega (arith, next_read)

  module _ {p0 p1 : ℕ} (from : p0 ≡ run_from l (take l.slots s) c) (to : p1 ≡ run_to l (take l.slots s) c) where
    in_run : (i : ℕ) → i < p1 - p0 → InRun l (take l.slots s) c (p0 + i)
    in_run i h = record { from = omega arith; to = omega arith }

    inside : (i : ℕ) → i < p1 - p0 → p0 + i < l.edges
    inside i h = edge_inside r.design r.list r.graph l p r.tabled c (p0 + i) copy (in_run i h)

    default_is : (i : ℕ) → i < p1 - p0 → default_from l s p0 i ≡ default_in l (take l.slots s) (p0 + i)
    default_is i h = read l s r (l.default + (p0 + i)) (omega (arith, inside i h, (row_laid l s r).2))

    default_low : (i : ℕ) → i < p1 - p0 → default_from l s p0 i < l.seen
    default_low i h =
        omega (arith, default_is i h, r.tabled.defaults c copy (p0 + i) (in_run i h), target_below r.design r.list r.graph l s r.tabled c (p0 + i) 0 copy (in_run i h) r)

    pub load_room : RowRoom l s (p1 - p0) (λ i. p0 + i) (default_from l s p0) × (p0 ≤ p1)
    load_room =
        let d = row_laid l s r in (
          record {
            slots = omega (arith, d.0, d.1);
            default = omega (arith, d.0, d.1, d.2);
            patch = d.4;
            lead = d.5;
            comes = d.6;
            few = omega (arith, r.tabled.within c copy);
            edges = inside;
            places = λ i h. omega (arith, default_low i h, d.1);
            apart = λ i h a b e. omega arith;
          },
          omega (arith, r.tabled.up c copy),
        )

    module _ {t : List ℕ} (y : RowWritten l s t (p1 - p0) (λ i. p0 + i) (default_from l s p0)) where
      low : (i : ℕ) → i < l.seen → get_or t i 0 ≡ get_or s i 0
      low i h = y.below i (omega (arith, (row_laid l s r).1))

      pub load_held : {pos : List ℕ} {defaults : ℕ} → (1 < slots (slots_in l (take l.slots s)) c → Noted l s pos c) → EdgesMeet l s c 0 defaults → RowHeld l t pos c p0 p1 defaults
      load_held {pos} {defaults} n m =
          record {
            noted = subst (λ (w : List ℕ). 1 < slots (slots_in l w) c → (e : ℕ) → InRun l w c e → get_or pos (name_in l w e) 0 ≡ e) (sym y.tables) n;
            copy = copy;
            from = from ∙ ap (λ (w : List ℕ). run_from l w c) (sym y.tables);
            to = to ∙ ap (λ (w : List ℕ). run_to l w c) (sym y.tables);
            meets = meets_alike l s t r y.tables low c 0 defaults copy m;
            loaded = subst (λ (w : List ℕ). (e : ℕ) → InRun l w c e → comes_at l t e ≡ shown_flag (get_or t (default_in l w e) 0)) (sym y.tables)
                (λ q m.
                let i : ℕ = q - p0 in
                let a : p0 + i ≡ q = omega (arith, m.from, from) in
                let b : i < p1 - p0 = omega (arith, m.from, m.to, from, to) in
                let e : default_from l s p0 i ≡ default_in l p q = default_is i b ∙ ap (default_in l p) a in
                ap (comes_at l t) (sym a) ∙ y.new i b ∙ ap (λ (w : ℕ). shown_flag (get_or s w 0)) e
                ∙ ap shown_flag (sym (low (default_in l p q) (omega (arith, e, default_low i b)))));
          }

      pub load_filled : {nodes endpoint : List ℕ} {names-below : ℕ} {room-nodes room-endpoint room-from room-to room-via : List ℕ} {j copies edges : ℕ}
          → Filling l nodes endpoint s names-below room-nodes room-endpoint room-from room-to room-via c j copies edges
          → Filled l nodes endpoint s t c j copies edges c j copies edges (λ shown. []) room-nodes room-endpoint room-from room-to room-via room-nodes room-endpoint room-from room-to room-via
      load_filled {nodes} {endpoint} {names-below} {room-nodes} {room-endpoint} {room-from} {room-to} {room-via} {j} {copies} {edges} z =
          filled_alike l nodes endpoint s names-below room-nodes room-endpoint room-from room-to room-via c j copies edges z t copy y.size y.tables low
          (λ q h. y.below (l.seen + q) (omega (arith, r.work.seen, r.work.cover, r.work.patch, r.work.lead)) ∙ z.idle q h)

      pub load_filling : {nodes endpoint : List ℕ} {n m : ℕ} {room-nodes room-endpoint room-from room-to room-via : List ℕ} {j copies edges : ℕ} → m ≡ n
          → Filling l nodes endpoint s n room-nodes room-endpoint room-from room-to room-via c j copies edges
          → Filling l nodes endpoint t m room-nodes room-endpoint room-from room-to room-via c j copies edges
      load_filling {nodes} {endpoint} {n} {m} {room-nodes} {room-endpoint} {room-from} {room-to} {room-via} {j} {copies} {edges} e z =
          filling_names l nodes endpoint t n m room-nodes room-endpoint room-from room-to room-via c j copies edges e
          (filling_next l nodes endpoint s t c j copies edges c j copies edges (λ shown. []) room-nodes room-endpoint room-from room-to room-via room-nodes room-endpoint room-from room-to room-via
          (load_filled z) n z)

-- slot by slot
module _ {l : Layout} {nodes endpoint s : List ℕ} {c copies edges : ℕ} {room-nodes₀ room-endpoint₀ room-from₀ room-to₀ room-via₀ : List ℕ} where
  pub copy_start : {names-below : ℕ} → Filling l nodes endpoint s names-below room-nodes₀ room-endpoint₀ room-from₀ room-to₀ room-via₀ c 0 copies edges
      → Filled l nodes endpoint s s c 0 copies edges c 0 copies edges (slots_to c 0) room-nodes₀ room-endpoint₀ room-from₀ room-to₀ room-via₀ room-nodes₀ room-endpoint₀ room-from₀ room-to₀ room-via₀
  copy_start {names-below} z =
      filled_as l nodes endpoint s s c 0 copies edges c 0 copies edges (λ shown. []) room-nodes₀ room-endpoint₀ room-from₀ room-to₀ room-via₀ room-nodes₀ room-endpoint₀ room-from₀ room-to₀ room-via₀
      (filled_start l nodes endpoint s names-below room-nodes₀ room-endpoint₀ room-from₀ room-to₀ room-via₀ c 0 copies edges z) (slots_to c 0) (λ shown. refl)

  module _ {t : List ℕ} {j more links : ℕ} {room-nodes room-endpoint room-from room-to room-via : List ℕ}
      (x : Filled l nodes endpoint s t c 0 copies edges c j more links (slots_to c j) room-nodes₀ room-endpoint₀ room-from₀ room-to₀ room-via₀ room-nodes room-endpoint room-from room-to room-via) where
    pub copy_turn : {u : List ℕ} {most all : ℕ} {room-nodes' room-endpoint' room-from' room-to' room-via' : List ℕ}
        → Filled l nodes endpoint t u c j more links c (j + 1) most all (one_slot c j) room-nodes room-endpoint room-from room-to room-via room-nodes' room-endpoint' room-from' room-to' room-via'
        → Filled l nodes endpoint s u c 0 copies edges c (j + 1) most all (slots_to c (j + 1)) room-nodes₀ room-endpoint₀ room-from₀ room-to₀ room-via₀ room-nodes' room-endpoint' room-from' room-to' room-via'
    copy_turn {u} {most} {all} {room-nodes'} {room-endpoint'} {room-from'} {room-to'} {room-via'} y =
        let n : suc j ≡ j + 1 = omega arith in
        filled_as l nodes endpoint s u c 0 copies edges c (j + 1) most all (λ shown. slots_to c j shown ++ one_slot c j shown) room-nodes₀ room-endpoint₀ room-from₀ room-to₀ room-via₀ room-nodes' room-endpoint' room-from' room-to' room-via'
        (filled_then l nodes endpoint s t c 0 copies edges c j more links (slots_to c j) room-nodes₀ room-endpoint₀ room-from₀ room-to₀ room-via₀ room-nodes room-endpoint room-from room-to room-via x
        u c (j + 1) most all (one_slot c j) room-nodes' room-endpoint' room-from' room-to' room-via' y)
        (slots_to c (j + 1)) (λ shown. sym (shown_next (slots_in l (take l.slots s)) shown c j) ∙ ap (shown_in shown c) n)

    -- the whole copy
    copy_done : j ≡ slots (slots_in l (take l.slots s)) c
        → Filled l nodes endpoint s t c 0 copies edges (c + 1) 0 more links (slots_to c (slots (slots_in l (take l.slots s)) c)) room-nodes₀ room-endpoint₀ room-from₀ room-to₀ room-via₀ room-nodes room-endpoint room-from room-to room-via
    copy_done e =
        let n : suc c ≡ c + 1 = omega arith in
        let B = slots_in l (take l.slots s) in
        let whole = subst (λ (i : ℕ). Filled l nodes endpoint s t c 0 copies edges c i more links (slots_to c i) room-nodes₀ room-endpoint₀ room-from₀ room-to₀ room-via₀ room-nodes room-endpoint room-from room-to room-via) e x in
        record {
          size = x.size;
          tables = x.tables;
          idle = x.idle;
          few_copies = omega (arith, whole.few_copies, base_next B c, ap (slot_base B) n);
          few_edges = x.few_edges;
          written = λ D L G g first p.
              let w = whole.written D L G g first p in (
                subst (λ (k : ℕ). Passed G L (slot_marks D L G) B first (flag_in l t) k 0 more links) n
                    (pass_copy D G L (slot_marks D L G) B (setting_of D L G l (take l.slots s) g) first (flag_in l t) c more links w.0),
                w.1,
              );
        }

-- after the row is at hand
pub copy_whole : {l : Layout} {nodes endpoint s t u : List ℕ} {c copies edges j more links n : ℕ} {room-nodes₀ room-endpoint₀ room-from₀ room-to₀ room-via₀ room-nodes room-endpoint room-from room-to room-via : List ℕ}
    → Filled l nodes endpoint s t c 0 copies edges c 0 copies edges (λ shown. []) room-nodes₀ room-endpoint₀ room-from₀ room-to₀ room-via₀ room-nodes₀ room-endpoint₀ room-from₀ room-to₀ room-via₀
    → Filled l nodes endpoint t u c 0 copies edges c j more links (slots_to c j) room-nodes₀ room-endpoint₀ room-from₀ room-to₀ room-via₀ room-nodes room-endpoint room-from room-to room-via
    → n ≡ slots (slots_in l (take l.slots s)) c → j ≡ n
    → Filled l nodes endpoint s u c 0 copies edges (c + 1) 0 more links (slots_to c (slots (slots_in l (take l.slots s)) c)) room-nodes₀ room-endpoint₀ room-from₀ room-to₀ room-via₀ room-nodes room-endpoint room-from room-to room-via
copy_whole {l} {nodes} {endpoint} {s} {t} {u} {c} {copies} {edges} {j} {more} {links} {n} {room-nodes₀} {room-endpoint₀} {room-from₀} {room-to₀} {room-via₀} {room-nodes} {room-endpoint} {room-from} {room-to} {room-via} x y a b =
    copy_done
    (filled_as l nodes endpoint s u c 0 copies edges c j more links (λ shown. [] ++ slots_to c j shown) room-nodes₀ room-endpoint₀ room-from₀ room-to₀ room-via₀ room-nodes room-endpoint room-from room-to room-via
    (filled_then l nodes endpoint s t c 0 copies edges c 0 copies edges (λ shown. []) room-nodes₀ room-endpoint₀ room-from₀ room-to₀ room-via₀ room-nodes₀ room-endpoint₀ room-from₀ room-to₀ room-via₀ x
    u c j more links (slots_to c j) room-nodes room-endpoint room-from room-to room-via y)
    (slots_to c j) (λ shown. refl))
    (b ∙ a)

-- copy by copy
below_none : (B : ℕ → ℕ) (shown : ℕ → ℕ → Bool) → shown_below B shown 0 ≡ []
unfolding flat_map
below_none B shown = refl

module _ {l : Layout} {nodes endpoint s pos room-nodes₀ room-endpoint₀ room-from₀ room-to₀ room-via₀ : List ℕ}
    (f : Fillable l nodes endpoint s pos room-nodes₀ room-endpoint₀ room-from₀ room-to₀ room-via₀) where
  start_passed : (D : Design) (L : PathList) (G : Graph) → Tabled D L G l (take l.slots s)
      → Passed G L (slot_marks D L G) (slots_in l (take l.slots s)) (flag_in l s) (flag_in l s) 0 0 0 0
  start_passed D L G g =
      pass_start D G L (slot_marks D L G) (slots_in l (take l.slots s)) (setting_of D L G l (take l.slots s) g) (flag_in l s)
      (λ d i h k. f.low d i (omega (arith, g.copies)) k)

  all_filling : Filling l nodes endpoint s (length pos) room-nodes₀ room-endpoint₀ room-from₀ room-to₀ room-via₀ 0 0 0 0
  unfolding Fits
  all_filling =
      record {
        ready = f.ready;
        idle = f.idle;
        names = f.names;
        nodes_size = f.nodes_size;
        endpoint_size = f.endpoint_size;
        same = f.same;
        few_copies = omega arith;
        few_edges = omega arith;
        first = flag_in l s;
        passed = start_passed;
        fits = λ D L G g. f.fits D L G g;
      }

  -- the slots of the copies below c are written
  abbrev AllTo : List ℕ → ℕ → ℕ → ℕ → List ℕ → List ℕ → List ℕ → List ℕ → List ℕ → Type 0
  AllTo t c copies edges room-nodes room-endpoint room-from room-to room-via =
      Filled l nodes endpoint s t 0 0 0 0 c 0 copies edges (slots_below l s c) room-nodes₀ room-endpoint₀ room-from₀ room-to₀ room-via₀ room-nodes room-endpoint room-from room-to room-via

  pub all_start : AllTo s 0 0 0 room-nodes₀ room-endpoint₀ room-from₀ room-to₀ room-via₀
  all_start =
      filled_as l nodes endpoint s s 0 0 0 0 0 0 0 0 (λ shown. []) room-nodes₀ room-endpoint₀ room-from₀ room-to₀ room-via₀ room-nodes₀ room-endpoint₀ room-from₀ room-to₀ room-via₀
      (filled_start l nodes endpoint s (length pos) room-nodes₀ room-endpoint₀ room-from₀ room-to₀ room-via₀ 0 0 0 0 all_filling) (slots_below l s 0)
      (λ shown. sym (below_none (slots_in l (take l.slots s)) shown))

  module _ {t : List ℕ} {c copies edges : ℕ} {room-nodes room-endpoint room-from room-to room-via : List ℕ} (x : AllTo t c copies edges room-nodes room-endpoint room-from room-to room-via) where
    pub all_next : {n : ℕ} → n ≡ length pos → Filling l nodes endpoint t n room-nodes room-endpoint room-from room-to room-via c 0 copies edges
    all_next {n} e =
        filling_names l nodes endpoint t (length pos) n room-nodes room-endpoint room-from room-to room-via c 0 copies edges e
        (filling_next l nodes endpoint s t 0 0 0 0 c 0 copies edges (slots_below l s c) room-nodes₀ room-endpoint₀ room-from₀ room-to₀ room-via₀ room-nodes room-endpoint room-from room-to room-via x (length pos) all_filling)

    pub all_turn : {u : List ℕ} {more links : ℕ} {room-nodes' room-endpoint' room-from' room-to' room-via' : List ℕ}
        → Filled l nodes endpoint t u c 0 copies edges (c + 1) 0 more links (slots_to c (slots (slots_in l (take l.slots t)) c)) room-nodes room-endpoint room-from room-to room-via room-nodes' room-endpoint' room-from' room-to' room-via'
        → AllTo u (c + 1) more links room-nodes' room-endpoint' room-from' room-to' room-via'
    all_turn {u} {more} {links} {room-nodes'} {room-endpoint'} {room-from'} {room-to'} {room-via'} y =
        let n : suc c ≡ c + 1 = omega arith in
        let B = slots_in l (take l.slots s) in
        let k : ℕ = slots (slots_in l (take l.slots t)) c in
        filled_as l nodes endpoint s u 0 0 0 0 (c + 1) 0 more links (λ shown. slots_below l s c shown ++ slots_to c k shown) room-nodes₀ room-endpoint₀ room-from₀ room-to₀ room-via₀ room-nodes' room-endpoint' room-from' room-to' room-via'
        (filled_then l nodes endpoint s t 0 0 0 0 c 0 copies edges (slots_below l s c) room-nodes₀ room-endpoint₀ room-from₀ room-to₀ room-via₀ room-nodes room-endpoint room-from room-to room-via x
        u (c + 1) 0 more links (slots_to c k) room-nodes' room-endpoint' room-from' room-to' room-via' y)
        (slots_below l s (c + 1))
        (λ shown.
        ap (λ (w : List ℕ). shown_below B shown c ++ shown_in shown c (slots (slots_in l w) c)) x.tables ∙ sym (shown_next_copy B shown c) ∙ ap (shown_below B shown) n)

    -- at the end the flags say what is shown, and what is written is the result
    pub all_shown : c ≡ l.copies → AllShown l s t copies edges
    all_shown e =
        to_all e
        (record { size = x.size; tables = x.tables; few_copies = x.few_copies; few_edges = x.few_edges; meets = λ D L G g first p. (x.written D L G g first p).0 })

    pub all_filled : c ≡ l.copies → RowsFlagged l s endpoint
        → ResultFilled l nodes endpoint s room-nodes₀ room-endpoint₀ room-from₀ room-to₀ room-via₀ room-nodes room-endpoint room-from room-to room-via
    unfolding ResultFilled RowsFlagged Fits
    all_filled e rows D L G g q ends into =
        let marks = slot_marks D L G in
        let B = slots_in l (take l.slots s) in
        let first = flag_in l s in
        let shown = finally G L marks B (reached_by first) in
        let S = setting_of D L G l (take l.slots s) g in
        let right : (d : ℕ) → d < length G.nodes → ShownRow G L marks B shown d =
        final_rows D G L marks B S (reached_by first) (λ d h. rows D L G g ends d (omega (arith, g.copies))) in
        let sl = shown_below B shown c in
        let es = slot_edges B shown (edges_in G) (from_shown L marks B shown) (start_slot L marks B) in
        let w = (x.written D L G g first (start_passed D L G g)).1 in
        let fit = f.fits D L G g in
        let same : shown_slots G B shown ≡ sl = ap (shown_below B shown) (g.copies ∙ sym e) in
        let few : length sl ≤ length room-nodes₀ = omega (arith, fit.0, ap length same) in
        let N : map (λ (t : Slot). get_or nodes t.copy 0) sl ≡ (true_graph G (paths_of L)).nodes =
        ap (λ (ns : List ℕ). map (λ (t : Slot). get_or ns t.copy 0) sl) (sym q) ∙ ap (map (λ (t : Slot). node_of G t.copy)) (sym same)
        ∙ shown_nodes D G L marks B S shown right in
        let P : map (slot_endpoint endpoint) sl ≡ (true_graph G (paths_of L)).endpoints =
        ap (λ (ns : List ℕ). map (slot_endpoint ns) sl) (sym ends) ∙ ap (map (slot_endpoint G.endpoints)) (sym same)
        ∙ shown_endpoints D G L marks B S shown right in
        let E : flat_map es sl ≡ (true_graph G (paths_of L)).edges =
        ap (flat_map es) (sym same)
        ∙ shown_edges_lem D G L marks B S shown right (edges_in G) into (from_shown L marks B shown) (start_slot L marks B) (links D G L marks B S shown right) in
        let counted = (x.written D L G g first (start_passed D L G g)).0.counted in
        let size : length (flat_map es sl) ≤ length room-from₀ =
        omega (arith, w.edges_put.next, counted, fit.1, ap (λ (i : ℕ). edges_before G L marks B shown i 0) (g.copies ∙ sym e)) in
        let placing : (h : Edge → ℕ) (a : List ℕ) → length a ≡ length room-from₀ → put 0 (map h (flat_map es sl)) a ≡ placed (map h (true_graph G (paths_of L)).edges) a =
        λ h a z. put_placed (map h (flat_map es sl)) a (omega (arith, length-map (flat_map es sl) h, size)) ∙ ap (λ (k : List Edge). placed (map h k) a) E in
        record {
          nodes = w.nodes_put ∙ put_placed (map (λ (t : Slot). get_or nodes t.copy 0) sl) room-nodes₀ (omega (arith, few, length-map sl (λ (t : Slot). get_or nodes t.copy 0)))
              ∙ ap (λ (ns : List ℕ). placed ns room-nodes₀) N;
          endpoints = w.endpoints_put ∙ put_placed (map (slot_endpoint endpoint) sl) room-endpoint₀ (omega (arith, few, f.same.0, length-map sl (slot_endpoint endpoint)))
              ∙ ap (λ (ns : List ℕ). placed ns room-endpoint₀) P;
          starts = w.edges_put.starts ∙ placing (λ (e : Edge). e.start) room-from₀ refl;
          ends = w.edges_put.ends ∙ placing (λ (e : Edge). e.end) room-to₀ f.same.1.0;
          names = w.edges_put.names ∙ placing (λ (e : Edge). e.name) room-via₀ f.same.1.1;
        }
