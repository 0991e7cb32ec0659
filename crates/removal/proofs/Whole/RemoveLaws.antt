-- The passes one after the other: what the tables are of stays so, since only slots and what the passes work in change, and so what each pass leaves is
-- what the next one asks.
use Prim.Native.Nat.{ℕ, ◌+◌, ◌≤◌, ◌<◌}
use native.Mathlib.Omega.{arith}
use mathlib.Core.Path.{◌≡◌, sym, ap, ◌∙◌, subst}
use mathlib.Core.List.{List}
use lib.ListN.{length, take, length-map}
use Rattle.timing.specs.Graphs.{Design, Graph, node_of, edges_in}
use Rattle.timing.specs.Marks.{PathList, paths_of}
use Rattle.timing.specs.TrueGraphs.{true_graph}
use Rattle.theorems.proofs.Tested.{ListFits}
use Rattle.removal.specs.declared.rows.Layout.{Layout}
use Rattle.removal.specs.Slots.{slots, slot_marks, start_slot}
use Rattle.removal.specs.Rows.{slots_in, Tabled, Ready, Idle, flag_in}
use Rattle.removal.specs.Patches.{NamesIn}
use Rattle.removal.specs.Flags.{ReachedRow, ShownRow}
use Rattle.removal.specs.Reach.{RowsReached, flag_of}
use Rattle.removal.specs.Edges.{EdgesInto}
use Rattle.removal.specs.Result.{Slot, shown_slots}
use Rattle.removal.specs.Show.{AllShown, FlagsReset, reached_by, shown_by, from_shown}
use Rattle.removal.specs.Fill.{LowFlags, RowsFlagged, Fits, RoomsAlike, Fillable}
use Rattle.removal.specs.Build.{Buildable, Built}
use Rattle.removal.specs.Remove.{WorkableIn, AllReached, Found}
use Rattle.removal.proofs.Building.CountLaws.{list_countable, copies_countable}
use Rattle.removal.proofs.Reaching.SlotLaws.{setting_of}
use Rattle.removal.proofs.Reaching.RowLaws.{ready_same, names_same}
use Rattle.removal.proofs.Showing.ShowLaws.{links}
use Rattle.removal.proofs.Showing.ResultLaws.{shown_nodes, shown_edges_lem}
use Rattle.removal.proofs.Whole.ResetLaws.{low_back, rows_back, room_back}

pub buildable : (starts listed lengths nodes endpoint from to via : List ℕ) (k : ℕ) (s : List ℕ) → WorkableIn starts listed lengths nodes endpoint from to via k s
    → Buildable starts listed lengths nodes from to via k s
buildable starts listed lengths nodes endpoint from to via k s x =
    let w = x.work.worked in
    record {
      design = x.work.design;
      list = x.work.list;
      graph = x.work.graph;
      given = w.given;
      starts_below = (list_countable x.work.design starts listed lengths w.fits (subst (λ (K : PathList). ListFits x.work.design K) w.given.list w.given.fits) w.given.design).starts_below;
      nodes_below = (copies_countable x.work.design x.work.graph nodes w.fits w.given.legal w.given.copies w.given.few_copies).below;
      edges_below = omega (arith, w.fits.few_edges, ap length w.given.design);
      counted = x.counted;
      room = x.room;
    }

module _ (starts listed lengths nodes endpoint from to via : List ℕ) (k : ℕ) (s a : List ℕ) (l : Layout) (x : WorkableIn starts listed lengths nodes endpoint from to via k s)
    (built : Built starts listed lengths nodes from to via k s a l) where
  pub built_ready : Ready l a
  built_ready = built.ready x.work.design x.work.list x.work.graph x.work.worked.given

  pub endpoints_all : length endpoint ≡ l.copies
  endpoints_all = x.work.worked.endpoint_size ∙ sym built.laid.copies

  -- and the slots that are reached are flagged
  module _ (b : List ℕ) (reached : RowsReached l endpoint (take l.slots a) a b 0) (idle : Idle l b) where
    low : LowFlags l b
    low = subst (λ (p : List ℕ). (c j : ℕ) → c < l.copies → j < slots (slots_in l p) c → flag_of l p b c j ≤ 1) (sym reached.still.tables) reached.small

    rows : RowsFlagged l b endpoint
    unfolding RowsFlagged
    rows D L G =
        subst
        (λ (p : List ℕ). Tabled D L G l p → G.endpoints ≡ endpoint → (c : ℕ) → c < l.copies → ReachedRow G L (slot_marks D L G) (slots_in l p) (reached_by (flag_of l p b)) c)
        (sym reached.still.tables)
        (λ t q c h. reached.rows D L G t q c (omega arith) h)

    pub found : Found starts listed lengths nodes endpoint from to via s b l
    found =
        record {
          size = reached.still.size ∙ built.size;
          tabled = λ D L G g. subst (λ (p : List ℕ). Tabled D L G l p) (sym reached.still.tables) (built.tabled D L G g);
          names = names_same l a b (length starts) reached.still.tables built.names;
          all =
              record {
                ready = ready_same l a b reached.still.size reached.still.tables built_ready;
                idle = idle;
                copies_of = sym built.laid.copies;
                endpoints_of = endpoints_all;
                low = low;
                rows = rows;
              };
        }

-- so many slots are shown, with so many edges between them: those of the result
module _ (l : Layout) (nodes endpoint s t : List ℕ) (copies edges : ℕ) (x : AllReached l nodes endpoint s) (shown : AllShown l s t copies edges)
    (D : Design) (L : PathList) (G : Graph) (y : Tabled D L G l (take l.slots s)) (ends : G.endpoints ≡ endpoint) where
  abbrev B : ℕ → ℕ
  B = slots_in l (take l.slots s)

  shown_rows : (c : ℕ) → c < length G.nodes → ShownRow G L (slot_marks D L G) B (shown_by (flag_in l t)) c
  unfolding RowsFlagged
  shown_rows c h = shown.rows D L G y x.low (x.rows D L G y ends) c (omega (arith, y.copies))

  pub copies_are : copies ≡ length (true_graph G (paths_of L)).nodes
  copies_are =
      (shown.meets D L G y x.low).copies_are
      ∙ sym (length-map (shown_slots G B (shown_by (flag_in l t))) (λ (k : Slot). node_of G k.copy))
      ∙ ap length (shown_nodes D G L (slot_marks D L G) B (setting_of D L G l (take l.slots s) y) (shown_by (flag_in l t)) shown_rows)

  pub edges_are : EdgesInto G (edges_in G) → edges ≡ length (true_graph G (paths_of L)).edges
  edges_are into =
      let S = setting_of D L G l (take l.slots s) y in
      (shown.meets D L G y x.low).edges_are
      ∙ ap length
      (shown_edges_lem D G L (slot_marks D L G) B S (shown_by (flag_in l t)) shown_rows (edges_in G) into (from_shown L (slot_marks D L G) B (shown_by (flag_in l t))) (start_slot L (slot_marks D L G) B)
      (links D G L (slot_marks D L G) B S (shown_by (flag_in l t)) shown_rows))

-- after the count the flags are as before, and there is room where 33 and 34 pass
module _ (l : Layout) (nodes endpoint s t u pos room-nodes room-endpoint room-from room-to room-via : List ℕ) (copies edges n : ℕ) (x : AllReached l nodes endpoint s) (shown : AllShown l s t copies edges)
    (idle : Idle l t) (reset : FlagsReset l t u) (size : length pos ≡ n) (names : NamesIn l s n) (same : RoomsAlike room-nodes room-endpoint room-from room-to room-via) where
  pub fillable : copies ≤ length room-nodes → edges ≤ length room-from → Fillable l nodes endpoint u pos room-nodes room-endpoint room-from room-to room-via
  fillable h k =
      record {
        ready = ready_same l s u (reset.size ∙ shown.size) (reset.tables ∙ shown.tables) x.ready;
        idle = λ q m. reset.above (l.seen + q) (omega arith) ∙ idle q m;
        names = subst (λ (k : ℕ). NamesIn l u k) (sym size) (names_same l s u n (reset.tables ∙ shown.tables) names);
        nodes_size = x.copies_of;
        endpoint_size = x.endpoints_of;
        low = low_back l s t u copies edges shown reset x.low x.ready.design x.ready.list x.ready.graph x.ready.tabled;
        same = same;
        fits = room_back l s t u copies edges shown reset x.low (length room-nodes) (length room-from) h k;
      }

  pub rows_still : RowsFlagged l u endpoint
  rows_still = rows_back l s t u copies edges shown reset x.low endpoint x.rows

-- where there is room for a bound, nothing need be counted
pub fits_more : (l : Layout) (s : List ℕ) (copies edges nodes starts : ℕ) → Fits l s copies edges → copies ≤ nodes → edges ≤ starts → Fits l s nodes starts
unfolding Fits
fits_more l s copies edges nodes starts f h k D L G y = let z = f D L G y in (omega (arith, z.0), omega (arith, z.1))

pub fillable_now : (l : Layout) (nodes endpoint s pos room-nodes room-endpoint room-from room-to room-via : List ℕ) (copies edges : ℕ) → AllReached l nodes endpoint s → NamesIn l s (length pos)
    → RoomsAlike room-nodes room-endpoint room-from room-to room-via → Fits l s copies edges → copies ≤ length room-nodes → edges ≤ length room-from
    → Fillable l nodes endpoint s pos room-nodes room-endpoint room-from room-to room-via
fillable_now l nodes endpoint s pos room-nodes room-endpoint room-from room-to room-via copies edges x names same f h k =
    record {
      ready = x.ready;
      idle = x.idle;
      names = names;
      nodes_size = x.copies_of;
      endpoint_size = x.endpoints_of;
      low = x.low;
      same = same;
      fits = fits_more l s copies edges (length room-nodes) (length room-from) f h k;
    }

-- what is shown is within the bound
pub shown_within : (l : Layout) (nodes endpoint s t : List ℕ) (copies edges most all : ℕ) → AllReached l nodes endpoint s → AllShown l s t copies edges → Fits l s most all → (copies ≤ most) × (edges ≤ all)
unfolding Fits
shown_within l nodes endpoint s t copies edges most all x shown f =
    let r = x.ready in
    let p = shown.passed r.design r.list r.graph r.tabled x.low in
    let z = f r.design r.list r.graph r.tabled in
    (omega (arith, p.numbered, z.0), omega (arith, p.counted, z.1))
