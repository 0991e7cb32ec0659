-- The tests of a removal one after the other, and what the passes are asked where they all pass.
use Prim.Native.Nat.{ℕ, zero, suc, ◌+◌, ◌≤◌, ◌<◌}
use native.Mathlib.Omega.{arith}
use mathlib.Core.Path.{◌≡◌, refl, sym, ap, ◌∙◌, subst}
use mathlib.Core.Bool.{Bool, cond}
use mathlib.Core.List.{List, [], ◌∷◌, map}
use Rattle.std.specs.Prelude.{Result, Err}
use Rattle.timing.specs.Answers.{Verdict, Passed}
use Rattle.timing.specs.declared.GraphCounts.{GraphCounts}
use lib.Dec.{leb, leb→le}
use lib.IntN.{ℤ}
use lib.ListN.{length, get_or, take, length-map}
use Rattle.timing.specs.declared.Refusal.{Refusal}
use Rattle.timing.specs.Lists.{one_if, upto}
use Rattle.timing.specs.Graphs.{Design, design, Graph, is_endpoint, design_graph, edges_of}
use Rattle.timing.specs.Marks.{PathList, paths_of, path_list}
use Rattle.timing.specs.TrueGraphs.{true_graph}
use Rattle.timing.specs.WellFormed.{well_formed}
use Rattle.timing.specs.Refusals.{◌then◌}
use Rattle.timing.specs.Tests.{design_sizes, list_sizes, node_count, design_tests, list_tests, graph_test, Room, room_sizes}
use Rattle.timing.specs.Calls.{GraphSlices, graph_slices, graph_of, room_of, graph_sizes, Outcome, refused, outcome, removal, removal_tests, remove_from_design, remove_from_graph, largest_room, size_from_design, size_from_graph, graph_answer, nodes_after, endpoints_after, starts_after, ends_after, names_after, scratch_after}
use Rattle.theorems.proofs.Lists.{and_left, and_right, holds, length_upto}
use Rattle.timing.proofs.Verdicts.{then_passed, unless_passed, room_passed}
use Rattle.theorems.proofs.Early.{keeps, Early, early_refused, early_then, early_unless, room_sizes_early, chain_early}
use Rattle.theorems.proofs.Tested.{DesignFits, design_fits, ListFits, list_fits, formed, tests_count, no_delays}
use Rattle.theorems.proofs.Legal.{fits_legal, formed_legal}
use Rattle.removal.specs.Fill.{RoomsAlike}
use Rattle.removal.specs.Remove.{Worked, Workable, Removed, removal_outcome, AllRemoved, Sized, AllSized}
use Rattle.removal.specs.Endpoints.{EndpointsOf}
use Rattle.removal.specs.Numbered.{Numbered, Numberable, DesignRemoved, DesignSized}
use Rattle.removal.proofs.Showing.IntoLaws.{design_into, formed_into, length_edges}

-- the tests as they are called, one verdict handed on to the next, are those of the definitions
pub list_chain : (d l o t u : Verdict) → ((((d then l) then o) then t) then u) ≡ (d then (l then (o then (t then u))))
list_chain (Err x) l o t u = refl
list_chain Passed (Err x) o t u = refl
list_chain Passed Passed (Err x) t u = refl
list_chain Passed Passed Passed (Err x) u = refl
list_chain Passed Passed Passed Passed u = refl

-- 10 passes where 32 is tested
graph_chain : (d l g o t u c w : Verdict) → (t ≡ Passed → c ≡ Passed)
    → ((d then (l then ((g then o) then (t then u)))) then (c then w)) ≡ (d then (l then (g then (o then (t then (u then w))))))
graph_chain (Err x) l g o t u c w f = refl
graph_chain Passed (Err x) g o t u c w f = refl
graph_chain Passed Passed (Err x) o t u c w f = refl
graph_chain Passed Passed Passed (Err x) t u c w f = refl
graph_chain Passed Passed Passed Passed (Err x) u c w f = refl
graph_chain Passed Passed Passed Passed Passed (Err x) c w f = refl
graph_chain Passed Passed Passed Passed Passed Passed c w f = ap (λ (v : Verdict). v then w) (f refl)

pub graph_called : (n : ℕ) (starts ends : List ℕ) (early late : List ℤ) (marked : List ℕ) (L : PathList) (g o : Verdict) (G : Graph)
    → let D = design n starts ends early late marked in
    ((design_sizes D then (list_sizes L then ((g then o) then (design_tests D then list_tests D L)))) then (node_count n then graph_test (design n starts ends [] [] marked) G))
    ≡ (design_sizes D then (list_sizes L then (g then (o then (design_tests D then (list_tests D L then graph_test D G))))))
graph_called n starts ends early late marked L g o G =
    let D = design n starts ends early late marked in
    rw (no_delays n starts ends early late marked G) (graph_chain (design_sizes D) (list_sizes L) g o (design_tests D) (list_tests D L) (node_count n) (graph_test D G) (tests_count D))

-- what the tests before 31 say where they pass
record Tested (d l o t u : Verdict) : Type 0 where
  sizes : d ≡ Passed
  sums : l ≡ Passed
  others : o ≡ Passed
  design : t ≡ Passed
  list : u ≡ Passed

tested : (d l o t u : Verdict) → (d then (l then (o then (t then u)))) ≡ Passed → Tested d l o t u
tested d l o t u e =
    let t₁ = then_passed d (l then (o then (t then u))) e in
    let t₂ = then_passed l (o then (t then u)) t₁.1 in
    let t₃ = then_passed o (t then u) t₂.1 in
    let t₄ = then_passed t u t₃.1 in
    record { sizes = t₁.0; sums = t₂.0; others = t₃.0; design = t₄.0; list = t₄.1 }

-- what 30 says of the room
pub rooms_alike : (room-nodes room-endpoint room-from room-to room-via : List ℕ) → graph_sizes (graph_slices room-nodes room-endpoint room-from room-to room-via) ≡ Passed
    → RoomsAlike room-nodes room-endpoint room-from room-to room-via
rooms_alike room-nodes room-endpoint room-from room-to room-via e =
    let z = room_passed (room_of (graph_slices room-nodes room-endpoint room-from room-to room-via)) e in (z.0, (z.1, z.2))

-- an answer, the room and the scratch, as the contracts state them
abbrev pub Stated : Outcome Graph → Result GraphCounts Refusal → List ℕ → List ℕ → List ℕ → List ℕ → List ℕ → List ℕ → List ℕ → List ℕ → List ℕ → List ℕ → List ℕ → List ℕ → Type 0
Stated o r room-nodes room-endpoint room-from room-to room-via s room-nodes' room-endpoint' room-from' room-to' room-via' s' =
    (r ≡ graph_answer o)
    × (room-nodes' ≡ nodes_after o room-nodes)
    × (room-endpoint' ≡ endpoints_after o room-endpoint)
    × (room-from' ≡ starts_after o room-from)
    × (room-to' ≡ ends_after o room-to)
    × (room-via' ≡ names_after o room-via)
    × (s' ≡ scratch_after o s)

-- a refusal before 33 leaves the scratch
scratch_kept : (x : Refusal) (s : List ℕ) → keeps x.number → s ≡ scratch_after {A = Graph} (refused x) s
scratch_kept x s e = ap (λ (b : Bool). cond b (map (λ (w : ℕ). 0) s) s) (sym e)

pub sized_kept : (x : Refusal) (s : List ℕ) → keeps x.number → Sized (refused x) (Err x) s s
sized_kept x s e = (refl, scratch_kept x s e)

pub stated_refused : (x : Refusal) (room-nodes room-endpoint room-from room-to room-via s : List ℕ) → keeps x.number → Stated (refused x) (Err x) room-nodes room-endpoint room-from room-to room-via s room-nodes room-endpoint room-from room-to room-via s
stated_refused x room-nodes room-endpoint room-from room-to room-via s e =
    (refl, refl, refl, refl, refl, refl, scratch_kept x s e)

pub stated_removed : (o : Outcome Graph) (r : Result GraphCounts Refusal) (room-nodes room-endpoint room-from room-to room-via s room-nodes' room-endpoint' room-from' room-to' room-via' s' : List ℕ) → Removed o r room-nodes room-endpoint room-from room-to room-via s room-nodes' room-endpoint' room-from' room-to' room-via' s'
    → Stated o r room-nodes room-endpoint room-from room-to room-via s room-nodes' room-endpoint' room-from' room-to' room-via' s'
stated_removed o r room-nodes room-endpoint room-from room-to room-via s room-nodes' room-endpoint' room-from' room-to' room-via' s' x =
    (x.answered.answer, x.answered.nodes, x.answered.endpoints, x.answered.starts, x.answered.ends, x.answered.names, x.scratch)

-- a test after the first five
chain_on : (d l o t u w : Verdict) → ((d then (l then (o then (t then u)))) then w) ≡ (d then (l then (o then (t then (u then w)))))
chain_on (Err x) l o t u w = refl
chain_on Passed (Err x) o t u w = refl
chain_on Passed Passed (Err x) t u w = refl
chain_on Passed Passed Passed (Err x) u w = refl
chain_on Passed Passed Passed Passed u w = refl

chain_on_two : (d l g o t u w v : Verdict)
    → ((d then (l then (g then (o then (t then (u then w)))))) then v) ≡ (d then (l then (g then (o then (t then (u then (w then v)))))))
chain_on_two (Err x) l g o t u w v = refl
chain_on_two Passed (Err x) g o t u w v = refl
chain_on_two Passed Passed g o t u w v = chain_on g o t u w v

join_two : (d l g o t u w : Verdict) → (d then (l then (g then (o then (t then (u then w)))))) ≡ ((d then (l then ((g then o) then (t then u)))) then w)
join_two (Err x) l g o t u w = refl
join_two Passed (Err x) g o t u w = refl
join_two Passed Passed (Err x) o t u w = refl
join_two Passed Passed Passed (Err x) t u w = refl
join_two Passed Passed Passed Passed (Err x) u w = refl
join_two Passed Passed Passed Passed Passed u w = refl

-- one test further
after : (v w x : Verdict) → v ≡ x → (v then w) ≡ (x then w)
after v w x e = ap (λ (y : Verdict). y then w) e

-- The tests before 31, as they are called: with the verdict of the room's lengths, which is a pass where no room is lent.
module _ (n : ℕ) (starts ends : List ℕ) (early late : List ℤ) (marked listed lengths : List ℕ) (room : Verdict) where
  abbrev D : Design
  D = design n starts ends early late marked

  abbrev L : PathList
  L = path_list listed lengths

  abbrev pub design_before : Verdict
  design_before = design_sizes D then (list_sizes L then (room then (design_tests D then list_tests D L)))

  -- Of the design: what its passing gives, and what is true of the outcome in a room.
  module _ (e : design_before ≡ Passed) where
    all : Tested (design_sizes D) (list_sizes L) room (design_tests D) (list_tests D L)
    all = tested (design_sizes D) (list_sizes L) room (design_tests D) (list_tests D L) e

    pub design_room : room ≡ Passed
    design_room = all.others

    design_fit : DesignFits D
    design_fit = design_fits D all.sizes all.design

    list_fit : ListFits D L
    list_fit = list_fits D L all.sums all.list

    pub design_numberable : Numberable starts ends marked listed lengths n
    design_numberable = record { early = early; late = late; design_fits = design_fit; list_fits = list_fit }

    pub design_removed : (r : Result GraphCounts Refusal) (room-nodes room-endpoint room-from room-to room-via s room-nodes' room-endpoint' room-from' room-to' room-via' s' : List ℕ)
        → DesignRemoved starts ends marked listed lengths n r room-nodes room-endpoint room-from room-to room-via s room-nodes' room-endpoint' room-from' room-to' room-via' s'
        → Removed (removal_outcome D L (design_graph D) (room_of (graph_slices room-nodes room-endpoint room-from room-to room-via)) (length s)) r room-nodes room-endpoint room-from room-to room-via s room-nodes' room-endpoint' room-from' room-to' room-via' s'
    unfolding DesignRemoved
    design_removed r room-nodes room-endpoint room-from room-to room-via s room-nodes' room-endpoint' room-from' room-to' room-via' s' x =
        x early late design_fit list_fit

    pub design_sized : (r : Result GraphCounts Refusal) (s s' : List ℕ) → DesignSized starts ends marked listed lengths n r s s' → Sized (removal_outcome D L (design_graph D) largest_room (length s)) r s s'
    unfolding DesignSized
    design_sized r s s' x = x early late design_fit list_fit

  module _ (R : Room) (alike : room ≡ room_sizes R) (words : ℕ) (P : Outcome Graph → Type 0) where
    design_is : (v : Verdict) → design_before ≡ v → P (outcome (v then removal_tests D (design_graph D) (removal L R words)) (true_graph (design_graph D) (paths_of L)))
        → P (remove_from_design D (removal L R words))
    unfolding remove_from_design
    design_is v e p =
        let G = design_graph D in
        let rest = removal_tests D G (removal L R words) in
        subst (λ (w : Verdict). P (outcome w (true_graph G (paths_of L))))
        (sym (after design_before rest v e)
        ∙ chain_on (design_sizes D) (list_sizes L) room (design_tests D) (list_tests D L) rest
        ∙ ap (λ (o : Verdict). design_sizes D then (list_sizes L then (o then (design_tests D then (list_tests D L then rest))))) alike)
        p

    pub design_refused : (x : Refusal) → design_before ≡ Err x → (keeps x.number → P (refused x)) → P (remove_from_design D (removal L R words))
    design_refused x e p =
        design_is (Err x) e (p (early_refused design_before x (chain_early D L room (subst Early (sym alike) (room_sizes_early R))) e))

    pub design_passed : design_before ≡ Passed → P (removal_outcome D L (design_graph D) R words) → P (remove_from_design D (removal L R words))
    design_passed e p = design_is Passed e p

  -- The same of an earlier graph.
  module _ (nodes endpoint from to via : List ℕ) where
    abbrev S : GraphSlices
    S = graph_slices nodes endpoint from to via

    abbrev pub graph_before : Verdict
    graph_before = design_sizes D then (list_sizes L then (graph_sizes S then (room then (design_tests D then (list_tests D L then graph_test D (graph_of S))))))

    -- with the tests of lengths as one
    joined : graph_before ≡ ((design_sizes D then (list_sizes L then ((graph_sizes S then room) then (design_tests D then list_tests D L)))) then graph_test D (graph_of S))
    joined = join_two (design_sizes D) (list_sizes L) (graph_sizes S) room (design_tests D) (list_tests D L) (graph_test D (graph_of S))

    module _ (e : graph_before ≡ Passed) where
      passed : ((design_sizes D then (list_sizes L then ((graph_sizes S then room) then (design_tests D then list_tests D L)))) ≡ Passed) × (graph_test D (graph_of S) ≡ Passed)
      passed = then_passed (design_sizes D then (list_sizes L then ((graph_sizes S then room) then (design_tests D then list_tests D L)))) (graph_test D (graph_of S)) (sym joined ∙ e)

      every : Tested (design_sizes D) (list_sizes L) (graph_sizes S then room) (design_tests D) (list_tests D L)
      every = tested (design_sizes D) (list_sizes L) (graph_sizes S then room) (design_tests D) (list_tests D L) passed.0

      sizes : (graph_sizes S ≡ Passed) × (room ≡ Passed)
      sizes = then_passed (graph_sizes S) room every.others

      pub graph_room : room ≡ Passed
      graph_room = sizes.1

      worked : Worked D L (graph_of S) starts listed lengths nodes endpoint from to via
      worked =
          let f = design_fits D every.sizes every.design in
          let t = holds (well_formed D (graph_of S)) (unless_passed 32 (well_formed D (graph_of S)) passed.1) in
          let w = formed D (graph_of S) t in
          let z = room_passed (room_of S) sizes.0 in
          record {
            given =
                record {
                  legal = formed_legal D (graph_of S) f w;
                  fits = list_fits D L every.sums every.list;
                  design = refl;
                  list = refl;
                  copies = refl;
                  edges = refl;
                  ends = z.1;
                  names = z.2;
                  few_copies = leb→le (length nodes) 16384 (and_left (leb (length nodes) 16384) (leb (length (graph_of S).edges) 65536) w.few);
                  few_edges = omega (arith, leb→le (length (graph_of S).edges) 65536 (and_right (leb (length nodes) 16384) (leb (length (graph_of S).edges) 65536) w.few), length_edges from to via z.1 z.2);
                  into = formed_into (graph_of S) w.rises;
                };
            endpoints = refl;
            endpoint_size = z.0;
            fits = f;
          }

      pub graph_workable : Workable starts listed lengths nodes endpoint from to via
      graph_workable = record { design = D; list = L; graph = graph_of S; worked = worked }

      pub graph_removed : (r : Result GraphCounts Refusal) (room-nodes room-endpoint room-from room-to room-via s room-nodes' room-endpoint' room-from' room-to' room-via' s' : List ℕ)
          → AllRemoved starts listed lengths nodes endpoint from to via r room-nodes room-endpoint room-from room-to room-via s room-nodes' room-endpoint' room-from' room-to' room-via' s'
          → Removed (removal_outcome D L (graph_of S) (room_of (graph_slices room-nodes room-endpoint room-from room-to room-via)) (length s)) r room-nodes room-endpoint room-from room-to room-via s room-nodes' room-endpoint' room-from' room-to' room-via' s'
      unfolding AllRemoved
      graph_removed r room-nodes room-endpoint room-from room-to room-via s room-nodes' room-endpoint' room-from' room-to' room-via' s' x = x D L (graph_of S) worked

      pub graph_sized : (r : Result GraphCounts Refusal) (s s' : List ℕ) → AllSized starts listed lengths nodes endpoint from to via r s s' → Sized (removal_outcome D L (graph_of S) largest_room (length s)) r s s'
      unfolding AllSized
      graph_sized r s s' x = x D L (graph_of S) worked

    module _ (R : Room) (alike : room ≡ room_sizes R) (words : ℕ) (P : Outcome Graph → Type 0) where
      graph_is : (v : Verdict) → graph_before ≡ v → P (outcome (v then removal_tests D (graph_of S) (removal L R words)) (true_graph (graph_of S) (paths_of L)))
          → P (remove_from_graph D S (removal L R words))
      unfolding remove_from_graph
      graph_is v e p =
          let rest = removal_tests D (graph_of S) (removal L R words) in
          subst (λ (w : Verdict). P (outcome w (true_graph (graph_of S) (paths_of L))))
          (sym (after graph_before rest v e)
          ∙ chain_on_two (design_sizes D) (list_sizes L) (graph_sizes S) room (design_tests D) (list_tests D L) (graph_test D (graph_of S)) rest
          ∙ ap (λ (o : Verdict). design_sizes D then (list_sizes L then (graph_sizes S then (o then (design_tests D then (list_tests D L then (graph_test D (graph_of S) then rest))))))) alike)
          p

      graph_early : Early graph_before
      graph_early =
          subst Early (sym joined)
          (early_then (design_sizes D then (list_sizes L then ((graph_sizes S then room) then (design_tests D then list_tests D L)))) (graph_test D (graph_of S))
          (chain_early D L (graph_sizes S then room)
          (early_then (graph_sizes S) room (room_sizes_early (room_of S)) (subst Early (sym alike) (room_sizes_early R))))
          (early_unless 32 refl (well_formed D (graph_of S))))

      pub graph_refused : (x : Refusal) → graph_before ≡ Err x → (keeps x.number → P (refused x)) → P (remove_from_graph D S (removal L R words))
      graph_refused x e p = graph_is (Err x) e (p (early_refused graph_before x graph_early e))

      pub graph_passed : graph_before ≡ Passed → P (removal_outcome D L (graph_of S) R words) → P (remove_from_graph D S (removal L R words))
      graph_passed e p = graph_is Passed e p

-- where no room is lent, 30 has none to test
pub no_room : Passed ≡ room_sizes largest_room
no_room = refl

-- the size is the outcome in the largest room
module _ (P : Outcome Graph → Type 0) (D : Design) (L : PathList) (words : ℕ) where
  pub size_design : P (remove_from_design D (removal L largest_room words)) → P (size_from_design D L words)
  unfolding size_from_design
  size_design p = p

  pub size_graph : (S : GraphSlices) → P (remove_from_graph D S (removal L largest_room words)) → P (size_from_graph D S L words)
  unfolding size_from_graph
  size_graph S p = p

-- the passes are asked about the design as a graph, and answer about it
module _ (starts ends marked listed lengths : List ℕ) (n : ℕ) (numbers endpoint names : List ℕ) (made : Numbered n starts marked numbers endpoint names) where
  numbered_worked : (early late : List ℤ) → DesignFits (design n starts ends early late marked) → ListFits (design n starts ends early late marked) (path_list listed lengths)
      → Worked (design n starts ends early late marked) (path_list listed lengths) (design_graph (design n starts ends early late marked)) starts listed lengths (take n numbers) (take n endpoint) starts ends (take (length starts) names)
  unfolding design_graph EndpointsOf
  numbered_worked early late f g =
      let D = design n starts ends early late marked in
      let m = length starts in
      record {
        given =
            record {
              legal = fits_legal D f;
              fits = g;
              design = refl;
              list = refl;
              copies = sym made.nodes;
              edges = ap (λ (k : List ℕ). edges_of starts ends k) (sym made.edges);
              ends = f.ends;
              names = ap length made.edges ∙ length_upto m 0;
              few_copies = omega (arith, ap length made.nodes, length_upto n 0, f.few_nodes);
              few_edges = omega (arith, f.few_edges);
              into = design_into D;
            };
        endpoints = sym (made.endpoints ends early late f.ends);
        endpoint_size =
            ap length (made.endpoints ends early late f.ends) ∙ length-map (upto n 0) (λ v. one_if (is_endpoint D v)) ∙ sym (ap length made.nodes);
        fits = f;
      }

  pub numbered_workable : Numberable starts ends marked listed lengths n → Workable starts listed lengths (take n numbers) (take n endpoint) starts ends (take (length starts) names)
  numbered_workable x =
      record {
        design = design n starts ends x.early x.late marked;
        list = path_list listed lengths;
        graph = design_graph (design n starts ends x.early x.late marked);
        worked = numbered_worked x.early x.late x.design_fits x.list_fits;
      }

  pub numbered_removed : (r : Result GraphCounts Refusal) (room-nodes room-endpoint room-from room-to room-via s room-nodes' room-endpoint' room-from' room-to' room-via' s' : List ℕ)
      → AllRemoved starts listed lengths (take n numbers) (take n endpoint) starts ends (take (length starts) names) r room-nodes room-endpoint room-from room-to room-via s room-nodes' room-endpoint' room-from' room-to' room-via' s'
      → DesignRemoved starts ends marked listed lengths n r room-nodes room-endpoint room-from room-to room-via s room-nodes' room-endpoint' room-from' room-to' room-via' s'
  unfolding AllRemoved DesignRemoved
  numbered_removed r room-nodes room-endpoint room-from room-to room-via s room-nodes' room-endpoint' room-from' room-to' room-via' s' x early late f g =
      x (design n starts ends early late marked) (path_list listed lengths) (design_graph (design n starts ends early late marked)) (numbered_worked early late f g)

  pub numbered_sized : (r : Result GraphCounts Refusal) (s s' : List ℕ) → AllSized starts listed lengths (take n numbers) (take n endpoint) starts ends (take (length starts) names) r s s'
      → DesignSized starts ends marked listed lengths n r s s'
  unfolding AllSized DesignSized
  numbered_sized r s s' x early late f g =
      x (design n starts ends early late marked) (path_list listed lengths) (design_graph (design n starts ends early late marked)) (numbered_worked early late f g)

-- places that hold their own numbers
pub front_upto : (n i : ℕ) (l : List ℕ) → n ≤ length l → ((k : ℕ) → k < n → get_or l k 0 ≡ i + k) → take n l ≡ upto n i
front_upto zero i l h f = refl
front_upto (suc n) i [] h f = absurd (omega arith)
front_upto (suc n) i (x ∷ l) h f =
    let e : x ≡ i = omega (arith, f 0 (omega arith)) in
    rw e (ap (λ (t : List ℕ). i ∷ t) (front_upto n (suc i) l (omega arith) (λ k m. omega (arith, f (suc k) (omega arith)))))
