-- Demand 3 of a series of calls, from what each call met: what the caller lends on is, call by call, the graph that the definition
-- of a series holds, so that demand 3 of the definitions is that of the calls.
use Prim.Native.Nat.{ℕ}
use mathlib.Core.Path.{◌≡◌, refl, sym, ap, ◌∙◌, subst}
use mathlib.Core.List.{List, [], ◌∷◌, map}
use mathlib.Core.Option.{Option, none, some}
use Rattle.std.specs.Prelude.{Result, Err}
use Rattle.timing.specs.Answers.{Verdict, Passed}
use Rattle.timing.specs.declared.GraphCounts.{GraphCounts}
use Rattle.timing.specs.declared.Refusal.{Refusal}
use lib.ListN.{length, take}
use Rattle.timing.specs.Graphs.{Design, Graph, design_graph}
use Rattle.timing.specs.Marks.{paths_of}
use Rattle.timing.specs.TrueGraphs.{true_graph}
use Rattle.timing.specs.Calls.{GraphSlices, graph_slices, slices_of, Outcome, made, refused, outcome, Removal}
use Rattle.timing.specs.Series.{remove_next, held_next, verdict_of, verdicts, held_after}
use Rattle.timing.specs.Called.{Called, removal_of, Meets, remove_on, held_slices, last_held, Ran, verdict_in, counts_next, last_counts, slices_held, counts_held, CalledDemand3}
use Rattle.theorems.proofs.Stands.{true_sizes}
use Rattle.theorems.proofs.Series.{design_verdict, graph_verdict, from_design, from_graph, demand3}
use Rattle.theorems.proofs.Records.{front_made}

on_held : (D : Design) (h : Option Graph) (r : Removal) → remove_on D (slices_held h) r ≡ remove_next D h r
on_held D none r = refl
on_held D (some G) r = refl

-- what a removal makes has an endpoint number for each copy
abbrev pub Sized : Outcome Graph → Type 0
Sized (made G) = length G.endpoints ≡ length G.nodes
Sized (refused r) = Unit {0}

sized : (G : Graph) (L : List (List ℕ)) (v : Verdict) → Sized (outcome v (true_graph G L))
sized G L Passed = true_sizes G L
sized G L (Err r) = tt

next_sized : (D : Design) (h : Option Graph) (r : Removal) → Sized (remove_next D h r)
next_sized D none r = subst Sized (sym (from_design D r)) (sized (design_graph D) (paths_of r.list) (design_verdict D r))
next_sized D (some G) r = subst Sized (sym (from_graph D G r)) (sized G (paths_of r.list) (graph_verdict D (slices_of G) r))

-- what the caller lends on is the graph that the definition holds
pub front_held : (h : Option Graph) (c : Called) (o : Outcome Graph) → Sized o → Meets o c → held_slices c.answer c.after (slices_held h) ≡ slices_held (held_next h o)
front_held h c (made G) z m =
    ap (λ (a : Result GraphCounts Refusal). held_slices a c.after (slices_held h)) m.answer
    ∙ (λ i.
    some (graph_slices (take (length G.nodes) (m.nodes i)) (take (length G.nodes) (m.endpoints i)) (take (length G.edges) (m.starts i)) (take (length G.edges) (m.ends i)) (take (length G.edges) (m.names i))))
    ∙ ap some (front_made G c.room z)
front_held h c (refused r) z m = ap (λ (a : Result GraphCounts Refusal). held_slices a c.after (slices_held h)) m.answer

-- and the last counts are that graph's
counts_held_lem : (h : Option Graph) (c : Called) (o : Outcome Graph) → Meets o c → counts_next (counts_held h) c.answer ≡ counts_held (held_next h o)
counts_held_lem h c (made G) m = ap (counts_next (counts_held h)) m.answer
counts_held_lem h c (refused r) m = ap (counts_next (counts_held h)) m.answer

same_verdict : (c : Called) (o : Outcome Graph) → Meets o c → verdict_in c.answer ≡ verdict_of o
same_verdict c (made G) m = ap verdict_in m.answer
same_verdict c (refused r) m = ap verdict_in m.answer

-- a series of calls and the series of the definitions go side by side
pub record Beside (D : Design) (h : Option Graph) (cs : List Called) : Type 0 where
  pub refusals : map (λ (c : Called). verdict_in c.answer) cs ≡ verdicts D h (map removal_of cs)
  pub slices : last_held (slices_held h) cs ≡ slices_held (held_after D h (map removal_of cs))
  pub counts : last_counts (counts_held h) cs ≡ counts_held (held_after D h (map removal_of cs))

pub ran_beside : (D : Design) (h : Option Graph) (cs : List Called) → Ran D (slices_held h) cs → Beside D h cs
ran_beside D h [] r = record { refusals = refl; slices = refl; counts = refl }
ran_beside D h (c ∷ cs) r =
    let o : Outcome Graph = remove_next D h (removal_of c) in
    let m : Meets o c = subst (λ (x : Outcome Graph). Meets x c) (on_held D h (removal_of c)) r.0 in
    let f = front_held h c o (next_sized D h (removal_of c)) m in
    let below = ran_beside D (held_next h o) cs (subst (λ (x : Option GraphSlices). Ran D x cs) f r.1) in
    record {
      refusals = λ i. same_verdict c o m i ∷ below.refusals i;
      slices = ap (λ (x : Option GraphSlices). last_held x cs) f ∙ below.slices;
      counts = ap (λ (x : Option (Result GraphCounts Refusal)). last_counts x cs) (counts_held_lem h c o m) ∙ below.counts;
    }

pub called_demand3 : (D : Design) (cs : List Called) → Ran D none cs → CalledDemand3 D cs
called_demand3 D cs r =
    let s = ran_beside D none cs r in
    let d = demand3 D (map removal_of cs) in
    record {
      refusals = s.refusals ∙ d.refusals;
      held = held_after D none (map removal_of cs);
      slices = s.slices;
      counts = s.counts;
      graph = d.graph;
    }
