-- Each call meets what `remove_from_design` or `remove_from_graph` says of it: that is what its contract says. So a series of calls ran as
-- the definitions ask, and demand 3 follows.
use mathlib.Core.Path.{◌≡◌, subst}
use mathlib.Core.List.{List, [], ◌∷◌, map}
use mathlib.Core.Option.{Option, none}
use Rattle.timing.specs.Graphs.{Design}
use Rattle.timing.specs.Calls.{GraphSlices}
use Rattle.timing.specs.Called.{removal_of, Meets, remove_on, Ran, CalledDemand3}
use Rattle.theorems.proofs.Called.{called_demand3}
use Rattle.called.specs.Removals.{Call, on_design, on_graph, design_of, earlier_of, called_of, Follows}

pub meets : (c : Call) → Meets (remove_on (design_of c) (earlier_of c) (removal_of (called_of c))) (called_of c)
meets (on_design c) =
    let e = c.learnt in
    record { answer = e.0; nodes = e.1; endpoints = e.2; starts = e.3; ends = e.4; names = e.5; scratch = e.6 }
meets (on_graph c) =
    let e = c.learnt in
    record { answer = e.0; nodes = e.1; endpoints = e.2; starts = e.3; ends = e.4; names = e.5; scratch = e.6 }

-- the same of a call on design D and what is held
pub meets_on : (D : Design) (held : Option GraphSlices) (c : Call) → design_of c ≡ D → earlier_of c ≡ held → Meets (remove_on D held (removal_of (called_of c))) (called_of c)
meets_on D held c d h =
    subst (λ (S : Option GraphSlices). Meets (remove_on D S (removal_of (called_of c))) (called_of c)) h
    (subst (λ (E : Design). Meets (remove_on E (earlier_of c) (removal_of (called_of c))) (called_of c)) d (meets c))

pub ran : (D : Design) (held : Option GraphSlices) (cs : List Call) → Follows D held cs → Ran D held (map called_of cs)
ran D held [] f = tt
ran D held (c ∷ cs) (d, h, f) = (meets_on D held c d h, ran D _ cs f)

-- Demand 3 over the calls themselves: whatever the two removals are lent, in any order, refused or not, if each is lent the design
-- and the front of the last unrefused room.
pub series_demand3 : (D : Design) (cs : List Call) → Follows D none cs → CalledDemand3 D (map called_of cs)
series_demand3 D cs f = called_demand3 D (map called_of cs) (ran D none cs f)
