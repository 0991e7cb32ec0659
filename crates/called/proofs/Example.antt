-- The hypotheses of `series_demand3` can be met: whatever ran as the definitions ask is a series of calls. So the example in
-- `theorems/proofs/CalledExample`, which has refused calls in it, is one.
use mathlib.Core.Path.{◌≡◌, refl, sym, subst}
use mathlib.Core.List.{List, [], ◌∷◌, map}
use mathlib.Core.Option.{Option, none, some}
use denote.Bor.{Bor}
use denote.MutBor.{MutBor}
use lib.ListN.{length}
use Rattle.timing.specs.Graphs.{Design}
use Rattle.timing.specs.Marks.{path_list}
use Rattle.timing.specs.Calls.{GraphSlices}
use Rattle.timing.specs.Called.{Called, removal_of, Meets, remove_on, held_slices, Ran}
use Rattle.timing.specs.Told.{Telling, Tells, size_on, Foretells}
use Rattle.timing.proofs.Marked.{deck_a}
use Rattle.theorems.proofs.CalledExample.{series, series_ran, made_with, told_a, told, filled}
use Rattle.called.specs.Removals.{Call, on_design, on_graph, design_of, earlier_of, called_of, Follows}
use Rattle.called.specs.Sizes.{SizeCall, of_design, of_graph, sized_design, sized_earlier, telling_of}
use Rattle.called.proofs.Told.{call_foretells}

-- some slice that holds x
abbrev pub lent : {X : Type 0} → X → Bor X
lent x = record { ref_ptr = (0, 0); now = x }

-- and one lent to be written to
abbrev pub lent_mut : {X : Type 0} → X → MutBor X
lent_mut x = record { ref_ptr = (0, 0); ghost_name = 0; now = x }

pub call_on : (D : Design) (held : Option GraphSlices) (c : Called) → Meets (remove_on D held (removal_of c)) c
    → (k : Call) × (design_of k ≡ D) × (earlier_of k ≡ held) × (called_of k ≡ c)
call_on D none c m = (
  on_design record {
    lifetimes = ([], ([], ([], ([], ([], ([], ([], ([], ([], ([], ([], ([], ([], tt)))))))))))));
    passed = (D.nodes, (lent D.starts, (lent D.ends, (lent D.early, (lent D.late, (lent D.marked, (lent c.listed, (lent c.lengths, (lent_mut c.room.nodes, (lent_mut c.room.endpoints, (lent_mut c.room.starts, (lent_mut c.room.ends, (lent_mut c.room.names, (lent_mut c.scratch, tt))))))))))))));
    answer = c.answer;
    left = (D.nodes, (lent D.starts, (lent D.ends, (lent D.early, (lent D.late, (lent D.marked, (lent c.listed, (lent c.lengths, (lent_mut c.after.nodes, (lent_mut c.after.endpoints, (lent_mut c.after.starts, (lent_mut c.after.ends, (lent_mut c.after.names, (lent_mut c.scratch_at, tt))))))))))))));
    learnt = (m.answer, m.nodes, m.endpoints, m.starts, m.ends, m.names, m.scratch);
  },
  refl,
  refl,
  refl,
)
call_on D (some S) c m = (
  on_graph record {
    lifetimes = ([], ([], ([], ([], ([], ([], ([], ([], ([], ([], ([], ([], ([], ([], ([], ([], ([], ([], tt))))))))))))))))));
    passed = (D.nodes, (lent D.starts, (lent D.ends, (lent D.early, (lent D.late, (lent D.marked, (lent c.listed, (lent c.lengths, (lent S.nodes, (lent S.endpoints, (lent S.starts, (lent S.ends, (lent S.names, (lent_mut c.room.nodes, (lent_mut c.room.endpoints, (lent_mut c.room.starts, (lent_mut c.room.ends, (lent_mut c.room.names, (lent_mut c.scratch, tt)))))))))))))))))));
    answer = c.answer;
    left = (D.nodes, (lent D.starts, (lent D.ends, (lent D.early, (lent D.late, (lent D.marked, (lent c.listed, (lent c.lengths, (lent S.nodes, (lent S.endpoints, (lent S.starts, (lent S.ends, (lent S.names, (lent_mut c.after.nodes, (lent_mut c.after.endpoints, (lent_mut c.after.starts, (lent_mut c.after.ends, (lent_mut c.after.names, (lent_mut c.scratch_at, tt)))))))))))))))))));
    learnt = (m.answer, m.nodes, m.endpoints, m.starts, m.ends, m.names, m.scratch);
  },
  refl,
  refl,
  refl,
)

pub calls_of : (D : Design) (held : Option GraphSlices) (cs : List Called) → Ran D held cs → (ks : List Call) × Follows D held ks × (map called_of ks ≡ cs)
calls_of D held [] r = ([], tt, refl)
calls_of D held (c ∷ cs) (m, r) =
    let k = call_on D held c m in
    let below = calls_of D (held_slices c.answer c.after held) cs r in
    let on : Follows D (held_slices (called_of k.0).answer (called_of k.0).after held) below.0 =
    subst (λ (x : Called). Follows D (held_slices x.answer x.after held) below.0) (sym k.3) below.1 in
    (k.0 ∷ below.0, (k.1, k.2, on), λ i. k.3 i ∷ below.2 i)

pub example : (ks : List Call) × Follows deck_a none ks × (map called_of ks ≡ series)
example = calls_of deck_a none series series_ran

-- The same of a call that tells a size.
size_of : (D : Design) (held : Option GraphSlices) (t : Telling) → Tells (size_on D held (path_list t.listed t.lengths) (length t.scratch)) t
    → (k : SizeCall) × (sized_design k ≡ D) × (sized_earlier k ≡ held) × (telling_of k ≡ t)
size_of D none t m = (
  of_design record {
    lifetimes = ([], ([], ([], ([], ([], ([], ([], ([], tt))))))));
    passed = (D.nodes, (lent D.starts, (lent D.ends, (lent D.early, (lent D.late, (lent D.marked, (lent t.listed, (lent t.lengths, (lent_mut t.scratch, tt)))))))));
    answer = t.answer;
    left = (D.nodes, (lent D.starts, (lent D.ends, (lent D.early, (lent D.late, (lent D.marked, (lent t.listed, (lent t.lengths, (lent_mut t.scratch_at, tt)))))))));
    learnt = (m.answer, m.scratch);
  },
  refl,
  refl,
  refl,
)
size_of D (some S) t m = (
  of_graph record {
    lifetimes = ([], ([], ([], ([], ([], ([], ([], ([], ([], ([], ([], ([], ([], tt)))))))))))));
    passed = (D.nodes, (lent D.starts, (lent D.ends, (lent D.early, (lent D.late, (lent D.marked, (lent t.listed, (lent t.lengths, (lent S.nodes, (lent S.endpoints, (lent S.starts, (lent S.ends, (lent S.names, (lent_mut t.scratch, tt))))))))))))));
    answer = t.answer;
    left = (D.nodes, (lent D.starts, (lent D.ends, (lent D.early, (lent D.late, (lent D.marked, (lent t.listed, (lent t.lengths, (lent S.nodes, (lent S.endpoints, (lent S.starts, (lent S.ends, (lent S.names, (lent_mut t.scratch_at, tt))))))))))))));
    learnt = (m.answer, m.scratch);
  },
  refl,
  refl,
  refl,
)

-- Deck A told and then filled, by calls.
pub told_example : (t : SizeCall) × (c : Call) × (telling_of t ≡ told_a) × (called_of c ≡ made_with 96) × Foretells deck_a none (telling_of t) (called_of c)
told_example =
    let t = size_of deck_a none told_a told in
    let c = call_on deck_a none (made_with 96) filled in
    (t.0, c.0, t.3, c.3, call_foretells deck_a none t.0 c.0 t.1 t.2 c.1 c.2)
