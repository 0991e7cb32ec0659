-- Where the tests pass, the passes have what they ask.
use Prim.Native.Nat.{ℕ, ◌≤◌, ◌<◌}
use native.Mathlib.Omega.{arith}
use mathlib.Core.Path.{◌≡◌}
use mathlib.Core.Logic.{⊎_elim}
use mathlib.Core.Bool.{Bool, ◌&&◌}
use mathlib.Core.List.{List, [], ◌∷◌}
use Rattle.timing.specs.Answers.{Verdict, Passed}
use lib.Dec.{T, eqb, ltb, leb, eqb→eq, ltb→lt, leb→le, le→leb}
use lib.IntN.{ℤ, nat_abs}
use lib.ListN.{length}
use Rattle.timing.specs.Lists.{each_next}
use Rattle.timing.specs.Graphs.{Design, Edge}
use Rattle.timing.specs.WellFormed.{edge_rises, well_formed}
use Rattle.timing.specs.Tests.{design_sizes, design_tests}
use Rattle.timing.specs.Calls.{GraphSlices, graph_of, room_of, graph_sizes, timing_tests}
use Rattle.theorems.proofs.Lists.{and_intro, and_left, and_right, or_cases}
use Rattle.timing.proofs.Verdicts.{room_passed}
use Rattle.theorems.proofs.Tested.{design_fits, formed, timing_passed}
use Rattle.theorems.proofs.Runs.{Onward}
use Rattle.theorems.proofs.Legal.{well_formed_legal}
use Rattle.times.specs.Passes.{delay_of, Fit}

pub record Ready (D : Design) (S : GraphSlices) (t : ℕ) (lent : Verdict) : Type 0 where
  pub late : Fit D.late S
  pub early : Fit D.early S
  pub onward : Onward (graph_of S)
  pub allowed : t ≤ 1000000000
  pub endpoints : length S.endpoints ≡ length S.nodes
  pub places : lent ≡ Passed

next_weaker : {A : Type 0} (p q : A → A → Bool) → ((x y : A) → T (p x y) → T (q x y)) → (l : List A) → T (each_next p l) → T (each_next q l)
next_weaker p q f [] t = tt
next_weaker p q f (x ∷ []) t = tt
next_weaker p q f (x ∷ y ∷ l) t =
    and_intro (q x y) (each_next q (y ∷ l)) (f x y (and_left (p x y) (each_next p (y ∷ l)) t)) (next_weaker p q f (y ∷ l) (and_right (p x y) (each_next p (y ∷ l)) t))

rises_end : (e f : Edge) → T (edge_rises e f) → T (leb e.end f.end)
rises_end e f t =
    le→leb e.end f.end
    (⊎_elim
    (λ (h : T (ltb e.end f.end)). omega (arith, ltb→lt e.end f.end h))
    (λ (h : T (eqb e.end f.end && ltb e.name f.name)). omega (arith, eqb→eq e.end f.end (and_left (eqb e.end f.end) (ltb e.name f.name) h)))
    (or_cases (ltb e.end f.end) (eqb e.end f.end && ltb e.name f.name) t))

-- of any delay of the design that is in range
graph_fit : (D : Design) (S : GraphSlices) (delays : List ℤ) → length delays ≡ length D.starts → ((k : ℕ) → k < length D.starts → nat_abs (delay_of delays k) ≤ 1000000)
    → design_sizes D ≡ Passed → design_tests D ≡ Passed → graph_sizes S ≡ Passed → T (well_formed D (graph_of S)) → Fit delays S
graph_fit D S delays size range ds dt gs w =
    let sizes = room_passed (room_of S) gs in
    let f = formed D (graph_of S) w in
    let r = (well_formed_legal D (graph_of S) ds dt w).rising in
    record {
      ends = sizes.1;
      names = sizes.2;
      copies = leb→le (length S.nodes) 16384 (and_left (leb (length S.nodes) 16384) (leb (length (graph_of S).edges) 65536) f.few);
      up = r.up;
      inside = r.inside;
      named = λ e m. omega (arith, (f.fits e m).named, size);
      range = λ e m. range e.name (f.fits e m).named;
      order = next_weaker edge_rises (λ e f. leb e.end f.end) rises_end (graph_of S).edges f.rises;
    }

pub passed_ready : (D : Design) (S : GraphSlices) (t : ℕ) (lent : Verdict) → timing_tests D S t lent ≡ Passed → Ready D S t lent
passed_ready D S t lent p =
    let x = timing_passed D S t lent p in
    let f = design_fits D x.sizes x.tests in
    record {
      late = graph_fit D S D.late f.late f.slow x.sizes x.tests x.slices x.well;
      early = graph_fit D S D.early f.early f.quick x.sizes x.tests x.slices x.well;
      onward = (well_formed_legal D (graph_of S) x.sizes x.tests x.well).onward;
      allowed = x.allowed;
      endpoints = (room_passed (room_of S) x.slices).0;
      places = x.places;
    }
