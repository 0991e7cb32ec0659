-- A call that tells a removal's size, and one that fills on the same design, list and earlier graph: filling answers what is foretold.
use mathlib.Core.Path.{◌≡◌, subst}
use mathlib.Core.Option.{Option}
use lib.ListN.{length}
use Rattle.timing.specs.Graphs.{Design}
use Rattle.timing.specs.Marks.{path_list}
use Rattle.timing.specs.Calls.{GraphSlices}
use Rattle.timing.specs.Told.{Tells, size_on, Foretells}
use Rattle.theorems.proofs.Told.{foretells}
use Rattle.called.specs.Removals.{Call, design_of, earlier_of, called_of}
use Rattle.called.specs.Sizes.{SizeCall, of_design, of_graph, sized_design, sized_earlier, telling_of}
use Rattle.called.proofs.Series.{meets_on}

pub tells : (t : SizeCall)
    → let a = telling_of t in Tells (size_on (sized_design t) (sized_earlier t) (path_list a.listed a.lengths) (length a.scratch)) a
tells (of_design t) = record { answer = t.learnt.0; scratch = t.learnt.1 }
tells (of_graph t) = record { answer = t.learnt.0; scratch = t.learnt.1 }

tells_on : (D : Design) (held : Option GraphSlices) (t : SizeCall) → sized_design t ≡ D → sized_earlier t ≡ held
    → let a = telling_of t in Tells (size_on D held (path_list a.listed a.lengths) (length a.scratch)) a
tells_on D held t d h =
    let a = telling_of t in
    subst (λ (S : Option GraphSlices). Tells (size_on D S (path_list a.listed a.lengths) (length a.scratch)) a) h
    (subst (λ (E : Design). Tells (size_on E (sized_earlier t) (path_list a.listed a.lengths) (length a.scratch)) a) d (tells t))

pub call_foretells : (D : Design) (held : Option GraphSlices) (t : SizeCall) (c : Call)
    → sized_design t ≡ D → sized_earlier t ≡ held → design_of c ≡ D → earlier_of c ≡ held → Foretells D held (telling_of t) (called_of c)
call_foretells D held t c d h e k = foretells D held (telling_of t) (called_of c) (tells_on D held t d h) (meets_on D held c e k)
