-- A call of a removal with the words that 31 asks answers what one does that was lent the same and any other scratch, and is not refused 31.
use mathlib.Core.Path.{◌≡◌}
use mathlib.Core.Option.{Option}
use Rattle.timing.specs.Graphs.{Design}
use Rattle.timing.specs.Calls.{GraphSlices}
use Rattle.timing.specs.Called.{SameAnswers}
use Rattle.theorems.proofs.Scratch.{same_answers}
use Rattle.called.specs.Removals.{Call, design_of, earlier_of, called_of}
use Rattle.called.proofs.Series.{meets_on}

pub call_same_answers : (D : Design) (held : Option GraphSlices) (a b : Call) → design_of a ≡ D → earlier_of a ≡ held → design_of b ≡ D → earlier_of b ≡ held
    → SameAnswers D held (called_of a) (called_of b)
call_same_answers D held a b d h e k = same_answers D held (called_of a) (called_of b) (meets_on D held a d h) (meets_on D held b e k)
