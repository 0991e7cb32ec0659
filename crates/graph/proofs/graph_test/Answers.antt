-- 10 refuses, or 32 is tested.
use mathlib.Core.Path.{◌∙◌, ap}
use borrow.Author.Tests.{le-leb}
use Rattle.timing.specs.Refusals.{unless as passed_if}
use Rattle.graph.proofs.graph_test.Goals as goal

pub returns : goal.returns
returns c =
    rw (le-leb _ _ c.if-n-gt-MAX_NODES.false) (c.unless-2.ensures ∙ ap (passed_if 32) c.well_formed-2.ensures)
