use mathlib.Core.Path.{◌∙◌}
use Rattle.timing.specs.Parsing.{number}
use Rattle.packed_lists.proofs.Looking.{looks_end}
use Rattle.packed_lists.proofs.Skipping.{skips_rest}
use Rattle.packed_lists.proofs.look_numbers.Goals as goal

pub loop-init : goal.loop-init
loop-init c =
    let e = c.skip_blocks-front.ensures in
    skips_rest _ _ _ _ _ e.1 e.0

pub returns : goal.returns
returns c = looks_end (number c.args.s.now) _ _ _ c.loop-test.false ∙ c.loop.invariant
