use mathlib.Core.Path.{refl}
use Rattle.std.proofs.Common.{rules}
use Rattle.timing.specs.Times.{larger, smaller}
use Rattle.records.proofs.gather.count_copy.Goals as goal

pub returns : goal.returns
returns c =
    let arrival = c.better_node.ensures larger (λ r p. p) in
    let required = c.better_node-2.ensures smaller (λ r p. p) in
    let slack = c.better_node-3.ensures smaller (λ r p. p) in
    let earliest = c.better_node-4.ensures smaller (λ r p. p) in
    rw (c.copy_met.ensures, c.number_at-v.ensures) (refl, search rules, search rules, search rules, search rules)
