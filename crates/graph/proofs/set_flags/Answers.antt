use Rattle.std.proofs.lemmas.List.{get_or-take, length-take}
use native.Mathlib.Omega.{arith}
use mathlib.Core.Path.{◌∙◌}
use Rattle.graph.proofs.Flags.{flags_next}
use Rattle.graph.proofs.set_flags.Goals as goal

pub loop-v-preserved : goal.loop-v-preserved
loop-v-preserved c =
    let a = c.args in
    let k = c.loop-v.v-index in
    let v = c.wide.ensures ∙ get_or-take a.count a.list.now k 0 (omega (arith, length-take a.count a.list.now)) in
    rw (c.set_flag.ensures, v) (flags_next a.flags.now c.loop-v.flags a.list.now k c.loop-v.invariant)
