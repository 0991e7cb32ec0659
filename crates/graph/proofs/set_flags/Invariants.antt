-- The flags of the first numbers are set.
use Rattle.graph.specs.Passes.{FlagsSet}
use Rattle.graph.proofs.set_flags.Given as goal

abbrev pub invariant-loop-v : goal.invariant-loop-v
invariant-loop-v l = FlagsSet l.initial.flags l.list l.v-index l.flags
