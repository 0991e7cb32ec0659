use native.Mathlib.Omega.{arith}
use Rattle.removal.specs.Patches.{lead_at}
use Rattle.removal.specs.Show.{shown_at}
use Rattle.removal.proofs.Showing.ShowTables.{one_small, patch_start, patch_few, patch_default, patch_lead, patch_turn, patch_end}
use Rattle.removal.proofs.show.patched_edges.Goals as goal

pub loop-i-init : goal.loop-i-init
loop-i-init c = patch_start c.requires

pub shown-requires : goal.shown-requires
shown-requires c = patch_lead c.requires c.loop-i-test.true

pub shown-requires-in-loop-i : goal.shown-requires-in-loop-i
shown-requires-in-loop-i c = patch_default c.requires c.loop-i-test.true

pub overflow_add-count : goal.overflow_add-count
overflow_add-count c =
    let lead = shown_at c.args.scratch.now (lead_at c.args.l c.args.scratch.now c.loop-i.i) in
    omega (arith, patch_few c.requires c.loop-i.i c.loop-i.invariant, c.shown.ensures, one_small lead)

-- the count after this turn is the one that the invariant asks, so it is not below 0
pub overflow_sub-count : goal.overflow_sub-count
overflow_sub-count c = omega (arith, patch_turn c.requires c.loop-i-test.true c.loop-i.invariant, c.shown.ensures, c.shown-in-loop-i.ensures)

pub loop-i-preserved : goal.loop-i-preserved
loop-i-preserved c = omega (arith, patch_turn c.requires c.loop-i-test.true c.loop-i.invariant, c.shown.ensures, c.shown-in-loop-i.ensures)

pub returns : goal.returns
returns c = patch_end c.requires (omega arith) c.loop-i.invariant
