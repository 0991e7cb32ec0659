use Prim.Native.Nat.{ℕ}
use borrow.Author.Count.{below_more}
use Rattle.graph.specs.Passes.{Matches}
use Rattle.graph.proofs.Flags.{flags_next}
use Rattle.graph.proofs.quick.edges_match.Goals as goal

pub loop-i-preserved : goal.loop-i-preserved
loop-i-preserved c =
    let a = c.args in
    let s = c.wide-s.ensures in
    let t = c.wide-t.ensures in
    let n = c.wide-k.ensures in (
      below_more (λ (j : ℕ). Matches a.starts.now a.ends.now a.nodes.now a.from.now a.to.now a.via.now j) _ c.loop-i.invariant.0 (
        rw (← s, ← n) c.if-nodes-s.false,
        rw (← t, ← n) c.if-nodes-t.false,
      ),
      rw s (flags_next _ _ _ _ c.loop-i.invariant.1),
    )
