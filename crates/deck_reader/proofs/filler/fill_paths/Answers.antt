use Prim.Native.Nat.{ℕ, ◌+◌, ◌-◌}
use native.Mathlib.Omega.{arith}
use mathlib.Core.Path.{◌∙◌, ap}
use lib.ListN.{length}
use Rattle.deck_reader.specs.Reading.{edges_from}
use Rattle.deck_reader.proofs.Reading.{paths_sum, paths_next, edges_step, lengths_step}
use Rattle.deck_reader.proofs.filler.fill_paths.Goals as goal

pub fill_path-path-requires : goal.fill_path-path-requires
fill_path-path-requires c =
    let d = paths_sum c.args.s.now c.args.count c.loop-k.k c.loop-k.at c.loop-k-test.true in
    (omega arith, omega arith)

pub loop-k-preserved : goal.loop-k-preserved
loop-k-preserved c =
    let s = c.args.s.now in
    let count = c.args.count in
    let l = c.loop-k in
    let i = l.invariant in
    let h = c.loop-k-test.true in
    let e = c.fill_path-path.ensures in
    let d = paths_sum s count l.k l.at h in
    let w = c.wide-filled.ensures ∙ e.0 in
    let q = ap (λ (n : ℕ). length (edges_from s (count - (l.k + 1)) n)) e.1 in (
      omega (arith, i.0),
      paths_next s count l.k l.at h _ e.1 ∙ i.1,
      edges_step s count l.k l.at h l.listed _ l.filled _ _ w e.1 e.2 ∙ i.2,
      lengths_step s count l.k l.at h l.lengths _ _ e.1 e.3 ∙ i.3,
    )
