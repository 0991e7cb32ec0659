-- A test of the counts or of the endpoint numbers fails.
use native.Mathlib.Omega.{arith}
use mathlib.Core.Path.{sym, ◌∙◌}
use borrow.Author.Tests.{leb-true, leb-false}
use Rattle.theorems.proofs.Lists.{length_edges}
use Rattle.graph.proofs.WellFormed.{too_many_copies, too_many_edges, wrong_endpoint}
use Rattle.graph.proofs.well_formed.Goals.{then-nodes-le-MAX_COPIES, else-nodes-le-MAX_COPIES, then-edge_count-le-MAX_COPY_EDGES, else-edge_count-le-MAX_COPY_EDGES}
use Rattle.graph.proofs.well_formed.Goals as goal

pub returns-else-zero_or_one : goal.returns-else-zero_or_one
returns-else-zero_or_one c =
    let a = c.args in
    let m = length_edges a.from.now a.to.now a.via.now in
    let few_copies = c.if-nodes-le-MAX_COPIES in
    let counted = c.if-edge_count-le-MAX_COPY_EDGES in
    let no = c.if-zero_or_one.false in
    no ∙ sym (elim few_copies.branch [
      | else-nodes-le-MAX_COPIES w ↦ too_many_copies _ _ _ _ _ _ _ _ _ w.if-nodes-le-MAX_COPIES.false
      | then-nodes-le-MAX_COPIES w ↦
          let few = w.if-nodes-le-MAX_COPIES.true in
          elim counted.branch [
            | else-edge_count-le-MAX_COPY_EDGES v ↦
                let many = leb-false _ _ (sym w.value-is ∙ v.if-edge_count-le-MAX_COPY_EDGES.false) in
                too_many_edges _ _ _ _ _ _ _ _ _ few (omega (arith, m, w.edge_count.ensures, many))
            | then-edge_count-le-MAX_COPY_EDGES v ↦
                let few' = leb-true _ _ (sym w.value-is ∙ v.if-edge_count-le-MAX_COPY_EDGES.true) in
                wrong_endpoint _ _ _ _ _ _ _ _ _ few (omega (arith, m, w.edge_count.ensures, few')) (sym v.zero_or_one.ensures ∙ sym v.value-is ∙ no)
          ]
    ])
