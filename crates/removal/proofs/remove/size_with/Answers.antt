-- As in a removal, up to what is found; then the shown slots are counted, the scratch is cleared, and the counts are answered in the largest room.
use Rattle.removal.proofs.Whole.AnswerLaws.{sized_refused, sized_made, sized_none}
use Rattle.removal.proofs.remove.size_with.Goals as goal

pub returns-in-Ok-Some : goal.returns-in-Ok-Some
returns-in-Ok-Some c =
    let a = c.args in
    let what = rw c.in-Ok-Some.is at c.in-Ok-Some.field-0-is in
    let found = rw what at rw c.in-Ok-Some.is at c.search-found.ensures.0 in
    let shown = c.show_all-counts.ensures.0 in
    sized_made a.starts.now a.listed.now a.lengths.now a.nodes.now a.endpoint.now a.from.now a.to.now a.via.now a.scratch.now _ _ _ found.0 found.1 (rw shown.size at c.zero.ensures) _ _ _ _ shown c.largest_answer.ensures

pub returns-in-Ok-None : goal.returns-in-Ok-None
returns-in-Ok-None c =
    let a = c.args in
    let what = rw c.in-Ok-None.is at c.in-Ok-None.field-0-is in
    let found = rw what at rw c.in-Ok-None.is at c.search-found.ensures.0 in
    sized_none a.starts.now a.listed.now a.lengths.now a.nodes.now a.endpoint.now a.from.now a.to.now a.via.now a.scratch.now _ _ found.0 found.1 found.2 c.zero-in-Ok-None.ensures

pub returns-in-Err : goal.returns-in-Err
returns-in-Err c =
    let a = c.args in
    let found = rw c.in-Err.is at c.search-found.ensures.0 in
    sized_refused a.starts.now a.listed.now a.lengths.now a.nodes.now a.endpoint.now a.from.now a.to.now a.via.now a.scratch.now _ _ found.0 found.1
