-- What was found is written where there is room for it, and the scratch is cleared in any case; or 31 has changed nothing.
use Rattle.removal.proofs.Whole.AnswerLaws.{removed_refused, removed_made, removed_none}
use Rattle.removal.proofs.remove.remove_with.Goals as goal

pub returns-in-Ok-Some : goal.returns-in-Ok-Some
returns-in-Ok-Some c =
    let a = c.args in
    let what = rw c.in-Ok-Some.is at c.in-Ok-Some.field-0-is in
    let found = rw what at rw c.in-Ok-Some.is at c.search-found.ensures.0 in
    let made = c.write_result-made.ensures in
    removed_made a.starts.now a.listed.now a.lengths.now a.nodes.now a.endpoint.now a.from.now a.to.now a.via.now a.scratch.now _ _ _ found.0 found.1
    (rw made.1 at c.zero.ensures) _ a.room_nodes.now a.room_endpoint.now a.room_from.now a.room_to.now a.room_via.now _ _ _ _ _ made.0

pub returns-in-Ok-None : goal.returns-in-Ok-None
returns-in-Ok-None c =
    let a = c.args in
    let what = rw c.in-Ok-None.is at c.in-Ok-None.field-0-is in
    let found = rw what at rw c.in-Ok-None.is at c.search-found.ensures.0 in
    removed_none a.starts.now a.listed.now a.lengths.now a.nodes.now a.endpoint.now a.from.now a.to.now a.via.now a.scratch.now _ _ found.0 found.1 found.2 c.zero-in-Ok-None.ensures _ _ _ _ _

pub returns-in-Err : goal.returns-in-Err
returns-in-Err c =
    let a = c.args in
    let found = rw c.in-Err.is at c.search-found.ensures.0 in
    removed_refused a.starts.now a.listed.now a.lengths.now a.nodes.now a.endpoint.now a.from.now a.to.now a.via.now a.scratch.now _ _ found.0 found.1 _ _ _ _ _
