-- What the removal answers fits its room, and packed it is the graph that was made.
use mathlib.Core.Path.{ap}
use Rattle.timing.specs.Graphs.{design}
use Rattle.timing.specs.Marks.{path_list}
use Rattle.timing.specs.Calls.{GraphSlices, graph_slices, removal, room_of, remove_from_design}
use Rattle.timing.specs.Tests.{Room}
use Rattle.true_graph.proofs.Small.{small_from_design}
use Rattle.true_graph.proofs.DeckLaws.{ended_design, made_written_lem, made_room_lem, zeros, program_room_lem}
use Rattle.true_graph.proofs.pack_graph.Goals as goal

abbrev rooms : GraphSlices
rooms = graph_slices (zeros 512) (zeros 512) (zeros 2048) (zeros 2048) (zeros 2048)

pub returns : goal.returns
returns c =
    let a = c.args in
    let D = design a.n a.starts.now a.ends.now a.early.now a.late.now a.marked.now in
    let L = path_list a.listed.now a.lengths.now in
    let r = removal L (room_of rooms) 16384 in
    let made = c.remove_tested-made in
    let l = made.new in
    let after = graph_slices l.room_nodes l.room_endpoint l.room_from l.room_to l.room_via in
    let p = ap (λ (R : Room). remove_from_design D (removal L R 16384)) program_room_lem in
    let o = remove_from_design D r in (
      made_written_lem o (ended_design D r) made.result rooms after made.ensures _ p (small_from_design D r) a.room.now c.write_made.result c.write_made.ensures.0,
      made_room_lem o (ended_design D r) made.result rooms after made.ensures _ p (small_from_design D r) a.room.now c.write_made.new.room c.write_made.ensures.1,
    )
