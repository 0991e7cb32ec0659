-- Laws of pass 3: the room, the row at hand, and the pass from slot to slot.
pub mod RoomLaws
pub mod FlagRows
pub mod EdgeLaws
pub mod PassLaws
pub mod StepLaws
pub mod SlotSteps
pub mod CopySteps
