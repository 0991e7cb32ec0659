-- Pass 1 over the slots, back from the highest copy: which of them are reached.
pub mod SlotLaws
pub mod FlagLaws
pub mod RowLaws
pub mod TargetLaws
pub mod PushLaws
pub mod CoverLaws
pub mod CopyLaws
