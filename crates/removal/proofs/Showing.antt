-- Pass 2 over the slots, from the lowest copy on: which of them are shown, and what the result is.
pub mod Ascending
pub mod ResultLaws
pub mod GrowLaws
pub mod IntoLaws
pub mod ShowLaws
pub mod ShowTables
pub mod ShowSteps
pub mod RowSteps
pub mod ResetLaws
