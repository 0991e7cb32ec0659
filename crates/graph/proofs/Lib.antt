-- Laws of the test 32, from the bottom up.
pub mod Walk
pub mod Flags
pub mod Edges
pub mod Keys
pub mod Ends
pub mod WellFormed
pub mod Turns
pub mod Found
