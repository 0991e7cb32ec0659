-- The laws of packed numbers one after the other.
pub mod Sizes
pub mod Looking
pub mod Rooms
pub mod Skipping
pub mod Writing
