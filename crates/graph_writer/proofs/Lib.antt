-- Laws of writing numbers one after the other.
pub mod Chain
pub mod Writing
