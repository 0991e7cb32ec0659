-- What private functions answer. No public contract cites these.
pub mod Writing
pub mod Chain
