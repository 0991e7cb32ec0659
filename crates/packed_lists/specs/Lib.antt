-- What private functions answer, here and in the writers. No public contract cites these.
pub mod Skips
pub mod Writing
