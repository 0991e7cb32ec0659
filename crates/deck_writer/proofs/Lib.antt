-- Laws of the tests before writing, and of writing numbers one after the other.
pub mod Tests
pub mod Writing
