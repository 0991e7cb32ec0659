-- The laws of packed delays.
pub mod Delays
