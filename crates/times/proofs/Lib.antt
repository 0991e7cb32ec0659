-- Laws that the proofs cite.
pub mod Passes
pub mod Fanins
pub mod Passed
