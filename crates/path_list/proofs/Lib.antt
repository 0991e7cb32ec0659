-- Laws that several proofs cite; those of the flat list are for later crates too.
pub mod Loops
pub mod Laws
pub mod Sound
