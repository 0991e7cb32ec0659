-- Laws of the slices of a case.
pub mod Slices
