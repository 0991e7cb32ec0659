-- The numbers that the calls answer.
pub mod Answers
pub mod SmallProgram
