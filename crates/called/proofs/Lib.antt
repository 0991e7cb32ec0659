-- Theorems over calls, and calls that meet their hypotheses.
pub mod Series
pub mod Faults
pub mod Scratch
pub mod Told
pub mod Demand2
pub mod Times
pub mod Late
pub mod Extended
pub mod Example
pub mod TimesExample
pub mod LateExample
pub mod ExtendedExample
