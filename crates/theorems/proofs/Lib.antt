-- The theorems, from the bottom up. docs/THEOREMS.md lists them by demand.
pub mod Lists
pub mod Counting
pub mod Sorting
-- listed paths and marks, runs, copies
pub mod Marks
pub mod Runs
pub mod Copies
pub mod Stands
pub mod Parts
-- what a refusal says, and what passing the tests gives
pub mod Refusals
pub mod Tests
pub mod Early
pub mod Faults
pub mod Placed
pub mod Tested
pub mod Legal
pub mod Kept
pub mod Size
-- how a removal finds the copies
pub mod Back
-- demands 2 and 3
pub mod Demand2
pub mod Renumbering
pub mod Series
-- times
pub mod Extremes
pub mod Times
pub mod Nodes
pub mod Demand2Times
pub mod Records
pub mod Late
-- demand 3 of a series of calls, calls that differ in their scratch, and what a told size foretells
pub mod Called
pub mod Scratch
pub mod Told
-- lists that differ: one that is reordered or has repeats, and one that is longer
pub mod Shuffled
pub mod Extended
-- slices that loops fill, and what a test keeps of a list that is split, for the crates above
pub mod Elements
pub mod Splits
-- the hypotheses can be met
pub mod Examples
pub mod CalledExample
