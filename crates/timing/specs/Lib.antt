-- What document 01 says, and the requests of document 02 that have landed, as definitions, in document 01's order. Every contract is an
-- equation with one of these.
pub mod Lists
-- the design and its paths, copies, series, times
pub mod Graphs
pub mod Marks
pub mod Sorting
pub mod TrueGraphs
pub mod WellFormed
pub mod Times
-- packed form
pub mod Numbers
pub mod Delays
pub mod Parsing
pub mod Looks
pub mod Decks
pub mod GraphBytes
-- what calls answer, and who can cause a refusal
pub mod Answers
pub mod Refusals
pub mod Tests
-- what each call answers, and what each lent buffer holds afterwards
pub mod Calls
pub mod Series
pub mod Called
pub mod Told
-- what the theorems say of these: demand 2, whose times the times are, when a path is late, where a listed path is at fault, and what a longer list
-- and a shuffled one give
pub mod Paths
pub mod Demands
pub mod Late
pub mod Faults
pub mod Extended
