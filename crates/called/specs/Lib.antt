-- Calls as a caller has them: of the two removals, of the two that tell their sizes, of `times` and the records of nodes, of `late_or_not`, and of
-- the tests of a list and a deck; and runs of some of them, one after the other.
pub mod Removals
pub mod Sizes
pub mod Times
pub mod Late
pub mod Tests
pub mod Extended
