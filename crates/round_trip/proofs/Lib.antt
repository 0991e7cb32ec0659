-- There and back: what was written is read as it was, and what was read is written as it was.
pub mod Numbers
pub mod Decks
pub mod Graphs
