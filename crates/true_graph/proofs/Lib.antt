-- What is small enough for one number of 64 bits, and what the program makes of a deck.
pub mod Small
pub mod ReadLaws
pub mod DeckLaws
pub mod ProgramLaws
pub mod Halves
