-- What keeps the numbers that the C interface answers inside 64 bits, and the tables of its call on a deck.
pub mod Small
pub mod Deck
