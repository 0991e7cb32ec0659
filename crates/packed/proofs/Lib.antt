-- The laws of one packed number, and of a room that bytes are put into.
pub mod Numbers
pub mod Rooms
