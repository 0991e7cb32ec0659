-- The laws of the words that suffice for a count.
mod Words
