-- Laws that several crates cite, and that belong to no one definition; and cases of the definitions (`Marked`, `Extended`).
pub mod Choice
pub mod Ints
pub mod FirstBad
pub mod Marked
pub mod Extended
pub mod Verdicts
