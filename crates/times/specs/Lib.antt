-- What the passes ask and leave. The times themselves are defined in `timing`.
pub mod Passes
pub mod Fanins
