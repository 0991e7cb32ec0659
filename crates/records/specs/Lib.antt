-- What the pass over the copies leaves. The records themselves are defined in `timing`.
pub mod Records
