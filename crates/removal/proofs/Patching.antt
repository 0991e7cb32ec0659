-- The patches of a row.
pub mod ChainLaws
pub mod NoteLaws
pub mod KidLaws
pub mod GatherLaws
