-- Counting the candidates, laying out the tables in the scratch, and filling them.
pub mod SumLaws
pub mod CountLaws
pub mod Candidates
pub mod BaseLaws
pub mod EdgeLaws
pub mod RunLaws
pub mod BuildLaws
