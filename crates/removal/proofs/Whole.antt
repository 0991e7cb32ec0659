-- A whole removal: the passes one after the other, and what it answers.
pub mod EndpointLaws
pub mod TestLaws
pub mod ResetLaws
pub mod BoundLaws
pub mod RemoveLaws
pub mod AnswerLaws
