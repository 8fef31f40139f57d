pub mod TakingLemmas
pub mod RunLemmas
pub mod PartLemmas
pub mod DocumentLemmas
pub mod BodyLemmas
pub mod QuestionLemmas
pub mod AnswerLemmas
