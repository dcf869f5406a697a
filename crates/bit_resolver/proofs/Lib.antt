pub mod PlaceLemmas
pub mod WayLemmas
pub mod ChaseLemmas
pub mod AnswerForms
pub mod AnswerLaws
pub mod SimpleLemmas
pub mod WritingLemmas
pub mod ReplyLaws
