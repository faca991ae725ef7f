pub mod AnswerLaws
pub mod WordLaws
pub mod LineLaws
pub mod RunLaws
