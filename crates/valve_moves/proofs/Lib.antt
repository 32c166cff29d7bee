pub mod MoveLaws
pub mod QuestionLaws
pub mod WantedLaws
