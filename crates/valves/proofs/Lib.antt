pub mod AnswerLaws
pub mod Moves
pub mod CallLaws
pub mod Lists
pub mod Steered
