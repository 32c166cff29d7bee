pub mod GivenLaws
pub mod EndingLaws
