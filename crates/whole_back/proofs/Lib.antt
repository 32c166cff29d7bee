pub mod Giving
pub mod LoopLaws
