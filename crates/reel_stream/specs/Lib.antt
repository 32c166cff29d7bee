pub mod Reel
pub mod Run
