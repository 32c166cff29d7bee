pub mod Verdicts
pub mod Page
pub mod Reel
pub mod Limits
pub mod Program
pub mod EveryReel
pub mod Exchanged
pub mod Samples
