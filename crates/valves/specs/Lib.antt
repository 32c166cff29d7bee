pub mod Record
pub mod Answers
pub mod Moves
pub mod Calls
pub mod Lists
pub mod Steered
pub mod ForC
pub mod Samples
