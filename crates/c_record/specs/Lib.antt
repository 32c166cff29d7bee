pub mod Record
pub mod Calls
pub mod Ready
pub mod Samples
