pub mod FirstRefusal
pub mod Stepping
