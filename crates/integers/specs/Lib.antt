pub mod Floor
pub mod Vectors
pub mod Tests
pub mod Places
pub mod Samples
