pub mod BoxSample
pub mod ByWidth
pub mod Quadrants
pub mod Reading
pub mod Sizes
pub mod Roots
pub mod BoxTable
pub mod Nearest
