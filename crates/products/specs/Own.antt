-- Serves the code; no promise cites it.
pub mod Products
pub mod Rooms
pub mod Leaf
pub mod Whole
pub mod Tables
