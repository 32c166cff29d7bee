pub mod Orders
pub mod Sums
