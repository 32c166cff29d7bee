pub mod Orders
pub mod Filled
pub mod Own
