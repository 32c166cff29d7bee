pub mod Places
pub mod Steps
pub mod Limits
pub mod RowForm
pub mod Sample
