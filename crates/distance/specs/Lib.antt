pub mod Exact
pub mod Statement
pub mod Sample
