pub mod Near32
pub mod Near128from0
pub mod Near128from32
pub mod Near128from64
pub mod Near128from96
pub mod Theorems
