pub mod Read
pub mod Turned
pub mod ProductLaws
pub mod CosineOrder
pub mod SecantOrder
pub mod Parts
