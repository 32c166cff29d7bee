pub mod Piece
pub mod Run
pub mod Own
pub mod Step
