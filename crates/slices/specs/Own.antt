-- Serves the code; no promise cites it.
pub mod Fours
pub mod Moves
