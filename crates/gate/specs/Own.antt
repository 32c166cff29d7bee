-- Serves the code; no promise cites it.
pub mod Ready
pub mod Asked
pub mod Faults
