-- Serves the code; no promise cites it.
pub mod Unrefused
pub mod WideRoom
