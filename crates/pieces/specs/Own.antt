-- Serves the code alone; no promise cites it.
pub mod Gathers
pub mod Refills
