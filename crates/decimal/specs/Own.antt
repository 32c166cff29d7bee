-- Serves the code; no promise cites it.
pub mod Put
pub mod Reading
