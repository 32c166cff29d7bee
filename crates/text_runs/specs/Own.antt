-- Serves the proofs; no promise cites it.
pub mod Lacks
