-- Serves the code and the proofs; no promise cites it.
pub mod Behind
