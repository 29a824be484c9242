-- Lemmas on reading the lines that `observe` printed.
pub mod Decimals
pub mod Splitting
pub mod Places
pub mod Answering
