-- Lemmas that laws and crates above cite.
pub mod Empties
pub mod EmptyRuns
pub mod Law
pub mod Least
