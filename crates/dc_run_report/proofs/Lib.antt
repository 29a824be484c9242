-- Lemmas of the proofs.
pub mod Observing
pub mod Paging
