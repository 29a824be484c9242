-- Lemmas of the proofs.
pub mod Paging
