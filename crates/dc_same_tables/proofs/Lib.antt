-- Lemmas of the proofs.
mod Pairing
