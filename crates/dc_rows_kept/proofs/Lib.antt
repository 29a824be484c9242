-- Lemmas of the proofs.
mod Deciding
