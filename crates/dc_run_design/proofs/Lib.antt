-- Lemmas of the proofs.
mod Designing
mod Laying
