-- Lemmas that laws and crates above cite.
pub mod Scaling
