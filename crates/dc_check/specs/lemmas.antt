-- Lemmas that crates above cite.
pub mod CertificateReads
pub mod Exact
pub mod Lent
pub mod Firsts
pub mod Jobs
pub mod Places
