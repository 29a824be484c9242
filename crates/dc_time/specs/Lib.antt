-- Runs in microseconds: what is asked of sources, and the claims.
pub mod Timed
pub mod Intervals
pub mod Sources
pub mod Admissible
pub mod Claims
pub mod Laws
-- lemmas that laws and crates above cite
pub mod lemmas
