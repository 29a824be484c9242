-- The times of words, what a list of them says, and the gauges that tell it.
pub mod Times
pub mod Gauges
pub mod Steps
pub mod Laws
-- lemmas that crates above cite
pub mod lemmas
