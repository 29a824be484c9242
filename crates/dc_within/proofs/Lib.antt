-- Lemmas behind the laws.
pub mod Routed
pub mod Inputs
pub mod Outputs
pub mod Ages
pub mod Intervals
pub mod EvenWord
pub mod Within
