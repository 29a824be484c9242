-- Captures, and what a survey tells of one.
pub mod Captures
pub mod Known
pub mod Surveys
pub mod States
-- lemmas that crates above cite
pub mod lemmas
