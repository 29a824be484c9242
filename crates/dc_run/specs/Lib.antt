pub mod Check
pub mod Claims
pub mod Decode
pub mod Find
pub mod Limits
pub mod Refusals
pub mod Replay
pub mod Steps
pub mod Printing
pub mod Stages
-- lemmas that crates above cite
pub mod lemmas
