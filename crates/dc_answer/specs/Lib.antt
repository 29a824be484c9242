pub mod Answer
pub mod Exits
pub mod Given
pub mod Inputs
pub mod Judging
pub mod Threads
-- lemmas that laws and crates above cite
pub mod lemmas
