pub mod Gaps
pub mod Schedule
-- lemmas that laws and crates above cite
pub mod lemmas
