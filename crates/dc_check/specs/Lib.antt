-- When a certificate is accepted, what the verdict on it is, and what an accepted one means.
pub mod Accepts
pub mod Verdict
pub mod Jobs
pub mod FaultText
pub mod Placed
pub mod Names
pub mod Certified
pub mod Numbers
pub mod Lent
pub mod Small
-- lemmas that crates above cite
pub mod lemmas
