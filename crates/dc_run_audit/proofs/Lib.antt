pub mod Auditing
pub mod Recorded
pub mod Reported
