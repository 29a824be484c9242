pub mod Heard
pub mod Observing
pub mod Reported
