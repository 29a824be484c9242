pub mod Kept
pub mod Spelling
mod Runs
pub mod Tracing
pub mod Told
pub mod Stepping
pub mod Reporting
