pub mod Observed
pub mod Carried
pub mod Backlogs
pub mod Waits
pub mod Lates
pub mod Labels
pub mod Near
